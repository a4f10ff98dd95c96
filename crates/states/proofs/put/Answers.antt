-- `states::put` meets its contract: the words passed have their bit. Assumes nothing.
use mathlib.Core.Path.{◌≡◌, refl, ◌∙◌}
use mathlib.Core.Logic.{◌≢◌, ◌⊎◌, ◌↔◌}
use Prim.Native.Nat.{ℕ, ◌*◌, ◌/◌, ◌%◌, ◌^◌, ◌<◌}
use lib.Bits.{bit_or}
use lib.Seq.{get_or-set_other}
use Rattle.states.specs.In.{word_states, In}
use Rattle.states.proofs.Member.{in_or_with, in_moved}
use Rattle.states.proofs.Words.{filled_none, filled_more}
use native.Mathlib.Omega.{arith}
use borrow.Author.Rules.{rules}
use Rattle.states.proofs.put.Goals as goal

moved : (q s t x : ℕ) → t < word_states → In q (x / 2 ^ s % 2 * 2 ^ t % 2 ^ 64) ↔ (In s x × ((q ≡ t) × (q < word_states)))
moved q s t x l = (
  λ i. let m = (in_moved q s t x l).0 i in (m.0, (m.1, omega (arith, m.1))),
  λ m. (in_moved q s t x l).1 (m.0, m.1.0),
)

-- into a word that is as it was
put_in : (s t x a b : ℕ) → a ≡ b → t < word_states → (q : ℕ)
    → In q (bit_or a (x / 2 ^ s % 2 * 2 ^ t % 2 ^ 64)) ↔ (In q b ⊎ (In s x × ((q ≡ t) × (q < word_states))))
put_in s t x a b e l = rw (← e) (in_or_with _ _ _ (λ q. moved q s t x l))

pub loop-r-init : goal.loop-r-init
loop-r-init c = record { done = filled_none _ (search rules); rest = λ k l. refl }

pub loop-r-preserved : goal.loop-r-preserved
loop-r-preserved c =
    let l = c.loop-r in
    record {
      done = filled_more _ _ (omega arith) l.invariant.done (put_in _ _ _ _ _ (l.invariant.rest l.r (omega arith)) c.if-t-ge-STATES.false);
      rest = λ k h. let o : k ≢ l.r = omega arith in get_or-set_other l.out l.r k _ 0 o ∙ l.invariant.rest k (omega arith);
    }
