-- Words written one after another. Assumes nothing.
use mathlib.Core.Path.{◌≡◌, ◌∙◌}
use mathlib.Core.List.{List, []}
use mathlib.Core.Logic.{◌≢◌, ◌↔◌, ◌⊎◌}
use Prim.Native.Nat.{ℕ, zero, suc, ◌+◌, ◌-◌, ◌*◌, ◌/◌, ◌≤◌, ◌<◌}
use native.Mathlib.Omega.{arith}
use lib.ListN.{length, get_or, set, drop}
use lib.Seq.{get_or-set_other, get_or-take, get_or-drop}
use lib.Bits.{bit_or}
use Rattle.states.specs.In.{In, Has}
use Rattle.states.proofs.Member.{in_or, in_or_with, not_in_zero}
use Rattle.states.proofs.Words.{Filled, filled_none, filled_more}
use Rattle.std.specs.List.{CopiedTo, SameFrom}
use Rattle.std.specs.Simd.{first_chunks}
use Rattle.monitor.specs.Sweep.{Level, Shifted, Stored, LoweredTo}

-- a word of a chunk is one of the set
chunk_word : (n w r : ℕ) (l : List ℕ) → w < n → r < 8 → get_or (get_or (first_chunks 8 n l) w []) r 0 ≡ get_or l (8 * w + r) 0
chunk_word zero w r l i j = absurd (omega arith)
chunk_word (suc n) zero r l i j = let e : 8 * 0 + r ≡ r = omega arith in rw e (get_or-take 8 l r 0 j)
chunk_word (suc n) (suc w) r l i j = let e : 8 * suc w + r ≡ 8 + (8 * w + r) = omega arith in rw (e, ← get_or-drop 8 l (8 * w + r) 0) (chunk_word n w r (drop 8 l) (omega arith) j)

pub level_of : (w : ℕ) (l : List ℕ) (chunks : List (List ℕ)) → chunks ≡ first_chunks 8 (length l / 8) l → w < length l / 8 → Level l w (get_or chunks w [])
level_of w l chunks e i = record { words = λ r j. rw e (chunk_word (length l / 8) w r l i j) }

-- An input comes: the levels moved up by one, and the lowest cleared.
pub shifted : (n : ℕ) (none before mid after : List ℕ) → ((r : ℕ) → r < 8 → get_or none r 0 ≡ 0) → CopiedTo before mid 0 8 (8 * n - 0) → SameFrom before mid (8 + (8 * n - 0))
    → Stored 0 none mid after → Shifted n before after
shifted n none before mid after z up rest s =
    record {
      first = λ k i. let e : 8 * 0 + k ≡ k = omega arith in rw e at (s.words k i) ∙ z k i;
      moved = λ k i. let e : 0 + (8 + k - 8) ≡ k = omega arith in s.above (8 + k) (omega arith) ∙ rw e at (up (8 + k) 0 (omega arith) (omega arith));
      above = λ k i. s.above k (omega arith) ∙ rest k 0 (omega arith);
    }

-- A LEVEL, JOINED WITH WHAT COMES FROM ABOVE

-- what run r of the joined level has
abbrev pub Join : List ℕ → List ℕ → ℕ → ℕ → ℕ → ℕ → Type 0
Join row above taken c zero s = Has row 0 s ⊎ In s taken
Join row above taken c (suc r) s = Has row (suc r) s ⊎ ((suc r < c) × Has above r s)

pub join_later : (row above : List ℕ) (taken c r x : ℕ) → 0 < r → ((s : ℕ) → In s x ↔ ((r < c) × Has above (r - 1) s)) → (s : ℕ)
    → In s (bit_or (get_or row r 0) x) ↔ Join row above taken c r s
join_later row above taken c zero x k h s = absurd (omega arith)
join_later row above taken c (suc r) x k h s =
    let e : suc r - 1 ≡ r = omega arith in
    in_or_with (λ t. (suc r < c) × Has above r t) (get_or row (suc r) 0) x (λ t. rw e at (h t)) s

-- the words below r are joined, and the others are the row's
pub record Joining (row above : List ℕ) (taken c r : ℕ) (x : List ℕ) : Type 0 where
  pub below : Filled (Join row above taken c) r x
  pub rest : (k : ℕ) → r ≤ k → get_or x k 0 ≡ get_or row k 0

module _ (row above : List ℕ) (taken c : ℕ) where
  pub joining_first : length row ≡ 8 → Joining row above taken c 1 (set row 0 (bit_or (get_or row 0 0) taken))
  joining_first len =
      record {
        below = filled_more (Join row above taken c) {r = 0} {out = row} (bit_or (get_or row 0 0) taken) (omega arith) (filled_none (Join row above taken c) len)
            (λ s. in_or s (get_or row 0 0) taken);
        rest = λ k i. let o : k ≢ 0 = λ e. omega arith in get_or-set_other row 0 k (bit_or (get_or row 0 0) taken) 0 o;
      }

  pub joining_more : (r : ℕ) (x : List ℕ) (y : ℕ) → 0 < r → r < 8 → Joining row above taken c r x → ((s : ℕ) → In s y ↔ ((r < c) × Has above (r - 1) s))
      → Joining row above taken c (r + 1) (set x r (bit_or (get_or x r 0) y))
  joining_more r x y pos i j h =
      record {
        below = filled_more (Join row above taken c) (bit_or (get_or x r 0) y) i j.below (λ s. rw (j.rest r (omega arith)) (join_later row above taken c r y pos h s));
        rest = λ k l. let o : k ≢ r = λ e. omega arith in get_or-set_other x r k (bit_or (get_or x r 0) y) 0 o ∙ j.rest k (omega arith);
      }

  pub joined_to : (r : ℕ) (x : List ℕ) → 8 ≤ r → Joining row above taken c r x → LoweredTo row above taken c x
  joined_to r x l j = record { first = j.below.done 0 (omega arith); later = λ k s i. j.below.done (suc k) (omega arith) s }

-- what a level hands to run r of the level below it by a loss
pub handed : (above : List ℕ) (c r : ℕ) → r < c → (s : ℕ) → Has above (r - 1) s ↔ ((r < c) × Has above (r - 1) s)
handed above c r i s = ((λ h. (i, h)), (λ (j, h). h))

pub none_handed : (above : List ℕ) (c r : ℕ) → c ≤ r → (s : ℕ) → In s 0 ↔ ((r < c) × Has above (r - 1) s)
none_handed above c r i s = ((λ h. absurd (not_in_zero s h)), (λ (j, h). absurd (omega arith)))
