-- Whole runs: one answer, and as if fed. Assumes nothing.
use Rattle.std.specs.Prelude.{Option, Some, None, Ok, Err}
use mathlib.Core.Path.{◌≡◌, refl, sym, ◌∙◌, ap}
use mathlib.Core.List.{List, [], ◌∷◌, ◌++◌}
use mathlib.Core.Logic.{◌↔◌, ◌⊎◌, inl, inr, ⊎_elim}
use Prim.Native.Nat.{ℕ, suc, ◌+◌, ◌*◌, ◌/◌, ◌%◌, ◌<◌}
use native.Mathlib.Omega.{arith}
use lib.ListN.{length, get_or, take}
use lib.Seq.{ext_get_or}
use Rattle.model.specs.Model.{box, events, Config, Set, Plausible}
use Rattle.model.proofs.Flags.{lt_or_ge}
use Rattle.model.proofs.Demands.{one_flag}
use Rattle.table.specs.Bytes.{table_of}
use Rattle.table.specs.declared.answer.Refusal.{Refusal}
use Rattle.table.specs.Test.{Test}
use Rattle.states.proofs.Same.{in_ext, zero_none, zero_or_some}
use Rattle.session.specs.Sets.{Holds}
use Rattle.session.specs.Session.{place_of}
use Rattle.run.specs.Run.{Lowest, Highest, WaitingOf, RunOf, number, Line, RunTo, refused, ran}
use Rattle.run.specs.Laws.{OneLine, OneRun, RunsAsFed}
use Rattle.monitor.proofs.Laws.{plausible_after_feeding}

-- ONE LINE

-- a line of one set is a line of an equal set
pub line_same : (S S' : Set ℕ) (bytes : List ℕ) → ((x : Config ℕ) → S x ↔ S' x) → Line S bytes → Line S' bytes
line_same S S' bytes h l =
    record {
      states = l.states;
      least_waiting = l.least_waiting;
      most_waiting = l.most_waiting;
      least_run = l.least_run;
      most_run = l.most_run;
      states_are = λ q. ((λ i. let (x, j, e) = (l.states_are q).0 i in (x, (h x).0 j, e)), (λ (x, j, e). (l.states_are q).1 (x, (h x).1 j, e)));
      least_waiting_is = low (WaitingOf S) (WaitingOf S') (λ k. ((λ (x, j, e). (x, (h x).0 j, e)), (λ (x, j, e). (x, (h x).1 j, e)))) l.least_waiting_is;
      most_waiting_is = high (WaitingOf S) (WaitingOf S') (λ k. ((λ (x, j, e). (x, (h x).0 j, e)), (λ (x, j, e). (x, (h x).1 j, e)))) l.most_waiting_is;
      least_run_is = low (RunOf S) (RunOf S') (λ k. ((λ (x, j, e). (x, (h x).0 j, e)), (λ (x, j, e). (x, (h x).1 j, e)))) l.least_run_is;
      most_run_is = high (RunOf S) (RunOf S') (λ k. ((λ (x, j, e). (x, (h x).0 j, e)), (λ (x, j, e). (x, (h x).1 j, e)))) l.most_run_is;
      bytes_are = l.bytes_are;
    }
  where
    low : (P Q : ℕ → Type 0) {r : ℕ} → ((k : ℕ) → P k ↔ Q k) → Lowest P r → Lowest Q r
    low P Q {r} g b = record { none = λ n. b.none (λ k p. n k ((g k).0 p)); some = λ k q. let (a, d) = b.some k ((g k).1 q) in ((g r).0 a, d) }

    high : (P Q : ℕ → Type 0) {r : ℕ} → ((k : ℕ) → P k ↔ Q k) → Highest P r → Highest Q r
    high P Q {r} g b = record { none = λ n. b.none (λ k p. n k ((g k).0 p)); some = λ k q. let (a, d) = b.some k ((g k).1 q) in ((g r).0 a, d) }

-- where there is one, or none, the least and the most are settled
module _ (P : ℕ → Type 0) (any : ((k : ℕ) × P k) ⊎ ((k : ℕ) → P k → ⊥)) where
  one_lowest : (r r' : ℕ) → Lowest P r → Lowest P r' → r ≡ r'
  one_lowest r r' l m =
      ⊎_elim (λ (k, p). let (a, x) = l.some k p in let (b, y) = m.some k p in omega (arith, (l.some r' b).1, (m.some r a).1)) (λ n. l.none n ∙ sym (m.none n)) any

  one_highest : (r r' : ℕ) → Highest P r → Highest P r' → r ≡ r'
  one_highest r r' l m =
      ⊎_elim (λ (k, p). let (a, x) = l.some k p in let (b, y) = m.some k p in omega (arith, (l.some r' b).1, (m.some r a).1)) (λ n. l.none n ∙ sym (m.none n)) any

-- A set has one line.
pub one_line : OneLine
one_line S l l' a b =
    let es : a.states ≡ b.states = in_ext a.states b.states (λ q. ((λ i. (b.states_are q).1 ((a.states_are q).0 i)), (λ i. (a.states_are q).1 ((b.states_are q).0 i)))) in
    let e₁ = one_lowest (WaitingOf S) waiting a.least_waiting b.least_waiting a.least_waiting_is b.least_waiting_is in
    let e₂ = one_highest (WaitingOf S) waiting a.most_waiting b.most_waiting a.most_waiting_is b.most_waiting_is in
    let e₃ = one_lowest (RunOf S) run a.least_run b.least_run a.least_run_is b.least_run_is in
    let e₄ = one_highest (RunOf S) run a.most_run b.most_run a.most_run_is b.most_run_is in
    a.bytes_are ∙ (λ i. number (es i) ++ (e₁ i ∷ e₂ i ∷ e₃ i ∷ e₄ i ∷ [])) ∙ sym b.bytes_are
  where
    -- the states tell whether there is any configuration
    any : ((x : Config ℕ) × S x) ⊎ ((x : Config ℕ) → S x → ⊥)
    any = ⊎_elim (λ z. inr (λ x i. zero_none z x.state ((a.states_are x.state).1 (x, i, refl)))) (λ (q, i). let (x, j, e) = (a.states_are q).0 i in inl (x, j)) (zero_or_some a.states)

    waiting : ((k : ℕ) × WaitingOf S k) ⊎ ((k : ℕ) → WaitingOf S k → ⊥)
    waiting = ⊎_elim (λ (x, i). inl (x.waiting, (x, i, refl))) (λ n. inr (λ k (x, i, e). n x i)) any

    run : ((k : ℕ) × RunOf S k) ⊎ ((k : ℕ) → RunOf S k → ⊥)
    run = ⊎_elim (λ (x, i). inl (x.run, (x, i, refl))) (λ n. inr (λ k (x, i, e). n x i)) any

-- ONE ANSWER

pub one_place : (f g : Option ℕ) → place_of f ≡ place_of g → f ≡ g
one_place None None e = refl
one_place None (Some k) e = absurd (let z : ◌≡◌ {A = ℕ} 0 1 = cc in omega arith)
one_place (Some k) None e = absurd (let z : ◌≡◌ {A = ℕ} 0 1 = cc in omega arith)
one_place (Some k) (Some l) e = let d : k ≡ l = cc in ap Some d

one_memory : (rows : List ℕ) (s i o B c : ℕ) (trace before after after' : List ℕ) (f f' : Option ℕ) → RunTo rows s i o B c trace before after f → RunTo rows s i o B c trace before after' f' → after ≡ after'
one_memory rows s i o B c trace before after after' f f' r r' = ext_get_or 0 after after' (r.size ∙ sym r'.size) (λ p l. ⊎_elim (written p) (λ k. r.rest p k ∙ sym (r'.rest p k)) (lt_or_ge p (12 * length trace)))
  where
    written : (p : ℕ) → p < 12 * length trace → get_or after p 0 ≡ get_or after' p 0
    written p l =
        let k = p / 12 in
        let m : p / 12 < length trace = omega arith in
        let (line, a, at) = r.lines (p / 12) m in
        let (line', b, at') = r'.lines (p / 12) m in
        let e : 12 * (p / 12) + p % 12 ≡ p = omega arith in
        let q : p % 12 < 12 = omega arith in
        let same : line ≡ line' = one_line (Plausible (box (table_of rows s i o)) B c (events (take (suc (p / 12)) trace))) line line' a b in
        (rw e at (at (p % 12) q)) ∙ ap (λ (l : List ℕ). get_or l (p % 12) 0) same ∙ sym (rw e at (at' (p % 12) q))

refused_passed : (r : Refusal) → ◌≡◌ {A = Test} (Err r) (Ok tt) → ⊥
refused_passed r e = let z : ◌≡◌ {A = ℕ} 0 1 = cc in omega arith

-- Any two answers that a run may give are equal, and so is the memory that they leave.
pub one_run : OneRun
one_run rows s i o B c trace before r r' after after' (refused {r = x} e) (refused {r = y} e') =
    let d : x ≡ y = cc in
    (ap (λ (z : Refusal). Err z) d, refl)
one_run rows s i o B c trace before r r' after after' (refused {r = x} e) (ran e' t) = absurd (refused_passed x (sym e ∙ e'))
one_run rows s i o B c trace before r r' after after' (ran e t) (refused {r = x} e') = absurd (refused_passed x (sym e' ∙ e))
one_run rows s i o B c trace before r r' after after' (ran {f = f} e t) (ran {f = f'} e' t') =
    let d : f ≡ f' = one_place f f' (one_flag (box (table_of rows s i o)) B c (events trace) (place_of f) (place_of f') t.flag t'.flag) in
    (ap (λ (g : Option ℕ). Ok g) d, one_memory rows s i o B c trace before after after' f f' t t')

-- AS IF FED

pub runs_as_fed : RunsAsFed
runs_as_fed rows s i o B c trace before after f passes r =
    record {
      lines = λ k t l all. let (line, is, at) = r.lines k l in
          let fo = plausible_after_feeding rows s i o B c (take (suc k) trace) t passes all in
          (line, line_same (Plausible (box (table_of rows s i o)) B c (events (take (suc k) trace))) (Holds t.set) line (λ x. ((fo.carries.plausible x).1, (fo.carries.plausible x).0)) is, at);
      flag = λ t all. let fo = plausible_after_feeding rows s i o B c trace t passes all in
          one_place t.flag f (one_flag (box (table_of rows s i o)) B c (events trace) (place_of t.flag) (place_of f) fo.flag r.flag);
    }
