-- What a line tells. Assumes nothing.
use mathlib.Core.Path.{◌≡◌, refl, ◌∙◌, ap}
use mathlib.Core.Bool.{Bool, true, false, cond}
use mathlib.Core.List.{List, [], ◌∷◌}
use Prim.Native.Nat.{ℕ, suc, ◌-◌, ◌^◌, ◌<◌}
use native.Mathlib.Omega.{arith}
use lib.Dec.{ltb}
use lib.ListN.{get_or, take}
use Rattle.model.specs.Model.{box, event, input, output, events, Config, Set, Plausible}
use Rattle.model.proofs.Demands.{contained}
use Rattle.table.proofs.Laws.{given_means}
use Rattle.table.specs.Bytes.{table_of}
use Rattle.states.proofs.Same.{none_in, zero_none}
use Rattle.session.proofs.Laws.{opening_passes}
use Rattle.run.specs.Run.{Line}
use Rattle.run.proofs.Bytes.{number_read, small}
use Rattle.lines.specs.Texts.{decimal}
use Rattle.lines.specs.Lines.{states_in, event_line}
use Rattle.lines.specs.Laws.{SymbolShown, Tells, LineTells}

-- THE SYMBOL

pub symbol_shown : SymbolShown
unfolding event
symbol_shown b i o a = (
  λ e. (let (same, few, is) = (given_means b i o a).0 e in rw same (go (ltb b 128) is)),
  λ e. (let (same, few, is) = (given_means b i o a).1 e in up (ltb b 128) is),
)
  where
    go : (t : Bool) → cond t (input b) (output (b - 128)) ≡ input a → cond {A = List ℕ} t (105 ∷ decimal b) (111 ∷ decimal (b - 128)) ≡ 105 ∷ decimal b
    go true e = refl
    go false e = absurd (let z : ◌≡◌ {A = ℕ} 0 1 = cc in omega arith)

    up : (t : Bool) → cond t (input b) (output (b - 128)) ≡ output a → cond {A = List ℕ} t (105 ∷ decimal b) (111 ∷ decimal (b - 128)) ≡ 111 ∷ decimal a
    up true e = absurd (let z : ◌≡◌ {A = ℕ} 0 1 = cc in omega arith)
    up false e = let z : b - 128 ≡ a = cc in rw z

-- THE LINE

same_states : (a b : List ℕ) → ((j : ℕ) → j < 12 → get_or a j 0 ≡ get_or b j 0) → states_in a ≡ states_in b
same_states a b h =
    rw (h 0 (omega arith), h 1 (omega arith), h 2 (omega arith), h 3 (omega arith), h 4 (omega arith), h 5 (omega arith), h 6 (omega arith), h 7 (omega arith))

told : (S : Set ℕ) (k b : ℕ) (twelve line : List ℕ) → Line S line → ((j : ℕ) → j < 12 → get_or twelve j 0 ≡ get_or line j 0)
    → ((x : Config ℕ) → S x → x.state < 64) → Tells S k b (event_line k b twelve)
unfolding event_line
told S k b twelve line t at few =
    let fit : t.states < 2 ^ 64 = small t.states (λ q h. (let (x, p, e) = (t.states_are q).0 h in omega (arith, few x p))) in
    let n : states_in twelve ≡ t.states = same_states twelve line at ∙ ap states_in t.bytes_are ∙ number_read t.states (t.least_waiting ∷ t.most_waiting ∷ t.least_run ∷ t.most_run ∷ []) fit in
    let w : get_or twelve 8 0 ≡ t.least_waiting = at 8 (omega arith) ∙ ap (λ (x : List ℕ). get_or x 8 0) t.bytes_are in
    let x : get_or twelve 9 0 ≡ t.most_waiting = at 9 (omega arith) ∙ ap (λ (x : List ℕ). get_or x 9 0) t.bytes_are in
    let y : get_or twelve 10 0 ≡ t.least_run = at 10 (omega arith) ∙ ap (λ (x : List ℕ). get_or x 10 0) t.bytes_are in
    let z : get_or twelve 11 0 ≡ t.most_run = at 11 (omega arith) ∙ ap (λ (x : List ℕ). get_or x 11 0) t.bytes_are in
    record {
      states = t.states;
      least_waiting = t.least_waiting;
      most_waiting = t.most_waiting;
      least_run = t.least_run;
      most_run = t.most_run;
      states_are = t.states_are;
      states_fit = fit;
      least_waiting_is = t.least_waiting_is;
      most_waiting_is = t.most_waiting_is;
      least_run_is = t.least_run_is;
      most_run_is = t.most_run_is;
      empty = (
        λ e x p. zero_none e x.state ((t.states_are x.state).1 (x, p, refl)),
        λ none. none_in t.states (λ q h. (let (x, p, e) = (t.states_are q).0 h in none x p)),
      );
      line_is = rw (n, w, x, y, z) refl;
    }

pub line_tells : LineTells
line_tells rows s i o B c trace before after f k twelve passes r l at =
    let (line, tells, put) = r.lines k l in
    let (valid, bounded) = (opening_passes rows s i o B c).0 passes in
    told (Plausible (box (table_of rows s i o)) B c (events (take (suc k) trace))) k (get_or trace k 0) twelve line tells
    (λ j h. at j h ∙ put j h)
    (λ x p. (let w = contained (table_of rows s i o) B c (events (take (suc k) trace)) x valid bounded p in omega (arith, w.state, valid.states)))
