-- What the bytes of a run say, and demand 3 of them. Assumes nothing.
use Rattle.std.specs.Prelude.{None}
use mathlib.Core.Path.{◌≡◌, refl, ◌∙◌, ap}
use mathlib.Core.List.{List, [], ◌∷◌}
use Prim.Native.Nat.{ℕ, suc, ◌*◌, ◌^◌, ◌≤◌, ◌<◌}
use native.Mathlib.Omega.{arith}
use lib.ListN.{get_or, take}
use lib.Seq.{ext_get_or}
use Rattle.model.specs.Model.{box, events, Config, cfg, Set, Plausible}
use Rattle.model.proofs.Demands.{contained, one_flag, allowing_more, never_convicts}
use Rattle.table.specs.Bytes.{table_of}
use Rattle.states.proofs.Same.{zero_none, some_in}
use Rattle.session.specs.Session.{place_of}
use Rattle.session.proofs.Laws.{opening_passes}
use Rattle.run.specs.Run.{Lowest, Highest, eight, Line, At, refused, ran}
use Rattle.run.specs.Trace.{empty_line}
use Rattle.run.specs.Laws.{Twelve, BytesSay, EmptySet, EmptyTrace, Spans, RunsAllowMore}
use Rattle.run.proofs.Bytes.{number_read, small, eight_at}
use Rattle.run.proofs.Lines.{empty_is}
use Rattle.run.proofs.Whole.{one_line, one_place}

-- WHAT THE BYTES SAY

-- a line of a set whose states are all below 64, wherever it stands
line_says : (S : Set ℕ) (line bytes : List ℕ) (place : ℕ) → Line S line → At place line bytes → ((x : Config ℕ) → S x → x.state < 64)
    → Twelve S bytes place
line_says S line bytes place l at few =
    let fit : l.states < 2 ^ 64 = small l.states (λ q i. let (x, p, e) = (l.states_are q).0 i in omega (arith, few x p)) in
    let rest = l.least_waiting ∷ l.most_waiting ∷ l.least_run ∷ l.most_run ∷ [] in
    let n : eight bytes place ≡ l.states =
    eight_at place line bytes at ∙ ap (λ (b : List ℕ). eight b 0) l.bytes_are ∙ number_read l.states rest fit in
    record {
      states = λ q. rw n (l.states_are q);
      least_waiting = rw (at 8 (omega arith), l.bytes_are) l.least_waiting_is;
      most_waiting = rw (at 9 (omega arith), l.bytes_are) l.most_waiting_is;
      least_run = rw (at 10 (omega arith), l.bytes_are) l.least_run_is;
      most_run = rw (at 11 (omega arith), l.bytes_are) l.most_run_is;
    }

-- The bytes of an event say the plausible set after it.
pub bytes_say : BytesSay
bytes_say rows s i o B c trace before after f passes r k l =
    let (line, is, at) = r.lines k l in
    let (valid, bounded) = (opening_passes rows s i o B c).0 passes in
    let t = events (take (suc k) trace) in
    line_says (Plausible (box (table_of rows s i o)) B c t) line after (12 * k) is at
    (λ x p. let fits = contained (table_of rows s i o) B c t x valid bounded p in omega (arith, fits.state, valid.states))

-- With an empty set, and with no other, the number is 0 and the four bytes are 255.
pub empty_set : EmptySet
empty_set rows s i o B c trace before after f passes r k l = (
  λ none j m.
      let (line, is, at) = r.lines k l in
      let e : line ≡ empty_line = one_line S line empty_line is (empty_is S none) in
      at j m ∙ ap (λ (b : List ℕ). get_or b j 0) e,
  λ at x p.
      let z : eight after (12 * k) ≡ 0 = eight_at (12 * k) empty_line after at in
      zero_none z x.state (((bytes_say rows s i o B c trace before after f passes r k l).states x.state).1 (x, p, refl)),
)
  where
    S : Set ℕ
    S = Plausible (box (table_of rows s i o)) B c (events (take (suc k) trace))

-- An empty trace writes nothing and is not flagged.
pub empty_trace : EmptyTrace
empty_trace rows s i o B c before after r (refused e) = (refl, refl)
empty_trace rows s i o B c before after r (ran {f = f} e t) = (
  ext_get_or 0 after before t.size (λ k l. t.rest k (omega arith)),
  one_place f None
      (one_flag (box (table_of rows s i o)) B c [] (place_of f) (place_of None) t.flag (λ j l. absurd (omega arith))),
)

-- DEMAND 3

-- the figures of the members of a set
abbrev FigureOf : (Config ℕ → ℕ) → Set ℕ → ℕ → Type 0
FigureOf of S k = (x : Config ℕ) × S x × (of x ≡ k)

-- a set within another has no smaller least, and no greater most
module _ (S S' : Set ℕ) (sub : (x : Config ℕ) → S x → S' x) (any : Config ℕ) (here : S any) where
  lower : (of : Config ℕ → ℕ) (r r' : ℕ) → Lowest (FigureOf of S) r → Lowest (FigureOf of S') r' → r' ≤ r
  lower of r r' l l' = let (x, p, e) = (l.some (of any) (any, here, refl)).0 in (l'.some r (x, sub x p, e)).1

  higher : (of : Config ℕ → ℕ) (r r' : ℕ) → Highest (FigureOf of S) r → Highest (FigureOf of S') r' → r ≤ r'
  higher of r r' l l' = let (x, p, e) = (l.some (of any) (any, here, refl)).0 in (l'.some r (x, sub x p, e)).1

  spans : (bytes bytes' : List ℕ) (place place' : ℕ) → Twelve S bytes place → Twelve S' bytes' place' → Spans bytes place bytes' place'
  spans bytes bytes' place place' t t' =
      record {
        least_waiting = lower (λ x. x.waiting) _ _ t.least_waiting t'.least_waiting;
        most_waiting = higher (λ x. x.waiting) _ _ t.most_waiting t'.most_waiting;
        least_run = lower (λ x. x.run) _ _ t.least_run t'.least_run;
        most_run = higher (λ x. x.run) _ _ t.most_run t'.most_run;
      }

pub runs_allow_more : RunsAllowMore
runs_allow_more rows rows' s i o s' i' o' B c B' c' j trace trace' before before' after after' f f' passes passes' r r' =
    let T = table_of rows s i o in
    let T' = table_of rows' s' i' o' in (
      λ k k' l l' slack.
          let u = events (take (suc k) trace) in
          let u' = events (take (suc k') trace') in
          let t = bytes_say rows s i o B c trace before after f passes r k l in
          let t' = bytes_say rows' s' i' o' B' c' trace' before' after' f' passes' r' k' l' in
          let kept = allowing_more T T' B c B' c' j u u' slack in
          record {
            states = λ q m. let (x, p, e) = (t.states q).0 m in
                let (w, v, p') = kept.state x.state x.waiting x.run p in
                (t'.states q).1 (cfg x.state w v, p', e);
            same = λ z some. let (q, m) = some_in (eight after (12 * k)) (λ e. omega arith) in
                let (x, p, e) = (t.states q).0 m in
                spans (Plausible (box T) B c u) (Plausible (box T') B' c' u') (kept.same z) x p after after' (12 * k) (12 * k') t t';
          },
      λ slack. never_convicts T T' B c B' c' j (events trace) (events trace') (place_of f) (place_of f') slack r.flag r'.flag,
    )
