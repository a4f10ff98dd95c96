-- Laws of the events: which is the first that is not valid. Assumes nothing.
use Rattle.std.specs.Prelude.{Option, Some, None}
use mathlib.Core.Path.{◌≡◌, refl, ap, ◌∙◌}
use mathlib.Core.Bool.{true, false}
use mathlib.Core.List.{List}
use Prim.Native.Nat.{ℕ, ◌+◌, ◌-◌, ◌≤◌, ◌<◌}
use native.Mathlib.Decide.{dec_lt}
use native.Mathlib.Omega.{arith}
use lib.ListN.{length}
use Rattle.table.proofs.Laws.{found_none, found_first, events_pass, first_invalid, event_told}
use Rattle.table.specs.Bytes.{symbol_of}
use Rattle.table.specs.First.{first}
use Rattle.block.specs.Limits.{event_kind}
use Rattle.block.specs.Block.{share}
use Rattle.house.specs.File.{block_at, blocks, joined, events_of}
use Rattle.table.specs.declared.answer.Told.{Told}
use Rattle.table.specs.Tests.{is_invalid, invalid_at, events_test}
use Rattle.house.specs.Reading.{place_or, valid_events, or_else}
use Rattle.house.proofs.Files.{joined_at, joined_fits}

module _ (i o : ℕ) where
  -- the place that the test of events tells
  pub valid_told : (es : List ℕ) → place_or (events_test es i o) (length es) ≡ valid_events i o es
  unfolding valid_events
  valid_told es = go (first (invalid_at es i o) (length es)) refl
    where
      go : (f : Option ℕ) → first (invalid_at es i o) (length es) ≡ f → place_or (events_test es i o) (length es) ≡ or_else f (length es)
      go None e = rw ((events_pass es i o).1 ((found_none (invalid_at es i o) (length es)).0 e))
      go (Some k) e =
          rw ((first_invalid es i o k).1 ((found_first (invalid_at es i o) (length es) k).0 e)) (ap (λ (t : Told). t.place) (event_told k))

  -- so far, all are valid
  abbrev pub Clean : List ℕ → ℕ → Type 0
  Clean es n = (j : ℕ) → j < n → invalid_at es i o j ≡ false

  pub valid_all : (es : List ℕ) (n : ℕ) → n ≡ length es → Clean es n → n ≡ valid_events i o es
  unfolding valid_events
  valid_all es n e h = rw ((found_none (invalid_at es i o) (length es)).1 (λ j l. h j (omega arith))) e

  pub valid_to : (es : List ℕ) (k : ℕ) → k < length es → Clean es k → invalid_at es i o k ≡ true → k ≡ valid_events i o es
  unfolding valid_events
  valid_to es k l h b = rw ((found_first (invalid_at es i o) (length es) k).1 (l, b, h))

  -- what the number says
  pub record Known (es : List ℕ) (n : ℕ) : Type 0 where
    pub within : n ≤ length es
    pub before : Clean es n
    pub at : n < length es → invalid_at es i o n ≡ true

  pub valid_known : (es : List ℕ) (n : ℕ) → n ≡ valid_events i o es → Known es n
  unfolding valid_events
  valid_known es n e = go (first (invalid_at es i o) (length es)) refl e
    where
      go : (f : Option ℕ) → first (invalid_at es i o) (length es) ≡ f → n ≡ or_else f (length es) → Known es n
      go None g e =
          record {
            within = omega arith;
            before = λ j l. (found_none (invalid_at es i o) (length es)).0 g j (omega arith);
            at = λ l. absurd (omega arith);
          }
      go (Some k) g e =
          let (l, b, h) = (found_first (invalid_at es i o) (length es) k).0 g in
          record { within = omega arith; before = rw e h; at = λ m. rw e b }

  -- a part of the events, after those of the blocks before it
  module _ (s p : List ℕ) (k at : ℕ) (e : p ≡ share event_kind (block_at s k)) (f : at ≡ length (joined event_kind s k)) (h : k < blocks s) where
    same : (j : ℕ) → j < length p → invalid_at (events_of s) i o (at + j) ≡ invalid_at p i o j
    same j l =
        let m : j < length (share event_kind (block_at s k)) = rw e at l in
        ap (λ (x : ℕ). is_invalid (symbol_of x i o))
        (rw (e, f) (joined_at event_kind s k (blocks s) j h m))

    -- n more are valid
    pub clean_more : (n : ℕ) → n ≤ length p → Clean (events_of s) at → Clean p n → Clean (events_of s) (at + n)
    clean_more n m c d j l =
        elim (dec_lt j at) [
          | yes x ↦ c j x
          | no x ↦ let g : j ≡ at + (j - at) = omega arith in rw g (same (j - at) (omega arith) ∙ d (j - at) (omega arith))
        ]

    -- the first that is not valid stands in it
    pub found : {n : ℕ} → Clean (events_of s) at → Known p n → n < length p → at + n ≡ valid_events i o (events_of s)
    found {n} c v l =
        valid_to (events_of s) (at + n) (omega (arith, joined_fits event_kind s k (blocks s) h, ap length e))
        (clean_more n v.within c v.before) (same n l ∙ v.at l)
