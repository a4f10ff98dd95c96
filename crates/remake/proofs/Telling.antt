-- Which bounds are told with 5 and 6: those that are given. Assumes nothing.
use Rattle.std.specs.Prelude.{Option, Some, None, Ok, Err}
use mathlib.Core.Path.{◌≡◌, refl, sym, ap, ◌∙◌, subst}
use mathlib.Core.Bool.{Bool, true, false}
use mathlib.Core.List.{List}
use Prim.Native.Nat.{ℕ, zero, suc, ◌+◌, ◌*◌}
use native.Mathlib.Omega.{arith}
use lib.Dec.{eqb, leb}
use lib.ListN.{length}
use borrow.Author.Tests.{eqb-false}
use Rattle.model.specs.Limits.{most_states, most_inputs, most_outputs, most_waiting, most_losses}
use Rattle.model.specs.Table.{Table, width}
use Rattle.table.specs.Bytes.{table_of}
use Rattle.table.specs.First.{first}
use Rattle.table.specs.Refusals as table
use Rattle.table.specs.Tests as tests
use Rattle.table.specs.Tests.{up_to, counts_test, length_test, bad, unless_bad, entries_test, bounds_test}
use Rattle.table.specs.declared.answer.Refusal as content
use Rattle.table.specs.declared.answer.Refusal.TheVariants.{Rows, States, Symbols, Entry, Waiting, Losses, Event, Events, Buffer}
use Rattle.table.specs.Test.{Test}
use Rattle.flaw.specs.Flaws as flaw
use Rattle.flaw.specs.declared.Flaw.{Flaw}
use Rattle.flaw.specs.declared.Flaw.TheVariants.{Check, Kind, Order, ByteOne, Number, Used, Source, Fill}
use Rattle.flaw.specs.Test.{Test as BlockTest}
use Rattle.block.specs.Block as block
use Rattle.house.specs.Limits.{most_events}
use Rattle.house.specs.File.{block_at, blocks, block_before, rows_of, events_of}
use Rattle.house.specs.Reading.{is_whole, is_standard, states_held, valid_events, blocks_test, shape_test, rows_test, limits_test, events_test, held_test, form_test}
use Rattle.house.specs.Refusals.{told}
use Rattle.house.specs.Verdicts.{must, of_block, of_table, then}
use Rattle.house.specs.declared.answer.Contents.{Contents}
use Rattle.house.specs.declared.answer.Refusal.{Refusal}
use Rattle.house.specs.declared.answer.Refusal.TheVariants.{Length, Block, Standard, Content}
use Rattle.house.specs.Verdict.{Verdict}
use Rattle.writer.specs.Writing.{needed, write_test, answer}
use Rattle.writer.specs.Answer.{Writing}
use Rattle.remake.specs.Remaking.{changed, Rebinds, refused, written}
use Rattle.remake.specs.Laws.{OfTheGiven, GivenTold}

module _ (waiting losses : ℕ) where
  -- WHAT IS TOLD WITH ANOTHER NUMBER

  other : (r : Refusal) → eqb (told r).number 5 ≡ false → eqb (told r).number 6 ≡ false → OfTheGiven waiting losses r
  other r a b = record { five = λ e. absurd (eqb-false _ 5 a e); six = λ e. absurd (eqb-false _ 6 b e) }

  of_length : (n : ℕ) → OfTheGiven waiting losses (Length n)
  unfolding told
  of_length n = other (Length n) refl refl

  of_flaw : (f : Flaw) (k : ℕ) → OfTheGiven waiting losses (Block f k)
  unfolding told flaw.told
  of_flaw Check k = other (Block Check k) refl refl
  of_flaw Kind k = other (Block Kind k) refl refl
  of_flaw Order k = other (Block Order k) refl refl
  of_flaw ByteOne k = other (Block ByteOne k) refl refl
  of_flaw Number k = other (Block Number k) refl refl
  of_flaw Used k = other (Block Used k) refl refl
  of_flaw Source k = other (Block Source k) refl refl
  of_flaw (Fill i) k = other (Block (Fill i) k) refl refl

  of_standard : OfTheGiven waiting losses Standard
  unfolding told
  of_standard = other Standard refl refl

  -- the refusals of what is held, but for the bounds
  abbrev Fair : content.Refusal → Type 0
  Fair r = OfTheGiven waiting losses (Content r)

  of_content : (r : content.Refusal) → eqb (table.told r).number 5 ≡ false → eqb (table.told r).number 6 ≡ false → Fair r
  unfolding told
  of_content r a b = other (Content r) a b

  -- and those of the bounds
  of_waiting : Fair (Waiting waiting)
  unfolding told table.told
  of_waiting = record { five = λ e. refl; six = λ e. absurd (omega arith) }

  of_losses : Fair (Losses losses)
  unfolding told table.told
  of_losses = record { five = λ e. absurd (omega arith); six = λ e. refl }

  -- TESTS

  abbrev Tells : Verdict → Type 0
  Tells v = (r : Refusal) → v ≡ Err r → OfTheGiven waiting losses r

  passes : Tells (Ok tt)
  passes r e = cc

  refuses : (r : Refusal) → OfTheGiven waiting losses r → Tells (Err r)
  refuses r h x e = let z : r ≡ x = cc in subst (OfTheGiven waiting losses) z h

  of_must : (b : Bool) (r : Refusal) → OfTheGiven waiting losses r → Tells (must b r)
  of_must true r h = passes
  of_must false r h = refuses r h

  of_then : (v w : Verdict) → Tells v → Tells w → Tells (then v w)
  of_then (Ok _) w f g = g
  of_then (Err r) w f g = f

  -- of a table
  of_tests : (b : Bool) (r : content.Refusal) (t : Test) → Fair r → Tells (of_table t) → Tells (of_table (tests.must b r t))
  of_tests true r t h k = k
  of_tests false r t h k = refuses (Content r) h

  of_counts : (s i o : ℕ) → Tells (of_table (counts_test s i o))
  unfolding counts_test table.told
  of_counts s i o =
      of_tests (up_to most_states s) (States s) _ (of_content (States s) refl refl)
      (of_tests (up_to most_inputs i) (Symbols i) _ (of_content (Symbols i) refl refl)
      (of_tests (up_to most_outputs o) (Symbols o) (Ok tt) (of_content (Symbols o) refl refl) passes))

  of_size : (n s i o : ℕ) → Tells (of_table (length_test n s i o))
  unfolding length_test table.told
  of_size n s i o = of_tests (eqb n (s * (i + o))) (Rows n) (Ok tt) (of_content (Rows n) refl refl) passes

  of_entries : (T : Table) → Tells (of_table (entries_test T))
  unfolding entries_test table.told
  of_entries T = go (first (bad T) (T.states * width T))
    where
      go : (x : Option ℕ) → Tells (of_table (unless_bad T x))
      go None = passes
      go (Some k) = refuses (Content (Entry _ _)) (of_content (Entry _ _) refl refl)

  of_bounds : Tells (of_table (bounds_test waiting losses))
  unfolding bounds_test
  of_bounds =
      of_tests (up_to most_waiting waiting) (Waiting waiting) _ of_waiting
      (of_tests (up_to most_losses losses) (Losses losses) (Ok tt) of_losses passes)

  -- of what is to be written
  module _ (c : Contents) (w : c.waiting ≡ waiting) (l : c.losses ≡ losses) (rows trace : List ℕ) where
    of_limits : Tells (limits_test c)
    unfolding limits_test table.told
    of_limits =
        let bounds : Tells (of_table (bounds_test c.waiting c.losses)) = rw (w, l) of_bounds in
        of_then (of_table (bounds_test c.waiting c.losses)) _ bounds (of_must (leb c.events most_events) (Content (Events c.events)) (of_content (Events c.events) refl refl))

    of_shape : Tells (shape_test c)
    unfolding shape_test
    of_shape =
        of_then (of_table (counts_test c.states c.inputs c.outputs)) _ (of_counts c.states c.inputs c.outputs)
        (of_then (must (is_standard c.source c.states c.inputs c.outputs) Standard) _
        (of_must (is_standard c.source c.states c.inputs c.outputs) Standard of_standard)
        (of_size c.rows (states_held c.source c.states) c.inputs c.outputs))

    of_write : (space : ℕ) → Tells (write_test c rows trace space)
    unfolding write_test held_test rows_test events_test table.told
    of_write space =
        let valid = valid_events c.inputs c.outputs trace in
        of_then (held_test c rows trace) _
        (of_then (shape_test c) _ of_shape
        (of_then (rows_test c rows) _ (of_entries (table_of rows (states_held c.source c.states) c.inputs c.outputs))
        (of_then (limits_test c) _ of_limits
        (of_must (eqb valid c.events) (Content (Event valid)) (of_content (Event valid) refl refl)))))
        (of_must (leb (needed c) space) (Content (Buffer (needed c))) (of_content (Buffer (needed c)) refl refl))

  -- of the file's form
  of_one : (t : BlockTest) (k : ℕ) → Tells (of_block t k)
  of_one (Ok _) k = passes
  of_one (Err f) k = refuses (Block f k) (of_flaw f k)

  of_blocks : (s : List ℕ) (n : ℕ) → Tells (blocks_test s n)
  unfolding blocks_test
  of_blocks s zero = passes
  of_blocks s (suc n) =
      of_then (blocks_test s n) _ (of_blocks s n) (of_one (block.block_test (block_at s n) n (block_before s n)) n)

  of_form : (s : List ℕ) → Tells (form_test s)
  unfolding form_test
  of_form s =
      of_then (must (is_whole (length s)) (Length (length s))) _ (of_must (is_whole (length s)) (Length (length s)) (of_length (length s)))
      (of_blocks s (blocks s))

-- THE ANSWER

was_refused : (v : Verdict) (c : Contents) (r : Refusal) → Err r ≡ answer v c → v ≡ Err r
was_refused (Ok _) c r e = cc
was_refused (Err x) c r e = let z : x ≡ r = cc in ap Err z

told_given : (s : List ℕ) (waiting losses : ℕ) (o : List ℕ) (w : Writing) (r : Refusal) (o' : List ℕ) → w ≡ Err r
    → Rebinds s waiting losses o w o' → OfTheGiven waiting losses r
told_given s waiting losses o w r o' e (refused {r = x} h) = let z : x ≡ r = cc in of_form waiting losses s r (h ∙ ap Err z)
told_given s waiting losses o w r o' e (written p h) =
    let c = changed s waiting losses (events_of s) in
    of_write waiting losses c refl refl (rows_of s) (events_of s) (length o) r
    (was_refused (write_test c (rows_of s) (events_of s) (length o)) c r (sym e ∙ h.answer))

pub given_told : GivenTold
given_told s waiting losses o r o' h = told_given s waiting losses o (Err r) r o' refl h
