-- The reader's refusals as they were before number 13 was split: the definitions of that time, word for word but for the homes of
-- names that have moved since. They stand here for the one statement at the end, and for nothing else. What a field must be, and the
-- tests of what a file holds, are those of today: the statement is about the split alone. Assumes nothing.
use Rattle.std.specs.Prelude.{◌≡◌, List, [], ◌∷◌, ◌⊎◌, ℕ, zero, suc, ◌≤◌, ◌<◌, eqb, length, Option, Some, None, Ok, Err}
use Rattle.table.specs.First.{first}
use Rattle.table.specs.Refusals as table
use Rattle.table.specs.declared.answer.Told.{Told}
use Rattle.flaw.specs.Flaws as flaw
use Rattle.flaw.specs.declared.Flaw.{Flaw}
use Rattle.flaw.specs.declared.Flaw.TheVariants.{Check, Kind, Order, ByteOne, Number, Used, Source, Fill}
use Rattle.flaw.specs.Test.{Test}
use Rattle.block.specs.Block.{byte_one, kind, number, used, source, stored, check, stray, kind_fits, order_fits, used_fits, source_fits}
use Rattle.block.specs.Limits.{check_at}
use Rattle.house.specs.File.{block_at, blocks, block_before, rows_of, events_of, contents_of}
use Rattle.house.specs.Reading.{is_whole, content_test, answer, after, Answers}
use Rattle.house.specs.Refusals as now
use Rattle.house.specs.Refusals.{results}
use Rattle.house.specs.Verdicts.{must, of_block, is_good, then, first_of}
use Rattle.house.specs.Verdict.{Reading}
use Rattle.house.specs.declared.answer.Refusal.{Refusal}
use Rattle.house.specs.declared.answer.Refusal.TheVariants.{Length, Block, Standard, Content}
use Rattle.house.specs.Verdict.{Verdict}

-- ONE BLOCK

-- The first byte that should be zero and is not.
abbrev pub unless_stray : Option ℕ → Test
unless_stray None = Ok tt
unless_stray (Some i) = Err (Fill i)

unfoldable pub fill_test : List ℕ → Test
fill_test b = unless_stray (first (stray b) check_at)

-- 12, then 13. Where several fields are wrong, the first of these is at fault: kind or block order,
unfoldable pub place_test : List ℕ → ℕ → List ℕ → Test
place_test b k a =
    flaw.first_of (flaw.must (kind_fits k (kind b)) Kind ∷ flaw.must (order_fits (kind b) (kind a) (used a)) Order ∷ [])

-- byte 1 or number,
unfoldable pub number_test : List ℕ → ℕ → Test
number_test b k = flaw.first_of (flaw.must (eqb (byte_one b) 0) ByteOne ∷ flaw.must (eqb (number b) k) Number ∷ [])

-- used count, source or zero fill.
unfoldable pub payload_test : List ℕ → ℕ → Test
payload_test b k =
    flaw.first_of (flaw.must (used_fits k (used b)) Used ∷ flaw.must (source_fits k (source b)) Source ∷ fill_test b ∷ [])

unfoldable pub block_test : List ℕ → ℕ → List ℕ → Test
block_test b k a =
    flaw.first_of (flaw.must (eqb (check b) (stored b)) Check ∷ place_test b k a ∷ number_test b k ∷ payload_test b k ∷ [])

-- THE FILE

-- The first k blocks, block by block 12, 13.
unfoldable pub blocks_test : List ℕ → ℕ → Verdict
blocks_test s zero = Ok tt
blocks_test s (suc k) = then (blocks_test s k) (of_block (block_test (block_at s k) k (block_before s k)) k)

-- File: 11; then block by block 12, 13;
unfoldable pub form_test : List ℕ → Verdict
form_test s = first_of (must (is_whole (length s)) (Length (length s)) ∷ blocks_test s (blocks s) ∷ [])

-- then 2, 3, 14, 1, 4, 5, 6, 9, 7, 10. The rooms are the lengths of the two buffers.
unfoldable pub verdict : List ℕ → ℕ → ℕ → Verdict
verdict s row_room event_room =
    first_of (form_test s ∷ content_test (contents_of s) (rows_of s) (events_of s) row_room event_room ∷ [])

-- The reading of the file s into the buffers d and e: the answer, and the buffers afterwards.
pub record AnswersBefore (s d e : List ℕ) (r : Reading) (d' e' : List ℕ) : Type 0 where
  pub reading : r ≡ answer (verdict s (length d) (length e)) (contents_of s)
  pub rows : d' ≡ after r d (rows_of s)
  pub events : e' ≡ after r e (events_of s)

-- THE NUMBERS

-- 12: block check wrong. 13: kind, byte 1, number, used count, source, zero fill or block order wrong.
abbrev pub number_of : Flaw → ℕ
number_of Check = 12
number_of Kind = 13
number_of Order = 13
number_of ByteOne = 13
number_of Number = 13
number_of Used = 13
number_of Source = 13
number_of (Fill place) = 13

-- Row by row of the document's table.
unfoldable pub told : Refusal → Told
told (Length length) = table.told_at 11 length
told (Block f block) = table.told_at (number_of f) block
told Standard = table.told_at 14 0
told (Content refusal) = table.told refusal

-- A good file has no number.
abbrev pub told_of : Reading → Told
told_of (Ok c) = table.told_at 0 0
told_of (Err r) = told r

-- WHAT BECAME OF IT

-- What is told now where t was told before: in place of 13 for a block, one of 20 to 23 for the same block, with an offset in it; of
-- every other number, and of a good file, the same.
pub data Became : Told → Told → Type 0 where
  split : (n block offset : ℕ) → 20 ≤ n → n ≤ 23 → offset < check_at
      → Became (table.told_at 13 block) (record { number = n; place = block; second = offset })
  same : (t : Told) → (t.number < 13) ⊎ (t.number ≡ 14) → Became t t

-- The set of files turned away does not change. Of one file and two buffers, a reading of that time and one of today: both are good or
-- both refused; they hold the same; what is told with them became as above; and they leave the same bytes.
pub record Same (r₀ r : Reading) (d₀ d' e₀ e' : List ℕ) : Type 0 where
  pub good : is_good r₀ ≡ is_good r
  pub holds : results r₀ ≡ results r
  pub tells : Became (told_of r₀) (now.told_of r)
  pub rows : d₀ ≡ d'
  pub events : e₀ ≡ e'

abbrev pub SameFiles : Type 0
SameFiles =
    (s d e : List ℕ) (r₀ r : Reading) (d₀ d' e₀ e' : List ℕ) → AnswersBefore s d e r₀ d₀ e₀ → Answers s d e r d' e'
    → Same r₀ r d₀ d' e₀ e'
