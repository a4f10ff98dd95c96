-- What became of number 13: old and new definition refuse the same files, and all else is told as it was. Assumes nothing.
use Rattle.std.specs.Prelude.{Option, Some, None, Ok, Err}
use mathlib.Core.Path.{◌≡◌, refl, sym, ap, ◌∙◌}
use mathlib.Core.Bool.{Bool, true, false}
use mathlib.Core.List.{List, [], ◌∷◌}
use mathlib.Core.Logic.{inl, inr}
use Prim.Native.Nat.{ℕ, zero, suc, ◌<◌}
use native.Mathlib.Omega.{arith}
use lib.ListN.{length}
use Rattle.table.specs.First.{first}
use Rattle.table.specs.Refusals as table
use Rattle.table.specs.declared.answer.Refusal as content
use Rattle.table.specs.declared.answer.Refusal.TheVariants.{Rows, States, Symbols, Entry, Waiting, Losses, Event, Unsound, Events, Buffer}
use Rattle.flaw.specs.Flaws as flaw
use Rattle.flaw.specs.declared.Flaw.TheVariants.{Check, Kind, Order, ByteOne, Number, Used, Source, Fill}
use Rattle.flaw.specs.declared.Seen.{Seen}
use Rattle.block.proofs.Laws.{flaw_told, first_stray}
use Rattle.block.specs.Block as block
use Rattle.block.specs.Limits.{check_at}
use Rattle.house.specs.File.{block_at, blocks, block_before, rows_of, events_of, contents_of}
use Rattle.house.specs.Reading as now
use Rattle.house.specs.Reading.{answer, after}
use Rattle.house.specs.Refusals as now_told
use Rattle.house.specs.Refusals.{results}
use Rattle.house.specs.Verdicts.{is_good}
use Rattle.house.specs.Laws.{NoThirteen}
use Rattle.house.specs.declared.answer.Contents.{Contents}
use Rattle.house.specs.declared.answer.Refusal.{Refusal}
use Rattle.house.specs.declared.answer.Refusal.TheVariants.{Length, Block, Standard, Content}
use Rattle.house.specs.Verdict.{Verdict}
use Rattle.house.specs.Before as before
use Rattle.house.specs.Before.{unless_stray, Became, split, same, SameFiles}
use Rattle.house.proofs.Faults.{block_told}

-- THE TESTS ARE THE SAME, however they are grouped

abbrev seen : (check kind order one number used source : Bool) → Option ℕ → Seen
seen c k o b n u s f = record { check = c; kind = k; order = o; one = b; number = n; used = u; source = s; fill = block.unless_stray f }

joined : (c k o b n u s : Bool) (f : Option ℕ)
    → flaw.first_of
    (flaw.must c Check
    ∷ flaw.first_of (flaw.must k Kind ∷ flaw.must o Order ∷ [])
    ∷ flaw.first_of (flaw.must b ByteOne ∷ flaw.must n Number ∷ [])
    ∷ flaw.first_of (flaw.must u Used ∷ flaw.must s Source ∷ unless_stray f ∷ [])
    ∷ [])
    ≡ flaw.first_flaw (seen c k o b n u s f)
unfolding flaw.first_flaw
joined false k o b n u s f = refl
joined true false o b n u s f = refl
joined true true false b n u s f = refl
joined true true true false n u s f = refl
joined true true true true false u s f = refl
joined true true true true true false s f = refl
joined true true true true true true false f = refl
joined true true true true true true true None = refl
joined true true true true true true true (Some i) = refl

same_block : (b : List ℕ) (k : ℕ) (a : List ℕ) → before.block_test b k a ≡ block.block_test b k a
unfolding before.block_test before.place_test before.number_test before.payload_test before.fill_test block.block_test block.seen block.fill_of
same_block b k a = joined _ _ _ _ _ _ _ (first (block.stray b) check_at)

same_blocks : (s : List ℕ) (n : ℕ) → before.blocks_test s n ≡ now.blocks_test s n
unfolding before.blocks_test now.blocks_test
same_blocks s zero = refl
same_blocks s (suc n) = rw (same_blocks s n, same_block (block_at s n) n (block_before s n))

same_verdict : (s : List ℕ) (a b : ℕ) → before.verdict s a b ≡ now.verdict s a b
unfolding before.verdict before.form_test now.verdict now.form_test
same_verdict s a b = rw (same_blocks s (blocks s))

-- THE NUMBERS BECAME THESE

below : (r : content.Refusal) → (table.told r).number < 13
unfolding table.told
below (Rows n) = omega arith
below (States n) = omega arith
below (Symbols n) = omega arith
below (Entry n k) = omega arith
below (Waiting n) = omega arith
below (Losses n) = omega arith
below (Event n) = omega arith
below Unsound = omega arith
below (Events n) = omega arith
below (Buffer n) = omega arith

-- the offset of a stray byte lies in its block
abbrev Within : Refusal → Type 0
Within r = (i k : ℕ) → r ≡ Block (Fill i) k → i < check_at

within : (s : List ℕ) (a b : ℕ) (r : Refusal) → now.verdict s a b ≡ Err r → Within r
unfolding block.seen
within s a b r e i k f =
    let x = (block_told s a b (Fill i) k).0 (e ∙ ap Err f) in
    let (p, q, w) = (flaw_told (block_at s k) k (block_before s k) (Fill i)).0 x.flawed in
    ((first_stray (block_at s k) i).0 w).0

became : (r : Refusal) → Within r → Became (before.told r) (now_told.told r)
unfolding before.told now_told.told flaw.told
became (Length n) w = same (table.told_at 11 n) (inl (omega arith))
became (Block Check k) w = same (table.told_at 12 k) (inl (omega arith))
became (Block Kind k) w = split 20 k 0 (omega arith) (omega arith) (omega arith)
became (Block Order k) w = split 20 k 0 (omega arith) (omega arith) (omega arith)
became (Block ByteOne k) w = split 21 k 1 (omega arith) (omega arith) (omega arith)
became (Block Number k) w = split 21 k 2 (omega arith) (omega arith) (omega arith)
became (Block Used k) w = split 22 k 4 (omega arith) (omega arith) (omega arith)
became (Block Source k) w = split 23 k 11 (omega arith) (omega arith) (omega arith)
became (Block (Fill i) k) w = split 23 k i (omega arith) (omega arith) (w i k refl)
became Standard w = same (table.told_at 14 0) (inr refl)
became (Content r) w = same (table.told r) (inl (below r))

tells : (v : Verdict) (c : Contents) → ((r : Refusal) → v ≡ Err r → Within r)
    → Became (before.told_of (answer v c)) (now_told.told_of (answer v c))
tells (Ok _) c h = same (table.told_at 0 0) (inl (omega arith))
tells (Err r) c h = became r (h r refl)

pub no_thirteen : NoThirteen
unfolding now_told.told flaw.told
no_thirteen (Length n) e = omega arith
no_thirteen (Block Check k) e = omega arith
no_thirteen (Block Kind k) e = omega arith
no_thirteen (Block Order k) e = omega arith
no_thirteen (Block ByteOne k) e = omega arith
no_thirteen (Block Number k) e = omega arith
no_thirteen (Block Used k) e = omega arith
no_thirteen (Block Source k) e = omega arith
no_thirteen (Block (Fill i) k) e = omega arith
no_thirteen Standard e = omega arith
no_thirteen (Content r) e = omega (arith, below r)

-- A reading of that time and one of today.
pub same_files : SameFiles
same_files s d e r₀ r d₀ d' e₀ e' x y =
    let one : r₀ ≡ r = x.reading ∙ ap (λ v. answer v (contents_of s)) (same_verdict s (length d) (length e)) ∙ sym y.reading in
    record {
      good = ap is_good one;
      holds = ap results one;
      tells = rw (one, y.reading) (tells (now.verdict s (length d) (length e)) (contents_of s) (within s (length d) (length e)));
      rows = x.rows ∙ ap (λ z. after z d (rows_of s)) one ∙ sym y.rows;
      events = x.events ∙ ap (λ z. after z e (events_of s)) one ∙ sym y.events;
    }
