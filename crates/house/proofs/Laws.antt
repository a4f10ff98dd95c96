-- Every statement of specs/Laws.antt, proved, under one roof: other crates take the laws from here; and what became of number 13,
-- whose statement stands in specs/Before.antt with the definitions of that time. Assumes nothing.
use Rattle.std.specs.Prelude.{Ok}
use mathlib.Core.Path.{◌≡◌, refl, sym, ap, ◌∙◌}
use mathlib.Core.List.{List, []}
use Prim.Native.Nat.{ℕ, ◌≤◌}
use native.Mathlib.Omega.{arith}
use lib.ListN.{length}
use Rattle.lent.specs.Lent.{front}
use Rattle.lent.proofs.Laws.{front_stands, put_fits}
use Rattle.block.specs.Limits.{row_kind, event_kind}
use Rattle.house.specs.File.{blocks, rows_of, events_of, contents_of}
use Rattle.table.proofs.Checks.{clash}
use Rattle.house.specs.Reading.{form_test, verdict, after, handed, Answers}
use Rattle.house.specs.Laws.{FormPasses, BlockTold, NoThirteen, FirstBad, OneReading, NothingWritten, Starts, WhatIsHeld, GoodRows, ContentsPass, RowsFit, ReadExactly, CountsHeld, WhatIsGood, RowsUntouched}
use Rattle.house.specs.Laws.{OneUnpacking, NothingUnpacked, RoomEnough, WhatIsUnpacked}
use Rattle.house.specs.declared.answer.Contents.{Contents}
use Rattle.house.specs.declared.answer.Source.{Source}
use Rattle.house.specs.declared.answer.Source.TheVariants.{Rows, Standard}
use Rattle.house.specs.Before.{SameFiles}
use Rattle.house.proofs.Became
use Rattle.house.proofs.Faults
use Rattle.house.proofs.Tests.{good_passed, good_contents}
use Rattle.house.proofs.Events.{valid_known, valid_to}
use Rattle.house.proofs.Files.{joined_short}
use Rattle.house.proofs.Forms
use Rattle.house.proofs.Good

-- The blocks.
pub form_passes : FormPasses
form_passes = Forms.form_passes

pub block_told : BlockTold
block_told = Faults.block_told

pub no_thirteen : NoThirteen
no_thirteen = Became.no_thirteen

-- The events.
pub first_bad : FirstBad
first_bad i o es k l = (
  λ e. let v = valid_known i o es k (sym e) in (v.at l, v.before),
  λ (b, h). sym (valid_to i o es k l h b),
)

-- The reading.
pub one_reading : OneReading
one_reading s d e r₁ r₂ d₁ d₂ e₁ e₂ x y =
    let r = x.reading ∙ sym y.reading in
    (r, x.rows ∙ ap (λ z. after z d (rows_of s)) r ∙ sym y.rows, x.events ∙ ap (λ z. after z e (events_of s)) r ∙ sym y.events)

pub nothing_written : NothingWritten
nothing_written s d e r d' e' x = (x.rows, x.events)

-- a file that was read passed its tests, and its contents were answered
passed : (s d e : List ℕ) (c : Contents) (d' e' : List ℕ) → Answers s d e (Ok c) d' e' → verdict s (length d) (length e) ≡ Ok tt
passed s d e c d' e' x = good_passed (verdict s (length d) (length e)) (contents_of s) (Ok c) x.reading refl

answered : (s d e : List ℕ) (c : Contents) (d' e' : List ℕ) → Answers s d e (Ok c) d' e' → c ≡ contents_of s
answered s d e c d' e' x = good_contents (verdict s (length d) (length e)) (contents_of s) c x.reading

pub contents_pass : ContentsPass
contents_pass = Good.contents_pass

pub rows_fit : RowsFit
rows_fit = Good.rows_fit

pub read_exactly : ReadExactly
read_exactly = Good.read_exactly

pub what_is_good : WhatIsGood
what_is_good s d e c d' e' x =
    rw (answered s d e c d' e' x) ((read_exactly s (length d) (length e)).0 (passed s d e c d' e' x)).0

starts : (d d' p : List ℕ) (n : ℕ) → n ≡ length p → length p ≤ length d → d' ≡ front d p → Starts d d' p n
starts d d' p n e l f =
    record { fits = omega arith; start = rw (e, f) (front_stands d p).start; later = rw (e, f) (front_stands d p).later }

pub what_is_held : WhatIsHeld
unfolding contents_of
what_is_held s d e c d' e' x =
    let i = answered s d e c d' e' x in
    let (g, l, m) = (read_exactly s (length d) (length e)).0 (passed s d e c d' e' x) in
    record {
      contents = i;
      rows = starts d d' (rows_of s) c.rows (ap (λ (z : Contents). z.rows) i) l x.rows;
      events = starts e e' (events_of s) c.events (ap (λ (z : Contents). z.events) i) m x.events;
    }

no_rows : (x : Source) (s i o : ℕ) (rows : List ℕ) → x ≡ Standard → GoodRows x s i o rows → rows ≡ []
no_rows Standard s i o rows e g = g.3
no_rows Rows s i o rows e g = clash (cc)

pub rows_untouched : RowsUntouched
rows_untouched s d e c d' e' x h =
    let g = what_is_good s d e c d' e' x in
    let n = no_rows c.source c.states c.inputs c.outputs (rows_of s) h g.contents.table in
    x.rows ∙ ap (front d) n

pub counts_held : CountsHeld
unfolding contents_of
counts_held s = (refl, refl)

-- The blocks alone.
pub one_unpacking : OneUnpacking
one_unpacking s d e r₁ r₂ d₁ d₂ e₁ e₂ x y =
    let r = x.reading ∙ sym y.reading in
    (r, x.rows ∙ ap (λ z. handed z d (rows_of s)) r ∙ sym y.rows, x.events ∙ ap (λ z. handed z e (events_of s)) r ∙ sym y.events)

pub nothing_unpacked : NothingUnpacked
nothing_unpacked s d e r d' e' x = (x.rows, x.events)

pub room_enough : RoomEnough
room_enough s g =
    let few = g.counted.1 in
    (omega (arith, joined_short row_kind s (blocks s)), omega (arith, joined_short event_kind s (blocks s)))

pub what_is_unpacked : WhatIsUnpacked
unfolding contents_of
what_is_unpacked s d e c d' e' l m x =
    let i = good_contents (form_test s) (contents_of s) c x.reading in
    let g = (form_passes s).0 (good_passed (form_test s) (contents_of s) (Ok c) x.reading refl) in
    let (a, b) = room_enough s g in
    let few : length (rows_of s) ≤ length d = omega arith in
    let short : length (events_of s) ≤ length e = omega arith in (
      g,
      record {
        contents = i;
        rows = starts d d' (rows_of s) c.rows (ap (λ (z : Contents). z.rows) i) few (x.rows ∙ put_fits d (rows_of s) few);
        events = starts e e' (events_of s) c.events (ap (λ (z : Contents). z.events) i) short (x.events ∙ put_fits e (events_of s) short);
      },
    )

-- What became of number 13.
pub same_files : SameFiles
same_files = Became.same_files
