-- Every statement of specs/Laws.antt, proved. Assumes nothing.
use Rattle.std.specs.Prelude.{Err}
use mathlib.Core.Path.{◌≡◌, refl, sym, ◌∙◌, ap}
use Prim.Native.Nat.{ℕ}
use native.Mathlib.Omega.{arith}
use lib.ListN.{length}
use Rattle.run.specs.Run.{ran}
use Rattle.run.proofs.Laws.{one_run}
use Rattle.house.specs.File.{events_of, contents_of}
use Rattle.house.proofs.Laws.{read_exactly}
use Rattle.lister.specs.Judging.{judged, row_room, refused, cramped, listed}
use Rattle.lister.specs.Laws.{OneJudging, GoodListed, OnlyBadRefused, PiecesJoined, PieceFits, PieceHeld, LastSays, OneSaid}
use Rattle.lister.specs.Laws.{WholeInput, GoodText, OtherText, OneListing}
use Rattle.lister.specs.Laws.{TextShort, TextNone, TextFits, TextPlaced, TextLists, TextGood, GoodTold, OtherTold, OneText}
use Rattle.lister.proofs.Judging.{run_good}
use Rattle.lister.proofs.Listed.{clash, refusals, passes}
use Rattle.lister.proofs.Joined
use Rattle.lister.proofs.Kept
use Rattle.lister.proofs.Listed
use Rattle.lister.proofs.Summaries

pub one_judging : OneJudging
one_judging s e o j₁ j₂ e₁ e₂ o₁ o₂ (refused x) (refused y) = (ap Err (refusals (sym x ∙ y)), refl, refl)
one_judging s e o j₁ j₂ e₁ e₂ o₁ o₂ (refused x) (cramped v l) = absurd (clash (sym v ∙ x))
one_judging s e o j₁ j₂ e₁ e₂ o₁ o₂ (refused x) (listed v l r) = absurd (clash (sym v ∙ x))
one_judging s e o j₁ j₂ e₁ e₂ o₁ o₂ (cramped v l) (refused x) = absurd (clash (sym v ∙ x))
one_judging s e o j₁ j₂ e₁ e₂ o₁ o₂ (cramped v l) (cramped w m) = (refl, refl, refl)
one_judging s e o j₁ j₂ e₁ e₂ o₁ o₂ (cramped v l) (listed w m r) = absurd (omega arith)
one_judging s e o j₁ j₂ e₁ e₂ o₁ o₂ (listed v l r) (refused x) = absurd (clash (sym v ∙ x))
one_judging s e o j₁ j₂ e₁ e₂ o₁ o₂ (listed v l r) (cramped w m) = absurd (omega arith)
one_judging s e o j₁ j₂ e₁ e₂ o₁ o₂ (listed {f} v l r) (listed {f = g} w m q) =
    let good = ((read_exactly s row_room (length e)).0 v).0 in
    let t = run_good s (contents_of s) good (length o) l in
    let (a, b) = one_run _ _ _ _ _ _ (events_of s) o _ _ o₁ o₂ (ran t r) (ran t q) in
    (ap (judged (length (events_of s))) a, refl, b)

pub good_listed : GoodListed
good_listed s e o j e' o' l m g (refused x) = absurd (clash (sym (passes s (length e) l g) ∙ x))
good_listed s e o j e' o' l m g (cramped v x) = absurd (omega (arith, g.contents.few))
good_listed s e o j e' o' l m g (listed {f} v r w) = (f, refl, w)

pub only_bad_refused : OnlyBadRefused
only_bad_refused s e o r e' o' l m h g = let (f, x, w) = good_listed s e o (Err r) e' o' l m g h in let z : ◌≡◌ {A = ℕ} 0 1 = cc in omega arith

-- Piece by piece.
pub pieces_joined : PiecesJoined
pieces_joined = Joined.pieces_joined

pub piece_fits : PieceFits
piece_fits = Joined.piece_fits

pub piece_held : PieceHeld
piece_held = Joined.piece_held

pub last_says : LastSays
last_says = Joined.last_piece_says

pub one_said : OneSaid
one_said = Joined.one_said

-- The listing of a file.
pub whole_input : WholeInput
whole_input = Kept.whole_input

pub good_text : GoodText
good_text = Listed.good_text

pub other_text : OtherText
other_text = Listed.other_text

pub one_listing : OneListing
one_listing = Listed.one_listing

-- The listing in memory.
pub text_short : TextShort
text_short = Summaries.text_short

pub text_none : TextNone
text_none = Summaries.text_none

pub text_fits : TextFits
text_fits = Summaries.text_fits

pub text_placed : TextPlaced
text_placed = Summaries.text_placed

pub text_lists : TextLists
text_lists = Summaries.text_lists

pub text_good : TextGood
text_good = Summaries.text_good

pub good_told : GoodTold
good_told = Summaries.good_told

pub other_told : OtherTold
other_told = Summaries.other_told

pub one_text : OneText
one_text = Summaries.one_text
