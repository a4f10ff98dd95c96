-- The pieces of a listing in memory, one after another, and what is told with them. Assumes nothing.
use Rattle.std.specs.Prelude.{Option}
use mathlib.Core.Path.{◌≡◌, sym, ◌∙◌, ap}
use mathlib.Core.Bool.{true}
use mathlib.Core.List.{List, ◌++◌}
use Prim.Native.Nat.{ℕ, ◌+◌, ◌≤◌}
use native.Mathlib.Numerals.{add-one}
use native.Mathlib.Omega.{arith}
use lib.Dec.{leb}
use lib.ListN.{length, length-append}
use Rattle.lent.specs.Lent.{front, put_at}
use Rattle.lent.proofs.Laws.{front_more}
use Rattle.table.specs.declared.answer.Told.{Told}
use Rattle.lister.specs.Judging.{Judges}
use Rattle.lister.specs.Listing.{event_room, result_room, joined, listing_of, piece_of, pieces_of, events_in, Leaves}
use Rattle.lister.specs.Putting.{text_room, refusal_told, flag_told, Puts, Texts, put}
use Rattle.lister.specs.Judged.{Judged}
use Rattle.lister.proofs.Joined.{joined_more, pieces_joined}

-- no piece yet, and one more
module _ (text : ℕ → List ℕ) (k : ℕ) (q : List ℕ) (is : q ≡ text k) where
  pub joined_next : joined text (k + 1) ≡ joined text k ++ q
  joined_next = ap (joined text) (add-one k) ∙ joined_more text k ∙ ap (λ (z : List ℕ). joined text k ++ z) (sym is)

  pub length_next : length (joined text (k + 1)) ≡ length (joined text k) + length q
  length_next = ap length joined_next ∙ length-append (joined text k) q

  -- it is put behind those before it
  pub put_next : (d x y : List ℕ) (at : ℕ) → at ≡ length (joined text k) → x ≡ front d (joined text k) → at + length q ≤ length d
      → y ≡ put_at x at q → y ≡ front d (joined text (k + 1))
  put_next d x y at a e l h =
      h ∙ ap (λ (z : List ℕ). put_at z at q) e ∙ front_more d (joined text k) q at a l ∙ ap (front d) (sym joined_next)

-- ALL OF THEM

-- memory that all pieces were put into has the listing
pub texts_by : {s e o e' o' d d' : List ℕ} {j : Judged} {n a m : ℕ} {t : Told} {f : (Option ℕ)} → length e ≡ event_room → length o ≡ result_room
    → Judges s e o j e' o' → leb text_room (length d) ≡ true → Puts (piece_of j n e' o') (pieces_of j) d a d'
    → t ≡ refusal_told j n → m ≡ events_in j → f ≡ flag_told j
    → Texts s n d (record { told = t; bytes = a; events = m; flag = f }) d'
texts_by {s} {e} {o} {e'} {o'} {d} {d'} {j} {n} {a} {m} {t} {f} le lo h room puts et em ef =
    let text : List ℕ = listing_of j n e' o' in
    let all : joined (piece_of j n e' o') (pieces_of j) ≡ text = pieces_joined j n e' o' in
    let long : a ≡ length text = puts.bytes ∙ ap length all in
    let memory : d' ≡ front d text = puts.memory ∙ ap (front d) all in
    let leaves : Leaves s j e' o' =
    record { events_before = e; results_before = o; event_room_is = le; result_room_is = lo; judges = h } in
    let fits : length text ≤ text_room = omega (arith, puts.fits, long) in
    rw (et, em, ef, long, memory) (put room leaves fits)
