-- The listing of a whole file, good or not, and that it is the only one. Assumes nothing.
use Rattle.std.specs.Prelude.{Option, Some, None, Ok, Err}
use mathlib.Core.Path.{◌≡◌, refl, sym, ◌∙◌, ap}
use mathlib.Core.List.{List, ◌++◌}
use Prim.Native.Nat.{ℕ, suc, ◌+◌, ◌*◌, ◌/◌, ◌≤◌, ◌<◌}
use native.Mathlib.Decide.{dec_le}
use native.Mathlib.Omega.{arith}
use lib.ListN.{length, drop, get_or, length-take, length-drop}
use lib.Seq.{take_all, get_or-take, get_or-drop, ext_get_or}
use borrow.Author.Tests.{lt-ltb}
use Rattle.lent.specs.Lent.{front}
use Rattle.lent.proofs.Laws.{front_stands}
use Rattle.model.specs.Model.{box, events}
use Rattle.model.proofs.Demands.{one_flag}
use Rattle.session.specs.Session.{place_of}
use Rattle.run.proofs.Laws.{one_line}
use Rattle.lines.specs.Lines.{header, event_line, last_line, refused_line}
use Rattle.lines.specs.Laws.{Tells}
use Rattle.lines.proofs.Laws.{line_tells}
use Rattle.house.specs.Limits.{most_bytes}
use Rattle.house.specs.File.{rows_of, events_of, contents_of}
use Rattle.house.specs.Laws.{GoodFile}
use Rattle.house.specs.Reading.{verdict}
use Rattle.house.specs.Refusals.{told}
use Rattle.house.specs.declared.answer.Refusal.{Refusal}
use Rattle.house.specs.declared.answer.Refusal.TheVariants.{Length}
use Rattle.house.specs.Verdict.{Verdict}
use Rattle.house.proofs.Laws.{rows_fit, read_exactly}
use Rattle.lister.specs.Judging.{row_room, RunsFile, Judges, refused, cramped, listed}
use Rattle.lister.specs.Listing.{event_room, result_room, twelve_of, line_at, refusal_line, joined, listing_of}
use Rattle.lister.specs.Listing.{outcome_of, Kept, Lists}
use Rattle.lister.specs.Laws.{table_meant, PlausibleAfter, GoodListing, GoodText, OtherListing, OtherText, OneListing}
use Rattle.lister.specs.declared.Outcome.{Outcome}
use Rattle.lister.specs.Judged.{Judged}
use Rattle.lister.proofs.Judging.{opens}
use Rattle.lister.proofs.Lengths.{own_length, too_long}
use Rattle.lister.proofs.Joined.{joined_same}

pub clash : {r : Refusal} → ◌≡◌ {A = Verdict} (Ok tt) (Err r) → ⊥
clash e = let z : ◌≡◌ {A = ℕ} 0 1 = cc in omega arith

pub refusals : {a b : Refusal} → ◌≡◌ {A = Verdict} (Err a) (Err b) → a ≡ b
refusals e = cc

-- the rows of a good file fit, so nothing refuses it
pub passes : (s : List ℕ) (room : ℕ) → event_room ≤ room → GoodFile s (contents_of s) → verdict s row_room room ≡ Ok tt
passes s room l g =
    (read_exactly s row_room room).1
    (g, rows_fit (contents_of s) (rows_of s) (events_of s) g.contents, omega (arith, g.contents.few))

pub good_short : (s : List ℕ) → GoodFile s (contents_of s) → length s ≤ most_bytes
good_short s g = omega (arith, g.form.whole, g.form.counted)

-- a file that is not too long is kept whole
pub whole : (f s : List ℕ) → length f ≤ most_bytes → Kept f s → s ≡ f
whole f s h (m, l, e) = e ∙ take_all m f (omega arith)

-- and of one that is, too much
pub long : (f s : List ℕ) → most_bytes < length f → Kept f s → most_bytes < length s
long f s h (m, l, e) = rw (e, length-take m f) (omega arith)

-- THE LINES

-- the twelve bytes of an event, one by one
twelve_at : (results : List ℕ) (k j : ℕ) → k < length results / 12 → j < 12 → get_or (twelve_of results k) j 0 ≡ get_or results (12 * k + j) 0
twelve_at results k j h l =
    rw (lt-ltb k (length results / 12) h) (get_or-take 12 (drop (12 * k) results) j 0 l ∙ get_or-drop (12 * k) results j 0)

twelve_long : (results : List ℕ) (k : ℕ) → k < length results / 12 → length (twelve_of results k) ≡ 12
twelve_long results k h = rw (lt-ltb k (length results / 12) h) (simp (length-take, length-drop) (omega arith))

-- an event's byte, from the room where it was put
event_at : (e trace : List ℕ) (k : ℕ) → k < length trace → get_or (front e trace) k 0 ≡ get_or trace k 0
event_at e trace k l = (front_stands e trace).each k l

tells_as : {S : _} {k b : ℕ} {l l' : List ℕ} → l ≡ l' → Tells S k b l → Tells S k b l'
tells_as e t = rw e at t

-- OF A GOOD FILE

good_from : (f e o : List ℕ) (j : Judged) (e' o' : List ℕ) (n : ℕ) → length e ≡ event_room → length o ≡ result_room
    → GoodFile f (contents_of f) → Judges f e o j e' o' → GoodListing f (listing_of j n e' o') (outcome_of j)
good_from f e o j e' o' n le lo g (refused x) = absurd (clash (sym (passes f (length e) (omega arith) g) ∙ x))
good_from f e o j e' o' n le lo g (cramped v x) = absurd (omega (arith, g.contents.few))
good_from f e o j e' o' n le lo g (listed {f = flag} v m w) =
    record {
      flag = flag;
      line = line_at (front e (events_of f)) o';
      flag_is = w.flag;
      tells = tells;
      text_is = refl;
      outcome_is = refl;
    }
  where
    within : (k : ℕ) → k < length (events_of f) → k < length o' / 12
    within k l = omega (arith, w.size, m, l)

    tells : (k : ℕ) → k < length (events_of f)
        → Tells (PlausibleAfter f (suc k)) k (get_or (events_of f) k 0) (line_at (front e (events_of f)) o' k)
    tells k l =
        tells_as (ap (λ (b : ℕ). event_line k b (twelve_of o' k)) (sym (event_at e (events_of f) k l)))
        (line_tells _ _ _ _ _ _ (events_of f) o o' flag k (twelve_of o' k) (opens f (contents_of f) g) w l
        (λ i h. twelve_at o' k i (within k l) h))

pub good_text : GoodText
good_text f text r g x =
    let s = x.leaves in
    let same : x.kept ≡ f = whole f x.kept (good_short f g) x.is_kept in
    let h : Judges f s.events_before s.results_before x.judged x.events x.results = rw same at s.judges in
    rw (x.text_is, x.outcome_is)
    (good_from f s.events_before s.results_before x.judged x.events x.results (length f) s.event_room_is
    s.result_room_is g h)

-- OF ANY OTHER FILE

other_from : (f e o : List ℕ) (j : Judged) (e' o' : List ℕ) → length e ≡ event_room → (GoodFile f (contents_of f) → ⊥)
    → Judges f e o j e' o' → OtherListing f (listing_of j (length f) e' o') (outcome_of j)
other_from f e o j e' o' le bad (refused {r} v) =
    record {
      refusal = r;
      refused_by = rw le at v;
      text_is = ap (λ (x : Refusal). refused_line (told x)) (own_length f row_room (length e) r v);
      outcome_is = refl;
    }
other_from f e o j e' o' le bad (cramped v x) = absurd (bad ((read_exactly f row_room (length e)).0 v).0)
other_from f e o j e' o' le bad (listed v m w) = absurd (bad ((read_exactly f row_room (length e)).0 v).0)

-- one that is too long
long_from : (f s e o : List ℕ) (j : Judged) (e' o' : List ℕ) → most_bytes < length f → most_bytes < length s
    → Judges s e o j e' o' → OtherListing f (listing_of j (length f) e' o') (outcome_of j)
long_from f s e o j e' o' h l (refused {r} v) =
    let is : Length (length s) ≡ r = refusals (sym (too_long s row_room (length e) l) ∙ v) in
    record {
      refusal = Length (length f);
      refused_by = too_long f row_room event_room h;
      text_is = ap (λ (x : Refusal). refusal_line x (length f)) (sym is);
      outcome_is = refl;
    }
long_from f s e o j e' o' h l (cramped v x) = absurd (clash (sym v ∙ too_long s row_room (length e) l))
long_from f s e o j e' o' h l (listed v m w) = absurd (clash (sym v ∙ too_long s row_room (length e) l))

pub other_text : OtherText
other_text f text r bad x =
    let s = x.leaves in
    rw (x.text_is, x.outcome_is)
    (elim (dec_le (length f) most_bytes) [
      | yes l ↦
          let same : x.kept ≡ f = whole f x.kept l x.is_kept in
          let h : Judges f s.events_before s.results_before x.judged x.events x.results = rw same at s.judges in
          other_from f s.events_before s.results_before x.judged x.events x.results s.event_room_is bad h
      | no n ↦
          let l : most_bytes < length f = omega (arith, n) in
          long_from f x.kept s.events_before s.results_before x.judged x.events x.results l
          (long f x.kept l x.is_kept) s.judges
    ])

-- ONE LISTING

one_place : (f g : Option ℕ) → place_of f ≡ place_of g → f ≡ g
one_place None None e = refl
one_place None (Some k) e = absurd (let z : ◌≡◌ {A = ℕ} 0 1 = cc in omega arith)
one_place (Some k) None e = absurd (let z : ◌≡◌ {A = ℕ} 0 1 = cc in omega arith)
one_place (Some k) (Some l) e = let d : k ≡ l = cc in ap Some d

-- the same twelve bytes in whatever room they stand
same_twelve : (f : List ℕ) (o₁ o₂ a b : List ℕ) (x y : Option ℕ) → RunsFile f o₁ a x → RunsFile f o₂ b y → (k : ℕ) → k < length (events_of f)
    → k < length a / 12 → k < length b / 12 → twelve_of a k ≡ twelve_of b k
same_twelve f o₁ o₂ a b x y v w k l p q =
    let (line, is, at) = v.lines k l in
    let (line', is', at') = w.lines k l in
    let same : line ≡ line' = one_line (PlausibleAfter f (suc k)) line line' is is' in
    ext_get_or 0 (twelve_of a k) (twelve_of b k) (twelve_long a k p ∙ sym (twelve_long b k q))
    (λ i h.
    let j : i < 12 = omega (arith, twelve_long a k p) in
    twelve_at a k i p j ∙ at i j ∙ ap (λ (z : List ℕ). get_or z i 0) same ∙ sym (at' i j) ∙ sym (twelve_at b k i q j))

same_flag : (f : List ℕ) (o₁ o₂ a b : List ℕ) (x y : Option ℕ) → RunsFile f o₁ a x → RunsFile f o₂ b y → x ≡ y
same_flag f o₁ o₂ a b x y v w =
    one_place x y
    (one_flag (box (table_meant f)) (contents_of f).waiting (contents_of f).losses (events (events_of f)) (place_of x) (place_of y)
    v.flag w.flag)

-- the results of a file that passed have room
pub not_cramped : (f e o : List ℕ) → length o ≡ result_room → verdict f row_room (length e) ≡ Ok tt
    → length o < 12 * length (events_of f) → ⊥
not_cramped f e o m v h = omega (arith, ((read_exactly f row_room (length e)).0 v).0.contents.few)

-- two judgings of one file come to the same, whatever stood in the rooms
pub one_judged : (f e₁ o₁ e₂ o₂ : List ℕ) (j₁ j₂ : Judged) (a b c d : List ℕ) (n : ℕ) → length e₁ ≡ event_room → length e₂ ≡ event_room
    → length o₁ ≡ result_room → length o₂ ≡ result_room → Judges f e₁ o₁ j₁ a b → Judges f e₂ o₂ j₂ c d
    → (j₁ ≡ j₂) × (listing_of j₁ n a b ≡ listing_of j₂ n c d)
one_judged f e₁ o₁ e₂ o₂ j₁ j₂ a b c d n l₁ l₂ m₁ m₂ (refused {r = p} x) (refused {r = q} y) =
    let same : p ≡ q = refusals (sym (rw l₁ at x) ∙ (rw l₂ at y)) in
    (ap Err same, ap (λ (z : Refusal). refusal_line z n) same)
one_judged f e₁ o₁ e₂ o₂ j₁ j₂ a b c d n l₁ l₂ m₁ m₂ (refused x) (cramped v l) = absurd (not_cramped f e₂ o₂ m₂ v l)
one_judged f e₁ o₁ e₂ o₂ j₁ j₂ a b c d n l₁ l₂ m₁ m₂ (refused x) (listed v p w) = absurd (clash (sym (rw l₂ at v) ∙ (rw l₁ at x)))
one_judged f e₁ o₁ e₂ o₂ j₁ j₂ a b c d n l₁ l₂ m₁ m₂ (cramped v l) y = absurd (not_cramped f e₁ o₁ m₁ v l)
one_judged f e₁ o₁ e₂ o₂ j₁ j₂ a b c d n l₁ l₂ m₁ m₂ (listed v p w) (refused x) = absurd (clash (sym (rw l₁ at v) ∙ (rw l₂ at x)))
one_judged f e₁ o₁ e₂ o₂ j₁ j₂ a b c d n l₁ l₂ m₁ m₂ (listed v p w) (cramped v' l) = absurd (not_cramped f e₂ o₂ m₂ v' l)
one_judged f e₁ o₁ e₂ o₂ j₁ j₂ a b c d n l₁ l₂ m₁ m₂ (listed {f = x} v p w) (listed {f = y} v' p' w') =
    let flags : x ≡ y = same_flag f o₁ o₂ b d x y w w' in
    let lines = joined_same (line_at (front e₁ (events_of f)) b) (line_at (front e₂ (events_of f)) d) (length (events_of f)) each in (
      ap (λ (z : Option ℕ). Ok (length (events_of f), z)) flags,
      ap (λ (z : List ℕ). header ++ z ++ last_line x) lines
          ∙ ap (λ (z : Option ℕ). header ++ joined (line_at (front e₂ (events_of f)) d) (length (events_of f)) ++ last_line z) flags,
    )
  where
    each : (k : ℕ) → k < length (events_of f) → line_at (front e₁ (events_of f)) b k ≡ line_at (front e₂ (events_of f)) d k
    each k l =
        let p₁ : k < length b / 12 = omega (arith, w.size, p, l) in
        let p₂ : k < length d / 12 = omega (arith, w'.size, p', l) in
        ap (λ (z : ℕ). event_line k z (twelve_of b k)) (event_at e₁ (events_of f) k l ∙ sym (event_at e₂ (events_of f) k l))
        ∙ ap (event_line k (get_or (front e₂ (events_of f)) k 0)) (same_twelve f o₁ o₂ b d x y w w' k l p₁ p₂)

one_from : (v : Verdict) (f t₁ t₂ : List ℕ) (r₁ r₂ : Outcome) → verdict f row_room event_room ≡ v → Lists f t₁ r₁ → Lists f t₂ r₂
    → (t₁ ≡ t₂) × (r₁ ≡ r₂)
one_from (Ok _) f t₁ t₂ r₁ r₂ v x y =
    let g : GoodFile f (contents_of f) = ((read_exactly f row_room event_room).0 v).0 in
    let s = x.leaves in
    let t = y.leaves in
    let h = rw (whole f x.kept (good_short f g) x.is_kept) at s.judges in
    let i = rw (whole f y.kept (good_short f g) y.is_kept) at t.judges in
    let (p, q) =
    one_judged f s.events_before s.results_before t.events_before t.results_before x.judged y.judged x.events
    x.results y.events y.results (length f) s.event_room_is t.event_room_is s.result_room_is t.result_room_is h i in
    (x.text_is ∙ q ∙ sym y.text_is, x.outcome_is ∙ ap outcome_of p ∙ sym y.outcome_is)
one_from (Err r) f t₁ t₂ r₁ r₂ v x y =
    let bad : GoodFile f (contents_of f) → ⊥ = λ g. clash (sym (passes f event_room (omega arith) g) ∙ v) in
    let a = other_text f t₁ r₁ bad x in
    let b = other_text f t₂ r₂ bad y in
    let same : a.refusal ≡ b.refusal = refusals (sym a.refused_by ∙ b.refused_by) in
    (a.text_is ∙ ap (λ (z : Refusal). refused_line (told z)) same ∙ sym b.text_is, a.outcome_is ∙ sym b.outcome_is)

pub one_listing : OneListing
one_listing f t₁ t₂ r₁ r₂ x y = one_from (verdict f row_room event_room) f t₁ t₂ r₁ r₂ refl x y
