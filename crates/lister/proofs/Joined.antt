-- The pieces of a listing: what they are joined, that none is cut short, and what the last one says. Assumes nothing.
use Rattle.std.specs.Prelude.{Option, Some, None, Ok, Err}
use mathlib.Core.Path.{◌≡◌, refl, sym, ◌∙◌, ap}
use mathlib.Core.Bool.{Bool, true, false, cond}
use mathlib.Core.List.{List, [], ◌∷◌, ◌++◌, append-nil, append_assoc}
use Prim.Native.Nat.{ℕ, zero, suc, ◌+◌, ◌-◌, ◌*◌, ◌/◌, ◌≤◌, ◌<◌}
use native.Mathlib.Omega.{arith}
use lib.Dec.{eqb, ltb, leb}
use lib.ListN.{length, take, drop, get_or}
use lib.Seq.{get_or-take, get_or-drop}
use borrow.Author.Tests.{ne_eqb, le-leb, lt-leb}
use Rattle.lines.specs.Texts.{most_text}
use Rattle.lines.specs.Lines.{header, last_line, refused_line, consistent, flagged, refused}
use Rattle.lines.proofs.Laws.{text_holds, event_fits, last_fits, refused_fits}
use Rattle.house.specs.Refusals.{told}
use Rattle.lister.specs.Listing.{twelve_of, line_at, joined, true_length, refusal_line, run_piece, piece_of, outcome_of}
use Rattle.lister.specs.Laws.{PiecesJoined, Bytes, PieceFits, PieceHeld, Says, LastSays, OneSaid}
use Rattle.lister.specs.declared.Outcome.TheVariants as outcome

-- JOINED

pub joined_none : (text : ℕ → List ℕ) → joined text 0 ≡ []
unfolding joined
joined_none text = refl

pub joined_more : (text : ℕ → List ℕ) (k : ℕ) → joined text (suc k) ≡ joined text k ++ text k
unfolding joined
joined_more text k = refl

-- the same texts, joined
pub joined_same : (a b : ℕ → List ℕ) (n : ℕ) → ((k : ℕ) → k < n → a k ≡ b k) → joined a n ≡ joined b n
joined_same a b zero h = joined_none a ∙ sym (joined_none b)
joined_same a b (suc n) h =
    joined_more a n ∙ ap (λ (x : List ℕ). x ++ a n) (joined_same a b n (λ k l. h k (omega arith)))
    ∙ ap (λ (x : List ℕ). joined b n ++ x) (h n (omega arith)) ∙ sym (joined_more b n)

module _ (m : ℕ) (f : Option ℕ) (events results : List ℕ) where
  abbrev piece : ℕ → List ℕ
  piece = run_piece m f events results

  line_piece : (k : ℕ) → k < m → piece (suc k) ≡ line_at events results k
  line_piece k h =
      let e : suc k - 1 ≡ k = omega arith in
      rw (ne_eqb (suc k) 0 (λ z. omega (arith, z)), le-leb (suc k) m (omega arith), e)

  last_piece : piece (suc m) ≡ last_line f
  last_piece = rw (ne_eqb (suc m) 0 (λ z. omega (arith, z)), lt-leb (suc m) m (omega arith))

  -- the header and the first k lines
  begun : (k : ℕ) → k ≤ m → joined piece (suc k) ≡ header ++ joined (line_at events results) k
  begun zero h = joined_more piece 0 ∙ ap (λ (x : List ℕ). x ++ header) (joined_none piece) ∙ ends (joined_none (line_at events results))
    where
      ends : {x : List ℕ} → x ≡ [] → header ≡ header ++ x
      ends e = rw e (sym (append-nil header))
  begun (suc k) h =
      joined_more piece (suc k) ∙ ap (λ (x : List ℕ). x ++ piece (suc k)) (begun k (omega arith))
      ∙ ap (λ (x : List ℕ). (header ++ joined (line_at events results) k) ++ x) (line_piece k (omega arith))
      ∙ append_assoc header (joined (line_at events results) k) (line_at events results k)
      ∙ ap (λ (x : List ℕ). header ++ x) (sym (joined_more (line_at events results) k))

  all : joined piece (m + 2) ≡ header ++ joined (line_at events results) m ++ last_line f
  all =
      let e : m + 2 ≡ suc (suc m) = omega arith in
      ap (joined piece) e ∙ joined_more piece (suc m) ∙ ap (λ (x : List ℕ). x ++ piece (suc m)) (begun m (omega arith))
      ∙ ap (λ (x : List ℕ). (header ++ joined (line_at events results) m) ++ x) last_piece

pub pieces_joined : PiecesJoined
pieces_joined (Err r) n events results =
    let one : ℕ → List ℕ = λ k. refusal_line r n in
    joined_more one 0 ∙ ap (λ (x : List ℕ). x ++ refusal_line r n) (joined_none one)
pieces_joined (Ok (m, f)) n events results = all m f events results

-- NOTHING IS CUT SHORT

header_fits : length header ≤ most_text
unfolding header
header_fits = omega arith

-- what is among the twelve bytes of an event is a byte
twelve_bytes : (results : List ℕ) (k : ℕ) → Bytes results → Bytes (twelve_of results k)
twelve_bytes results k h = go (ltb k (length results / 12))
  where
    taken : (l : List ℕ) (n : ℕ) → Bytes l → Bytes (take n l)
    taken l zero h i = omega arith
    taken [] (suc n) h i = omega arith
    taken (x ∷ l) (suc n) h zero = h 0
    taken (x ∷ l) (suc n) h (suc i) = taken l n (λ j. h (suc j)) i

    go : (t : Bool) → Bytes (cond t (take 12 (drop (12 * k) results)) [])
    go true = taken (drop (12 * k) results) 12 (λ i. rw (get_or-drop (12 * k) results i 0) (h (12 * k + i)))
    go false = λ i. omega arith

run_fits : (m : ℕ) (f : Option ℕ) (events results : List ℕ) (k : ℕ) → Bytes events → Bytes results
    → length (run_piece m f events results k) ≤ most_text
run_fits m f events results k b h = go (eqb k 0) (leb k m)
  where
    go : (s t : Bool) → length (cond s header (cond t (line_at events results (k - 1)) (last_line f))) ≤ most_text
    go true t = header_fits
    go false true = event_fits (k - 1) (get_or events (k - 1) 0) (twelve_of results (k - 1)) (b (k - 1)) (twelve_bytes results (k - 1) h)
    go false false = last_fits f

pub piece_fits : PieceFits
piece_fits (Err r) n events results k b h = refused_fits (told (true_length r n))
piece_fits (Ok (m, f)) n events results k b h = run_fits m f events results k b h

pub piece_held : PieceHeld
piece_held j n events results k b h = text_holds (piece_of j n events results k) (piece_fits j n events results k b h)

-- WHAT THE LAST LINE SAYS

last_says : (f : Option ℕ) → Says (outcome_of (Ok (0, f))) (last_line f)
unfolding last_line
last_says None = refl
last_says (Some place) = refl

refused_says : (r : _) → take (length refused) (refused_line r) ≡ refused
unfolding refused_line
refused_says r = refl

pub last_piece_says : LastSays
last_piece_says (Err r) n events results = refused_says (told (true_length r n))
last_piece_says (Ok (m, f)) n events results =
    let e : m + 2 - 1 ≡ suc m = omega arith in
    let p : run_piece m f events results (m + 2 - 1) ≡ last_line f = ap (run_piece m f events results) e ∙ last_piece m f events results in
    rw p (last_says f)

-- two words that begin with different letters
apart : (u v line : List ℕ) → 0 < length u → 0 < length v → (get_or u 0 0 ≡ get_or v 0 0 → ⊥) → take (length u) line ≡ u
    → take (length v) line ≡ v → ⊥
apart u v line p q h e f =
    h
    (sym (ap (λ (x : List ℕ). get_or x 0 0) e) ∙ get_or-take (length u) line 0 0 p ∙ sym (get_or-take (length v) line 0 0 q)
    ∙ ap (λ (x : List ℕ). get_or x 0 0) f)

pub one_said : OneSaid
one_said outcome.Consistent outcome.Consistent l p q = refl
one_said outcome.Consistent outcome.Flagged l p q =
    absurd (apart consistent flagged l (omega arith) (omega arith) (λ e. omega (arith, e)) p q)
one_said outcome.Consistent outcome.Refused l p q =
    absurd (apart consistent refused l (omega arith) (omega arith) (λ e. omega (arith, e)) p q)
one_said outcome.Consistent outcome.Broken l p q = absurd q
one_said outcome.Flagged outcome.Consistent l p q =
    absurd (apart flagged consistent l (omega arith) (omega arith) (λ e. omega (arith, e)) p q)
one_said outcome.Flagged outcome.Flagged l p q = refl
one_said outcome.Flagged outcome.Refused l p q =
    absurd (apart flagged refused l (omega arith) (omega arith) (λ e. omega (arith, e)) p q)
one_said outcome.Flagged outcome.Broken l p q = absurd q
one_said outcome.Refused outcome.Consistent l p q =
    absurd (apart refused consistent l (omega arith) (omega arith) (λ e. omega (arith, e)) p q)
one_said outcome.Refused outcome.Flagged l p q =
    absurd (apart refused flagged l (omega arith) (omega arith) (λ e. omega (arith, e)) p q)
one_said outcome.Refused outcome.Refused l p q = refl
one_said outcome.Refused outcome.Broken l p q = absurd q
one_said outcome.Broken b l p q = absurd p
