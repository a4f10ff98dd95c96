-- A function answers false exactly when memory is too short, and then writes nothing. Assumes nothing.
use mathlib.Core.Path.{◌≡◌, refl}
use mathlib.Core.Bool.{Bool, true, false, ◌&&◌}
use mathlib.Core.List.{List}
use mathlib.Core.Logic.{inl, inr}
use Prim.Native.Nat.{ℕ}
use lib.Dec.{leb}
use lib.ListN.{length}
use borrow.Author.Tests.{leb-false, lt-leb}
use Rattle.sessiondoors.specs.Layout.{session_words, session_bytes}
use Rattle.sessiondoors.specs.Doors.{test_size, roomy}
use Rattle.sessiondoors.specs.Doors as doors
use Rattle.sessiondoors.specs.Laws.{Short, OpeningFalse, FeedingFalse, OpeningFalseKeeps, FeedingFalseKeeps}
use Rattle.sessiondoors.proofs.Unique.{not_both}

-- one of the three is too short
one_short : (w b t : List ℕ) → roomy w b t ≡ false → Short w b t
one_short w b t = go (leb session_words (length w)) (leb session_bytes (length b)) (leb test_size (length t)) refl refl refl
  where
    go : (x y z : Bool) → leb session_words (length w) ≡ x → leb session_bytes (length b) ≡ y → leb test_size (length t) ≡ z
        → (x && (y && z)) ≡ false → Short w b t
    go false y z e f g h = inl (leb-false _ _ e)
    go true false z e f g h = inr (inl (leb-false _ _ f))
    go true true false e f g h = inr (inr (leb-false _ _ g))
    go true true true e f g h = cc

never : (x : Bool) → (x && false) ≡ false
never true = refl
never false = refl

not_roomy : (w b t : List ℕ) → Short w b t → roomy w b t ≡ false
not_roomy w b t (inl h) = rw (lt-leb session_words (length w) h)
not_roomy w b t (inr (inl h)) = rw (lt-leb session_bytes (length b) h) (never (leb session_words (length w)))
not_roomy w b t (inr (inr h)) =
    rw (lt-leb test_size (length t) h, never (leb session_bytes (length b))) (never (leb session_words (length w)))

pub opening_false : OpeningFalse
opening_false rows s i o B c w b t a w' b' t' (doors.short e) = (λ _. one_short w b t e, λ _. refl)
opening_false rows s i o B c w b t a w' b' t' (doors.refused e f k) = (λ h. not_both h refl, λ h. not_both (not_roomy w b t h) e)
opening_false rows s i o B c w b t a w' b' t' (doors.opens e f k) = (λ h. not_both h refl, λ h. not_both (not_roomy w b t h) e)

pub feeding_false : FeedingFalse
feeding_false w b byte t a w' b' t' (doors.short e) = (λ _. one_short w b t e, λ _. refl)
feeding_false w b byte t a w' b' t' (doors.fed e f) = (λ h. not_both h refl, λ h. not_both (not_roomy w b t h) e)

pub opening_false_keeps : OpeningFalseKeeps
opening_false_keeps rows s i o B c w b t w' b' t' (doors.short e) = (refl, refl, refl)

pub feeding_false_keeps : FeedingFalseKeeps
feeding_false_keeps w b byte t w' b' t' (doors.short e) = (refl, refl, refl)
