-- Texts with bytes added. Assumes nothing.
use mathlib.Core.Path.{◌≡◌, refl, sym, ◌∙◌, ap}
use mathlib.Core.List.{List, [], ◌∷◌, ◌++◌, append_assoc}
use Prim.Native.Nat.{ℕ, zero, suc, ◌+◌, ◌-◌, ◌≤◌, min}
use native.Mathlib.Omega.{arith}
use lib.ListN.{length, take}
use lib.Seq.{take-append-add}
use Rattle.std.proofs.lemmas.List.{take_min}
use Rattle.lines.specs.Texts.{most_text, text_of, Adds}
use Rattle.lines.proofs.Fitting.{text_holds}

-- what was left out before is left out later
cut : (n : ℕ) (t more : List ℕ) → take n (take n t ++ more) ≡ take n (t ++ more)
cut zero t more = refl
cut (suc n) [] more = refl
cut (suc n) (x ∷ t) more = ap (λ (l : List ℕ). x ∷ l) (cut n t more)

-- bytes, and then more of them
pub adds_then : {t u v a b : List ℕ} → Adds t a u → Adds u b v → Adds t (a ++ b) v
unfolding text_of
adds_then {t} {a} {b} e f =
    record { is = f.is ∙ ap (λ (l : List ℕ). text_of (l ++ b)) e.is ∙ cut 96 (t ++ a) b ∙ ap text_of (append_assoc t a b) }

-- from nothing on, all of them where they fit
pub adds_from : {t u a : List ℕ} → t ≡ [] → Adds t a u → length a ≤ most_text → u ≡ a
adds_from {a} e f h = rw e at f.is ∙ text_holds a h

-- the bytes in other words
pub adds_same : {t u a b : List ℕ} → a ≡ b → Adds t a u → Adds t b u
adds_same e f = rw e at f

-- as many more bytes as there is room for
pub filled : (a more : List ℕ) {n : ℕ} → length a ≤ 96 → n ≡ min (96 - length a) (length more) → a ++ take n more ≡ text_of (a ++ more)
unfolding text_of
filled a more h e =
    let all : length a + (96 - length a) ≡ 96 = omega arith in
    rw (e, take_min (96 - length a) more) (sym (take-append-add a more (96 - length a)) ∙ ap (λ (k : ℕ). take k (a ++ more)) all)
