-- Bytes copied to the front of zeros. Assumes nothing.
use mathlib.Core.Path.{◌≡◌}
use mathlib.Core.List.{List, ◌++◌}
use mathlib.Core.Logic.{⊎_elim}
use Prim.Native.Nat.{ℕ, ◌+◌, ◌≤◌, ◌<◌, min}
use native.Mathlib.Nat.{zero-add, le_refl}
use native.Mathlib.Numerals.{add-one}
use native.Mathlib.Omega.{arith}
use lib.ListN.{length, get_or, take, drop, set, length-replicate, get_or-replicate, get_or-eq_default, drop_of_length-le}
use lib.Seq.{paste-suc, take_all, take-length}
use Rattle.model.proofs.Flags.{lt_or_ge}
use Rattle.session.specs.Open.{zeros, padded}

pub length_zeros : (n : ℕ) → length (zeros n) ≡ n
unfolding zeros
length_zeros n = length-replicate n 0

pub zeros_at : (n k : ℕ) → get_or (zeros n) k 0 ≡ 0
unfolding zeros
zeros_at n k =
    ⊎_elim (λ l. get_or-replicate n k 0 0 l) (λ l. get_or-eq_default (zeros n) 0 (rw length_zeros l)) (lt_or_ge k n)

pub copy_more : (d s : List ℕ) (i : ℕ) → i < length d → i < length s → set (take i s ++ drop i d) i (get_or s i 0) ≡ take (i + 1) s ++ drop (i + 1) d
copy_more d s i hd hs = rw add-one (simp zero-add at (paste-suc d 0 s i 0 (rw zero-add hd) hs))

-- all is copied, or there is no room for more
pub copy_all : (n : ℕ) (l : List ℕ) → length l ≤ n → take (length l) l ++ drop (length l) (zeros n) ≡ padded n l
unfolding padded
copy_all n l h = rw (take-length, take_all n l)

pub copy_full : (n : ℕ) (l : List ℕ) → n ≤ length l → take n l ++ drop n (zeros n) ≡ padded n l
unfolding padded
copy_full n l h = rw (drop_of_length-le (zeros n) {i = n} (rw length_zeros (le_refl n)), drop_of_length-le (zeros n) {i = length l} (rw length_zeros h))

-- so much as there is, and as there is room for
pub copy_least : (n m : ℕ) (l : List ℕ) → m ≡ min (length l) n → take m l ++ drop m (zeros n) ≡ padded n l
copy_least n m l e =
    ⊎_elim
    (λ h. let few : length l ≤ n = omega arith in let all : m ≡ length l = omega arith in rw all (copy_all n l few))
    (λ h. let all : m ≡ n = omega arith in rw all (copy_full n l h))
    (lt_or_ge (length l) n)

-- what fits stands whole before the zeros
pub whole : (l : List ℕ) → length l ≤ 2048 → padded 2048 l ≡ l ++ drop (length l) (zeros 2048)
unfolding padded
whole l h = rw (take_all 2048 l h)
