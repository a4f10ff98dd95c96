-- Laws of a capture's records: which part of it each is, and what their octets are together. Assumes nothing.
use mathlib.Core.Path.{◌≡◌, refl, sym, ap, ◌∙◌}
use mathlib.Core.List.{List, [], ◌∷◌, ◌++◌}
use Prim.Native.Nat.{ℕ, zero, suc, ◌+◌, ◌*◌, ◌-◌, ◌≤◌, ◌<◌, min}
use native.Mathlib.Numerals.{add-one}
use native.Mathlib.Decide.{dec_lt}
use native.Mathlib.Omega.{arith}
use lib.ListN.{length, drop, get_or, set, length-append, length-take, length-drop, get_or-append}
use lib.Seq.{drop-cons, append_snoc, set-append_seam, get_or-append-add}
use Rattle.capture.specs.Limits.{header_size, record_size}
use Rattle.capture.specs.Capture.{record_at, records, octet_at, octets}
use Rattle.lent.specs.Lent.{front}

-- WHICH PART OF IT EACH IS

module _ (s : List ℕ) (i : ℕ) where
  -- how much there is of it
  pub record_length : length (record_at s i) ≡ min record_size (length s - (header_size + record_size * i))
  record_length =
      length-take record_size (drop (header_size + record_size * i) s)
      ∙ ap (min record_size) (length-drop (header_size + record_size * i) s)

  -- a record of which there is something begins before the end, and is one of the records; past them there is nothing
  pub begins : (length (record_at s i) ≡ 0 → ⊥) → header_size + record_size * i < length s
  begins n =
      elim (dec_lt (header_size + record_size * i) (length s)) [
        | yes l ↦ l
        | no l ↦ absurd (n (omega (arith, record_length)))
      ]

  pub counted : (length (record_at s i) ≡ 0 → ⊥) → i < records s
  counted n = let l = begins n in omega arith

  pub there : i < records s → length (record_at s i) ≡ 0 → ⊥
  there l e = omega (arith, record_length)

  pub ended : records s ≤ i → length (record_at s i) ≡ 0
  ended l = omega (arith, record_length)

-- WHAT THEIR OCTETS ARE TOGETHER

module _ (s : List ℕ) where
  pub octets_none : octets s 0 ≡ []
  unfolding octets
  octets_none = refl

  -- one record more
  pub octets_more : (k : ℕ) → octets s (k + 1) ≡ octets s k ++ (octet_at s k ∷ [])
  unfolding octets
  octets_more k = ap (octets s) (add-one k)

  -- one byte a record
  pub octets_length : (k : ℕ) → length (octets s k) ≡ k
  unfolding octets
  octets_length zero = refl
  octets_length (suc k) = length-append (octets s k) (octet_at s k ∷ []) ∙ omega (arith, octets_length k)

  -- in order
  pub octets_at : (n k : ℕ) → k < n → get_or (octets s n) k 0 ≡ octet_at s k
  unfolding octets
  octets_at zero k l = absurd (omega arith)
  octets_at (suc n) k l =
      elim (dec_lt k n) [
        | yes h ↦
            let m : k < length (octets s n) = omega (arith, octets_length n) in
            get_or-append (octets s n) (octet_at s n ∷ []) 0 k m ∙ octets_at n k h
        | no h ↦
            let e : k ≡ length (octets s n) + 0 = omega (arith, octets_length n) in
            let f : k ≡ n = omega arith in
            ap (λ (j : ℕ). get_or (octets s n ++ (octet_at s n ∷ [])) j 0) e
            ∙ get_or-append-add (octets s n) (octet_at s n ∷ []) 0 0
            ∙ ap (octet_at s) (sym f)
      ]

-- THE BUFFER

-- one byte more at the end of the front
pub front_more : (d p : List ℕ) (x : ℕ) → length p < length d → set (front d p) (length p) x ≡ front d (p ++ (x ∷ []))
front_more d p x h =
    let e : suc (length p) ≡ length (p ++ (x ∷ [])) = simp length-append (omega arith) in
    ap (λ (l : List ℕ). set (p ++ l) (length p) x) (drop-cons d (length p) 0 h)
    ∙ set-append_seam p (get_or d (length p) 0) (drop (suc (length p)) d) x
    ∙ sym (append_snoc p x (drop (suc (length p)) d))
    ∙ ap (λ (n : ℕ). (p ++ (x ∷ [])) ++ drop n d) e

-- record k's octet is put behind those before it
pub octet_put : (s d x : List ℕ) (k b : ℕ) → x ≡ front d (octets s k) → b ≡ octet_at s k → k < length d
    → set x k b ≡ front d (octets s (k + 1))
octet_put s d x k b e f l =
    let n = octets_length s k in
    rw (e, f, octets_more s k)
    (ap (λ (j : ℕ). set (front d (octets s k)) j (octet_at s k)) (sym n) ∙ front_more d (octets s k) (octet_at s k) (omega arith))
