-- The held inputs, with one more. Assumes nothing.
use mathlib.Core.Path.{◌≡◌, sym, ◌∙◌}
use mathlib.Core.List.{List, [], ◌∷◌, ◌++◌}
use mathlib.Core.Logic.{◌≢◌, ⊎_elim}
use Prim.Native.Nat.{ℕ, ◌+◌, ◌-◌, ◌≤◌, ◌<◌}
use native.Mathlib.Omega.{arith}
use native.Mathlib.Decide.{ℕ_discrete}
use lib.ListN.{length, get_or, set, take, length-set, length-append, length-take, get_or-append, get_or-eq_default}
use lib.Seq.{get_or-append_seam, get_or-drop, get_or-set_same, get_or-set_other, get_or-take, ext_get_or}
use Rattle.model.specs.Model.{newest}
use Rattle.model.proofs.Flags.{lt_or_ge}
use Rattle.std.specs.List.{CopiedTo, SameFrom}
use Rattle.monitor.specs.Feed.{Shows}

-- the list with a after it
module _ (l : List ℕ) (a : ℕ) where
  last_below : (k : ℕ) → k < length l → get_or (l ++ (a ∷ [])) k 0 ≡ get_or l k 0
  last_below k i = get_or-append l (a ∷ []) 0 k i

  last_at : (k : ℕ) → k ≡ length l → get_or (l ++ (a ∷ [])) k 0 ≡ a
  last_at k e = rw e (get_or-append_seam l a [] 0)

  last_past : (k : ℕ) → length l < k → get_or (l ++ (a ∷ [])) k 0 ≡ 0
  last_past k i = get_or-eq_default (l ++ (a ∷ [])) 0 (simp length-append (omega arith))

module _ (n most a : ℕ) (before after : List ℕ) (l : List ℕ) (len : length l ≡ n) (shows : Shows l before) where
  -- there is room for one more
  pub held_room : n < most → most ≤ 32 → after ≡ set before n a → Shows (newest most (l ++ (a ∷ []))) after
  held_room i j e =
      let z : length (l ++ (a ∷ [])) - most ≡ 0 = simp length-append (omega arith) in
      let s = shows.size in
      rw (z, e) (record {
        size = length-set before n a ∙ s;
        places = λ k m. elim (ℕ_discrete k n) [
          | yes d ↦ rw d (get_or-set_same before n a 0 (omega arith)) ∙ sym (last_at l a k (omega arith))
          | no d ↦ let q : k ≢ n = d in get_or-set_other before n k a 0 d ∙ shows.places k m ∙ ⊎_elim (λ h. sym (last_below l a k (omega arith)))
              (λ h. get_or-eq_default l 0 (omega arith) ∙ sym (last_past l a k (omega arith))) (lt_or_ge k n)
        ];
      })

  -- there is none, and the oldest is forgotten
  pub held_full : (mid : List ℕ) → n ≡ most → 0 < most → most ≤ 32 → length mid ≡ length before → CopiedTo before mid 1 0 (most - 1) → SameFrom before mid (0 + (most - 1))
      → after ≡ set mid (most - 1) a → Shows (newest most (l ++ (a ∷ []))) after
  held_full mid e pos j len' moved rest g =
      let z : length (l ++ (a ∷ [])) - most ≡ 1 = simp length-append (omega arith) in
      let s = shows.size in
      rw (z, g) (record {
        size = length-set mid (most - 1) a ∙ (len' ∙ s);
        places = λ k m. let d₁ = get_or-drop 1 (l ++ (a ∷ [])) k 0 in elim (ℕ_discrete k (most - 1)) [
          | yes d ↦ rw d (get_or-set_same mid (most - 1) a 0 (omega arith)) ∙ sym (d₁ ∙ last_at l a (1 + k) (omega arith))
          | no d ↦ let q : k ≢ most - 1 = d in get_or-set_other mid (most - 1) k a 0 d ∙ ⊎_elim
              (λ h. let c : k - 0 ≡ k = omega arith in rw c at (moved k 0 (omega arith) (omega arith)) ∙ shows.places (1 + k) (omega arith) ∙ sym (d₁ ∙ last_below l a (1 + k) (omega arith)))
              (λ h. rest k 0 (omega arith) ∙ shows.places k m ∙ get_or-eq_default l 0 (omega arith) ∙ sym (d₁ ∙ last_past l a (1 + k) (omega arith))) (lt_or_ge k (most - 1))
        ];
      })

-- THE LINE OF A SESSION

-- bytes that are 0 from n on show their first n
pub shows_first : (n : ℕ) (bytes : List ℕ) → length bytes ≡ 32 → ((k : ℕ) → n ≤ k → k < length bytes → get_or bytes k 0 ≡ 0) → Shows (take n bytes) bytes
shows_first n bytes len clear =
    record {
      size = len;
      places = λ k i. ⊎_elim (λ h. sym (get_or-take n bytes k 0 h)) (λ h. clear k h (omega arith) ∙ sym (past k h)) (lt_or_ge k n);
    }
  where
    past : (k : ℕ) → n ≤ k → get_or (take n bytes) k 0 ≡ 0
    past k h = get_or-eq_default (take n bytes) 0 (simp length-take (omega arith))

-- what bytes show is their beginning
pub shown_take : (l bytes : List ℕ) → length l ≤ 32 → Shows l bytes → take (length l) bytes ≡ l
shown_take l bytes le s =
    ext_get_or 0 (take (length l) bytes) l (simp length-take (omega (arith, s.size)))
    (λ k i. let m : k < length l = omega (arith, simp length-take at i) in get_or-take (length l) bytes k 0 m ∙ s.places k (omega arith))

-- so two that show the same are equal
pub shows_one : (l a b : List ℕ) → Shows l a → Shows l b → a ≡ b
shows_one l a b s t = ext_get_or 0 a b (s.size ∙ sym t.size) (λ k i. s.places k (omega (arith, s.size)) ∙ sym (t.places k (omega (arith, s.size))))
