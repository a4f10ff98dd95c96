-- A file with the check of block 0 put right, beside the old one. Assumes nothing.
use Rattle.std.specs.Prelude.{Ok, Err}
use mathlib.Core.Path.{◌≡◌, refl, sym, ap, ap₂, ◌∙◌}
use mathlib.Core.Bool.{true}
use mathlib.Core.List.{List, ◌∷◌, ◌++◌, append_assoc}
use Prim.Native.Nat.{ℕ, ◌+◌, ◌-◌, ◌/◌, ◌%◌, ◌≤◌, ◌<◌}
use native.Mathlib.Omega.{arith}
use lib.Dec.{leb}
use lib.ListN.{length, take, drop, get_or, length-append, take-append-drop}
use lib.Seq.{length-take-le, take-append-le, drop-append-le, take_at, drop-cons, get_or-append-add, get_or-take, drop-drop}
use borrow.Author.Tests.{leb-true, le-leb, eqb-true, eqb-false}
use borrow.Rule.Slice.PartMut.{put_mid}
use Rattle.lent.specs.Lent.{front}
use Rattle.table.proofs.Checks.{clash, both}
use Rattle.flaw.specs.declared.Flaw.TheVariants.{Check}
use Rattle.block.specs.Limits.{block_size, check_at}
use Rattle.block.specs.Block.{byte, stored, check, seen}
use Rattle.block.proofs.Laws.{flaw_told}
use Rattle.house.specs.Limits.{most_bytes}
use Rattle.house.specs.File.{block_at, block_before}
use Rattle.house.specs.Reading.{is_whole, form_test, verdict}
use Rattle.house.specs.declared.answer.Refusal.{Refusal}
use Rattle.house.specs.declared.answer.Refusal.TheVariants.{Block}
use Rattle.house.proofs.Laws.{block_told}
use Rattle.writer.specs.Layout.{spelling}
use Rattle.writer.specs.Laws.{Bytes}
use Rattle.writer.specs.Answer.{Writing}
use Rattle.writer.proofs.Blocks.{check_same}
use Rattle.remake.specs.Mending.{mended, Mends, broken, short, mends}
use Rattle.remake.specs.Laws.{OneMending, CheckAlone, MendedAlone, MendedSame, MendedPasses}
use Rattle.remake.proofs.Bounds.{beside}

module _ (s : List ℕ) (whole : is_whole (length s) ≡ true) where
  -- it has block 0
  pub long : block_size ≤ length s
  long =
      let (l, m) = both (leb 1 (length s)) _ whole in
      let (n, z) = both (leb (length s) most_bytes) _ m in
      omega (arith, leb-true 1 (length s) l, eqb-true (length s % block_size) 0 z)

  -- what stands before the check, and behind it
  abbrev start : List ℕ
  start = take check_at s

  abbrev rest : List ℕ
  rest = drop block_size s

  start_long : length start ≡ check_at
  start_long = length-take-le check_at s (omega (arith, long))

  old_is : s ≡ start ++ byte s check_at ∷ byte s (check_at + 1) ∷ rest
  old_is =
      sym (take-append-drop check_at s)
      ∙ ap (λ (z : List ℕ). start ++ z) (drop-cons s check_at 0 (omega (arith, long)))
      ∙ ap (λ (z : List ℕ). start ++ byte s check_at ∷ z) (drop-cons s (check_at + 1) 0 (omega (arith, long)))

  new_is : mended s ≡ start ++ check s % 256 ∷ check s / 256 ∷ rest
  unfolding mended
  new_is = append_assoc start (spelling (check s)) rest

  as_long : length (mended s) ≡ length s
  as_long =
      ap length new_is
      ∙ length-append start (check s % 256 ∷ check s / 256 ∷ rest)
      ∙ sym (ap length old_is ∙ length-append start (byte s check_at ∷ byte s (check_at + 1) ∷ rest))

  elsewhere : (i : ℕ) → (i ≡ check_at → ⊥) → (i ≡ check_at + 1 → ⊥) → byte (mended s) i ≡ byte s i
  elsewhere i n m =
      ap (λ (z : List ℕ). get_or z i 0) new_is
      ∙ beside start (check s % 256) (check s / 256) (byte s check_at) (byte s (check_at + 1)) rest i
      (λ e. n (omega (arith, start_long))) (λ e. m (omega (arith, start_long)))
      ∙ ap (λ (z : List ℕ). get_or z i 0) (sym old_is)

  -- the bytes of the check
  there : (j : ℕ) → byte (mended s) (check_at + j) ≡ get_or (check s % 256 ∷ check s / 256 ∷ rest) j 0
  there j =
      ap (λ (z : List ℕ). get_or z (check_at + j) 0) new_is
      ∙ ap (λ (k : ℕ). get_or (start ++ check s % 256 ∷ check s / 256 ∷ rest) (k + j) 0) (sym start_long)
      ∙ get_or-append-add start (check s % 256 ∷ check s / 256 ∷ rest) j 0

  -- they are not in it
  same_check : check (mended s) ≡ check s
  same_check = check_same (mended s) s (λ i l. elsewhere i (λ e. omega arith) (λ e. omega arith))

  right : stored (mended s) ≡ check (mended s)
  right = omega (arith, there 0, there 1, same_check)

  alone : CheckAlone s (mended s)
  alone = record { as_long = as_long; elsewhere = elsewhere; check_there = right }

  same : Bytes s → stored s ≡ check s → mended s ≡ s
  same b e =
      let small = b check_at in
      let low : check s % 256 ≡ byte s check_at = omega arith in
      let high : check s / 256 ≡ byte s (check_at + 1) = omega arith in
      new_is ∙ ap₂ (λ (x y : ℕ). start ++ x ∷ y ∷ rest) low high ∙ sym old_is

  -- the copy, and its check over it
  put_both : (o t c : List ℕ) → t ≡ s → c ≡ spelling (check s)
      → put_mid check_at (block_size - check_at) (t ++ drop (length s) o) c ≡ front o (mended s)
  unfolding mended
  put_both o t c e f =
      let k : List ℕ = spelling (check s) in
      let later : List ℕ = drop (length s) o in
      let grouped : start ++ (k ++ (rest ++ later)) ≡ ((start ++ k) ++ rest) ++ later = simp append_assoc in
      ap₂ (λ (x y : List ℕ). put_mid check_at (block_size - check_at) (x ++ later) y) e f
      ∙ ap (λ (x : List ℕ). take check_at (s ++ later) ++ (k ++ x)) (drop-drop 2 check_at (s ++ later))
      ∙ ap₂ (λ (x y : List ℕ). x ++ (k ++ y)) (take-append-le check_at s later (omega (arith, long))) (drop-append-le block_size s later long)
      ∙ grouped
      ∙ ap (λ (n : ℕ). mended s ++ drop n o) (sym as_long)

-- WHAT WAS WRITTEN

pub mended_by : (s o t c : List ℕ) → is_whole (length s) ≡ true → length s ≤ length o → t ≡ s → c ≡ spelling (check s)
    → Mends s o (Ok (length s)) (put_mid check_at (block_size - check_at) (t ++ drop (length s) o) c)
mended_by s o t c w l e f = rw (put_both s w o t c e f) (mends w (le-leb _ _ l))

at_start : (s o : List ℕ) (w : Writing) (n : ℕ) (o' : List ℕ) → w ≡ Ok n → Mends s o w o' → (is_whole (length s) ≡ true) × (take n o' ≡ mended s)
at_start s o w n o' e (broken h) = clash (cc)
at_start s o w n o' e (short h k) = clash (cc)
at_start s o w n o' e (mends h k) =
    let long : length s ≡ n = cc in
    (h, take_at (mended s) (drop (length (mended s)) o) n (as_long s h ∙ long))

pub mended_alone : MendedAlone
mended_alone s o n o' m = let (w, e) = at_start s o (Ok n) n o' refl m in rw e (alone s w)

pub mended_same : MendedSame
mended_same s o n o' b c m = let (w, e) = at_start s o (Ok n) n o' refl m in e ∙ same s w b c

-- block 0 of a file whose check is right
first_checked : (f : List ℕ) → stored f ≡ check f → check (block_at f 0) ≡ stored (block_at f 0)
first_checked f e =
    let low : byte (block_at f 0) check_at ≡ byte f check_at = in_first check_at (omega arith) in
    let high : byte (block_at f 0) (check_at + 1) ≡ byte f (check_at + 1) = in_first (check_at + 1) (omega arith) in
    let c : check (block_at f 0) ≡ check f = check_same (block_at f 0) f (λ i l. in_first i (omega arith)) in
    omega arith
  where
    in_first : (i : ℕ) → i < block_size → byte (block_at f 0) i ≡ byte f i
    in_first i l = get_or-take block_size f i 0 l

-- a form that is refused is refused by the reader
form_first : (s : List ℕ) (r : Refusal) → form_test s ≡ Err r → verdict s 0 0 ≡ Err r
unfolding verdict
form_first s r e = rw e

pub mended_passes : MendedPasses
unfolding seen
mended_passes s o n o' m t =
    let f : List ℕ = take n o' in
    let told = (block_told f 0 0 Check 0).0 (form_first f (Block Check 0) t) in
    let wrong = (flaw_told (block_at f 0) 0 (block_before f 0) Check).0 told.flawed in
    eqb-false (check (block_at f 0)) (stored (block_at f 0)) wrong (first_checked f (mended_alone s o n o' m).check_there)

pub one_mending : OneMending
one_mending s o w₁ w₂ o₁ o₂ (broken h) (broken k) = (refl, refl)
one_mending s o w₁ w₂ o₁ o₂ (broken h) (short k l) = let z = sym h ∙ k in clash (cc)
one_mending s o w₁ w₂ o₁ o₂ (broken h) (mends k l) = let z = sym h ∙ k in clash (cc)
one_mending s o w₁ w₂ o₁ o₂ (short h i) (broken k) = let z = sym h ∙ k in clash (cc)
one_mending s o w₁ w₂ o₁ o₂ (short h i) (short k l) = (refl, refl)
one_mending s o w₁ w₂ o₁ o₂ (short h i) (mends k l) = let z = sym i ∙ l in clash (cc)
one_mending s o w₁ w₂ o₁ o₂ (mends h i) (broken k) = let z = sym h ∙ k in clash (cc)
one_mending s o w₁ w₂ o₁ o₂ (mends h i) (short k l) = let z = sym i ∙ l in clash (cc)
one_mending s o w₁ w₂ o₁ o₂ (mends h i) (mends k l) = (refl, refl)
