-- What the stores of the writer make: one block, and block after block. Assumes nothing.
use mathlib.Core.Path.{◌≡◌, refl, sym, ap, ap₂, ◌∙◌}
use mathlib.Core.List.{List, [], ◌++◌, append_assoc, append-nil}
use Prim.Native.Nat.{ℕ, zero, suc, ◌+◌, ◌*◌, ◌-◌, ◌≤◌, min}
use native.Mathlib.Numerals.{add-one}
use native.Mathlib.Decide.{dec_le}
use native.Mathlib.Omega.{arith}
use lib.ListN.{length, take, drop, replicate, length-append, length-drop, replicate-append-replicate, drop_of_length-le, get_or-append}
use lib.Seq.{take_all, take_at, drop_at, drop-drop}
use Rattle.std.proofs.lemmas.List.{drop-replicate, nil_from_length}
use borrow.Rule.Slice.PartMut.{put_mid}
use Rattle.block.specs.Limits.{block_size, payload_at, check_at, room}
use Rattle.block.specs.Block.{check}
use Rattle.writer.specs.Writing.{blocks_for}
use Rattle.writer.specs.Layout.{spelling, header, body, block_of, piece, run_of, all_of}
use Rattle.writer.proofs.Blocks.{check_same, length_body, length_block}
use Rattle.writer.proofs.Files.{piece_short}

-- ONE BLOCK

-- a slice's last part overwritten
put_last : (at : ℕ) (l s : List ℕ) → put_mid at (length l - at) l s ≡ take at l ++ s
put_last at l s =
    let short : length (drop at l) ≤ length l - at = omega (arith, length-drop at l) in
    let none : drop (length l - at) (drop at l) ≡ [] = drop_of_length-le (drop at l) short in
    ap (λ (x : List ℕ). take at l ++ (s ++ x)) none ∙ ap (λ (x : List ℕ). take at l ++ x) (append-nil s)

-- zeros after n of them
tail : (n : ℕ) → n ≤ room → drop (payload_at + n - payload_at) (replicate {A = ℕ} (room + 2) 0) ≡ replicate (room - n) 0 ++ replicate 2 0
tail n h =
    let e : room + 2 - (payload_at + n - payload_at) ≡ room - n + 2 = omega arith in
    rw (drop-replicate {X = ℕ} (payload_at + n - payload_at) (room + 2) 0, e) (sym (replicate-append-replicate (room - n) 2 0))

-- the check's own bytes are not in it
checked : (q k : ℕ) (p : List ℕ) → length p ≤ room → check (body q k p ++ replicate 2 0) ≡ check (body q k p)
checked q k p h =
    check_same (body q k p ++ replicate 2 0) (body q k p)
    (λ i l. get_or-append (body q k p) (replicate 2 0) 0 i (omega (arith, length_body q k p h)))

-- the header and the payload over zeros, and the check at the end
module _ (q k : ℕ) (p o h p' : List ℕ) (e : o ≡ replicate block_size 0) (f : h ≡ header q k (length p)) (g : p' ≡ p) (l : length p ≤ room) where
  abbrev filled : List ℕ
  filled = put_mid payload_at (payload_at + length p - payload_at) (h ++ drop payload_at o) p'

  filled_is : filled ≡ body q k p ++ replicate 2 0
  unfolding body
  filled_is =
      let head = header q k (length p) in
      let over : h ++ drop payload_at o ≡ head ++ replicate (room + 2) 0 = rw (e, f) in
      ap₂ (λ (x y : List ℕ). put_mid payload_at (payload_at + length p - payload_at) x y) over g
      ∙ ap (λ (x : List ℕ). head ++ (p ++ x)) (tail (length p) l)
      ∙ simp append_assoc

  pub written : (n : ℕ) (s : List ℕ) → n ≡ check filled → s ≡ spelling n → put_mid check_at (length filled - check_at) filled s ≡ block_of q k p
  unfolding block_of
  written n s c d =
      let m : n ≡ check (body q k p) = c ∙ ap check filled_is ∙ checked q k p l in
      put_last check_at filled s
      ∙ ap (λ (x : List ℕ). take check_at x ++ s) filled_is
      ∙ ap (λ (x : List ℕ). x ++ s) (take_at (body q k p) (replicate 2 0) check_at (length_body q k p l))
      ∙ ap (λ (x : List ℕ). body q k p ++ x) (d ∙ ap spelling m)

-- A PAYLOAD'S PIECES

-- a chunk that comes off is the piece, and leaves what is behind it
chunk_is : (r x y : List ℕ) → r ≡ x ++ y → length x ≡ min room (length r) → (x ≡ take room r) × (y ≡ drop room r)
chunk_is r x y e f =
    elim (dec_le room (length r)) [
      | yes l ↦ (rw e (sym (take_at x y room (omega arith))), rw e (sym (drop_at x y room (omega arith))))
      | no l ↦
          let n : length r ≡ length x + length y = ap length e ∙ length-append x y in
          let none : y ≡ [] = nil_from_length y (omega arith) in
          let all : x ≡ r = sym (e ∙ ap (λ (z : List ℕ). x ++ z) none ∙ append-nil x) in
          (all ∙ sym (take_all room r (omega arith)), none ∙ sym (drop_of_length-le r {i = room} (omega arith)))
    ]

pub piece_next : (p r x y : List ℕ) (k : ℕ) → r ≡ drop (room * k) p → r ≡ x ++ y → length x ≡ min room (length r)
    → (x ≡ piece p k) × (y ≡ drop (room * (k + 1)) p)
piece_next p r x y k d e f =
    let (is, rest) = chunk_is r x y e f in
    let at : room * k + room ≡ room * (k + 1) = omega arith in
    (is ∙ ap (take room) d, rest ∙ ap (drop room) d ∙ drop-drop room (room * k) p ∙ ap (λ (i : ℕ). drop i p) at)

-- BLOCK AFTER BLOCK

module _ (q n : ℕ) (p : List ℕ) where
  pub run_none : run_of q n p 0 ≡ []
  unfolding run_of
  run_none = refl

  run_more : (k : ℕ) → run_of q n p k ++ block_of q (n + k) (piece p k) ≡ run_of q n p (k + 1)
  unfolding run_of
  run_more k = sym (ap (run_of q n p) (add-one k))

  pub length_run : (k : ℕ) → length (run_of q n p k) ≡ block_size * k
  unfolding run_of
  length_run zero = refl
  length_run (suc k) = simp length-append (omega (arith, length_run k, length_block q (n + k) (piece p k) (piece_short p k)))

  -- one block more, over what stands there
  pub run_put : (o₀ o b : List ℕ) (k : ℕ) → o ≡ run_of q n p k ++ drop (block_size * k) o₀ → b ≡ block_of q (n + k) (piece p k)
      → put_mid (block_size * k) (block_size * k + block_size - block_size * k) o b ≡ run_of q n p (k + 1) ++ drop (block_size * (k + 1)) o₀
  run_put o₀ o b k e f =
      let at = block_size * k in
      let r = run_of q n p k in
      let m : at + block_size - at ≡ block_size = omega arith in
      let j : at + block_size ≡ block_size * (k + 1) = omega arith in
      let front : take at o ≡ r = ap (take at) e ∙ take_at r (drop at o₀) at (length_run k) in
      let back : drop block_size (drop at o) ≡ drop (block_size * (k + 1)) o₀ =
      ap (λ (l : List ℕ). drop block_size (drop at l)) e
      ∙ ap (drop block_size) (drop_at r (drop at o₀) at (length_run k))
      ∙ drop-drop block_size at o₀
      ∙ ap (λ (i : ℕ). drop i o₀) j in
      ap (λ (i : ℕ). take at o ++ (b ++ drop i (drop at o))) m
      ∙ ap (λ (l : List ℕ). l ++ (b ++ drop block_size (drop at o))) front
      ∙ ap (λ (l : List ℕ). r ++ (b ++ l)) back
      ∙ sym (append_assoc r b (drop (block_size * (k + 1)) o₀))
      ∙ ap (λ (l : List ℕ). l ++ drop (block_size * (k + 1)) o₀) (ap (λ (l : List ℕ). r ++ l) f ∙ run_more k)

  -- and no more
  pub run_full : (o₀ o : List ℕ) (k : ℕ) → o ≡ run_of q n p k ++ drop (block_size * k) o₀ → k ≡ blocks_for (length p)
      → length o₀ ≡ block_size * blocks_for (length p) → o ≡ all_of q n p
  run_full o₀ o k e f l =
      let short : length o₀ ≤ block_size * k = omega arith in
      let none : drop (block_size * k) o₀ ≡ [] = drop_of_length-le o₀ short in
      e ∙ ap (λ (z : List ℕ). run_of q n p k ++ z) none ∙ append-nil (run_of q n p k) ∙ ap (run_of q n p) f
