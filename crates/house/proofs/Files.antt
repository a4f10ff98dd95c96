-- Laws of a file: its blocks, and what the blocks of a kind hold together. Assumes nothing.
use mathlib.Core.Path.{◌≡◌, refl, sym, ap, ◌∙◌}
use mathlib.Core.Bool.{Bool, true, false, cond}
use mathlib.Core.List.{List, [], ◌++◌, append-nil, append_assoc}
use Prim.Native.Nat.{ℕ, zero, suc, ◌+◌, ◌*◌, ◌-◌, ◌≤◌, ◌<◌}
use native.Mathlib.Nat.{add-zero, add-suc}
use native.Mathlib.Numerals.{add-one}
use native.Mathlib.Omega.{arith}
use lib.ListN.{length, take, drop, get_or, length-append, length-drop, length-take, get_or-append}
use lib.Seq.{get_or-append-add, take-append_seam, drop-append_seam, drop-drop}
use lib.Dec.{eqb}
use Rattle.lent.specs.Lent.{front, put, put_at}
use Rattle.lent.proofs.Laws.{put_fits, front_stands, front_more}
use Rattle.block.specs.Limits.{block_size, room}
use Rattle.block.specs.Block.{kind, payload, share}
use Rattle.house.specs.File.{block_at, blocks, block_before, joined}

-- BLOCKS

-- a walk over the blocks of a file that has passed k of them, and has this left to cut into pieces of this size
pub record Walked (s left : List ℕ) (size k : ℕ) : Type 0 where
  pub sized : size ≡ block_size
  pub after : left ≡ drop (block_size * k) s
  pub within : block_size * k ≤ length s

-- block k is the next
pub record Next (s b after : List ℕ) (size k : ℕ) : Type 0 where
  pub here : b ≡ block_at s k
  pub inside : k < blocks s
  pub on : Walked s after size (k + 1)

pub walk_next : {s left b after l l' : List ℕ} {size n k : ℕ} → Walked s left size k
    → (n ≡ size) × ((left ≡ b ++ after) × (length b ≡ size)) × (l ≡ l') → Next s b after n k
walk_next {s} {left} {b} {after} {l} {l'} {size} {n} {k} w step =
    let split : b ++ after ≡ drop (block_size * k) s = sym step.1.0 ∙ w.after in
    let e : length b ≡ block_size = step.1.1 ∙ w.sized in
    let long : block_size * (k + 1) ≤ length s = omega (arith, w.within, e, ap length split, length-append b after, length-drop (block_size * k) s) in
    let more : block_size * (k + 1) ≡ block_size * k + block_size = omega arith in
    record {
      here = sym (take-append_seam b after) ∙ ap (λ (i : ℕ). take i (b ++ after)) e ∙ ap (take block_size) split;
      inside = omega (arith, long);
      on = record {
        sized = step.0 ∙ w.sized;
        after =
            sym (drop-append_seam b after)
            ∙ ap (λ (i : ℕ). drop i (b ++ after)) e
            ∙ ap (drop block_size) split
            ∙ drop-drop block_size (block_size * k) s
            ∙ ap (λ (i : ℕ). drop i s) (sym more);
        within = long;
      };
    }

-- then it is the block before the next
pub before_next : (s b : List ℕ) (k : ℕ) → b ≡ block_at s k → b ≡ block_before s (k + 1)
before_next s b k e = e ∙ ap (block_before s) (sym (add-one k))

-- after the last, all are passed
pub walk_ends : {s left : List ℕ} {size k : ℕ} → Walked s left size k → length left < size → k ≡ blocks s
walk_ends {s} {left} {size} {k} w few = omega (arith, w.sized, w.within, ap length w.after, length-drop (block_size * k) s, few)

-- SHARES

pub share_short : (b : List ℕ) (q : ℕ) → length (share q b) ≤ room
share_short b q = go (eqb (kind b) q)
  where
    go : (t : Bool) → length (cond t (payload b) []) ≤ room
    go true = simp length-take (omega arith)
    go false = omega arith

-- WHAT BLOCKS OF ONE KIND HOLD

module _ (q : ℕ) (s : List ℕ) where
  pub joined_none : joined q s 0 ≡ []
  unfolding joined
  joined_none = refl

  -- one block more
  pub joined_more : (k : ℕ) → joined q s (k + 1) ≡ joined q s k ++ share q (block_at s k)
  unfolding joined
  joined_more k = ap (joined q s) (add-one k)

  pub length_more : (k : ℕ) → length (joined q s (k + 1)) ≡ length (joined q s k) + length (share q (block_at s k))
  length_more k = ap length (joined_more k) ∙ length-append (joined q s k) (share q (block_at s k))

  -- each block gives at most its room
  pub joined_short : (k : ℕ) → length (joined q s k) ≤ room * k
  unfolding joined
  joined_short zero = omega arith
  joined_short (suc k) = simp length-append (omega (arith, joined_short k, share_short (block_at s k) q))

  -- more blocks only add to the end
  rest : (k m : ℕ) → (l : List ℕ) × (joined q s (k + m) ≡ joined q s k ++ l)
  unfolding joined
  rest k zero = ([], rw (add-zero, append-nil))
  rest k (suc m) =
      let (l, e) = rest k m in
      (l ++ share q (block_at s (k + m)), rw (add-suc, e, append_assoc))

  beyond : (k n : ℕ) → k < n → (l : List ℕ) × (joined q s n ≡ (joined q s k ++ share q (block_at s k)) ++ l)
  beyond k n h =
      let (l, e) = rest (k + 1) (n - (k + 1)) in
      let f : k + 1 + (n - (k + 1)) ≡ n = omega arith in
      (l, ap (joined q s) (sym f) ∙ e ∙ ap (λ (x : List ℕ). x ++ l) (joined_more k))

  -- block k's share fits behind those before it
  pub joined_fits : (k n : ℕ) → k < n → length (joined q s k) + length (share q (block_at s k)) ≤ length (joined q s n)
  joined_fits k n h =
      let (l, e) = beyond k n h in
      omega (arith, simp length-append at (ap length e))

  -- and stands there
  pub joined_at : (k n j : ℕ) → k < n → j < length (share q (block_at s k))
      → get_or (joined q s n) (length (joined q s k) + j) 0 ≡ get_or (share q (block_at s k)) j 0
  joined_at k n j h m =
      let (l, e) = beyond k n h in
      let a = joined q s k in
      let b = share q (block_at s k) in
      let i : length a + j < length (a ++ b) = simp length-append (omega arith) in
      ap (λ (x : List ℕ). get_or x (length a + j) 0) e ∙ get_or-append (a ++ b) l 0 (length a + j) i ∙ get_or-append-add a b j 0

-- BUFFERS

-- a part p of the file that is block k's share
module _ (q : ℕ) (s b p : List ℕ) (k : ℕ) (e : b ≡ block_at s k) (f : p ≡ share q b) where
  pub part_share : p ≡ share q (block_at s k)
  part_share = f ∙ ap (share q) e

  pub part_adds : length (joined q s (k + 1)) ≡ length (joined q s k) + length p
  part_adds = omega (arith, length_more q s k, ap length part_share)

  pub part_fits : k < blocks s → length (joined q s k) + length p ≤ length (joined q s (blocks s))
  part_fits h = omega (arith, joined_fits q s k (blocks s) h, ap length part_share)

  -- it is copied behind what was copied before
  pub part_put : (d x y : List ℕ) (at : ℕ) → at ≡ length (joined q s k) → x ≡ front d (joined q s k) → at + length p ≤ length d
      → y ≡ put_at x at p → y ≡ front d (joined q s (k + 1))
  part_put d x y at g h l i =
      i
      ∙ ap (λ (z : List ℕ). put_at z at p) h
      ∙ front_more d (joined q s k) p at g l
      ∙ ap (front d) (ap (λ (z : List ℕ). joined q s k ++ z) part_share ∙ sym (joined_more q s k))

-- what was put at the start is read back from there
pub put_back : (p d g : List ℕ) (n : ℕ) → g ≡ put d p → n ≡ length p → length p ≤ length d → take n g ≡ p
put_back p d g n e f l = rw (e, put_fits d p l, f) (front_stands d p).start
