-- Files that hold the same are the same: block after block, the kind and the payload are settled by what is still to be held.
-- Assumes nothing.
use mathlib.Core.Path.{◌≡◌, refl, sym, ap, ap₂, ◌∙◌}
use mathlib.Core.List.{List, [], ◌++◌, append_assoc, append-nil}
use mathlib.Core.Logic.{⊎_elim}
use Prim.Native.Nat.{ℕ, zero, suc, ◌+◌, ◌*◌, ◌-◌, ◌≤◌, ◌<◌, min}
use native.Mathlib.Numerals.{add-one}
use native.Mathlib.Nat.{add-zero}
use native.Mathlib.Decide.{dec_le, ℕ_discrete}
use native.Mathlib.Omega.{arith}
use borrow.Author.Count.{below_more}
use Rattle.std.proofs.lemmas.List.{append_cancel_left}
use lib.ListN.{length, take, drop, get_or, length-append, length-take, length-drop}
use lib.Seq.{take_all, take_at, take-add, get_or-take, get_or-drop, ext_get_or}
use Rattle.block.specs.Limits.{block_size, payload_at, room, row_kind, event_kind, setup_size}
use Rattle.block.specs.Block.{byte, kind, used, payload, share, GoodBlock}
use Rattle.block.proofs.Blocks.{share_own, share_none}
use Rattle.house.specs.File.{block_at, blocks, block_before, joined, GoodForm, source_of, setup, contents_of, source_byte}
use Rattle.house.specs.declared.answer.Contents.{Contents}
use Rattle.house.proofs.Files.{joined_none, joined_more}
use Rattle.writer.specs.Writing.{Spelt, IsFile}
use Rattle.writer.specs.Layout.{block_of}
use Rattle.writer.specs.Laws.{OneFile}
use Rattle.writer.proofs.Blocks.{few_used, payload_long, only_block}

-- WHAT IS STILL TO BE HELD

-- what the m blocks from block k on give to kind q
unfoldable tail : ℕ → List ℕ → ℕ → ℕ → List ℕ
tail q f k zero = []
tail q f k (suc m) = share q (block_at f k) ++ tail q f (suc k) m

tail_is : (q : ℕ) (f : List ℕ) (k m : ℕ) → joined q f (k + m) ≡ joined q f k ++ tail q f k m
unfolding tail
tail_is q f k zero = rw (add-zero, append-nil)
tail_is q f k (suc m) =
    let e : k + suc m ≡ suc k + m = omega arith in
    ap (joined q f) e
    ∙ tail_is q f (suc k) m
    ∙ ap (λ (l : List ℕ). l ++ tail q f (suc k) m) (ap (joined q f) (sym (add-one k)) ∙ joined_more q f k)
    ∙ append_assoc (joined q f k) (share q (block_at f k)) (tail q f (suc k) m)

-- a payload of so many bytes, and what follows if it is full
piece_of : (p rest : List ℕ) (u : ℕ) → length p ≡ u → u ≤ room → (u < room → rest ≡ []) → take room (p ++ rest) ≡ p
piece_of p rest u e l h =
    elim (dec_le room u) [
      | yes m ↦ take_at p rest room (omega arith)
      | no m ↦
          let r : rest ≡ [] = h (omega arith) in
          let a : p ++ rest ≡ p = ap (λ (x : List ℕ). p ++ x) r ∙ append-nil p in
          ap (take room) a ∙ take_all room p (omega arith)
    ]

module _ (f : List ℕ) (g : GoodForm f) where
  abbrev n : ℕ
  n = blocks f

  -- each block is a whole one
  long : (k : ℕ) → k < n → length (block_at f k) ≡ block_size
  long k l =
      length-take block_size (drop (block_size * k) f)
      ∙ omega (arith, length-drop (block_size * k) f, g.whole)

  -- behind a block of a higher kind there is nothing for a lower one
  none_left : (q k m : ℕ) → k + m ≤ n → (0 < m → q < kind (block_at f k)) → tail q f k m ≡ []
  unfolding tail
  none_left q k zero l h = refl
  none_left q k (suc m) l h =
      let higher : q < kind (block_at f k) = h (omega arith) in
      let none : share q (block_at f k) ≡ [] = share_none (block_at f k) q (λ e. omega arith) in
      let rest : tail q f (suc k) m ≡ [] = none_left q (suc k) m (omega arith) (λ z. omega (arith, (g.good (suc k) (omega arith)).ordered)) in
      rw (none, rest)

  -- what is settled of block k by what it and the later ones hold
  module _ (k m : ℕ) (l : k + suc m ≡ n) where
    split : (q : ℕ) → kind (block_at f k) ≡ q → tail q f k (suc m) ≡ payload (block_at f k) ++ tail q f (suc k) m
    unfolding tail
    split q e = ap (λ (x : List ℕ). x ++ tail q f (suc k) m) (share_own (block_at f k) q e)

    -- if it is not full, no other of its kind follows
    last_short : (q : ℕ) → kind (block_at f k) ≡ q → used (block_at f k) < room → tail q f (suc k) m ≡ []
    last_short q e u = none_left q (suc k) m (omega arith) (λ z. go (g.good (suc k) (omega arith)))
      where
        go : GoodBlock (block_at f (suc k)) (suc k) (block_at f k) → q < kind (block_at f (suc k))
        go x =
            elim (ℕ_discrete (kind (block_at f (suc k))) (kind (block_at f k))) [
              | yes d ↦ absurd (omega (arith, x.full d))
              | no d ↦ omega (arith, x.ordered)
            ]

    -- it has as much of it as a block takes
    next_is : (q : ℕ) → kind (block_at f k) ≡ q → Spelt (block_at f k) → take room (tail q f k (suc m)) ≡ payload (block_at f k)
    next_is q e s =
        ap (take room) (split q e)
        ∙ piece_of (payload (block_at f k)) (tail q f (suc k) m) (used (block_at f k))
        (payload_long (block_at f k) k (block_before f k) (g.good k (omega arith)) s (long k (omega arith)))
        (few_used (block_at f k) k (block_before f k) (g.good k (omega arith)) s (long k (omega arith)))
        (last_short q e)

    -- and something, if it is not block 0
    next_some : (q : ℕ) → kind (block_at f k) ≡ q → Spelt (block_at f k) → 0 < k → 0 < length (tail q f k (suc m))
    next_some q e s z =
        let p : length (payload (block_at f k)) ≡ used (block_at f k) =
        payload_long (block_at f k) k (block_before f k) (g.good k (omega arith)) s (long k (omega arith)) in
        let u : 1 ≤ used (block_at f k) = ((g.good k (omega arith)).later_used z).0 in
        rw (split q e, length-append) (omega arith)

    -- behind a block of events there are no rows
    no_rows : kind (block_at f k) ≡ event_kind → tail row_kind f k (suc m) ≡ []
    no_rows e = none_left row_kind k (suc m) (omega arith) (λ z. omega arith)

-- TWO FILES

none_empty : (l : List ℕ) → 0 < length l → l ≡ [] → ⊥
none_empty l h e = absurd (omega (arith, ap length e))

byte_back : (x : ℕ) → x ≤ 1 → source_byte (source_of x) ≡ x
byte_back zero l = refl
byte_back (suc zero) l = refl
byte_back (suc (suc x)) l = absurd (omega arith)

source_byte_same : (x y : ℕ) → source_of x ≡ source_of y → x ≤ 1 → y ≤ 1 → x ≡ y
source_byte_same x y e l m = sym (byte_back x l) ∙ ap source_byte e ∙ byte_back y m

-- byte i of the setup stands in block 0
setup_in : (h : List ℕ) (i : ℕ) → i < setup_size → byte (block_at h 0) (payload_at + i) ≡ setup h i
setup_in h i l = get_or-take block_size h (payload_at + i) 0 (omega arith)

module _ (f g : List ℕ) (c : Contents) (rows trace : List ℕ) (a : IsFile f c rows trace) (b : IsFile g c rows trace) where
  abbrev Same : ℕ → Type 0
  Same k = (j : ℕ) → j < k → block_at f j ≡ block_at g j

  joined_same : (q k : ℕ) → Same k → joined q f k ≡ joined q g k
  joined_same q zero h = joined_none q f ∙ sym (joined_none q g)
  joined_same q (suc k) h =
      let r : joined q f k ≡ joined q g k = joined_same q k (λ j l. h j (omega arith)) in
      let e : share q (block_at f k) ≡ share q (block_at g k) = ap (share q) (h k (omega arith)) in
      ap (joined q f) (sym (add-one k))
      ∙ joined_more q f k
      ∙ ap₂ (λ (x y : List ℕ). x ++ y) r e
      ∙ sym (joined_more q g k)
      ∙ ap (joined q g) (add-one k)

  -- so the same is still to be held
  tail_same : (q k x y : ℕ) → joined q f (blocks f) ≡ joined q g (blocks g) → k + x ≡ blocks f → k + y ≡ blocks g → Same k → tail q f k x ≡ tail q g k y
  tail_same q k x y e l m h =
      append_cancel_left (joined q f k) (tail q f k x) (tail q g k y)
      (sym (tail_is q f k x)
      ∙ ap (joined q f) l
      ∙ e
      ∙ ap (joined q g) (sym m)
      ∙ tail_is q g k y
      ∙ ap (λ (z : List ℕ). z ++ tail q g k y) (sym (joined_same q k h)))

  row_tail : (k x y : ℕ) → k + x ≡ blocks f → k + y ≡ blocks g → Same k → tail row_kind f k x ≡ tail row_kind g k y
  row_tail k x y = tail_same row_kind k x y (a.rows_held ∙ sym b.rows_held)

  event_tail : (k x y : ℕ) → k + x ≡ blocks f → k + y ≡ blocks g → Same k → tail event_kind f k x ≡ tail event_kind g k y
  event_tail k x y = tail_same event_kind k x y (a.events_held ∙ sym b.events_held)

  -- a block with the same kind and payload is the same
  block_same : (k : ℕ) → k < blocks f → k < blocks g → kind (block_at f k) ≡ kind (block_at g k) → payload (block_at f k) ≡ payload (block_at g k)
      → block_at f k ≡ block_at g k
  block_same k l m e p =
      only_block (block_at f k) k (block_before f k) (a.form.good k l) (a.spelt k l) (long f a.form k l)
      ∙ ap₂ (λ (x : ℕ) (y : List ℕ). block_of x k y) e p
      ∙ sym (only_block (block_at g k) k (block_before g k) (b.form.good k m) (b.spelt k m) (long g b.form k m))

  -- BLOCK 0

  contents_same : contents_of f ≡ contents_of g
  contents_same = a.contents ∙ sym b.contents

  some_f : 0 < blocks f
  some_f = a.form.counted.0

  some_g : 0 < blocks g
  some_g = b.form.counted.0

  setup_same : (i : ℕ) → i < setup_size → setup f i ≡ setup g i
  unfolding contents_of
  setup_same zero l = ap (λ (x : Contents). x.states) contents_same
  setup_same (suc zero) l = ap (λ (x : Contents). x.inputs) contents_same
  setup_same (suc (suc zero)) l = ap (λ (x : Contents). x.outputs) contents_same
  setup_same (suc (suc (suc zero))) l = ap (λ (x : Contents). x.waiting) contents_same
  setup_same (suc (suc (suc (suc zero)))) l = ap (λ (x : Contents). x.losses) contents_same
  setup_same (suc (suc (suc (suc (suc zero))))) l =
      source_byte_same (setup f 5) (setup g 5) (ap (λ (x : Contents). x.source) contents_same)
      (rw (sym (setup_in f 5 (omega arith))) ((a.form.good 0 some_f).sourced refl))
      (rw (sym (setup_in g 5 (omega arith))) ((b.form.good 0 some_g).sourced refl))
  setup_same (suc (suc (suc (suc (suc (suc i)))))) l = absurd (omega arith)

  payload_setup : (h : List ℕ) (x : IsFile h c rows trace) → 0 < blocks h → (i : ℕ) → i < setup_size → get_or (payload (block_at h 0)) i 0 ≡ setup h i
  payload_setup h x z i l =
      let u : used (block_at h 0) ≡ setup_size = (x.form.good 0 z).first_used refl in
      get_or-take (min (used (block_at h 0)) room) (drop payload_at (block_at h 0)) i 0 (omega arith)
      ∙ get_or-drop payload_at (block_at h 0) i 0
      ∙ setup_in h i l

  payload_six : (h : List ℕ) (x : IsFile h c rows trace) (z : 0 < blocks h) → length (payload (block_at h 0)) ≡ setup_size
  payload_six h x z =
      payload_long (block_at h 0) 0 (block_before h 0) (x.form.good 0 z) (x.spelt 0 z) (long h x.form 0 z) ∙ (x.form.good 0 z).first_used refl

  first_same : block_at f 0 ≡ block_at g 0
  first_same =
      let n = payload_six f a some_f in
      let m = payload_six g b some_g in
      block_same 0 some_f some_g ((a.form.good 0 some_f).first_kind refl ∙ sym ((b.form.good 0 some_g).first_kind refl))
      (ext_get_or 0 (payload (block_at f 0)) (payload (block_at g 0)) (n ∙ sym m)
      (λ i l.
      let s : i < setup_size = omega arith in
      payload_setup f a some_f i s ∙ setup_same i s ∙ sym (payload_setup g b some_g i s)))

  -- THE LATER BLOCKS

  -- where f has a block of kind q behind the same blocks, g has it too
  module _ (k x y : ℕ) (z : 0 < k) (l : k + suc x ≡ blocks f) (h : Same k) where
    same_next : (q : ℕ) → k + suc y ≡ blocks g → tail q f k (suc x) ≡ tail q g k (suc y) → kind (block_at f k) ≡ q → kind (block_at g k) ≡ q
        → block_at f k ≡ block_at g k
    same_next q m t e d =
        block_same k (omega arith) (omega arith) (e ∙ sym d)
        (sym (next_is f a.form k x l q e (a.spelt k (omega arith)))
        ∙ ap (take room) t
        ∙ next_is g b.form k y m q d (b.spelt k (omega arith)))

    next_row : k + suc y ≡ blocks g → kind (block_at f k) ≡ row_kind → block_at f k ≡ block_at g k
    next_row m e =
        let t = row_tail k (suc x) (suc y) l m h in
        ⊎_elim
        (λ d. same_next row_kind m t e d)
        (λ d. absurd (none_empty (tail row_kind f k (suc x)) (next_some f a.form k x l row_kind e (a.spelt k (omega arith)) z)
        (t ∙ no_rows g b.form k y m d)))
        ((b.form.good k (omega arith)).later_kind z)

    next_event : k + suc y ≡ blocks g → kind (block_at f k) ≡ event_kind → block_at f k ≡ block_at g k
    next_event m e =
        let t = row_tail k (suc x) (suc y) l m h in
        ⊎_elim
        (λ d. absurd (none_empty (tail row_kind g k (suc y)) (next_some g b.form k y m row_kind d (b.spelt k (omega arith)) z)
        (sym t ∙ no_rows f a.form k x l e)))
        (λ d. same_next event_kind m (event_tail k (suc x) (suc y) l m h) e d)
        ((b.form.good k (omega arith)).later_kind z)

  -- g does not end before f
  goes_on : (k x y : ℕ) → 0 < k → k + suc x ≡ blocks f → k + y ≡ blocks g → Same k → 0 < y
  unfolding tail
  goes_on k x (suc y) z l m h = omega arith
  goes_on k x zero z l m h =
      ⊎_elim
      (λ e. absurd (none_empty (tail row_kind f k (suc x)) (next_some f a.form k x l row_kind e (a.spelt k (omega arith)) z) (row_tail k (suc x) zero l m h)))
      (λ e. absurd (none_empty (tail event_kind f k (suc x)) (next_some f a.form k x l event_kind e (a.spelt k (omega arith)) z) (event_tail k (suc x) zero l m h)))
      ((a.form.good k (omega arith)).later_kind z)

  next_same : (k x y : ℕ) → 0 < k → k + suc x ≡ blocks f → k + suc y ≡ blocks g → Same k → block_at f k ≡ block_at g k
  next_same k x y z l m h =
      ⊎_elim (next_row k x y z l h m) (next_event k x y z l h m) ((a.form.good k (omega arith)).later_kind z)

  add_same : (k : ℕ) → Same k → block_at f k ≡ block_at g k → Same (suc k)
  add_same k h e j l = below_more (λ (i : ℕ). block_at f i ≡ block_at g i) k h e j (omega arith)

  pub all_same : (k : ℕ) → suc k ≤ blocks f → (suc k ≤ blocks g) × Same (suc k)
  all_same zero l = (some_g, add_same zero (λ j m. absurd (omega arith)) first_same)
  all_same (suc k) l =
      let (m, h) = all_same k (omega arith) in
      let x = blocks f - suc (suc k) in
      let p : suc k + suc x ≡ blocks f = omega arith in
      let q : 0 < blocks g - suc k = goes_on (suc k) x (blocks g - suc k) (omega arith) p (omega arith) h in
      let y = blocks g - suc (suc k) in
      let r : suc k + suc y ≡ blocks g = omega arith in
      (omega arith, add_same (suc k) h (next_same (suc k) x y (omega arith) p r h))

-- equal blocks make equal files
parts_same : (f g : List ℕ) (k : ℕ) → ((j : ℕ) → j < k → block_at f j ≡ block_at g j) → take (block_size * k) f ≡ take (block_size * k) g
parts_same f g zero h = refl
parts_same f g (suc k) h =
    let e : block_size * suc k ≡ block_size * k + block_size = omega arith in
    ap (λ (n : ℕ). take n f) e
    ∙ take-add (block_size * k) block_size f
    ∙ ap₂ (λ (x y : List ℕ). x ++ y) (parts_same f g k (λ j l. h j (omega arith))) (h k (omega arith))
    ∙ sym (take-add (block_size * k) block_size g)
    ∙ ap (λ (n : ℕ). take n g) (sym e)

pub one_file : OneFile
one_file f g c rows trace a b =
    let n = blocks f - 1 in
    let m = blocks g - 1 in
    let p : suc n ≡ blocks f = omega (arith, a.form.counted.0) in
    let q : suc m ≡ blocks g = omega (arith, b.form.counted.0) in
    let (l, h) = all_same f g c rows trace a b n (omega arith) in
    let (r, i) = all_same g f c rows trace b a m (omega arith) in
    let e : blocks f ≡ blocks g = omega arith in
    sym (take_all (block_size * suc n) f (omega (arith, a.form.whole)))
    ∙ parts_same f g (suc n) h
    ∙ take_all (block_size * suc n) g (omega (arith, b.form.whole))
