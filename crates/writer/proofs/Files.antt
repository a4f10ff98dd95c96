-- A file that is laid out block after block is one that the reader takes, and holds what was laid out. Assumes nothing.
use mathlib.Core.Path.{◌≡◌, refl, sym, ap, ◌∙◌, subst}
use mathlib.Core.Bool.{Bool, true, false, cond}
use mathlib.Core.List.{List, [], ◌++◌, append_assoc, append-nil}
use mathlib.Core.Logic.{◌⊎◌, inl, inr}
use Prim.Native.Nat.{ℕ, zero, suc, ◌+◌, ◌*◌, ◌≤◌, ◌<◌}
use native.Mathlib.Numerals.{add-one}
use native.Mathlib.Omega.{arith}
use borrow.Author.Count.{below_more}
use lib.Dec.{eqb}
use lib.ListN.{length, take, drop, get_or, length-append, length-take, length-drop, get_or-append}
use lib.Seq.{take_all, take-add, take-append-le, drop-append-le, drop_at}
use Rattle.block.specs.Limits.{block_size, payload_at, room, setup_kind, row_kind, event_kind, setup_size}
use Rattle.block.specs.Block.{kind, used, share, GoodBlock}
use Rattle.house.specs.Limits.{most_rows, most_events}
use Rattle.house.specs.File.{block_at, blocks, block_before, joined, rows_of, events_of, source_of, setup, contents_of, source_byte}
use Rattle.house.specs.declared.answer.Contents.{Contents}
use Rattle.house.specs.declared.answer.Source.{Source}
use Rattle.house.specs.declared.answer.Source.TheVariants.{Rows, Standard}
use Rattle.house.proofs.Files.{joined_none, joined_more}
use Rattle.writer.specs.Writing.{blocks_for, needed, Spelt, IsFile}
use Rattle.writer.specs.Layout.{block_of, piece, run_of, all_of, setup_of, file_of}
use Rattle.writer.specs.Laws.{Counted}
use Rattle.writer.proofs.Blocks.{length_block, kind_is, used_is, payload_is, payload_byte, spelt_is, good_is}

-- BLOCKS BEHIND ONE ANOTHER

module _ (f b : List ℕ) (k : ℕ) (long : length f ≡ block_size * k) where
  -- the blocks that were there
  at_old : (j : ℕ) → j < k → block_at (f ++ b) j ≡ block_at f j
  at_old j l =
      let m : block_size * j ≤ length f = omega arith in
      let n : block_size ≤ length (drop (block_size * j) f) = rw (length-drop (block_size * j) f) (omega arith) in
      ap (take block_size) (drop-append-le (block_size * j) f b m) ∙ take-append-le block_size (drop (block_size * j) f) b n

  -- and the one behind them
  at_new : length b ≡ block_size → block_at (f ++ b) k ≡ b
  at_new n = ap (take block_size) (drop_at f b (block_size * k) long) ∙ take_all block_size b (omega arith)

  before_old : (j : ℕ) → j ≤ k → block_before (f ++ b) j ≡ block_before f j
  before_old zero l = refl
  before_old (suc j) l = at_old j (omega arith)

  joined_old : (q j : ℕ) → j ≤ k → joined q (f ++ b) j ≡ joined q f j
  joined_old q zero l = joined_none q (f ++ b) ∙ sym (joined_none q f)
  joined_old q (suc j) l =
      let r : joined q (f ++ b) j ≡ joined q f j = joined_old q j (omega arith) in
      let e : block_at (f ++ b) j ≡ block_at f j = at_old j (omega arith) in
      let m : joined q (f ++ b) j ++ share q (block_at (f ++ b) j) ≡ joined q f j ++ share q (block_at f j) = rw (r, e) in
      ap (joined q (f ++ b)) (sym (add-one j))
      ∙ joined_more q (f ++ b) j
      ∙ m
      ∙ sym (joined_more q f j)
      ∙ ap (joined q f) (add-one j)

-- k good blocks; of kind q they hold the list H q; and the last has this kind and used count
pub record Grown (f : List ℕ) (k : ℕ) (H : ℕ → List ℕ) (last_kind last_used : ℕ) : Type 0 where
  pub long : length f ≡ block_size * k
  pub good : (j : ℕ) → j < k → GoodBlock (block_at f j) j (block_before f j)
  pub spelt : (j : ℕ) → j < k → Spelt (block_at f j)
  pub held : (q : ℕ) → joined q f k ≡ H q
  pub kind_last : kind (block_before f k) ≡ last_kind
  pub used_last : used (block_before f k) ≡ last_used

-- what a payload of kind x gives to kind q
abbrev to : ℕ → ℕ → List ℕ → List ℕ
to q x p = cond (eqb x q) p []

share_is : (q x k : ℕ) (p : List ℕ) → length p ≤ room → share q (block_of x k p) ≡ to q x p
share_is q x k p h = rw (kind_is x k p h, payload_is x k p h)

-- one good block more
grow : {f : List ℕ} {k : ℕ} {H : ℕ → List ℕ} {y u : ℕ} (x : ℕ) (p : List ℕ) → length p ≤ room → Grown f k H y u
    → GoodBlock (block_of x k p) k (block_before f k) → Grown (f ++ block_of x k p) (k + 1) (λ q. H q ++ to q x p) x (length p)
grow {f} {k} {H} {y} {u} x p h g new =
    let b = block_of x k p in
    let n : length b ≡ block_size = length_block x k p h in
    let here : block_at (f ++ b) k ≡ b = at_new f b k g.long n in
    record {
      long = simp length-append (omega (arith, g.long));
      good = below_more (λ (j : ℕ). GoodBlock (block_at (f ++ b) j) j (block_before (f ++ b) j)) k
          (λ j m. rw (at_old f b k g.long j m, before_old f b k g.long j (omega arith)) (g.good j m))
          (rw (here, before_old f b k g.long k (omega arith)) new);
      spelt = below_more (λ (j : ℕ). Spelt (block_at (f ++ b) j)) k
          (λ j m. rw (at_old f b k g.long j m) (g.spelt j m))
          (rw here (spelt_is x k p h));
      held = λ q. joined_more q (f ++ b) k ∙ rw (joined_old f b k g.long q k (omega arith), here, g.held q, share_is q x k p h);
      kind_last = ap (λ (j : ℕ). kind (block_before (f ++ b) j)) (add-one k) ∙ ap kind here ∙ kind_is x k p h;
      used_last = ap (λ (j : ℕ). used (block_before (f ++ b) j)) (add-one k) ∙ ap used here ∙ used_is x k p h;
    }

-- the same, told otherwise
same_grown : {f g : List ℕ} {k j : ℕ} {H G : ℕ → List ℕ} {y u : ℕ} → Grown f k H y u → f ≡ g → k ≡ j → ((q : ℕ) → H q ≡ G q) → Grown g j G y u
same_grown {f} {g} {k} {j} {H} {G} {y} {u} a e d h =
    let b : Grown g j H y u = subst (λ (i : ℕ). Grown g i H y u) d (subst (λ (z : List ℕ). Grown z k H y u) e a) in
    record {
      long = b.long;
      good = b.good;
      spelt = b.spelt;
      held = λ q. b.held q ∙ h q;
      kind_last = b.kind_last;
      used_last = b.used_last;
    }

-- ALL BLOCKS OF ONE KIND

-- a piece is full while more is left, and never empty
module _ (p : List ℕ) (j : ℕ) where
  pub piece_short : length (piece p j) ≤ room
  piece_short = rw (length-take room (drop (room * j) p)) (omega arith)

  pub piece_full : room * (j + 1) ≤ length p → length (piece p j) ≡ room
  piece_full l = length-take room (drop (room * j) p) ∙ omega (arith, length-drop (room * j) p)

  pub piece_some : room * j < length p → 1 ≤ length (piece p j)
  piece_some l = rw (length-take room (drop (room * j) p), length-drop (room * j) p) (omega arith)

-- the last of j blocks of kind x behind one of kind y
abbrev kind_after : ℕ → ℕ → ℕ → ℕ
kind_after y x zero = y
kind_after y x (suc j) = x

abbrev used_after : ℕ → List ℕ → ℕ → ℕ
used_after u p zero = u
used_after u p (suc j) = length (piece p j)

none : (t : Bool) → ◌≡◌ {A = List ℕ} (cond t [] []) []
none true = refl
none false = refl

-- what j pieces give, one more gives
more : (t : Bool) (p : List ℕ) (j : ℕ) → cond t (take (room * (j + 1)) p) [] ≡ cond t (take (room * j) p) [] ++ cond t (piece p j) []
more true p j = let e : room * (j + 1) ≡ room * j + room = omega arith in ap (λ (n : ℕ). take n p) e ∙ take-add (room * j) room p
more false p j = refl

module _ {f : List ℕ} {k : ℕ} {H : ℕ → List ℕ} {y u : ℕ} (x : ℕ) (p : List ℕ) (g : Grown f k H y u)
    (first : 0 < k) (below : y < x) (is : (x ≡ row_kind) ⊎ (x ≡ event_kind)) where
  -- block j of its kind may follow the one before
  orders : (j : ℕ) → kind_after y x j ≤ x
  orders zero = omega arith
  orders (suc j) = omega arith

  fills : (j : ℕ) → room * j < length p → x ≡ kind_after y x j → used_after u p j ≡ room
  fills zero l e = absurd (omega arith)
  fills (suc j) l e = piece_full p j (omega arith)

  pub grown : (j : ℕ) → j ≤ blocks_for (length p)
      → Grown (f ++ run_of x k p j) (k + j) (λ q. H q ++ to q x (take (room * j) p)) (kind_after y x j) (used_after u p j)
  unfolding run_of
  grown zero l = same_grown g (sym (append-nil f)) (omega arith) (λ q. sym (ap (λ (z : List ℕ). H q ++ z) (none (eqb x q)) ∙ append-nil (H q)))
  grown (suc j) l =
      let r = grown j (omega arith) in
      let m : room * j < length p = omega arith in
      let n : 0 < k + j = omega arith in
      let b : GoodBlock (block_of x (k + j) (piece p j)) (k + j) (block_before (f ++ run_of x k p j) (k + j)) =
      good_is x (k + j) (piece p j) (piece_short p j) (block_before (f ++ run_of x k p j) (k + j))
      (λ z. absurd (omega arith)) (λ z. is) (rw r.kind_last (orders j)) (λ e. r.used_last ∙ fills j m (e ∙ r.kind_last))
      (λ z. absurd (omega arith)) (λ z. (piece_some p j m, piece_short p j)) (λ z. absurd (omega arith)) in
      let e : j + 1 ≡ suc j = omega arith in
      same_grown (grow x (piece p j) (piece_short p j) r b)
      (append_assoc f (run_of x k p j) (block_of x (k + j) (piece p j)))
      (omega arith)
      (λ q.
      append_assoc (H q) (to q x (take (room * j) p)) (to q x (piece p j))
      ∙ ap (λ (z : List ℕ). H q ++ z) (sym (more (eqb x q) p j) ∙ ap (λ (i : ℕ). to q x (take (room * i) p)) e))

-- THE FILE

-- contents with equal figures are equal
pub same_contents : (a b : Contents) → a.states ≡ b.states → a.inputs ≡ b.inputs → a.outputs ≡ b.outputs → a.waiting ≡ b.waiting
    → a.losses ≡ b.losses → a.source ≡ b.source → a.rows ≡ b.rows → a.events ≡ b.events → a ≡ b
same_contents a b s i o w l x r e =
    λ j. record { states = s j; inputs = i j; outputs = o j; waiting = w j; losses = l j; source = x j; rows = r j; events = e j }

source_back : (x : Source) → source_of (source_byte x) ≡ x
source_back Rows = refl
source_back Standard = refl

source_small : (x : Source) → source_byte x ≤ 1
source_small Rows = omega arith
source_small Standard = omega arith

-- n bytes fill their blocks
all_pieces : (p : List ℕ) → take (room * blocks_for (length p)) p ≡ p
all_pieces p = take_all (room * blocks_for (length p)) p (omega arith)

module _ (c : Contents) (rows trace : List ℕ) where
  abbrev setup_given : ℕ → List ℕ
  setup_given q = to q setup_kind (setup_of c)

  -- block 0
  start : Grown (block_of setup_kind 0 (setup_of c)) 1 setup_given setup_kind setup_size
  start =
      let nothing : Grown [] 0 (λ q. []) 0 0 =
      record {
        long = refl;
        good = λ j l. absurd (omega arith);
        spelt = λ j l. absurd (omega arith);
        held = λ q. joined_none q [];
        kind_last = refl;
        used_last = refl;
      } in
      let b : GoodBlock (block_of setup_kind 0 (setup_of c)) 0 [] =
      good_is setup_kind 0 (setup_of c) (omega arith) [] (λ z. refl) (λ z. absurd (omega arith)) (omega arith) (λ z. absurd (omega arith))
      (λ z. refl) (λ z. absurd (omega arith)) (λ z. source_small c.source) in
      grow setup_kind (setup_of c) (omega arith) nothing b

  abbrev row_blocks : ℕ
  row_blocks = blocks_for (length rows)

  abbrev event_blocks : ℕ
  event_blocks = blocks_for (length trace)

  last_below : (j : ℕ) → kind_after setup_kind row_kind j < event_kind
  last_below zero = omega arith
  last_below (suc j) = omega arith

  -- the rows behind it
  with_rows : Grown (block_of setup_kind 0 (setup_of c) ++ all_of row_kind 1 rows) (1 + row_blocks) (λ q. setup_given q ++ to q row_kind rows)
      (kind_after setup_kind row_kind row_blocks) (used_after setup_size rows row_blocks)
  with_rows =
      same_grown (grown row_kind rows start (omega arith) (omega arith) (inl refl) row_blocks (omega arith)) refl refl
      (λ q. ap (λ (z : List ℕ). setup_given q ++ to q row_kind z) (all_pieces rows))

  -- and the events behind them
  pub whole_file : Grown (file_of c rows trace) (1 + row_blocks + event_blocks) (λ q. (setup_given q ++ to q row_kind rows) ++ to q event_kind trace)
      (kind_after (kind_after setup_kind row_kind row_blocks) event_kind event_blocks) (used_after (used_after setup_size rows row_blocks) trace event_blocks)
  unfolding file_of
  whole_file =
      same_grown (grown event_kind trace with_rows (omega arith) (last_below row_blocks) (inr refl) event_blocks (omega arith)) refl refl
      (λ q. ap (λ (z : List ℕ). (setup_given q ++ to q row_kind rows) ++ to q event_kind z) (all_pieces trace))

  abbrev f : List ℕ
  f = file_of c rows trace

  blocks_are : blocks f ≡ 1 + row_blocks + event_blocks
  blocks_are = omega (arith, whole_file.long)

  held_by : (q : ℕ) → joined q f (blocks f) ≡ (setup_given q ++ to q row_kind rows) ++ to q event_kind trace
  held_by q = ap (joined q f) blocks_are ∙ whole_file.held q

  rows_are : rows_of f ≡ rows
  rows_are = held_by row_kind ∙ append-nil rows

  events_are : events_of f ≡ trace
  events_are = held_by event_kind

  setup_are : (i : ℕ) → i < setup_size → setup f i ≡ get_or (setup_of c) i 0
  unfolding file_of
  setup_are i l =
      let b : List ℕ = block_of setup_kind 0 (setup_of c) in
      let n : length b ≡ block_size = length_block setup_kind 0 (setup_of c) (omega arith) in
      ap (λ (z : List ℕ). get_or z (payload_at + i) 0) (append_assoc b (all_of row_kind 1 rows) (all_of event_kind (1 + row_blocks) trace))
      ∙ get_or-append b (all_of row_kind 1 rows ++ all_of event_kind (1 + row_blocks) trace) 0 (payload_at + i) (omega arith)
      ∙ payload_byte setup_kind 0 (setup_of c) (omega arith) i (omega arith)

  pub long_enough : Counted c rows trace → length f ≡ needed c
  long_enough n =
      whole_file.long
      ∙ ap (λ (k : ℕ). block_size * (1 + blocks_for k + event_blocks)) (sym n.row_count)
      ∙ ap (λ (k : ℕ). block_size * (1 + blocks_for c.rows + blocks_for k)) (sym n.event_count)

  pub laid : Counted c rows trace → length rows ≤ most_rows → length trace ≤ most_events → IsFile f c rows trace
  unfolding contents_of
  laid n l m =
      record {
        form = record {
          counted = (omega (arith, blocks_are), omega (arith, blocks_are));
          whole = whole_file.long ∙ ap (λ (k : ℕ). block_size * k) (sym blocks_are);
          good = λ k i. whole_file.good k (omega (arith, blocks_are));
        };
        spelt = λ k i. whole_file.spelt k (omega (arith, blocks_are));
        contents = same_contents (contents_of f) c
            (setup_are 0 (omega arith)) (setup_are 1 (omega arith)) (setup_are 2 (omega arith)) (setup_are 3 (omega arith)) (setup_are 4 (omega arith))
            (ap source_of (setup_are 5 (omega arith)) ∙ source_back c.source)
            (ap length rows_are ∙ sym n.row_count) (ap length events_are ∙ sym n.event_count);
        rows_held = rows_are;
        events_held = events_are;
      }
