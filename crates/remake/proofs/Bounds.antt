-- A rebound file beside the old one: both are laid out alike, so they differ where the bounds and the check of block 0 stand, and nowhere
-- else. Assumes nothing.
use mathlib.Core.Path.{◌≡◌, refl, sym, ap, ◌∙◌}
use mathlib.Core.List.{List, [], ◌∷◌, ◌++◌, append_assoc}
use Prim.Native.Nat.{ℕ, zero, suc, ◌+◌, ◌*◌, ◌-◌, ◌/◌, ◌%◌, ◌<◌}
use native.Mathlib.Nat.{mod-eq_of_lt, mul-add-mod_self_left, div-add-mod}
use native.Mathlib.Omega.{arith}
use lib.ListN.{length, take, get_or, replicate}
use lib.Seq.{get_or-take}
use Rattle.model.specs.Table.{Bounded}
use Rattle.block.specs.Limits.{block_size, check_at, room, modulus, setup_kind, row_kind, event_kind, setup_size}
use Rattle.block.specs.Block.{byte, stored, weighed, check}
use Rattle.house.specs.File.{block_at, GoodForm, rows_of, events_of, contents_of, source_byte}
use Rattle.house.specs.Reading.{given}
use Rattle.house.specs.declared.answer.Contents.{Contents}
use Rattle.house.specs.declared.answer.Source.{Source}
use Rattle.writer.specs.Writing.{blocks_for}
use Rattle.writer.specs.Layout.{spelling, header, body, block_of, all_of, setup_of, file_of}
use Rattle.writer.specs.Laws.{Counted}
use Rattle.writer.proofs.Blocks.{length_body, check_same}
use Rattle.writer.proofs.Laws.{long_as_needed}
use Rattle.remake.specs.Remaking.{changed, waiting_at, losses_at, Elsewhere}
use Rattle.remake.specs.Laws.{ReboundAlone, NoLessDoes}
use Rattle.remake.proofs.Made.{Made, rebound_made}

-- TWO BYTES OF A LIST

-- where they do not stand, their values do not matter
pub beside : (p : List ℕ) (x y x' y' : ℕ) (q : List ℕ) (i : ℕ) → (i ≡ length p → ⊥) → (i ≡ length p + 1 → ⊥)
    → get_or (p ++ x ∷ y ∷ q) i 0 ≡ get_or (p ++ x' ∷ y' ∷ q) i 0
beside [] x y x' y' q zero n m = absurd (n refl)
beside [] x y x' y' q (suc zero) n m = absurd (m refl)
beside [] x y x' y' q (suc (suc i)) n m = refl
beside (z ∷ p) x y x' y' q zero n m = refl
beside (z ∷ p) x y x' y' q (suc i) n m = beside p x y x' y' q i (λ e. n (omega arith)) (λ e. m (omega arith))

-- two such pairs, one behind the other
apart : (p q r : List ℕ) (x y x' y' k l k' l' : ℕ) (i : ℕ) → (i ≡ length p → ⊥) → (i ≡ length p + 1 → ⊥)
    → (i ≡ length (p ++ x ∷ y ∷ q) → ⊥) → (i ≡ length (p ++ x ∷ y ∷ q) + 1 → ⊥)
    → get_or ((p ++ x ∷ y ∷ q) ++ k ∷ l ∷ r) i 0 ≡ get_or ((p ++ x' ∷ y' ∷ q) ++ k' ∷ l' ∷ r) i 0
apart p q r x y x' y' k l k' l' i n m a b =
    beside (p ++ x ∷ y ∷ q) k l k' l' r i a b
    ∙ ap (λ (z : List ℕ). get_or z i 0) (append_assoc p (x ∷ y ∷ q) (k' ∷ l' ∷ r))
    ∙ beside p x y x' y' (q ++ k' ∷ l' ∷ r) i n m
    ∙ ap (λ (z : List ℕ). get_or z i 0) (sym (append_assoc p (x' ∷ y' ∷ q) (k' ∷ l' ∷ r)))

-- A FILE AS IT IS LAID OUT

-- block 0 up to its check: what stands before the bounds, the bounds, and what stands behind them
unfoldable before : ℕ → ℕ → ℕ → List ℕ
before states inputs outputs = header setup_kind 0 setup_size ++ (states ∷ inputs ∷ outputs ∷ [])

unfoldable behind : Source → List ℕ
behind source = source_byte source ∷ replicate (room - setup_size) 0

abbrev start : Contents → List ℕ
start c = body setup_kind 0 (setup_of c)

start_is : (c : Contents) → start c ≡ before c.states c.inputs c.outputs ++ c.waiting ∷ c.losses ∷ behind c.source
unfolding body before behind
start_is c = refl

-- then its check, and the other blocks
abbrev others : List ℕ → List ℕ → List ℕ
others rows trace = all_of row_kind 1 rows ++ all_of event_kind (1 + blocks_for (length rows)) trace

file_is : (c : Contents) (rows trace : List ℕ)
    → file_of c rows trace ≡ start c ++ check (start c) % 256 ∷ check (start c) / 256 ∷ others rows trace
unfolding file_of block_of
file_is c rows trace =
    append_assoc (start c ++ spelling (check (start c))) (all_of row_kind 1 rows) (all_of event_kind (1 + blocks_for (length rows)) trace)
    ∙ append_assoc (start c) (spelling (check (start c))) (others rows trace)

long_before : (s i o : ℕ) → length (before s i o) ≡ 9
unfolding before
long_before s i o = refl

module _ (source : Source) (states inputs outputs : ℕ) (rows trace : List ℕ) where
  -- a file with these bounds
  abbrev with : ℕ → ℕ → Contents
  with waiting losses = given source states inputs outputs waiting losses rows trace

  spelt_out : (waiting losses : ℕ)
      → file_of (with waiting losses) rows trace
      ≡ (before states inputs outputs ++ waiting ∷ losses ∷ behind source)
      ++ check (start (with waiting losses)) % 256 ∷ check (start (with waiting losses)) / 256 ∷ others rows trace
  spelt_out waiting losses =
      let k : ℕ = check (start (with waiting losses)) in
      file_is (with waiting losses) rows trace
      ∙ ap (λ (z : List ℕ). z ++ k % 256 ∷ k / 256 ∷ others rows trace) (start_is (with waiting losses))

  long_start : (waiting losses : ℕ) → length (before states inputs outputs ++ waiting ∷ losses ∷ behind source) ≡ check_at
  long_start waiting losses =
      sym (ap length (start_is (with waiting losses))) ∙ length_body setup_kind 0 (setup_of (with waiting losses)) (omega arith)

  -- elsewhere it is one with any other bounds
  same_elsewhere : (waiting losses waiting' losses' i : ℕ) → Elsewhere i
      → byte (file_of (with waiting losses) rows trace) i ≡ byte (file_of (with waiting' losses') rows trace) i
  same_elsewhere waiting losses waiting' losses' i e =
      let n = long_before states inputs outputs in
      let m = long_start waiting losses in
      ap (λ (z : List ℕ). get_or z i 0) (spelt_out waiting losses)
      ∙ apart (before states inputs outputs) (behind source) (others rows trace) waiting losses waiting' losses' _ _ _ _ i
      (λ x. e.not_waiting (omega arith)) (λ x. e.not_losses (omega arith)) (λ x. e.not_check_low (omega arith))
      (λ x. e.not_check_high (omega arith))
      ∙ ap (λ (z : List ℕ). get_or z i 0) (sym (spelt_out waiting' losses'))

-- THE CHECK OF BLOCK 0

-- a file starts with block 0, so its check is told by the file's first bytes
stored_is : (f : List ℕ) → GoodForm f → stored f ≡ check f
stored_is f g =
    let h = g.counted in
    let low : byte (block_at f 0) check_at ≡ byte f check_at = in_first check_at (omega arith) in
    let high : byte (block_at f 0) (check_at + 1) ≡ byte f (check_at + 1) = in_first (check_at + 1) (omega arith) in
    let c : check (block_at f 0) ≡ check f = check_same (block_at f 0) f (λ i l. in_first i (omega arith)) in
    let k : check (block_at f 0) ≡ stored (block_at f 0) = (g.good 0 (omega arith)).checked in
    omega arith
  where
    in_first : (i : ℕ) → i < block_size → byte (block_at f 0) i ≡ byte f i
    in_first i l = get_or-take block_size f i 0 l

-- what the bounds weigh in it
abbrev weight : ℕ → ℕ → ℕ
weight waiting losses = 10 * waiting + 11 * losses

-- so much apart are the sums of two lists that differ in the bounds alone, over bytes that have them
weighed_apart : (a b : List ℕ) (n : ℕ) → ((i : ℕ) → i < 11 + n → (i ≡ waiting_at → ⊥) → (i ≡ losses_at → ⊥) → byte a i ≡ byte b i)
    → weighed a (11 + n) + weight (byte b waiting_at) (byte b losses_at)
    ≡ weighed b (11 + n) + weight (byte a waiting_at) (byte a losses_at)
unfolding weighed
weighed_apart a b zero h =
    omega (
      arith,
      at 0 (omega arith),
      at 1 (omega arith),
      at 2 (omega arith),
      at 3 (omega arith),
      at 4 (omega arith),
      at 5 (omega arith),
      at 6 (omega arith),
      at 7 (omega arith),
      at 8 (omega arith),
    )
  where
    at : (i : ℕ) → i < 9 → byte a i ≡ byte b i
    at i l = h i (omega arith) (λ e. omega arith) (λ e. omega arith)
weighed_apart a b (suc n) h =
    let part = weighed_apart a b n (λ i l x y. h i (omega arith) x y) in
    let same : byte a (11 + n) ≡ byte b (11 + n) = h (11 + n) (omega arith) (λ e. omega arith) (λ e. omega arith) in
    let term : (11 + n + 1) * byte a (11 + n) ≡ (11 + n + 1) * byte b (11 + n) = ap (λ (x : ℕ). (11 + n + 1) * x) same in
    let next : 11 + suc n ≡ suc (11 + n) = omega arith in
    rw next (omega arith)

-- a number's rest by m is the one number below m that is left
rests_same : (m q p a b : ℕ) → m * q + a ≡ m * p + b → a < m → b < m → a ≡ b
rests_same m q p a b e l k =
    sym (mod-eq_of_lt l)
    ∙ sym (mul-add-mod_self_left m q a)
    ∙ ap (λ (n : ℕ). n % m) e
    ∙ mul-add-mod_self_left m p b
    ∙ mod-eq_of_lt k

-- bounds are so small that no others have the same check
bounds_told : (x y waiting losses waiting' losses' : ℕ) → x + weight waiting' losses' ≡ y + weight waiting losses
    → x % modulus ≡ y % modulus → Bounded waiting losses → Bounded waiting' losses' → (waiting ≡ waiting') × (losses ≡ losses')
bounds_told x y waiting losses waiting' losses' e f g h =
    let split : modulus * (x / modulus) + weight waiting' losses' ≡ modulus * (y / modulus) + weight waiting losses
    = omega (arith, div-add-mod x modulus, div-add-mod y modulus) in
    let weights : weight waiting' losses' ≡ weight waiting losses
    = rests_same modulus (x / modulus) (y / modulus) _ _ split (omega arith) (omega arith) in
    let same : losses ≡ losses'
    = rests_same 10 (waiting + losses) (waiting' + losses') losses losses' (omega arith) (omega arith) (omega arith) in
    (omega arith, same)

-- BOTH FILES

module _ (s : List ℕ) (waiting losses : ℕ) (f : List ℕ) (m : Made s waiting losses (events_of s) f) where
  as_long : length f ≡ length s
  unfolding contents_of
  as_long =
      let n : Counted (contents_of s) (rows_of s) (events_of s) = record { row_count = refl; event_count = refl } in
      ap length m.new_is
      ∙ long_as_needed (changed s waiting losses (events_of s)) (rows_of s) (events_of s) (record { row_count = refl; event_count = refl })
      ∙ sym (ap length m.old_is ∙ long_as_needed (contents_of s) (rows_of s) (events_of s) n)

  elsewhere : (i : ℕ) → Elsewhere i → byte f i ≡ byte s i
  unfolding contents_of
  elsewhere i e =
      let c = contents_of s in
      ap (λ (z : List ℕ). get_or z i 0) m.new_is
      ∙ same_elsewhere c.source c.states c.inputs c.outputs (rows_of s) (events_of s)
      waiting losses c.waiting c.losses i e
      ∙ ap (λ (z : List ℕ). get_or z i 0) (sym m.old_is)

  waiting_there : byte f waiting_at ≡ waiting
  unfolding contents_of
  waiting_there = ap (λ (c : Contents). c.waiting) m.new_file.contents

  losses_there : byte f losses_at ≡ losses
  unfolding contents_of
  losses_there = ap (λ (c : Contents). c.losses) m.new_file.contents

  waiting_was : byte s waiting_at ≡ (contents_of s).waiting
  unfolding contents_of
  waiting_was = refl

  losses_were : byte s losses_at ≡ (contents_of s).losses
  unfolding contents_of
  losses_were = refl

  -- the new bounds have another check
  same_check : Bounded (contents_of s).waiting (contents_of s).losses → stored f ≡ stored s → (waiting ≡ (contents_of s).waiting) × (losses ≡ (contents_of s).losses)
  same_check good e =
      let weights = weighed_apart f s (check_at - 11) (λ i l n k. elsewhere i (record {
        not_waiting = n;
        not_losses = k;
        not_check_low = λ x. omega arith;
        not_check_high = λ x. omega arith;
      })) in
      bounds_told (weighed f check_at) (weighed s check_at) waiting losses (contents_of s).waiting (contents_of s).losses
      (rw (waiting_was, losses_were, waiting_there, losses_there) at weights)
      (sym (stored_is f m.new_file.form) ∙ e ∙ stored_is s m.old)
      m.new.bounds good

pub rebound_alone : ReboundAlone
rebound_alone s waiting losses o n o' b r =
    let f : List ℕ = take n o' in
    let m = rebound_made s waiting losses o n o' b r in
    record {
      as_long = as_long s waiting losses f m;
      elsewhere = elsewhere s waiting losses f m;
      waiting_there = waiting_there s waiting losses f m;
      losses_there = losses_there s waiting losses f m;
      check_there = stored_is f m.new_file.form;
    }

pub no_less_does : NoLessDoes
no_less_does s waiting losses o n o' b r =
    let f : List ℕ = take n o' in
    let m = rebound_made s waiting losses o n o' b r in
    record {
      waiting_moves = λ other e. other (sym (waiting_there s waiting losses f m) ∙ e ∙ waiting_was s waiting losses f m);
      losses_move = λ other e. other (sym (losses_there s waiting losses f m) ∙ e ∙ losses_were s waiting losses f m);
      check_moves = λ good other e. other (same_check s waiting losses f m good e);
    }
