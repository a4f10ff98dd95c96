-- Which number an opening tells, and when: the laws of specs/Numbers.antt. Assumes nothing.
use Rattle.std.specs.Prelude.{Ok, Err}
use mathlib.Core.Path.{◌≡◌, refl}
use mathlib.Core.Bool.{false}
use mathlib.Core.List.Memᴰ.{append_left as in_left}
use mathlib.Core.List.Memᴰ.{append_right as in_right}
use mathlib.Core.List.{List, [], ◌∷◌}
use mathlib.Core.Logic.Iff
use mathlib.Core.Logic.{◌↔◌, inl, inr, ⊎_elim}
use Prim.Native.Nat.{ℕ}
use lib.ListN.{length}
use Rattle.model.specs.Table.{Valid}
use Rattle.table.specs.Bytes.{table_of}
use Rattle.table.specs.Numbers.{Tells, Among}
use Rattle.table.specs.Tests.{counts_test, length_test, entries_test, bounds_test}
use Rattle.table.specs.Test.{Test}
use Rattle.table.proofs.Laws.{counts_pass, length_passes, table_passes, passed_tells_none, states_told, symbols_told, counts_among, rows_told, length_among, entry_told, entries_among, waiting_told, losses_told, bounds_among}
use Rattle.table.proofs.Numbers.{Never, listed, never}
use Rattle.session.specs.Open.{then, with_session, begun, opening, opened}
use Rattle.session.specs.Numbers.{ThenTells, ThenAmong, Counted, Sized, OpeningTells, OpeningAmong, OpenedTest}

-- ONE TEST AFTER ANOTHER

pub then_tells : ThenTells
then_tells (Ok _) b n p q = (λ t. inr (refl, t), λ x. ⊎_elim (λ t. absurd (passed_tells_none n p q t)) (λ (e, t). t) x)
then_tells (Err r) b n p q = (λ t. inl t, λ x. ⊎_elim (λ t. t) (λ (e, t). cc) x)

pub then_among : ThenAmong
then_among a b numbers others f g n p q t =
    ⊎_elim (λ x. in_left others (f n p q x)) (λ (e, x). in_right numbers (g n p q x)) ((then_tells a b n p q).0 t)

-- a number that only the first tells, or only the second
pub first_tells : (a b : Test) (n p q : ℕ) → Never n b → Tells (then a b) n p q ↔ Tells a n p q
first_tells a b n p q f = (
  λ t. ⊎_elim (λ x. x) (λ (e, x). absurd (f p q x)) ((then_tells a b n p q).0 t),
  λ x. (then_tells a b n p q).1 (inl x),
)

pub second_tells : (a b : Test) (n p q : ℕ) → Never n a → Tells (then a b) n p q ↔ ((a ≡ Ok tt) × Tells b n p q)
second_tells a b n p q f = (
  λ t. ⊎_elim (λ x. absurd (f p q x)) (λ y. y) ((then_tells a b n p q).0 t),
  λ y. (then_tells a b n p q).1 (inr y),
)

-- OPENING

pub opened_test : OpenedTest
unfolding opened
opened_test rows s i o B c = go (opening rows s i o B c)
  where
    go : (t : Test) → (with_session t (begun rows s i o B c)).test ≡ t
    go (Ok _) = refl
    go (Err r) = refl

-- the four tests, and what follows each
module _ (rows : List ℕ) (s i o B c : ℕ) where
  counts : Test
  counts = counts_test s i o

  sizes : Test
  sizes = length_test (length rows) s i o

  entries : Test
  entries = entries_test (table_of rows s i o)

  bounds : Test
  bounds = bounds_test B c

  after_sizes : Test
  after_sizes = then entries bounds

  after_counts : Test
  after_counts = then sizes after_sizes

  late_among : Among (4 ∷ 5 ∷ 6 ∷ []) after_sizes
  unfolding after_sizes entries bounds
  late_among = then_among entries bounds (4 ∷ []) (5 ∷ 6 ∷ []) (entries_among (table_of rows s i o)) (bounds_among B c)

  later_among : Among (1 ∷ 4 ∷ 5 ∷ 6 ∷ []) after_counts
  unfolding after_counts sizes
  later_among = then_among sizes after_sizes (1 ∷ []) (4 ∷ 5 ∷ 6 ∷ []) (length_among (length rows) s i o) late_among

  all_among : Among (2 ∷ 3 ∷ 1 ∷ 4 ∷ 5 ∷ 6 ∷ []) (then counts after_counts)
  unfolding counts
  all_among = then_among counts after_counts (2 ∷ 3 ∷ []) (1 ∷ 4 ∷ 5 ∷ 6 ∷ []) (counts_among s i o) later_among

  -- the counts pass exactly when they are right
  right_counts : counts ≡ Ok tt ↔ Counted (table_of rows s i o)
  unfolding counts
  right_counts = (
    λ e. let (a, b, d) = (counts_pass s i o).0 e in record { states = a; inputs = b; outputs = d },
    λ u. (counts_pass s i o).1 (u.states, u.inputs, u.outputs),
  )

  -- a number told after the counts, after the sizes, and after the entries
  past_counts : (n p q : ℕ) → listed n (2 ∷ 3 ∷ []) ≡ false
      → Tells (then counts after_counts) n p q ↔ (Counted (table_of rows s i o) × Tells after_counts n p q)
  unfolding counts
  past_counts n p q d =
      let (to, from) = second_tells counts after_counts n p q (never n (2 ∷ 3 ∷ []) (counts_among s i o) d) in
      (λ t. let (e, x) = to t in (right_counts.0 e, x), λ (u, x). from (right_counts.1 u, x))

  past_sizes : (n p q : ℕ) → listed n (1 ∷ []) ≡ false → Tells after_counts n p q ↔ (Sized (table_of rows s i o) × Tells after_sizes n p q)
  unfolding after_counts sizes
  past_sizes n p q d =
      let (to, from) = second_tells sizes after_sizes n p q (never n (1 ∷ []) (length_among (length rows) s i o) d) in
      (λ t. let (e, x) = to t in ((length_passes (length rows) s i o).0 e, x), λ (u, x). from ((length_passes (length rows) s i o).1 u, x))

  past_entries : (n p q : ℕ) → listed n (2 ∷ 3 ∷ []) ≡ false → listed n (1 ∷ []) ≡ false → listed n (4 ∷ []) ≡ false
      → Tells (then counts after_counts) n p q ↔ (Valid (table_of rows s i o) × Tells bounds n p q)
  unfolding counts sizes entries after_sizes
  past_entries n p q d d' d'' =
      let T = table_of rows s i o in
      let (to, from) = second_tells entries bounds n p q (never n (4 ∷ []) (entries_among T) d'') in (
        λ t.
            let (u, x) = (past_counts n p q d).0 t in
            let (z, y) = (past_sizes n p q d').0 x in
            let (e, w) = to y in
            ((table_passes T).0 (right_counts.1 u, (length_passes (length rows) s i o).1 z, e), w),
        λ (v, w).
            let (a, b, e) = (table_passes T).1 v in
            (past_counts n p q d).1 (right_counts.0 a, (past_sizes n p q d').1 (v.rows, from (e, w))),
      )

  -- each number, told by its own test alone
  two_or_three : (n p q : ℕ) → listed n (1 ∷ 4 ∷ 5 ∷ 6 ∷ []) ≡ false → Tells (then counts after_counts) n p q ↔ Tells counts n p q
  two_or_three n p q d = first_tells counts after_counts n p q (never n (1 ∷ 4 ∷ 5 ∷ 6 ∷ []) later_among d)

  one : (p q : ℕ) → Tells after_counts 1 p q ↔ Tells sizes 1 p q
  unfolding after_counts
  one p q = first_tells sizes after_sizes 1 p q (never 1 (4 ∷ 5 ∷ 6 ∷ []) late_among refl)

  four : (p q : ℕ) → Tells after_sizes 4 p q ↔ Tells entries 4 p q
  unfolding after_sizes bounds
  four p q = first_tells entries bounds 4 p q (never 4 (5 ∷ 6 ∷ []) (bounds_among B c) refl)

pub opening_among : OpeningAmong
unfolding opening counts after_counts sizes after_sizes entries bounds
opening_among = all_among

pub opening_tells : OpeningTells
unfolding opening counts after_counts sizes after_sizes entries bounds
opening_tells rows s i o B c =
    record {
      states = λ p q. Iff.trans (two_or_three rows s i o B c 2 p q refl) (states_told s i o p q);
      symbols = λ p q. Iff.trans (two_or_three rows s i o B c 3 p q refl) (symbols_told s i o p q);
      rows = λ p q.
          let (to, from) = past_counts rows s i o B c 1 p q refl in
          let (to', from') = Iff.trans (one rows s i o B c p q) (rows_told (length rows) s i o p q) in
          (λ t. let (u, x) = to t in let (f, a) = to' x in (u, f, a), λ (u, f, a). from (u, from' (f, a)));
      entry = λ p q.
          let (to, from) = past_counts rows s i o B c 4 p q refl in
          let (to', from') = past_sizes rows s i o B c 4 p q refl in
          let (to'', from'') = Iff.trans (four rows s i o B c p q) (entry_told (table_of rows s i o) p q) in
          (λ t. let (u, x) = to t in let (z, y) = to' x in (u, z, to'' y), λ (u, z, f). from (u, from' (z, from'' f)));
      waiting = λ p q.
          let (to, from) = past_entries rows s i o B c 5 p q refl refl refl in
          let (to', from') = waiting_told B c p q in
          (λ t. let (v, x) = to t in let (f, a) = to' x in (v, f, a), λ (v, f, a). from (v, from' (f, a)));
      losses = λ p q.
          let (to, from) = past_entries rows s i o B c 6 p q refl refl refl in
          let (to', from') = losses_told B c p q in
          (λ t. let (v, x) = to t in let (u, f, a) = to' x in (v, u, f, a), λ (v, u, f, a). from (v, from' (u, f, a)));
    }
