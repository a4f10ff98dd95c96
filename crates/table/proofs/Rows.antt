-- What the test of the entries says of rows and columns. Assumes nothing.
use Rattle.std.specs.Prelude.{Option, Some, None, Ok, Err}
use mathlib.Core.Path.{◌≡◌, refl, ◌∙◌}
use mathlib.Core.Bool.{Bool, true, false}
use mathlib.Core.Logic.{inl, inr, ⊎_elim}
use Prim.Native.Nat.{ℕ, zero, suc, ◌+◌, ◌*◌, ◌/◌, ◌%◌, ◌≤◌, ◌<◌}
use native.Mathlib.Nat.{mod-lt, div-add-mod', div-lt_iff_lt-mul, eq-or-lt_of_le}
use native.Mathlib.Omega.{arith}
use lib.Arith.{digits_lt}
use borrow.Author.Tests.{leb-true, le-leb}
use Rattle.model.specs.Table.{Table, width, entry}
use Rattle.model.proofs.Flags.{lt_or_ge}
use Rattle.table.specs.Bytes.{leads_out}
use Rattle.table.specs.First.{first}
use Rattle.table.specs.Tests.{bad, row, column, unless_bad, entries_test}
use Rattle.table.specs.Laws.{Bad, Before, EntriesPass, FirstTold}
use Rattle.table.specs.declared.answer.Refusal.TheVariants.{Entry}
use Rattle.table.proofs.Checks.{clash}
use Rattle.table.proofs.First.{found_none, found_first}
use Rattle.table.proofs.Reading.{bad_at, none_bad, first_bad}

-- ORDER: before, reading row by row, is a smaller number

wide : (m w : ℕ) {j : ℕ} → j < m * w → 0 < w
wide m zero h = absurd (omega arith)
wide m (suc w) h = omega arith

flat : (w s k s' k' : ℕ) → k < w → Before s k s' k' → s * w + k < s' * w + k'
flat w s k s' k' h (inl l) = omega (arith, digits_lt {q = s} {m = s'} {r = k} {c = w} l h)
flat w s k s' k' h (inr (e, l)) = rw e (omega arith)

before : (w s k j : ℕ) → k < w → j < s * w + k → Before (j / w) (j % w) s k
before w s k j h l =
    let p : 0 < w = omega arith in
    let m : j / w < suc s = (div-lt_iff_lt-mul {k = w} {x = j} {y = suc s} p).1 (omega (arith, digits_lt {q = s} {m = suc s} {r = k} {c = w} (omega arith) h)) in
    let n : j / w ≤ s = omega arith in
    ⊎_elim (λ e. inr (e, (let d = rw e at (div-add-mod' j w) in omega arith))) (λ i. inl i) (eq-or-lt_of_le n)

-- BAD ENTRIES

module _ (T : Table) where
  bad_true : {s k : ℕ} → Bad T s k → bad T (s * width T + k) ≡ true
  bad_true {s} {k} b = bad_at T s k b.column ∙ rw b.leads (le-leb T.states b.next b.out)

  true_bad : (j : ℕ) → j < T.states * width T → bad T j ≡ true → Bad T (row T j) (column T j)
  unfolding bad
  true_bad j l = go (entry T (row T j) (column T j)) refl
    where
      go : (e : Option ℕ) → entry T (row T j) (column T j) ≡ e → leads_out T.states (e) ≡ true → Bad T (row T j) (column T j)
      go None f t = clash (cc)
      go (Some n) f t =
          let w = wide T.states (width T) l in
          record {
            row = (div-lt_iff_lt-mul w).1 l;
            column = mod-lt j w;
            next = n;
            leads = f;
            out = leb-true T.states n t;
          }

  not_bad : (j : ℕ) → j < T.states * width T → (Bad T (row T j) (column T j) → ⊥) → bad T j ≡ false
  not_bad j l n = go (bad T j) refl
    where
      go : (t : Bool) → bad T j ≡ t → t ≡ false
      go true e = absurd (n (true_bad j l e))
      go false e = refl

  none_found : (o : Option ℕ) → unless_bad T o ≡ Ok tt → o ≡ None
  none_found None e = refl
  none_found (Some j) e = clash (cc)

  one_found : {s k : ℕ} (o : Option ℕ) → unless_bad T o ≡ Err (Entry s k) → (j : ℕ) × (o ≡ Some j) × (row T j ≡ s) × (column T j ≡ k)
  one_found None e = clash (cc)
  one_found (Some j) e = (j, refl, (cc), (cc))

  least : {s k : ℕ} (j : ℕ) → row T j ≡ s → column T j ≡ k
      → (j < T.states * width T) × (bad T j ≡ true) × ((i : ℕ) → i < j → bad T i ≡ false)
      → Bad T s k × ((s' k' : ℕ) → Bad T s' k' → Before s' k' s k → ⊥)
  least {s} {k} j r q (l, t, h) =
      let d : s * width T + k ≡ j = rw (r, q) at (div-add-mod' j (width T)) in (
        rw (← r, ← q) (true_bad j l t),
        λ s' k' b p. clash (cc (bad_true b, h (s' * width T + k') (rw d at (flat (width T) s' k' s k b.column p)))),
      )

  none_before : {s k : ℕ} → Bad T s k → ((s' k' : ℕ) → Bad T s' k' → Before s' k' s k → ⊥) → (j : ℕ) → j < s * width T + k → bad T j ≡ false
  none_before {s} {k} b n j l =
      let m = digits_lt {q = s} {m = T.states} {r = k} {c = width T} b.row b.column in
      not_bad j (omega arith) (λ b'. n (row T j) (column T j) b' (before (width T) s k j b.column l))

-- THE LAWS

pub entries_pass : EntriesPass
unfolding entries_test
entries_pass T = (
  λ e s k s' l h f.
      ⊎_elim
      (λ i. i)
      (λ i.
      let b : Bad T s k = record { row = l; column = h; next = s'; leads = f; out = i } in
      clash (cc (bad_true T b, (found_none (bad T) _).0 (none_found T _ e) _ (digits_lt {q = s} l h))))
      (lt_or_ge s' T.states),
  λ a.
      none_bad T
      ((found_none (bad T) _).1
      (λ j l. not_bad T j l (λ b. let i = a _ _ _ b.row b.column b.leads in omega arith))),
)

pub first_told : FirstTold
unfolding entries_test
first_told T s k = (
  λ e.
      let (j, f, r, q) = one_found T (first (bad T) (T.states * width T)) e in
      least T j r q ((found_first (bad T) (T.states * width T) j).0 f),
  λ (b, n). first_bad T s k b.row b.column ((found_none (bad T) _).1 (none_before T b n)) (bad_true T b),
)
