-- Which number a test tells, and when: the laws of specs/Numbers.antt. Assumes nothing.
use Rattle.std.specs.Prelude.{Option, Some, None, Ok, Err}
use mathlib.Core.Path.{◌≡◌, refl, sym, ◌∙◌, ap}
use mathlib.Core.Bool.{Bool, true, false, cond}
use mathlib.Core.List.Memᴰ.{cases_cons}
use mathlib.Core.List.Memᴰ.{head as at_head}
use mathlib.Core.List.Memᴰ.{not-nil}
use mathlib.Core.List.Memᴰ.{tail as in_tail}
use mathlib.Core.List.{List, [], ◌∷◌, Memᴰ as In}
use mathlib.Core.Logic.{◌↔◌, ◌⊎◌, inl, inr, ⊎_elim}
use Prim.Native.Nat.{ℕ, ◌+◌, ◌*◌, ◌≤◌, ◌<◌}
use native.Mathlib.Omega.{arith}
use lib.Dec.{eqb}
use lib.ListN.{length, get_or}
use borrow.Author.Tests.{eqb-true, eq-eqb}
use Rattle.model.specs.Limits.{most_states, most_inputs, most_outputs, most_waiting, most_losses, UpTo}
use Rattle.model.specs.Table.{Table, width}
use Rattle.model.specs.Model.{Event, input, output, event}
use Rattle.table.specs.Bytes.{symbol_of}
use Rattle.table.specs.First.{first}
use Rattle.table.specs.Refusals.{told_at, told}
use Rattle.table.specs.Tests.{must, up_to, counts_test, length_test, bad, unless_bad, entries_test, bounds_test, is_invalid, invalid_at, unless_invalid, events_test}
use Rattle.table.specs.Numbers.{Tells, Alone, Among, PassesOrTells, PassedTellsNone, OneTold, MustTells, StatesTold, FirstWrong, SymbolsTold, CountsAmong, RowsTold, LengthAmong, EntryTold, EntriesAmong, WaitingTold, LossesTold, BoundsAmong, IsValid, IndexTold, EventsAmong, TracePasses, InvalidByte}
use Rattle.table.specs.declared.answer.Refusal.{Refusal}
use Rattle.table.specs.declared.answer.Refusal.TheVariants.{Rows, States, Symbols, Entry, Waiting, Losses}
use Rattle.table.specs.declared.answer.Refusal.TheVariants as refusal
use Rattle.table.specs.declared.answer.Symbol.{Symbol}
use Rattle.table.specs.declared.answer.Symbol.TheVariants.{Input, Output}
use Rattle.table.specs.Test.{Test}
use Rattle.table.specs.declared.answer.Told.{Told}
use Rattle.table.proofs.Checks.{clash}
use Rattle.table.proofs.Passing.{up_to_limit}
use Rattle.table.proofs.Rows.{first_told}
use Rattle.table.proofs.Traces.{events_pass, first_invalid}
use Rattle.table.proofs.Symbols.{symbol_means, given_means}

-- WHAT IS TOLD

inside : {a b : Told} → ◌≡◌ {A = Option Told} (Some a) (Some b) → a ≡ b
inside e = cc

-- a refusal tells its own figures
pub tells : {r : Refusal} {n p q : ℕ} → told r ≡ record { number = n; place = p; second = q } → Tells (Err r) n p q
tells e = record { is = ap (λ (t : Told). Some t) e }

pub figures : {r : Refusal} {n p q : ℕ} → Tells (Err r) n p q → told r ≡ record { number = n; place = p; second = q }
figures t = inside t.is

same_figures : {n p q n' p' q' : ℕ}
    → ◌≡◌ {A = Told} (record { number = n; place = p; second = q }) (record { number = n'; place = p'; second = q' })
    → (n ≡ n') × (p ≡ p') × (q ≡ q')
same_figures e = (ap (λ (t : Told). t.number) e, ap (λ (t : Told). t.place) e, ap (λ (t : Told). t.second) e)

pub passed_tells_none : PassedTellsNone
passed_tells_none n p q t = clash (let e = t.is in cc)

pub passes_or_tells : PassesOrTells
passes_or_tells (Ok _) = inl refl
passes_or_tells (Err r) = inr ((told r).number, (told r).place, (told r).second, tells refl)

pub one_told : OneTold
one_told (Ok _) n p q n' p' q' t t' = absurd (passed_tells_none n p q t)
one_told (Err r) n p q n' p' q' t t' = same_figures (sym (figures t) ∙ figures t')

-- a refusal with one place: its number and the place
pub record Gives (r : Refusal) (k x : ℕ) : Type 0 where
  pub is : told r ≡ told_at k x

pub alone : {r : Refusal} {k x n p q : ℕ} → Gives r k x → Tells (Err r) n p q → (n ≡ k) × Alone x p q
alone g t = let (a, b, d) = same_figures (sym (figures t) ∙ g.is) in (a, (b, d))

pub told_alone : {r : Refusal} {k x p q : ℕ} → Gives r k x → Alone x p q → Tells (Err r) k p q
told_alone {r} {k} {x} {p} {q} g (e, f) = tells (g.is ∙ (λ i. record { number = k; place = sym e i; second = sym f i }))

module _ (x : ℕ) where
  rows_give : Gives (Rows x) 1 x
  unfolding told
  rows_give = record { is = refl }

  states_give : Gives (States x) 2 x
  unfolding told
  states_give = record { is = refl }

  symbols_give : Gives (Symbols x) 3 x
  unfolding told
  symbols_give = record { is = refl }

  waiting_give : Gives (Waiting x) 5 x
  unfolding told
  waiting_give = record { is = refl }

  losses_give : Gives (Losses x) 6 x
  unfolding told
  losses_give = record { is = refl }

  pub event_gives : Gives (refusal.Event x) 7 x
  unfolding told
  event_gives = record { is = refl }

  pub events_give : Gives (refusal.Events x) 9 x
  unfolding told
  events_give = record { is = refl }

  pub buffer_gives : Gives (refusal.Buffer x) 10 x
  unfolding told
  buffer_gives = record { is = refl }

pub unsound_gives : Gives refusal.Unsound 8 0
unfolding told
unsound_gives = record { is = refl }

-- NUMBERS THAT ARE NOT TOLD

-- whether n is one of the numbers
abbrev pub listed : ℕ → List ℕ → Bool
listed n [] = false
listed n (m ∷ ms) = cond (eqb n m) true (listed n ms)

not_listed : (n : ℕ) (ms : List ℕ) → listed n ms ≡ false → In n ms → ⊥
not_listed n [] e i = not-nil i
not_listed n (m ∷ ms) e i = go (eqb n m) refl e (λ g j. not_listed n ms g j)
  where
    go : (b : Bool) → eqb n m ≡ b → cond b true (listed n ms) ≡ false → (listed n ms ≡ false → In n ms → ⊥) → ⊥
    go true f g h = clash (cc)
    go false f g h = ⊎_elim (λ d. clash (cc (eq-eqb n m d))) (h g) (cases_cons i)

abbrev pub Never : ℕ → Test → Type 0
Never n t = (p q : ℕ) → Tells t n p q → ⊥

pub never : {t : Test} (n : ℕ) (ms : List ℕ) → Among ms t → listed n ms ≡ false → Never n t
never n ms a e p q t = not_listed n ms e (a n p q t)

-- ONE TEST BEFORE OTHERS

pub must_tells : MustTells
must_tells true r t n p q = (λ x. inr (refl, x), λ x. ⊎_elim (λ (f, y). clash (cc)) (λ (f, y). y) x)
must_tells false r t n p q = (λ x. inl (refl, x), λ x. ⊎_elim (λ (f, y). y) (λ (f, y). clash (cc)) x)

-- the test b is of P, and its refusal r tells k with x alone
module _ {b : Bool} {P : Type 0} (holds : b ≡ true ↔ P) where
  fails : (P → ⊥) → b ≡ false
  fails n = go b refl
    where
      go : (a : Bool) → b ≡ a → a ≡ false
      go true e = absurd (n (holds.0 e))
      go false e = refl

  failed : b ≡ false → P → ⊥
  failed e h = clash (cc (holds.1 h))

module _ {b : Bool} {P : Type 0} (holds : b ≡ true ↔ P) {r : Refusal} {k x : ℕ} (gives : Gives r k x) (t : Test) where
  -- its own number, which none of the others tells
  pub own_number : {p q : ℕ} → Never k t → Tells (must b r t) k p q ↔ ((P → ⊥) × Alone x p q)
  own_number {p} {q} n = (
    λ m. ⊎_elim (λ (e, y). (failed holds e, (alone gives y).1)) (λ (e, y). absurd (n p q y)) ((must_tells b r t k p q).0 m),
    λ (f, y). (must_tells b r t k p q).1 (inl (fails holds f, told_alone gives y)),
  )

  -- the number of another
  pub other_number : {n p q : ℕ} → (n ≡ k → ⊥) → Tells (must b r t) n p q ↔ (P × Tells t n p q)
  other_number {n} {p} {q} d = (
    λ m. ⊎_elim (λ (e, y). absurd (d (alone gives y).0)) (λ (e, y). (holds.0 e, y)) ((must_tells b r t n p q).0 m),
    λ (h, y). (must_tells b r t n p q).1 (inr (holds.1 h, y)),
  )

  pub must_among : {ms : List ℕ} → Among ms t → Among (k ∷ ms) (must b r t)
  must_among a n p q m = ⊎_elim (λ (e, y). at_head (alone gives y).0) (λ (e, y). in_tail (a n p q y)) ((must_tells b r t n p q).0 m)

pub passed_among : Among [] (Ok tt)
passed_among n p q t = absurd (passed_tells_none n p q t)

pub passed_never : (n : ℕ) → Never n (Ok tt)
passed_never n p q t = passed_tells_none n p q t

-- THE COUNTS

module _ (i o : ℕ) where
  outputs_test : Test
  outputs_test = must (up_to most_outputs o) (Symbols o) (Ok tt)

  symbols_test : Test
  symbols_test = must (up_to most_inputs i) (Symbols i) outputs_test

  outputs_told : (p q : ℕ) → Tells outputs_test 3 p q ↔ ((UpTo most_outputs o → ⊥) × Alone o p q)
  unfolding outputs_test
  outputs_told p q = own_number (up_to_limit most_outputs o) (symbols_give o) (Ok tt) (passed_never 3)

  outputs_among : Among (3 ∷ []) outputs_test
  unfolding outputs_test
  outputs_among = must_among (up_to_limit most_outputs o) (symbols_give o) (Ok tt) passed_among

  symbols_among : Among (3 ∷ []) symbols_test
  unfolding symbols_test
  symbols_among n p q t =
      let j = must_among (up_to_limit most_inputs i) (symbols_give i) outputs_test outputs_among n p q t in
      ⊎_elim (λ e. at_head e) (λ k. k) (cases_cons j)

  symbols_told_first : (p q : ℕ) → Tells symbols_test 3 p q ↔ (FirstWrong i o p × (q ≡ 0))
  unfolding symbols_test
  symbols_told_first p q = (to, from)
    where
      to : Tells symbols_test 3 p q → FirstWrong i o p × (q ≡ 0)
      to m =
          ⊎_elim
          (λ (e, y). let (a, (b, d)) = alone (symbols_give i) y in (inl (failed (up_to_limit most_inputs i) e, b), d))
          (λ (e, y). let (f, (b, d)) = (outputs_told p q).0 y in (inr ((up_to_limit most_inputs i).0 e, f, b), d))
          ((must_tells (up_to most_inputs i) (Symbols i) outputs_test 3 p q).0 m)

      from : FirstWrong i o p × (q ≡ 0) → Tells symbols_test 3 p q
      from (inl (f, e), d) =
          (must_tells (up_to most_inputs i) (Symbols i) outputs_test 3 p q).1
          (inl (fails (up_to_limit most_inputs i) f, told_alone (symbols_give i) (e, d)))
      from (inr (h, f, e), d) =
          (must_tells (up_to most_inputs i) (Symbols i) outputs_test 3 p q).1
          (inr ((up_to_limit most_inputs i).1 h, (outputs_told p q).1 (f, (e, d))))

pub states_told : StatesTold
unfolding counts_test symbols_test outputs_test
states_told s i o p q =
    own_number (up_to_limit most_states s) (states_give s) (symbols_test i o) (never 2 (3 ∷ []) (symbols_among i o) refl)

pub symbols_told : SymbolsTold
unfolding counts_test symbols_test outputs_test
symbols_told s i o p q =
    let hold = up_to_limit most_states s in
    let (to, from) = other_number hold (states_give s) (symbols_test i o) {n = 3} {p = p} {q = q} (λ e. omega arith) in
    let (to', from') = symbols_told_first i o p q in
    (λ t. let (u, y) = to t in let (f, d) = to' y in (u, f, d), λ (u, f, d). from (u, from' (f, d)))

pub counts_among : CountsAmong
unfolding counts_test symbols_test outputs_test
counts_among s i o = must_among (up_to_limit most_states s) (states_give s) (symbols_test i o) (symbols_among i o)

-- THE ROWS

sized : (n m : ℕ) → eqb n m ≡ true ↔ (n ≡ m)
sized n m = (eqb-true n m, eq-eqb n m)

pub rows_told : RowsTold
unfolding length_test
rows_told n s i o p q = own_number (sized n (s * (i + o))) (rows_give n) (Ok tt) (passed_never 1)

pub length_among : LengthAmong
unfolding length_test
length_among n s i o = must_among (sized n (s * (i + o))) (rows_give n) (Ok tt) passed_among

-- a bad entry is all that the test of the entries refuses
bad_or_passed : (T : Table) → (entries_test T ≡ Ok tt) ⊎ ((s : ℕ) × (k : ℕ) × (entries_test T ≡ Err (Entry s k)))
unfolding entries_test
bad_or_passed T = go (first (bad T) (T.states * width T))
  where
    go : (f : Option ℕ) → (unless_bad T f ≡ Ok tt) ⊎ ((s : ℕ) × (k : ℕ) × (unless_bad T f ≡ Err (Entry s k)))
    go None = inl refl
    go (Some j) = inr (_, _, refl)

entry_figures : {s k n p q : ℕ} → Tells (Err (Entry s k)) n p q → (n ≡ 4) × (p ≡ s) × (q ≡ k)
unfolding told
entry_figures t = same_figures (sym (figures t))

entry_tells : (T : Table) {n p q : ℕ} → Tells (entries_test T) n p q → (n ≡ 4) × (entries_test T ≡ Err (Entry p q))
entry_tells T {n} {p} {q} t =
    ⊎_elim
    (λ e. absurd (passed_tells_none n p q (rw e at t)))
    (λ (s, k, e). let (a, b, d) = entry_figures (rw e at t) in (a, rw (b, d) e))
    (bad_or_passed T)

pub entry_told : EntryTold
unfolding told
entry_told T p q = (
  λ t. (first_told T p q).0 (entry_tells T t).1,
  λ f. rw ((first_told T p q).1 f) (tells {r = Entry p q} refl),
)

pub entries_among : EntriesAmong
entries_among T n p q t = at_head (entry_tells T t).0

-- THE BOUNDS

losses_test : ℕ → Test
losses_test c = must (up_to most_losses c) (Losses c) (Ok tt)

losses_among : (c : ℕ) → Among (6 ∷ []) (losses_test c)
unfolding losses_test
losses_among c = must_among (up_to_limit most_losses c) (losses_give c) (Ok tt) passed_among

pub waiting_told : WaitingTold
unfolding bounds_test losses_test
waiting_told B c p q = own_number (up_to_limit most_waiting B) (waiting_give B) (losses_test c) (never 5 (6 ∷ []) (losses_among c) refl)

pub losses_told : LossesTold
unfolding bounds_test losses_test
losses_told B c p q =
    let hold = up_to_limit most_waiting B in
    let (to, from) = other_number hold (waiting_give B) (losses_test c) {n = 6} {p = p} {q = q} (λ e. omega arith) in
    let (to', from') = own_number (up_to_limit most_losses c) (losses_give c) (Ok tt) {p = p} {q = q} (passed_never 6) in
    (λ t. let (u, y) = to t in let (f, a) = to' y in (u, f, a), λ (u, f, a). from (u, from' (f, a)))

pub bounds_among : BoundsAmong
unfolding bounds_test losses_test
bounds_among B c = must_among (up_to_limit most_waiting B) (waiting_give B) (losses_test c) (losses_among c)

-- THE EVENTS

-- a byte is invalid exactly where its event is not valid
pub invalid_byte : InvalidByte
invalid_byte b i o few few' = (
  λ e. out (event b) ((symbol_means b i o None few few').0 e),
  λ n. (symbol_means b i o None few few').1 (λ a e l. n (rw e l), λ a e l. n (rw e l)),
)
  where
    out : (e : Event) → ((a : ℕ) → e ≡ input a → a < i → ⊥) × ((a : ℕ) → e ≡ output a → a < o → ⊥) → IsValid i o e → ⊥
    out (input a) (f, g) l = f a refl l
    out (output a) (f, g) l = g a refl l

module _ (b i o : ℕ) (few : i ≤ most_inputs) (few' : o ≤ most_outputs) where
  valid_byte : is_invalid (symbol_of b i o) ≡ false ↔ IsValid i o (event b)
  valid_byte = (λ e. go (symbol_of b i o) refl e, λ v. back (symbol_of b i o) refl v)
    where
      go : (x : Option Symbol) → symbol_of b i o ≡ x → is_invalid x ≡ false → IsValid i o (event b)
      go (Some (Input a)) e f = let m = (given_means b i o a).0 e in rw m.2 m.1
      go (Some (Output a)) e f = let m = (given_means b i o a).1 e in rw m.2 m.1
      go None e f = clash (cc)

      back : (x : Option Symbol) → symbol_of b i o ≡ x → IsValid i o (event b) → is_invalid x ≡ false
      back (Some (Input a)) e v = refl
      back (Some (Output a)) e v = refl
      back None e v = absurd ((invalid_byte b i o few few').0 e v)

  not_valid_byte : is_invalid (symbol_of b i o) ≡ true ↔ (IsValid i o (event b) → ⊥)
  not_valid_byte = (λ e v. clash (cc (valid_byte.1 v)), λ n. go (symbol_of b i o) ((invalid_byte b i o few few').1 n))
    where
      go : (x : Option Symbol) → x ≡ None → is_invalid x ≡ true
      go (Some (Input a)) e = clash (cc)
      go (Some (Output a)) e = clash (cc)
      go None e = refl

event_or_passed : (trace : List ℕ) (i o : ℕ)
    → (events_test trace i o ≡ Ok tt) ⊎ ((k : ℕ) × (events_test trace i o ≡ Err (refusal.Event k)))
unfolding events_test
event_or_passed trace i o = go (first (invalid_at trace i o) (length trace))
  where
    go : (f : Option ℕ) → (unless_invalid f ≡ Ok tt) ⊎ ((k : ℕ) × (unless_invalid f ≡ Err (refusal.Event k)))
    go None = inl refl
    go (Some j) = inr (j, refl)

index_tells : (trace : List ℕ) (i o : ℕ) {n p q : ℕ} → Tells (events_test trace i o) n p q
    → (n ≡ 7) × (events_test trace i o ≡ Err (refusal.Event p)) × (q ≡ 0)
index_tells trace i o {n} {p} {q} t =
    ⊎_elim
    (λ e. absurd (passed_tells_none n p q (rw e at t)))
    (λ (k, e). let (a, (b, d)) = alone (event_gives k) (rw e at t) in (a, rw b e, d))
    (event_or_passed trace i o)

pub index_told : IndexTold
index_told trace i o p q few few' = (
  λ t.
      let (a, e, d) = index_tells trace i o t in
      let (l, f, h) = (first_invalid trace i o p).0 e in (
        record {
          inside = l;
          not_valid = (not_valid_byte (get_or trace p 0) i o few few').0 f;
          before = λ j m. (valid_byte (get_or trace j 0) i o few few').0 (h j m);
        },
        d,
      ),
  λ (f, d).
      let n = (not_valid_byte (get_or trace p 0) i o few few').1 f.not_valid in
      let e = (first_invalid trace i o p).1 (f.inside, n, λ j m. (valid_byte (get_or trace j 0) i o few few').1 (f.before j m)) in
      rw e (told_alone (event_gives p) (refl, d)),
)

pub events_among : EventsAmong
events_among trace i o n p q t = at_head (index_tells trace i o t).0

pub trace_passes : TracePasses
trace_passes trace i o few few' = (
  λ e k l. (valid_byte (get_or trace k 0) i o few few').0 ((events_pass trace i o).0 e k l),
  λ h. (events_pass trace i o).1 (λ k l. (valid_byte (get_or trace k 0) i o few few').1 (h k l)),
)
