-- Which number a run tells, and when: the laws of specs/Numbers.antt. Assumes nothing.
use Rattle.std.specs.Prelude.{Ok}
use mathlib.Core.Path.{◌≡◌, refl, sym}
use mathlib.Core.Bool.{true, false}
use mathlib.Core.List.{List, [], ◌∷◌, ◌++◌}
use mathlib.Core.Logic.Iff
use mathlib.Core.Logic.{◌↔◌}
use Prim.Native.Nat.{ℕ, ◌*◌, ◌≤◌, ◌<◌}
use native.Mathlib.Omega.{arith}
use lib.Dec.{leb}
use lib.ListN.{length}
use borrow.Author.Tests.{leb-true, le-leb}
use Rattle.model.specs.Limits.{most_events}
use Rattle.model.specs.Table.{Valid, Bounded}
use Rattle.table.specs.Bytes.{table_of}
use Rattle.table.specs.Numbers.{Tells, Alone, Among}
use Rattle.table.specs.Tests.{events_test}
use Rattle.table.specs.declared.answer.Refusal.TheVariants as refusal
use Rattle.table.specs.Test.{Test}
use Rattle.table.proofs.Laws.{must_passes, index_told, events_among, trace_passes}
use Rattle.table.proofs.Numbers.{listed, never, own_number, must_among, passed_among, passed_never, events_give, buffer_gives}
use Rattle.session.specs.Open.{then, opening}
use Rattle.session.specs.Numbers.{TellsOpening, opening_numbers}
use Rattle.session.proofs.Laws.{opening_passes, then_among, opening_tells, opening_among}
use Rattle.session.proofs.Numbers.{first_tells, second_tells}
use Rattle.run.specs.Run.{limit_test, buffer_test, traced, run_test, refused, ran}
use Rattle.run.specs.Numbers.{RunTells, RanTest}

pub ran_test : RanTest
ran_test rows s i o B c trace before r after (refused e) = sym e
ran_test rows s i o B c trace before r after (ran e t) = sym e

at_most : (n m : ℕ) → leb n m ≡ true ↔ (n ≤ m)
at_most n m = (leb-true n m, le-leb n m)

-- THE TRACE

-- the number of events, which tells 9 alone
module _ (n : ℕ) where
  few : limit_test n ≡ Ok tt ↔ (n ≤ most_events)
  few =
      let (to, from) = must_passes (leb n most_events) (refusal.Events n) (Ok tt) in
      (λ e. leb-true n most_events (to e).0, λ l. from (le-leb n most_events l, refl))

  many_told : (p q : ℕ) → Tells (limit_test n) 9 p q ↔ ((n ≤ most_events → ⊥) × Alone n p q)
  many_told p q = own_number (at_most n most_events) (events_give n) (Ok tt) (passed_never 9)

  many_among : Among (9 ∷ []) (limit_test n)
  many_among = must_among (at_most n most_events) (events_give n) (Ok tt) passed_among

  module _ (room : ℕ) where
    short_told : (p q : ℕ) → Tells (buffer_test n room) 10 p q ↔ ((12 * n ≤ room → ⊥) × Alone (12 * n) p q)
    short_told p q = own_number (at_most (12 * n) room) (buffer_gives (12 * n)) (Ok tt) (passed_never 10)

    short_among : Among (10 ∷ []) (buffer_test n room)
    short_among = must_among (at_most (12 * n) room) (buffer_gives (12 * n)) (Ok tt) passed_among

-- what follows the number of events, and what follows opening
module _ (trace : List ℕ) (i o room : ℕ) where
  after_limit : Test
  after_limit = then (events_test trace i o) (buffer_test (length trace) room)

  late_among : Among (7 ∷ 10 ∷ []) after_limit
  unfolding after_limit
  late_among =
      then_among (events_test trace i o) (buffer_test (length trace) room) (7 ∷ []) (10 ∷ [])
      (events_among trace i o)
      (short_among (length trace) room)

  trace_among : Among (9 ∷ 7 ∷ 10 ∷ []) (traced trace i o room)
  unfolding after_limit
  trace_among = then_among (limit_test (length trace)) after_limit (9 ∷ []) (7 ∷ 10 ∷ []) (many_among (length trace)) late_among

  nine : (p q : ℕ) → Tells (traced trace i o room) 9 p q ↔ Tells (limit_test (length trace)) 9 p q
  unfolding after_limit
  nine p q = first_tells (limit_test (length trace)) after_limit 9 p q (never 9 (7 ∷ 10 ∷ []) late_among refl)

  past_limit : (n p q : ℕ) → listed n (9 ∷ []) ≡ false
      → Tells (traced trace i o room) n p q ↔ ((length trace ≤ most_events) × Tells after_limit n p q)
  unfolding after_limit
  past_limit n p q d =
      let (to, from) = second_tells (limit_test (length trace)) after_limit n p q (never n (9 ∷ []) (many_among (length trace)) d) in
      (λ t. let (e, x) = to t in ((few (length trace)).0 e, x), λ (l, x). from ((few (length trace)).1 l, x))

  seven : (p q : ℕ) → Tells after_limit 7 p q ↔ Tells (events_test trace i o) 7 p q
  unfolding after_limit
  seven p q =
      first_tells (events_test trace i o) (buffer_test (length trace) room) 7 p q (never 7 (10 ∷ []) (short_among (length trace) room) refl)

  ten : (p q : ℕ) → Tells after_limit 10 p q ↔ ((events_test trace i o ≡ Ok tt) × Tells (buffer_test (length trace) room) 10 p q)
  unfolding after_limit
  ten p q =
      second_tells (events_test trace i o) (buffer_test (length trace) room) 10 p q (never 10 (7 ∷ []) (events_among trace i o) refl)

-- THE RUN

module _ (rows : List ℕ) (s i o B c : ℕ) (trace : List ℕ) (room : ℕ) where
  whole : Test
  whole = run_test rows s i o B c trace room

  begin : Test
  begin = opening rows s i o B c

  as_opening : (n p q : ℕ) → listed n (9 ∷ 7 ∷ 10 ∷ []) ≡ false → Tells whole n p q ↔ Tells begin n p q
  unfolding whole run_test begin
  as_opening n p q d = first_tells begin (traced trace i o room) n p q (never n (9 ∷ 7 ∷ 10 ∷ []) (trace_among trace i o room) d)

  -- a number that no opening tells
  past_opening : (n p q : ℕ) → listed n opening_numbers ≡ false
      → Tells whole n p q ↔ ((Valid (table_of rows s i o) × Bounded B c) × Tells (traced trace i o room) n p q)
  unfolding whole run_test begin
  past_opening n p q d =
      let (to, from) = second_tells begin (traced trace i o room) n p q (never n opening_numbers (opening_among rows s i o B c) d) in
      let (pass, passed) = opening_passes rows s i o B c in
      (λ t. let (e, x) = to t in (pass e, x), λ (g, x). from (passed g, x))

  all_among : Among (opening_numbers ++ (9 ∷ 7 ∷ 10 ∷ [])) whole
  unfolding whole run_test begin
  all_among =
      then_among begin (traced trace i o room) opening_numbers (9 ∷ 7 ∷ 10 ∷ [])
      (opening_among rows s i o B c)
      (trace_among trace i o room)

  -- the numbers of opening
  opening_told : TellsOpening (table_of rows s i o) B c whole
  unfolding begin
  opening_told =
      let told = opening_tells rows s i o B c in
      record {
        states = λ p q. Iff.trans (as_opening 2 p q refl) (told.states p q);
        symbols = λ p q. Iff.trans (as_opening 3 p q refl) (told.symbols p q);
        rows = λ p q. Iff.trans (as_opening 1 p q refl) (told.rows p q);
        entry = λ p q. Iff.trans (as_opening 4 p q refl) (told.entry p q);
        waiting = λ p q. Iff.trans (as_opening 5 p q refl) (told.waiting p q);
        losses = λ p q. Iff.trans (as_opening 6 p q refl) (told.losses p q);
      }

pub run_tells : RunTells
unfolding whole
run_tells rows s i o B c trace room =
    record {
      opening = opening_told rows s i o B c trace room;
      events = λ p q.
          let (to, from) = past_opening rows s i o B c trace room 9 p q refl in
          let (to', from') = Iff.trans (nine trace i o room p q) (many_told (length trace) p q) in (
            λ t. let ((v, b), x) = to t in let (f, a) = to' x in (v, b, not_le f, a),
            λ (v, b, l, a). from ((v, b), from' (λ m. omega arith, a)),
          );
      event = λ p q.
          let (to, from) = past_opening rows s i o B c trace room 7 p q refl in
          let (to', from') = past_limit trace i o room 7 p q refl in
          let (to'', from'') = seven trace i o room p q in (
            λ t.
                let ((v, b), x) = to t in
                let (l, y) = to' x in
                let (f, z) = (index_told trace i o p q v.inputs.1 v.outputs.1).0 (to'' y) in
                (v, b, l, f, z),
            λ (v, b, l, f, z).
                from ((v, b), from' (l, from'' ((index_told trace i o p q v.inputs.1 v.outputs.1).1 (f, z)))),
          );
      buffer = λ p q.
          let (to, from) = past_opening rows s i o B c trace room 10 p q refl in
          let (to', from') = past_limit trace i o room 10 p q refl in
          let (to'', from'') = ten trace i o room p q in
          let (told, tell) = short_told (length trace) room p q in (
            λ t.
                let ((v, b), x) = to t in
                let (l, y) = to' x in
                let (g, z) = to'' y in
                let (f, a) = told z in
                (v, b, l, (trace_passes trace i o v.inputs.1 v.outputs.1).0 g, not_le f, a),
            λ (v, b, l, g, f, a).
                let h = (trace_passes trace i o v.inputs.1 v.outputs.1).1 g in
                from ((v, b), from' (l, from'' (h, tell (λ m. omega arith, a)))),
          );
      among = all_among rows s i o B c trace room;
    }
  where
    not_le : {n m : ℕ} → (n ≤ m → ⊥) → m < n
    not_le f = omega arith
