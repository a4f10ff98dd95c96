-- Every statement of specs/Laws.antt, proved: other crates take the laws from here; and what became of the entries of document 01, whose
-- statements stand in specs/Before.antt with the rule of that time. Assumes nothing.
use Rattle.std.specs.Prelude.{Some}
use mathlib.Core.Path.{◌≡◌, refl, ◌∙◌, sym}
use mathlib.Core.Bool.{Bool, true, ◌&&◌, and-eq-true_iff}
use mathlib.Core.List.Memᴰ.{cases_cons}
use mathlib.Core.List.Memᴰ.{not-nil}
use mathlib.Core.List.{List, [], ◌∷◌, Memᴰ as In}
use mathlib.Core.Logic.{⊎_elim}
use Prim.Native.Nat.{ℕ, ◌+◌, ◌-◌, ◌%◌}
use native.Mathlib.Omega.{arith}
use lib.Dec.{T, ltb, eqb, lit<}
use borrow.Author.Tests.{lt-ltb, le-ltb, ltb-true, eqb-true, eq-eqb}
use Rattle.model.specs.Table.{entry}
use Rattle.table.proofs.Laws.{table_passes}
use Rattle.standard.specs.Rule.{states, inputs, outputs, numbers, state, expected, unreported, after_input, after_output, rule}
use Rattle.standard.specs.Box.{columns, standard_table}
use Rattle.standard.specs.Laws.{EveryEntry, EveryState, EveryReport, IsValid, Passes, OnlyCounts, Citation, cited, column, CitedHold}
use Rattle.standard.proofs.Listed.{every, at, same, same_equal}
use Rattle.standard.proofs.Entries
use Rattle.standard.specs.Before.{OtherEntriesStay, SixteenChange, NeitherWider}
use Rattle.standard.proofs.Became

pub every_entry : EveryEntry
every_entry = Entries.every_entry

pub every_state : EveryState
unfolding rule
every_state e p h l =
    let e_is : expected (state e p) ≡ e = omega arith in
    let p_is : unreported (state e p) ≡ p = omega arith in
    record {
      input = λ a m. every_entry (state e p) a (omega arith) (omega arith) ∙ rw (lt-ltb a inputs m, e_is, p_is);
      output = λ b m.
          let b_is : inputs + b - inputs ≡ b = omega arith in
          every_entry (state e p) (inputs + b) (omega arith) (omega arith) ∙ rw (le-ltb (inputs + b) inputs (omega arith), e_is, p_is, b_is);
    }

-- The poll before the one expected leads to one unreported, and its report back: tested in each row.
unfoldable last : ℕ → ℕ
last e = (e + numbers - 1) % numbers

abbrev repeats : ℕ → Bool
repeats e = same (after_input e 0 (last e)) (Some (e + numbers)) && same (after_output e 1 (last e)) (Some e)

tested : every repeats 0 numbers ≡ true
unfolding last after_input after_output
tested = refl

pub every_report : EveryReport
unfolding last
every_report e h =
    let none_left : state e 0 ≡ e = omega arith in
    let here : 0 + e ≡ e = omega arith in
    let test : repeats e ≡ true = rw here at (at repeats 0 numbers e tested h) in
    let (asked, sent) = (and-eq-true_iff (same (after_input e 0 (last e)) (Some (e + numbers))) (same (after_output e 1 (last e)) (Some e))).0 test in
    let asks : after_input e 0 (last e) ≡ Some (e + numbers) = same_equal (after_input e 0 (last e)) (Some (e + numbers)) asked in
    let sends : after_output e 1 (last e) ≡ Some e = same_equal (after_output e 1 (last e)) (Some e) sent in
    record {
      asked = rw none_left at ((every_state e 0 h (omega arith)).input (last e) (omega arith)) ∙ asks;
      sent = (every_state e 1 h (omega arith)).output (last e) (omega arith) ∙ sends;
    }

-- What the repeated report changed.
pub other_entries_stay : OtherEntriesStay
other_entries_stay = Became.other_entries_stay

pub sixteen_change : SixteenChange
sixteen_change = Became.sixteen_change

pub neither_wider : NeitherWider
neither_wider = Became.neither_wider

pub is_valid : IsValid
unfolding Entries.inside
is_valid =
    record {
      states = (omega arith, omega arith);
      inputs = (omega arith, omega arith);
      outputs = (omega arith, omega arith);
      rows = Entries.rows_length;
      entries = λ s k t h l e. ltb-true t states (rw (sym (every_entry s k h l) ∙ e) at (Entries.rule_inside s k h l));
    }

pub passes : Passes
passes = let (c, l, e) = (table_passes standard_table).1 is_valid in record { counts = c; length = l; entries = e }

pub only_counts : OnlyCounts
only_counts s i o = (
  λ t.
      let (both, o_is) = (and-eq-true_iff (eqb s states && eqb i inputs) (eqb o outputs)).0 t in
      let (s_is, i_is) = (and-eq-true_iff (eqb s states) (eqb i inputs)).0 both in
      (eqb-true s states s_is, eqb-true i inputs i_is, eqb-true o outputs o_is),
  λ (s_is, i_is, o_is). simp (eq-eqb s states s_is, eq-eqb i inputs i_is, eq-eqb o outputs o_is),
)

-- What is cited, one after another.
abbrev Hold : List Citation → Type 0
Hold [] = Unit
Hold (x ∷ l) = (entry standard_table x.row (column x.symbol) ≡ x.next) × Hold l

each : (l : List Citation) (x : Citation) → Hold l → In x l → entry standard_table x.row (column x.symbol) ≡ x.next
each [] x h m = absurd (not-nil m)
each (y ∷ l) x (h, hs) m = ⊎_elim (λ e. rw e h) (λ n. each l x hs n) (cases_cons m)

pub cited_hold : CitedHold
unfolding cited rule after_input after_output
cited_hold x =
    each cited x (
      at 0 0 tt tt,
      (at 17 (inputs + 0) tt tt, (at 1 0 tt tt, (at 48 (inputs + 13) tt tt, (at 48 0 tt tt, (at 48 5 tt tt, tt))))),
    )
  where
    at : (s k : ℕ) → T (ltb s states) → T (ltb k columns) → entry standard_table s k ≡ rule s k
    at s k h l = every_entry s k (lit< h) (lit< l)
