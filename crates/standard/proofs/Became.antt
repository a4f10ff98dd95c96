-- What became of the standard box when it began to repeat its report: sixteen entries changed and no other. Assumes nothing.
use Rattle.std.specs.Prelude.{Option, Some}
use mathlib.Core.Path.{◌≡◌, refl}
use mathlib.Core.Bool.{Bool, true, false, cond, ◌&&◌, and-eq-true_iff}
use mathlib.Core.Logic.{◌↔◌}
use Prim.Native.Nat.{ℕ, ◌+◌, ◌-◌, ◌*◌, ◌%◌, ◌<◌}
use native.Mathlib.Omega.{arith}
use lib.Dec.{ltb, eqb, lit<}
use borrow.Author.Tests.{ltb-true, lt-ltb, eqb-true, eq-eqb}
use Rattle.model.specs.Table.{entry}
use Rattle.standard.specs.Rule as now
use Rattle.standard.specs.Rule.{states, numbers, after_output}
use Rattle.standard.specs.Box.{columns, in_place, standard_rows, standard_table}
use Rattle.standard.specs.Before as before
use Rattle.standard.specs.Before.{rows_before, table_before, Again, Became, OtherEntriesStay, SixteenChange, NeitherWider}
use Rattle.standard.proofs.Listed.{every, same, same_equal}
use Rattle.standard.proofs.Entries.{inside, AllInside, carried, entry_by, every_entry}

-- THE TABLE OF THAT TIME

tested_before : AllInside before.rule
unfolding inside before.rule before.after_input after_output
tested_before = refl

every_entry_before : (s k : ℕ) → s < states → k < columns → entry table_before s k ≡ before.rule s k
unfolding rows_before
every_entry_before = entry_by before.rule tested_before

-- ENTRY BY ENTRY: one computed test of both rules, carried to each

-- Whether the entry is one of those that change, and whether it became what is said.
unfoldable again : ℕ → ℕ → Bool
again s k = ltb s numbers && eqb k ((s + numbers - 1) % numbers)

abbrev fits : ℕ → Bool → Option ℕ → Option ℕ → Bool
fits s changes was is = cond changes (same was (Some s) && same is (Some (s + numbers))) (same was is)

tested : every (in_place (λ s k. fits s (again s k) (before.rule s k) (now.rule s k))) 0 (states * columns) ≡ true
unfolding again before.rule before.after_input now.rule now.after_input after_output
tested = refl

again_decides : (s k : ℕ) → again s k ≡ true ↔ Again s k
unfolding again
again_decides s k = (
  λ t.
      let (l, e) = (and-eq-true_iff (ltb s numbers) (eqb k ((s + numbers - 1) % numbers))).0 t in
      (ltb-true s numbers l, eqb-true k ((s + numbers - 1) % numbers) e),
  λ (l, e). simp (lt-ltb s numbers l, eq-eqb k ((s + numbers - 1) % numbers) e),
)

became : (s k : ℕ) (changes : Bool) (was is : Option ℕ) → changes ≡ true ↔ Again s k → fits s changes was is ≡ true → Became s k was is
became s k true was is (to, from) t =
    let (b, n) = (and-eq-true_iff (same was (Some s)) (same is (Some (s + numbers)))).0 t in
    let was_s : was ≡ Some s = same_equal was (Some s) b in
    let is_s : is ≡ Some (s + numbers) = same_equal is (Some (s + numbers)) n in
    record {
      exactly = (λ differ. to refl, λ g e. let moved : s ≡ s + numbers = cc in omega arith);
      changes = λ g. (was_s, is_s);
      stays = λ other. absurd (other (to refl));
    }
became s k false was is (to, from) t =
    let equal : was ≡ is = same_equal was is t in
    record {
      exactly = (λ differ. absurd (differ equal), λ g. cc (from g));
      changes = λ g. cc (from g);
      stays = λ other. equal;
    }

pub other_entries_stay : OtherEntriesStay
other_entries_stay s k h l =
    let fit : fits s (again s k) (before.rule s k) (now.rule s k) ≡ true
    = carried (λ s k. fits s (again s k) (before.rule s k) (now.rule s k)) tested s k h l in
    rw (every_entry_before s k h l, every_entry s k h l) (became s k (again s k) (before.rule s k) (now.rule s k) (again_decides s k) fit)

-- COUNTED

pub sixteen_change : SixteenChange
unfolding rows_before standard_rows before.rule before.after_input now.rule now.after_input after_output
sixteen_change = refl

-- NEITHER IS WIDER: row 1, input 0 was 1 and is 17.

was_one : entry table_before 1 0 ≡ Some 1
unfolding before.rule before.after_input
was_one = every_entry_before 1 0 (lit< tt) (lit< tt)

is_seventeen : entry standard_table 1 0 ≡ Some 17
unfolding now.rule now.after_input
is_seventeen = every_entry 1 0 (lit< tt) (lit< tt)

apart : (x : Option ℕ) → x ≡ Some 1 → x ≡ Some 17 → ⊥
apart x one seventeen = let moved : ◌≡◌ {A = ℕ} 1 17 = cc in omega arith

pub neither_wider : NeitherWider
neither_wider =
    record {
      now = λ wider. apart (entry standard_table 1 0) (wider.agrees 1 0 1 (lit< tt) was_one) is_seventeen;
      before = λ wider. apart (entry table_before 1 0) was_one (wider.agrees 1 0 17 (lit< tt) is_seventeen);
    }
