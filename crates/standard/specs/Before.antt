-- The standard box as it was before it repeated its report: document 01's rule for inputs, word for word, and the table of that time. They
-- stand here for the statements at the end, and for nothing else. The rule for outputs is that of today. Assumes nothing.
use Rattle.std.specs.Prelude.{◌≡◌, cond, List, [], ◌∷◌, ◌↔◌, ℕ, ◌+◌, ◌-◌, ◌*◌, ◌%◌, ◌<◌, ltb, eqb, Option, Some, None}
use Rattle.model.specs.Table.{Table, entry}
use Rattle.model.specs.Demands.{Wider}
use Rattle.standard.specs.Rule.{states, inputs, outputs, numbers, most_unreported, state, expected, unreported, after_output}
use Rattle.standard.specs.Box.{written, listed, columns, in_place, standard_rows, standard_table}

-- Input a: if a = e and p < 3, then e becomes (e + 1) modulo 16 and p grows by one; if a = e and p = 3, not allowed; if a differs
-- from e, the state stays.
unfoldable pub after_input : ℕ → ℕ → ℕ → Option ℕ
after_input e p a =
    cond (eqb a e) (cond (ltb p most_unreported) (Some (state ((e + 1) % numbers) (p + 1))) None) (Some (state e p))

unfoldable pub rule : ℕ → ℕ → Option ℕ
rule s k =
    cond (ltb k inputs) (after_input (expected s) (unreported s) k) (after_output (expected s) (unreported s) (k - inputs))

unfoldable pub rows_before : List ℕ
rows_before = listed (in_place (λ s k. written (rule s k))) 0 (states * columns)

abbrev pub table_before : Table
table_before = record { states = states; inputs = inputs; outputs = outputs; rows = rows_before }

-- WHAT BECAME OF IT

-- Row e, input (e − 1) modulo 16; row 0 too.
abbrev pub Again : ℕ → ℕ → Type 0
Again s k = (s < numbers) × (k ≡ (s + numbers - 1) % numbers)

-- What an entry was, and what it is: it changes exactly there, from s to s + 16; other entries stay.
pub record Became (s k : ℕ) (was now : Option ℕ) : Type 0 where
  pub exactly : (was ≡ now → ⊥) ↔ Again s k
  pub changes : Again s k → (was ≡ Some s) × (now ≡ Some (s + numbers))
  pub stays : (Again s k → ⊥) → was ≡ now

abbrev pub OtherEntriesStay : Type 0
OtherEntriesStay = (s k : ℕ) → s < states → k < columns → Became s k (entry table_before s k) (entry standard_table s k)

-- The bytes at which two lists differ, counted,
abbrev pub differing : List ℕ → List ℕ → ℕ
differing [] m = 0
differing (x ∷ l) [] = 0
differing (x ∷ l) (y ∷ m) = cond (eqb x y) 0 1 + differing l m

-- are 16.
abbrev pub SixteenChange : Type 0
SixteenChange = differing rows_before standard_rows ≡ 16

-- Demand 3 does not compare the two tables: neither is wider.
pub record NeitherWider : Type 0 where
  pub now : Wider table_before standard_table → ⊥
  pub before : Wider standard_table table_before → ⊥
