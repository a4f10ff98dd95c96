-- The entries of the standard box are the rule's; and so it is with the rows of every rule whose next states are states. Assumes nothing.
use Rattle.std.specs.Prelude.{Option, Some, None}
use mathlib.Core.Path.{◌≡◌, refl, ◌∙◌, sym}
use mathlib.Core.Bool.{Bool, true, cond}
use mathlib.Core.List.{List}
use Prim.Native.Nat.{ℕ, ◌+◌, ◌*◌, ◌<◌}
use native.Mathlib.Omega.{arith}
use native.Mathlib.Nat.{zero-add}
use lib.Dec.{ltb, eqb}
use lib.ListN.{length}
use lib.Arith.{digits_lt, digits_div, digits_mod}
use borrow.Author.Tests.{ltb-true, ne_eqb}
use Rattle.model.specs.Table.{Table, byte, entry}
use Rattle.standard.specs.Rule.{states, inputs, outputs, rule, after_input, after_output}
use Rattle.standard.specs.Box.{written, listed, columns, in_place, standard_rows}
use Rattle.standard.specs.Laws.{EveryEntry}
use Rattle.standard.proofs.Listed.{listed_length, listed_at, every, at}

-- Row s and column k are the place of byte 32s + k.
placed : {A : Type 0} (f : ℕ → ℕ → A) (s k : ℕ) → k < columns → in_place f (0 + (s * columns + k)) ≡ f s k
placed f s k l = rw (zero-add (s * columns + k), digits_div s l, digits_mod s l)

-- A test of every row and column, carried to each.
pub carried : (test : ℕ → ℕ → Bool) → every (in_place test) 0 (states * columns) ≡ true → (s k : ℕ) → s < states → k < columns
    → test s k ≡ true
carried test t s k h l = sym (placed test s k l) ∙ at (in_place test) 0 (states * columns) (s * columns + k) t (digits_lt h l)

-- Each next state is a state.
unfoldable pub inside : Option ℕ → Bool
inside None = true
inside (Some t) = ltb t states

abbrev pub AllInside : (ℕ → ℕ → Option ℕ) → Type 0
AllInside f = every (in_place (λ s k. inside (f s k))) 0 (states * columns) ≡ true

-- THE ROWS OF A RULE

abbrev pub rows_by : (ℕ → ℕ → Option ℕ) → List ℕ
rows_by f = listed (in_place (λ s k. written (f s k))) 0 (states * columns)

abbrev pub table_by : (ℕ → ℕ → Option ℕ) → Table
table_by f = record { states = states; inputs = inputs; outputs = outputs; rows = rows_by f }

-- The byte in each row and column is written by the rule, and read back as such.
byte_written : (f : ℕ → ℕ → Option ℕ) (s k : ℕ) → s < states → k < columns → byte (table_by f) s k ≡ written (f s k)
unfolding byte
byte_written f s k h l =
    listed_at (in_place (λ s k. written (f s k))) 0 (states * columns) (s * columns + k) 255 (digits_lt h l)
    ∙ placed (λ s k. written (f s k)) s k l

read_back : (x : Option ℕ) → inside x ≡ true → cond (eqb (written x) 255) None (Some (written x)) ≡ x
unfolding inside
read_back None t = refl
read_back (Some s) t = rw (ne_eqb s 255 (λ e. omega (arith, ltb-true s states t)))

pub entry_by : (f : ℕ → ℕ → Option ℕ) → AllInside f → (s k : ℕ) → s < states → k < columns → entry (table_by f) s k ≡ f s k
unfolding entry
entry_by f t s k h l = rw (byte_written f s k h l) (read_back (f s k) (carried (λ s k. inside (f s k)) t s k h l))

-- THE STANDARD BOX

tested : AllInside rule
unfolding inside rule after_input after_output
tested = refl

pub rule_inside : (s k : ℕ) → s < states → k < columns → inside (rule s k) ≡ true
rule_inside = carried (λ s k. inside (rule s k)) tested

pub rows_length : length standard_rows ≡ states * columns
unfolding standard_rows
rows_length = listed_length (in_place (λ s k. written (rule s k))) 0 (states * columns)

pub every_entry : EveryEntry
unfolding standard_rows
every_entry = entry_by rule tested
