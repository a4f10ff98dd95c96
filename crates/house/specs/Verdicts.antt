-- Tests in their order, of a block and of a table, as those of a file: the first that fails gives the answer, as in the crate `flaw`.
-- Assumes nothing.
use Rattle.std.specs.Prelude.{Bool, true, false, ℕ, Ok, Err}
use Rattle.table.specs.Test.{Test}
pub use Rattle.flaw.specs.Flaws.{must, then, first_of}
use Rattle.flaw.specs.Test.{Test as BlockTest}
use Rattle.house.specs.declared.answer.Refusal.TheVariants.{Block, Content}
use Rattle.house.specs.Verdict.{Reading, Verdict}

-- A test of block k.
abbrev pub of_block : BlockTest → ℕ → Verdict
of_block (Ok _) k = Ok tt
of_block (Err flaw) k = Err (Block flaw k)

-- A test of the crate `table`.
abbrev pub of_table : Test → Verdict
of_table (Ok _) = Ok tt
of_table (Err r) = Err (Content r)

abbrev pub is_passed : Verdict → Bool
is_passed (Ok _) = true
is_passed (Err r) = false

abbrev pub is_good : Reading → Bool
is_good (Ok c) = true
is_good (Err r) = false
