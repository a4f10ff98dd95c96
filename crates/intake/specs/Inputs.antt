-- What is told of an input, from the counts of its reads. What was read the logic does not say, only how many bytes came. Assumes nothing.
use Rattle.std.specs.Prelude.{◌≡◌, Bool, cond, ◌||◌, Option, None, Some, Ok, Err, List, [], ◌∷◌, ℕ, ◌+◌, min, eqb, length}
use Rattle.std.specs.declared.ops.ControlFlow.{ControlFlow}
use Rattle.std.specs.declared.ops.ControlFlow.TheVariants.{Continue, Break}
use Rattle.io.specs.Counts.{IsPrefixLen}
use Rattle.intake.specs.declared.Input.{Input}

-- The most that is counted: what is above it is told as it.
abbrev pub most_count : ℕ
most_count = 18446744073709551615

-- So many bytes more.
abbrev pub sum_of : ℕ → ℕ → ℕ
sum_of a b = min (a + b) most_count

-- One read after so many bytes: a failed one, of which there is no number, ends the input there and then, one with no bytes is its end, and
-- all others count.
abbrev pub counted : ℕ → Option ℕ → ControlFlow (Option ℕ) ℕ
counted n None = Break None
counted n (Some bytes) = cond (eqb bytes 0) (Break (Some n)) (Continue (sum_of n bytes))

-- How an input ends, from all the reads that are made of it: the counts, one after another, up to its end. One of which a read fails has no
-- count, and one that has no end so far is not read to its end.
abbrev pub ended : ℕ → List (Option ℕ) → Option ℕ
ended n [] = None
ended n (None ∷ rs) = None
ended n (Some bytes ∷ rs) = cond (eqb bytes 0) (Some n) (ended (sum_of n bytes) rs)

-- An input of which n bytes were kept, in so much room, and then so many came, was read whole. One that ended and then went on was not:
-- what came between was not kept.
abbrev pub is_whole : ℕ → ℕ → ℕ → Bool
is_whole n room more = eqb more 0 || eqb n room

-- What is told of an input of which n bytes were kept, in so much room: how many it has, if it was read whole, and else how many came.
abbrev pub input_of : ℕ → ℕ → Option ℕ → Input
input_of n room None = record { kept = n; length = Err n }
input_of n room (Some more) = record { kept = n; length = cond (is_whole n room more) (Ok (sum_of n more)) (Err (sum_of n more)) }

-- What is told of an input whose start was kept in the buffer: how it ended, the reads alone say.
pub record Keeps (buffer : List ℕ) (r : Input) : Type 0 where
  pub counts : IsPrefixLen r.kept buffer
  pub how : Option ℕ
  pub is : r ≡ input_of r.kept (length buffer) how
