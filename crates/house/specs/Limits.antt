-- The numbers of document 01, "The house file", that a file has, each under its one name; those of a block are in the crate `block`.
-- Assumes nothing.
use Rattle.std.specs.Prelude.{ℕ, ◌+◌, ◌*◌}
use Rattle.model.specs.Limits.{most_states, most_inputs, most_outputs}
use Rattle.block.specs.Limits.{block_size}

-- A file has 1 to 15 blocks, so at most 7,680 bytes,
abbrev pub most_blocks : ℕ
most_blocks = 15

abbrev pub most_bytes : ℕ
most_bytes = most_blocks * block_size

-- and at most 4,096 events.
abbrev pub most_events : ℕ
most_events = 4096

-- The rows of the largest table.
abbrev pub most_rows : ℕ
most_rows = most_states * (most_inputs + most_outputs)

-- The standard box: 64 states, 16 inputs, 16 outputs.
abbrev pub standard_states : ℕ
standard_states = 64

abbrev pub standard_inputs : ℕ
standard_inputs = 16

abbrev pub standard_outputs : ℕ
standard_outputs = 16
