-- The numbers of document 01, "The house file", that one block has, each under its one name. Assumes nothing.
use Rattle.std.specs.Prelude.{ℕ, ◌-◌}

-- Blocks of 512 bytes.
abbrev pub block_size : ℕ
block_size = 512

-- Bytes 6 to 509 payload; bytes 510 and 511 the check.
abbrev pub payload_at : ℕ
payload_at = 6

abbrev pub check_at : ℕ
check_at = 510

-- So a full block uses 504 bytes.
abbrev pub room : ℕ
room = check_at - payload_at

-- The check is modulo 65,521.
abbrev pub modulus : ℕ
modulus = 65521

-- Block 0 has kind 1; then come blocks of kind 2 (rows), then kind 3 (events).
abbrev pub setup_kind : ℕ
setup_kind = 1

abbrev pub row_kind : ℕ
row_kind = 2

abbrev pub event_kind : ℕ
event_kind = 3

-- Block 0 has used count 6: states, inputs, outputs, B, c, source.
abbrev pub setup_size : ℕ
setup_size = 6
