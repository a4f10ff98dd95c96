-- How the writer lays a file out, byte by byte. That this is the file that the reader's definitions describe, and the only one, is
-- proved (specs/Laws.antt, `LaidOut`, `OneFile`). Assumes nothing.
use Rattle.std.specs.Prelude.{List, [], ◌∷◌, ◌++◌, ℕ, zero, suc, ◌+◌, ◌*◌, ◌-◌, ◌/◌, ◌%◌, length, take, drop, replicate}
use Rattle.block.specs.Limits.{room, setup_kind, row_kind, event_kind}
use Rattle.block.specs.Block.{check}
use Rattle.house.specs.File.{source_byte}
use Rattle.house.specs.declared.answer.Contents.{Contents}
use Rattle.writer.specs.Writing.{blocks_for}

-- A number of two bytes has the low byte first.
abbrev pub spelling : ℕ → List ℕ
spelling n = n % 256 ∷ n / 256 ∷ []

-- Kind, zero, block number, used count.
abbrev pub header : ℕ → ℕ → ℕ → List ℕ
header kind number used = kind ∷ 0 ∷ number % 256 ∷ number / 256 ∷ used % 256 ∷ used / 256 ∷ []

-- Bytes 0 to 509: the header, the payload p, and zeros.
unfoldable pub body : ℕ → ℕ → List ℕ → List ℕ
body kind number p = header kind number (length p) ++ p ++ replicate (room - length p) 0

-- A block: its body, and the check of it.
unfoldable pub block_of : ℕ → ℕ → List ℕ → List ℕ
block_of kind number p = body kind number p ++ spelling (check (body kind number p))

-- The part of p that stands in the block of index j among those of its kind: 504 bytes, or what is left.
abbrev pub piece : List ℕ → ℕ → List ℕ
piece p j = take room (drop (room * j) p)

-- The first k blocks of one kind, of which the first has this number.
unfoldable pub run_of : ℕ → ℕ → List ℕ → ℕ → List ℕ
run_of kind number p zero = []
run_of kind number p (suc j) = run_of kind number p j ++ block_of kind (number + j) (piece p j)

-- All blocks of one kind.
abbrev pub all_of : ℕ → ℕ → List ℕ → List ℕ
all_of kind number p = run_of kind number p (blocks_for (length p))

-- Block 0's payload: states, inputs, outputs, B, c, source.
abbrev pub setup_of : Contents → List ℕ
setup_of c = c.states ∷ c.inputs ∷ c.outputs ∷ c.waiting ∷ c.losses ∷ source_byte c.source ∷ []

-- The setup, then the rows, then the events.
unfoldable pub file_of : Contents → List ℕ → List ℕ → List ℕ
file_of c rows trace =
    block_of setup_kind 0 (setup_of c)
    ++ all_of row_kind 1 rows
    ++ all_of event_kind (1 + blocks_for (length rows)) trace
