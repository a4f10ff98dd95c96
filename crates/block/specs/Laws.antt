-- What is shown of one block, each under one sentence. proofs/Laws.antt proves them all. Assumes nothing.
use Rattle.std.specs.Prelude.{◌≡◌, true, false, List, ◌↔◌, ℕ, ◌+◌, ◌<◌, Some, Ok, Err}
use Rattle.flaw.specs.Flaws.{offset_of}
use Rattle.flaw.specs.Laws.{Shows}
use Rattle.flaw.specs.declared.Flaw.{Flaw}
use Rattle.flaw.specs.declared.Flaw.TheVariants.{Kind, ByteOne, Number, Used, Source}
use Rattle.block.specs.Limits.{check_at}
use Rattle.block.specs.Block.{byte, two, kind, byte_one, number, used, source, stray, GoodBlock, fill_of, seen, block_test}

-- 12 and 20 to 23 are given exactly when a block is not what it must be.
abbrev pub BlockPasses : Type 0
BlockPasses = (b : List ℕ) (k : ℕ) (a : List ℕ) → block_test b k a ≡ Ok tt ↔ GoodBlock b k a

-- A flaw is told exactly when it is there and all that comes before it is right.
abbrev pub FlawTold : Type 0
FlawTold = (b : List ℕ) (k : ℕ) (a : List ℕ) (f : Flaw) → block_test b k a ≡ Err f ↔ Shows (seen b k a) f

-- Of the zero fill is told the first byte that should be zero and is not.
abbrev pub FirstStray : Type 0
FirstStray =
    (b : List ℕ) (i : ℕ)
    → fill_of b ≡ Some i
    ↔ ((i < check_at) × (stray b i ≡ true) × ((j : ℕ) → j < i → stray b j ≡ false))

-- The offset told is where the part stands: there it is read.
pub record OffsetsStand (b : List ℕ) : Type 0 where
  pub kind_at : kind b ≡ byte b (offset_of Kind)
  pub byte_one_at : byte_one b ≡ byte b (offset_of ByteOne)
  pub number_at : number b ≡ two (byte b (offset_of Number)) (byte b (offset_of Number + 1))
  pub used_at : used b ≡ two (byte b (offset_of Used)) (byte b (offset_of Used + 1))
  pub source_at : source b ≡ byte b (offset_of Source)

abbrev pub PartsStand : Type 0
PartsStand = (b : List ℕ) → OffsetsStand b
