-- Every statement of specs/Laws.antt, proved, under one roof: other crates take the laws from here. Assumes nothing.
use mathlib.Core.Path.{refl}
use Rattle.flaw.proofs.Laws.{first_told}
use Rattle.block.specs.Block.{seen, block_test}
use Rattle.block.specs.Laws.{BlockPasses, FlawTold, FirstStray, PartsStand}
use Rattle.block.proofs.Passing

pub block_passes : BlockPasses
block_passes = Passing.block_passes

pub flaw_told : FlawTold
unfolding block_test
flaw_told b k a f = first_told (seen b k a) f

pub first_stray : FirstStray
first_stray = Passing.first_stray

pub parts_stand : PartsStand
parts_stand b = record { kind_at = refl; byte_one_at = refl; number_at = refl; used_at = refl; source_at = refl }
