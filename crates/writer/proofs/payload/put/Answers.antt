-- `payload::put` meets its contract: what the stores make is the block. Assumes nothing.
use mathlib.Core.Path.{◌≡◌, ap, ◌∙◌}
use native.Mathlib.Omega.{arith}
use Prim.Native.Nat.{ℕ, ◌<◌}
use lib.ListN.{replicate}
use Rattle.block.specs.Block.{kind_number}
use Rattle.block.specs.Limits.{block_size}
use Rattle.writer.proofs.Blocks.{spelt_so}
use Rattle.writer.proofs.Laying.{written}
use Rattle.writer.proofs.payload.put.Goals as goal

pub returns : goal.returns
returns c =
    let a = c.args in
    let n = c.check-check.result in
    let small : n < 65536 = omega arith in
    let zeros : c.fill.new.self ≡ replicate block_size 0 = c.fill.ensures.after (λ y e. e) ∙ ap (λ (k : ℕ). replicate k 0) c.requires.out_len in
    written (kind_number a.kind) a.number a.payload.now c.fill.new.self c.copy_from_slice.new.self c.copy_from_slice-2.new.self
    zeros (c.copy_from_slice.ensures.after ∙ c.header.ensures) c.copy_from_slice-2.ensures.after c.requires.payload_len_bound
    n c.copy_from_slice-3.new.self c.check-check.ensures (c.copy_from_slice-3.ensures.after ∙ c.to_le_bytes.ensures ∙ spelt_so n small)
