-- `file::lay` meets its contract: what the three parts make is the file. Assumes nothing.
use mathlib.Core.List.{append_assoc}
use Rattle.writer.specs.Layout.{file_of}
use Rattle.writer.proofs.file.lay.Goals as goal

pub returns : goal.returns
unfolding file_of
returns c =
    rw (c.put.ensures, c.put_all.ensures, c.put_all-2.ensures, c.setup.ensures, c.blocks_for-row_blocks.ensures.value) (simp append_assoc)
