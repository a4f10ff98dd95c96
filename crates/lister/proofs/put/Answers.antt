use lib.ListN.{take}
use mathlib.Core.List.{◌++◌}
use Rattle.std.proofs.KnownBytes.{Appends-trans}
use Rattle.lister.proofs.Writing.{left}
use Rattle.lister.proofs.put.Goals as goal

pub loop-rest-preserved : goal.loop-rest-preserved
loop-rest-preserved g c =
    let (done, split, appended) = c.loop-rest.invariant in
    let rest = c.loop-rest.rest.now in
    let n = c.in_ok-n.n in
    (done ++ take n rest, left _ done rest n split, Appends-trans _ _ _ _ _ appended c.in_ok-n.ensures.bytes)
