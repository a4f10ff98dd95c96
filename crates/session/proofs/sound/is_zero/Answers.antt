use Rattle.session.proofs.Passes.{zero_decides}
use Rattle.std.specs.List.{fold}
use lib.Bits.{bit_or}
use mathlib.Core.Path.{◌≡◌}
use Rattle.std.proofs.Common.{rules}
use Rattle.session.proofs.sound.is_zero.Goals as goal

pub returns : goal.returns
returns c = let e : c.fold.result ≡ fold bit_or 0 c.args.bytes.now = search rules in rw e (zero_decides c.args.bytes.now)
