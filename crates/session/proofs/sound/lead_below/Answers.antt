use Rattle.session.proofs.Passes.{most_decides}
use Rattle.std.specs.List.{fold}
use Prim.Native.Nat.{◌+◌, ◌%◌, max}
use mathlib.Core.Path.{◌≡◌}
use Rattle.std.proofs.Common.{rules}
use native.Mathlib.Omega.{arith}
use Rattle.session.proofs.sound.lead_below.Goals as goal

pub returns : goal.returns
returns c = let e : c.fold.result ≡ fold (λ a x. max a ((x + 1) % 256)) 0 c.args.entries.now = search rules in rw e (most_decides c.args.states c.args.entries.now (λ k. omega (arith, c.type_inv.entries k)))
