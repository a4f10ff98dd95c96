-- `digest` meets its contract: the remainders of a sum's parts make the sum's. Assumes nothing.
use mathlib.Core.Path.{◌≡◌, refl, sym, ◌∙◌, ap}
use mathlib.Core.List.{List}
use Prim.Native.Nat.{ℕ, ◌+◌, ◌*◌, ◌%◌}
use native.Mathlib.Numerals.{add-one}
use lib.ListN.{get_or}
use Rattle.std.proofs.Math.Nat.{mod-add-mod, add-mod-mod}
use Rattle.std.proofs.lemmas.Nat.{mul-mod_first}
use Rattle.casework.specs.Digest.{weighed}
use Rattle.casework.proofs.digest.Goals as goal

more : (m sum all weight byte : ℕ) → sum ≡ all % m → (sum + weight % m * byte) % m ≡ (all + weight * byte) % m
more m sum all weight byte e =
    rw e
    (mod-add-mod all m (weight % m * byte) ∙ sym (add-mod-mod all (weight % m * byte) m)
    ∙ ap (λ (x : ℕ). (all + x) % m) (mul-mod_first weight byte m) ∙ add-mod-mod all (weight * byte) m)

next : (memory : List ℕ) (i byte : ℕ) → byte ≡ get_or memory i 0 → weighed memory i + (i + 1) * byte ≡ weighed memory (i + 1)
next memory i byte e = rw (e, add-one) refl

pub loop-i-preserved : goal.loop-i-preserved
loop-i-preserved c =
    more 65521 c.loop-i.sum (weighed c.args.memory.now c.loop-i.i) (c.loop-i.i + 1) c.from.result c.loop-i.invariant
    ∙ ap (λ (x : ℕ). x % 65521) (next c.args.memory.now c.loop-i.i c.from.result c.from.ensures)
