use mathlib.Core.Path.{◌≡◌, ap, ◌∙◌}
use mathlib.Core.List.{List, ◌++◌}
use Prim.Native.Nat.{ℕ}
use native.Mathlib.Omega.{arith}
use lib.ListN.{length, take}
use borrow.Rule.Slice.PartMut.{same_len_mid}
use Rattle.std.proofs.lemmas.List.{length-take-le}
use Rattle.std.proofs.lemmas.Slice.{take-put_mid}
use Rattle.lines.proofs.Building.{filled}
use Rattle.lines.proofs.Zeros.{zeros_left}
use Rattle.lines.specs.Texts.{text_of}
use Rattle.lines.proofs.text.Text.push_all.Goals as goal

-- zeros after the used bytes, as before
pub invariant_of-self : goal.invariant_of-self
invariant_of-self c =
    let used = c.self.inside.used in
    let put : length c.copy_from_slice.new.self ≡ c.min-n.result = ap length c.copy_from_slice.ensures.after ∙ length-take-le _ _ (omega arith) in (
      omega arith,
      same_len_mid used _ c.self.inside.bytes _ c.copy_from_slice.ensures.len ∙ c.self.told,
      zeros_left used _ _ c.self.inside.bytes _ (omega arith) (omega (arith, c.self.told, c.self.invariant)) put c.self.invariant.2,
    )

pub returns : goal.returns
returns c =
    let used = c.self.inside.used in
    let long : length (take used c.self.inside.bytes) ≡ used = length-take-le used c.self.inside.bytes (omega (arith, c.self.told, c.self.invariant)) in
    let put : length c.copy_from_slice.new.self ≡ c.min-n.result = ap length c.copy_from_slice.ensures.after ∙ length-take-le _ _ (omega arith) in
    record {
      is = take-put_mid used _ c.self.inside.bytes _ _ (omega (arith, put)) (omega (arith, c.self.told, c.self.invariant))
          ∙ ap (λ (l : List ℕ). take used c.self.inside.bytes ++ l) c.copy_from_slice.ensures.after
          ∙ filled _ c.args.more.now (omega (arith, long, c.self.invariant)) (rw long c.min-n.ensures)
          ∙ ap (λ (l : List ℕ). text_of (l ++ c.args.more.now)) c.self.view_is;
    }
