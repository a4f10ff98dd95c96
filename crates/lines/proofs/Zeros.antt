-- Zeros after the bytes of a text. Assumes nothing.
use mathlib.Core.Path.{◌≡◌, sym, ◌∙◌, ap}
use mathlib.Core.List.{List}
use Prim.Native.Nat.{ℕ, ◌+◌, ◌-◌, ◌≤◌}
use native.Mathlib.Omega.{arith}
use lib.ListN.{length, drop, replicate}
use borrow.Rule.Slice.PartMut.{put_mid}
use Rattle.std.proofs.lemmas.List.{drop-drop, drop-replicate}
use Rattle.std.proofs.lemmas.Slice.{drop-put_mid}

fewer : (used n : ℕ) → ◌≡◌ {A = List ℕ} (replicate (96 - used - n) 0) (replicate (96 - (used + n)) 0)
fewer used n = let e : 96 - used - n ≡ 96 - (used + n) = omega arith in ap (λ (m : ℕ). replicate m 0) e

-- n bytes more use up n of the zeros
pub zeros_left : (used k n : ℕ) (bytes more : List ℕ) → k ≡ n → used ≤ length bytes → length more ≡ n → drop used bytes ≡ replicate (96 - used) 0
    → drop (used + n) (put_mid used k bytes more) ≡ replicate (96 - (used + n)) 0
zeros_left used k n bytes more e within long zeros =
    drop-put_mid used k bytes more (used + n) (omega arith) within (long ∙ sym e) ∙ sym (drop-drop n used bytes)
    ∙ ap (λ (l : List ℕ). drop n l) zeros ∙ drop-replicate n (96 - used) 0 ∙ fewer used n
