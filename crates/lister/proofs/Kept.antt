-- What was kept of an input that was read whole. Assumes nothing.
use mathlib.Core.Path.{◌≡◌, sym, ◌∙◌}
use mathlib.Core.List.{List, ◌++◌}
use mathlib.Core.Logic.{⊎_elim}
use Prim.Native.Nat.{ℕ, suc, ◌-◌, ◌≤◌}
use native.Mathlib.Omega.{arith}
use lib.ListN.{length, take, replicate, length-append, length-replicate}
use lib.Seq.{take_all, take_at}
use Rattle.intake.specs.Inputs.{Keeps}
use Rattle.intake.specs.declared.Input.{Input}
use Rattle.intake.proofs.Laws.{whole_kept}
use Rattle.house.specs.Limits.{most_bytes}
use Rattle.lister.specs.Listing.{Kept}
use Rattle.lister.specs.Laws.{WholeInput}

module _ (buffer : List ℕ) (r : Input) (n : ℕ) (room : length buffer ≡ suc most_bytes) (k : Keeps buffer r) where
  abbrev Found : Type 0
  Found = (f : List ℕ) × Kept f (take r.kept buffer) × (length f ≡ n)

  counted : length (take r.kept buffer) ≡ r.kept
  counted = sym k.counts.1

  -- all of it
  all : n ≡ r.kept → Found
  all e =
      let s = take r.kept buffer in
      (s, (suc most_bytes, omega arith, sym (take_all (suc most_bytes) s (omega (arith, counted, k.counts.0, room)))), counted ∙ sym e)

  -- the buffer full, and zeros for what came later
  full : (r.kept ≡ length buffer) × (r.kept ≤ n) → Found
  full (e, h) =
      let f : List ℕ = buffer ++ replicate (n - r.kept) 0 in
      let long : length f ≡ n =
      length-append buffer (replicate (n - r.kept) 0) ∙ (omega (arith, length-replicate {A = ℕ} (n - r.kept) 0, e, h)) in
      let start : take r.kept buffer ≡ take (suc most_bytes) f =
      take_all r.kept buffer (omega (arith, e)) ∙ sym (take_at buffer (replicate (n - r.kept) 0) (suc most_bytes) room) in
      (f, (suc most_bytes, omega arith, start), long)

pub whole_input : WholeInput
whole_input buffer r n room k w =
    ⊎_elim (all buffer r n room k) (full buffer r n room k) (whole_kept buffer r n (omega (arith, room)) k w)
