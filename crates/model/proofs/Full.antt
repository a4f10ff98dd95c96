-- A set that an input empties had a full line in each of its configurations. Assumes nothing.
use mathlib.Core.Path.{refl}
use mathlib.Core.List.{List, [], ◌∷◌, ◌++◌}
use mathlib.Core.Logic.{⊎_elim}
use Prim.Native.Nat.{ℕ, ◌<◌}
use native.Mathlib.Omega.{arith}
use lib.ListN.{length, length-append}
use Rattle.model.specs.Model.{Device, input, Place, place, config, Move, arrive, Within, Run, start, Reached}
use Rattle.model.specs.Demands.{FullAtInput}
use Rattle.model.proofs.Reach.{once, joined}
use Rattle.model.proofs.Flags.{lt_or_ge}

-- a run that begins within the bounds ends there
within : (D : Device) (B c : ℕ) (ms : List Move) (p q : Place D.State) → Within D B c p → Run D B c p ms q → Within D B c q
within D B c [] p q w e = rw (← e) w
within D B c (m ∷ ms) p q w (p', st, w', r) = within D B c ms p' q w' r

-- An input after which nothing is plausible found every plausible line full.
pub full_at_input : FullAtInput
full_at_input D B c t a k one empty x (q, (ms, r, e), f) =
    rw (← f) (⊎_elim (λ h. absurd (empty (config next) (next, arrived h, refl))) (λ h. h) (lt_or_ge (length q.line) B))
  where
    next : Place D.State
    next = place q.state (q.line ++ (a ∷ [])) q.run

    inside : Within D B c q
    inside = within D B c ms (start D) q (omega arith, omega arith) r

    arrived : length q.line < B → Reached D B c (start D) (t ++ (input a ∷ [])) next
    arrived h = joined D B c (start D) q next t (input a ∷ []) (ms, r, e) (once D B c (arrive a) q next (k, refl) (simp length-append (omega arith), inside.1))
