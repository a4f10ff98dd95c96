-- The clauses of soundness, decided one by one. Assumes nothing.
use mathlib.Core.Path.{◌≡◌, refl}
use mathlib.Core.Bool.{Bool, true, false}
use mathlib.Core.List.{List}
use mathlib.Core.Logic.{◌↔◌}
use Rattle.std.specs.Prelude.{Ok, Err}
use Rattle.std.specs.Result.{is_ok, is_err}
use Rattle.table.specs.Test.{Test}
use Prim.Native.Nat.{ℕ, ◌≤◌, ◌<◌}
use native.Mathlib.Omega.{arith}
use lib.Dec.{leb}
use borrow.Author.Tests.{leb-true, leb-false}
use Rattle.model.specs.Model.{Config}
use Rattle.states.specs.Decides.{Decides}
use Rattle.states.proofs.Answers.{denied}
use Rattle.session.specs.Sets.{Holds, Finds}

-- a test that passes exactly where P holds
pub passing : {t : Test} {P : Type 0} → (t ≡ Ok tt) ↔ P → Decides (is_ok t) P
passing {t = Ok _} i = record { yes = λ _. i.0 refl; no = λ e. cc }
passing {t = Err r} i = record { yes = λ e. cc; no = λ _ p. let e = i.1 p in cc e }

pub passes : (t : Test) → is_err t ≡ false → t ≡ Ok tt
passes (Ok _) e = refl
passes (Err r) e = cc

-- a first clause that fails
pub stops : {P Q : Type 0} {b : Bool} → Decides b Q → b ≡ false → (P → Q) → Decides b P
stops d e f = record { yes = λ t. absurd (cc); no = λ _ p. d.no e (f p) }

pub le_decides : (a b : ℕ) → Decides (leb a b) (a ≤ b)
le_decides a b = record { yes = λ e. leb-true a b e; no = λ e h. let k = leb-false a b e in omega arith }

-- THE FLAG

-- with no flag, something is held; with one, nothing is, and its place is below the events seen
pub found_decides : (set : List ℕ) (b : Bool) → Finds set b → Decides b ((x : Config ℕ) × Holds set x)
found_decides set b f = record { yes = f.yes; no = λ e (x, i). f.no e x i }

pub found_not : {set : List ℕ} {b : Bool} {place events : ℕ} → Finds set b → b ≡ true → Decides false ((place < events) × ((x : Config ℕ) → Holds set x → ⊥))
found_not f e = denied (λ (l, n). let (x, i) = f.yes e in n x i)
