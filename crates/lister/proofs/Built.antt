-- How many events are listed. Assumes nothing.
use mathlib.Core.List.{List}
use Prim.Native.Nat.{ℕ, ◌≤◌}
use native.Mathlib.Omega.{arith}
use lib.ListN.{length}
use Rattle.house.proofs.Laws.{read_exactly}
use Rattle.lister.specs.Judging.{row_room, Judges, refused, cramped, listed}
use Rattle.lister.specs.Listing.{event_room, events_in}
use Rattle.lister.specs.Judged.{Judged}

-- no listing has more events than a house file
pub few_listed : {s e o : List ℕ} {j : Judged} {e' o' : List ℕ} → Judges s e o j e' o' → events_in j ≤ event_room
few_listed (refused v) = omega arith
few_listed (cramped v l) = omega arith
few_listed {s} {e} (listed v l w) = let (g, a, b) = (read_exactly s row_room (length e)).0 v in omega (arith, g.contents.few)
