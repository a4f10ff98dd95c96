-- What is shown of the flaws, each under one sentence. proofs/Laws.antt proves them all. Assumes nothing.
use Rattle.std.specs.Prelude.{◌≡◌, true, false, ◌↔◌, Some, None, Ok, Err}
use Rattle.flaw.specs.Flaws.{first_flaw}
use Rattle.flaw.specs.declared.Flaw.{Flaw}
use Rattle.flaw.specs.declared.Flaw.TheVariants.{Check, Kind, Order, ByteOne, Number, Used, Source, Fill}
use Rattle.flaw.specs.declared.Seen.{Seen}

-- The check passes; then 20, then 21, then 22, then 23 pass too.
abbrev pub Checked : Seen → Type 0
Checked s = s.check ≡ true

abbrev pub Placed : Seen → Type 0
Placed s = Checked s × (s.kind ≡ true) × (s.order ≡ true)

abbrev pub Numbered : Seen → Type 0
Numbered s = Placed s × (s.one ≡ true) × (s.number ≡ true)

abbrev pub Counted : Seen → Type 0
Counted s = Numbered s × (s.used ≡ true)

abbrev pub Filled : Seen → Type 0
Filled s = Counted s × (s.source ≡ true) × (s.fill ≡ None)

-- A flaw is there, and all that comes before it is right.
abbrev pub Shows : Seen → Flaw → Type 0
Shows s Check = s.check ≡ false
Shows s Kind = Checked s × (s.kind ≡ false)
Shows s Order = Checked s × (s.kind ≡ true) × (s.order ≡ false)
Shows s ByteOne = Placed s × (s.one ≡ false)
Shows s Number = Placed s × (s.one ≡ true) × (s.number ≡ false)
Shows s Used = Numbered s × (s.used ≡ false)
Shows s Source = Counted s × (s.source ≡ false)
Shows s (Fill i) = Counted s × (s.source ≡ true) × (s.fill ≡ Some i)

-- A flaw is told exactly when it is there and all that comes before it is right.
abbrev pub FirstFlaw : Type 0
FirstFlaw = (s : Seen) (f : Flaw) → first_flaw s ≡ Err f ↔ Shows s f

-- A block passes exactly when every part of it is right.
abbrev pub NoFlaw : Type 0
NoFlaw = (s : Seen) → first_flaw s ≡ Ok tt ↔ Filled s
