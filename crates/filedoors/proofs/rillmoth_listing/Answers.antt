-- `rillmoth_listing` meets its contract. Assumes nothing.
use mathlib.Core.Path.{sym, ◌∙◌}
use Rattle.filedoors.specs.Doors as doors
use Rattle.filedoors.proofs.Flags.{listed_small}
use Rattle.filedoors.proofs.Answers.{lists_by}
use Rattle.filedoors.proofs.rillmoth_listing.Goals as goal

pub returns-then-not-roomy : goal.returns-then-not-roomy
returns-then-not-roomy c = doors.short (sym c.roomy.ensures ∙ c.if-not-roomy.true)

pub of_listing-requires : goal.of_listing-requires
of_listing-requires c = listed_small _ _ _ _ _ c.text-summary.ensures

pub returns : goal.returns
returns c =
    lists_by c.text-summary.result (sym c.roomy.ensures ∙ c.if-not-roomy.false) c.text-summary.ensures c.of_listing.ensures
    c.put.ensures
