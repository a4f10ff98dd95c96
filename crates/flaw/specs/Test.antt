-- How the tests of a block end: they pass, or they tell what is wrong. Assumes nothing.
use Rattle.std.specs.Prelude.{Result}
use Rattle.flaw.specs.declared.Flaw.{Flaw}

abbrev pub Test : Type 0
Test = Result (Unit {0}) Flaw
