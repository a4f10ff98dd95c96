-- `rillmoth_open` meets its contract. Assumes nothing.
use Rattle.sessiondoors.proofs.Flags.{opened_small}
use Rattle.sessiondoors.proofs.Answers.{room, told_passed, told_refused, opens_by, refuses_by}
use mathlib.Core.Path.{sym, ◌∙◌}
use Rattle.sessiondoors.specs.Doors as doors
use Rattle.sessiondoors.proofs.rillmoth_open.Goals as goal

pub returns-then-not-roomy : goal.returns-then-not-roomy
returns-then-not-roomy c = doors.short (sym c.roomy.ensures ∙ c.if-not-roomy.true)

pub returns-then-results-ne0 : goal.returns-then-results-ne0
returns-then-results-ne0 c =
    let enough = sym c.roomy.ensures ∙ c.if-not-roomy.false in
    refuses_by c.open-opened.result enough c.open-opened.ensures (told_refused _ c.of_test-results.ensures c.if-results-ne0.true) c.of_test-results.ensures c.put.ensures

pub put_words-requires : goal.put_words-requires
put_words-requires c =
    let at = c.args in
    let r = room at.words.now at.bytes.now at.told.now (sym c.roomy.ensures ∙ c.if-not-roomy.false) in
    (r.words, rw c.open-opened.ensures (opened_small _ _ _ _ _ _))

pub put_bytes-requires : goal.put_bytes-requires
put_bytes-requires c =
    let at = c.args in
    (room at.words.now at.bytes.now at.told.now (sym c.roomy.ensures ∙ c.if-not-roomy.false)).bytes

pub returns : goal.returns
returns c =
    let enough = sym c.roomy.ensures ∙ c.if-not-roomy.false in
    opens_by
    c.open-opened.result
    enough
    c.open-opened.ensures
    (told_passed _ c.of_test-results.ensures c.if-results-ne0.false)
    c.put_words.ensures
    c.put_bytes.ensures
    c.of_test-results.ensures
    c.put.ensures
