-- `rillmoth_feed` meets its contract. Assumes nothing.
use Rattle.monitor.specs.Feed.{Feeds}
use Rattle.monitor.specs.declared.feed.Fed.{Fed}
use Rattle.sessiondoors.specs.Layout.{session_in}
use Rattle.sessiondoors.proofs.Kept.{fed_alike, fed_held, held_put}
use Rattle.sessiondoors.proofs.Layouts.{proper_in}
use Rattle.sessiondoors.proofs.Flags.{fed_small}
use Rattle.sessiondoors.proofs.Answers.{room, feeds_by}
use mathlib.Core.Path.{sym, ◌∙◌}
use Rattle.sessiondoors.specs.Doors as doors
use Rattle.sessiondoors.proofs.rillmoth_feed.Goals as goal

pub returns-then-not-roomy : goal.returns-then-not-roomy
returns-then-not-roomy c = doors.short (sym c.roomy.ensures ∙ c.if-not-roomy.true)

pub session_in-s-requires : goal.session_in-s-requires
session_in-s-requires c =
    let r = room c.args.words.now c.args.bytes.now c.args.told.now (sym c.roomy.ensures ∙ c.if-not-roomy.false) in
    (r.words, r.bytes)

pub put_words-requires : goal.put_words-requires
put_words-requires c =
    let r = room c.args.words.now c.args.bytes.now c.args.told.now (sym c.roomy.ensures ∙ c.if-not-roomy.false) in
    let e = c.session_in-s.ensures in
    let p = proper_in c.args.words.now c.args.bytes.now r.words r.bytes in
    (r.words, fed_small c.session_in-s.result c.args.byte (record { test = c.advance-test.result; session = c.advance-test.new.s }) (rw e.value p) e.flag_bound c.advance-test.ensures)

pub put_held-requires : goal.put_held-requires
put_held-requires c =
    let r = room c.args.words.now c.args.bytes.now c.args.told.now (sym c.roomy.ensures ∙ c.if-not-roomy.false) in
    r.bytes

pub returns : goal.returns
returns c =
    let at = c.args in
    let w = at.words.now in
    let b = at.bytes.now in
    let enough = sym c.roomy.ensures ∙ c.if-not-roomy.false in
    let f : Fed = record { test = c.advance-test.result; session = c.advance-test.new.s } in
    let e : Feeds (session_in w b) at.byte f = rw c.session_in-s.ensures.value at c.advance-test.ensures in
    let r = room w b at.told.now enough in
    let n = fed_held _ _ _ (proper_in w b r.words r.bytes).held e in
    feeds_by
    f
    enough
    e
    c.put_words.ensures
    (held_put w b _ f.session r.bytes n (fed_alike _ _ _ e) c.put_held.ensures)
    c.of_test.ensures
    c.put.ensures
