-- Every statement of specs/Laws.antt and specs/Numbers.antt, proved, under one roof: other crates take the laws from here. Assumes nothing.
use Rattle.session.specs.Laws.{FindsUnlessEmpty, OpeningPasses, OpenedSound, OpenedBegins, ZerosUnsound}
use Rattle.session.specs.Numbers.{ThenTells, ThenAmong, OpeningTells, OpeningAmong, OpenedTest}
use Rattle.session.proofs.Found
use Rattle.session.proofs.Openings
use Rattle.session.proofs.Begun
use Rattle.session.proofs.Numbers

pub finds_unless_empty : FindsUnlessEmpty
finds_unless_empty = Found.finds_unless_empty

-- Opening.
pub opening_passes : OpeningPasses
opening_passes = Openings.opening_passes

pub opened_sound : OpenedSound
opened_sound = Begun.opened_sound

pub opened_begins : OpenedBegins
opened_begins = Begun.opened_begins

pub zeros_unsound : ZerosUnsound
zeros_unsound = Begun.zeros_unsound

-- The numbers.
pub then_tells : ThenTells
then_tells = Numbers.then_tells

pub then_among : ThenAmong
then_among = Numbers.then_among

pub opening_tells : OpeningTells
opening_tells = Numbers.opening_tells

pub opening_among : OpeningAmong
opening_among = Numbers.opening_among

pub opened_test : OpenedTest
opened_test = Numbers.opened_test
