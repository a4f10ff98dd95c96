-- Every statement of specs/Laws.antt, proved, under one roof: other crates take the laws from here. Assumes nothing.
use Rattle.sessiondoors.specs.Laws.{SessionBack, SessionLies, WordsBack, BytesBack, WordsKept, BytesKept, OpenedLies, RefusedOpeningKeeps, FedLies, RefusedKeeps, OneOpening, OneFeeding}
use Rattle.sessiondoors.specs.Laws.{OpeningFalse, FeedingFalse, OpeningFalseKeeps, FeedingFalseKeeps}
use Rattle.sessiondoors.proofs.Lies
use Rattle.sessiondoors.proofs.After
use Rattle.sessiondoors.proofs.Short
use Rattle.sessiondoors.proofs.Unique

-- The layout.
pub session_back : SessionBack
session_back = Lies.session_back

pub session_lies : SessionLies
session_lies = Lies.session_lies

pub words_back : WordsBack
words_back = Lies.words_back

pub bytes_back : BytesBack
bytes_back = Lies.bytes_back

pub words_kept : WordsKept
words_kept = Lies.words_kept

pub bytes_kept : BytesKept
bytes_kept = Lies.bytes_kept

-- What lies in the memory afterwards.
pub opened_lies : OpenedLies
opened_lies = After.opened_lies

pub refused_opening_keeps : RefusedOpeningKeeps
refused_opening_keeps = After.refused_opening_keeps

pub fed_lies : FedLies
fed_lies = After.fed_lies

pub refused_keeps : RefusedKeeps
refused_keeps = After.refused_keeps

-- When false.
pub opening_false : OpeningFalse
opening_false = Short.opening_false

pub feeding_false : FeedingFalse
feeding_false = Short.feeding_false

pub opening_false_keeps : OpeningFalseKeeps
opening_false_keeps = Short.opening_false_keeps

pub feeding_false_keeps : FeedingFalseKeeps
feeding_false_keeps = Short.feeding_false_keeps

-- One answer.
pub one_opening : OneOpening
one_opening = Unique.one_opening

pub one_feeding : OneFeeding
one_feeding = Unique.one_feeding
