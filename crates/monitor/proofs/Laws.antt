-- Every statement of specs/Laws.antt and specs/Numbers.antt, proved, under one roof: other crates take the laws from here. Assumes nothing.
use Rattle.monitor.specs.Laws.{OneFeed, NotRefused, FedSound, PlausibleAfterFeeding, SessionsAllowMore}
use Rattle.monitor.specs.Numbers.{FeedingTells}
use Rattle.monitor.proofs.Sessions
use Rattle.monitor.proofs.Numbers

-- Feeding.
pub one_feed : OneFeed
one_feed = Sessions.one_feed

pub not_refused : NotRefused
not_refused = Sessions.not_refused

pub fed_sound : FedSound
fed_sound = Sessions.fed_sound

-- Demands 2 and 3.
pub plausible_after_feeding : PlausibleAfterFeeding
plausible_after_feeding = Sessions.plausible_after_feeding

pub sessions_allow_more : SessionsAllowMore
sessions_allow_more = Sessions.sessions_allow_more

-- The numbers.
pub feeding_tells : FeedingTells
feeding_tells = Numbers.feeding_tells
