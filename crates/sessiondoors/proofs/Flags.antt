-- A flag that the monitor gives has a place below the events seen, so its word holds it. Assumes nothing.
use Rattle.std.specs.Prelude.{Option, Some, None, Ok, Err}
use mathlib.Core.List.{List}
use Prim.Native.Nat.{ℕ, ◌^◌, ◌≤◌, ◌<◌}
use native.Mathlib.Omega.{arith}
use Rattle.model.specs.Limits.{most_events}
use Rattle.table.specs.Test.{Test}
use Rattle.session.specs.declared.Session.{Session}
use Rattle.monitor.specs.declared.feed.Fed.{Fed}
use Rattle.session.specs.Open.{opening, begun, zero_session, with_session, opened}
use Rattle.session.specs.Session.{FlagFits, Proper}
use Rattle.monitor.specs.Feed as feed
use Rattle.monitor.specs.Feed.{Feeds}
use Rattle.monitor.proofs.Laws.{fed_sound}
use Rattle.figures.specs.Figures.{flag_word}
use Rattle.figures.proofs.Laws.{none_fits, place_fits}

-- its word holds it
abbrev Small : Option ℕ → Type 0
Small f = flag_word f < 2 ^ 64

-- OPENING

pub opened_small : (rows : List ℕ) (s i o B c : ℕ) → Small (opened rows s i o B c).session.flag
unfolding opened begun zero_session
opened_small rows s i o B c = go (opening rows s i o B c)
  where
    go : (t : Test) → Small (with_session t (begun rows s i o B c)).session.flag
    go (Ok _) = none_fits
    go (Err r) = none_fits

-- FEEDING

fits_small : (f : Option ℕ) (n : ℕ) (set : List ℕ) → n ≤ most_events → FlagFits n set f → Small f
fits_small None n set h k = none_fits
fits_small (Some place) n set h k = place_fits place (omega (arith, k.0))

pub fed_small : (s : Session) (b : ℕ) (r : Fed) → Proper s → Small s.flag → Feeds s b r → Small r.session.flag
fed_small s b _ p h (feed.unsound _) = h
fed_small s b _ p h (feed.full _ _) = h
fed_small s b _ p h (feed.invalid _ _ _) = h
fed_small s b _ p h (feed.fed {t} a l v f) =
    let (sound, _) = fed_sound s t b p (feed.fed a l v f) in
    fits_small t.flag t.events t.set sound.limit sound.flag
