-- What lies in the memory after an opening and after a feed. Assumes nothing.
use Rattle.std.specs.Prelude.{Ok, Err}
use mathlib.Core.Path.{◌≡◌, refl, ap, ◌∙◌}
use mathlib.Core.List.{List}
use Prim.Native.Nat.{ℕ, ◌≤◌}
use native.Mathlib.Omega.{arith}
use lib.ListN.{length, length-append, length-take, length-drop, length-replicate, length-set}
use lib.Seq.{length-take-le}
use Rattle.table.specs.Test.{Test}
use Rattle.table.specs.Refusals.{told}
use Rattle.session.specs.declared.Session.{Session}
use Rattle.session.specs.declared.Opened.{Opened}
use Rattle.session.specs.Open.{zeros, padded, zero_session, begun, with_session, opening, opened}
use Rattle.monitor.specs.Feed as feed
use Rattle.monitor.specs.Feed.{FedTo}
use Rattle.sessiondoors.specs.Layout.{session_bytes, session_in}
use Rattle.sessiondoors.specs.Doors as doors
use Rattle.sessiondoors.specs.Laws.{Sized, OpenedLies, RefusedOpeningKeeps, FedLies, RefusedKeeps}
use Rattle.sessiondoors.proofs.Answers.{room, refuses}
use Rattle.sessiondoors.proofs.Lies.{words_kept, bytes_kept, session_lies}

-- OPENING

length_zeros : (n : ℕ) → length (zeros n) ≡ n
unfolding zeros
length_zeros n = length-replicate n 0

length_padded : (n : ℕ) (l : List ℕ) → length (padded n l) ≡ n
unfolding padded
length_padded n l = simp (length-append, length-take, length-drop, length_zeros) (omega arith)

begun_sized : (rows : List ℕ) (s i o B c : ℕ) → Sized (begun rows s i o B c)
unfolding begun
begun_sized rows s i o B c =
    record { rows = length_padded 2048 rows; set = length-set (zeros 264) 0 1 ∙ length_zeros 264; held = length_zeros 32 }

zero_sized : Sized zero_session
unfolding zero_session
zero_sized = record { rows = length_zeros 2048; set = length_zeros 264; held = length_zeros 32 }

opened_sized : (rows : List ℕ) (s i o B c : ℕ) → Sized (opened rows s i o B c).session
unfolding opened
opened_sized rows s i o B c = go (opening rows s i o B c)
  where
    go : (t : Test) → Sized (with_session t (begun rows s i o B c)).session
    go (Ok _) = begun_sized rows s i o B c
    go (Err r) = zero_sized

pub opened_lies : OpenedLies
opened_lies rows s i o B c w b t w' b' t' (doors.refused e f k) z = absurd (refuses _ (rw k at z))
opened_lies rows s i o B c w b t w' b' t' (doors.opens {r = x} e f k) z =
    let sized : Sized x.session = rw f (opened_sized rows s i o B c) in
    session_lies x.session w b sized ∙ ap (λ (y : Opened). y.session) f

pub refused_opening_keeps : RefusedOpeningKeeps
refused_opening_keeps rows s i o B c w b t w' b' t' (doors.refused e f k) n = (refl, refl)
refused_opening_keeps rows s i o B c w b t w' b' t' (doors.opens e f k) n = absurd (n (rw k))

-- FEEDING

fed_sized : (w b : List ℕ) (byte : ℕ) (t : Session) → session_bytes ≤ length b → FedTo (session_in w b) byte t → Sized t
unfolding session_in
fed_sized w b byte t h f =
    record { rows = ap length f.rows ∙ length-take-le 2048 b (omega arith); set = f.words; held = f.held.size }

pub fed_lies : FedLies
unfolding told
fed_lies w b byte t w' b' t' (doors.fed e (feed.unsound n)) k = absurd (omega arith)
fed_lies w b byte t w' b' t' (doors.fed e (feed.full n l)) k = absurd (omega arith)
fed_lies w b byte t w' b' t' (doors.fed e (feed.invalid n l v)) k = absurd (omega arith)
fed_lies w b byte t w' b' t' (doors.fed e (feed.fed {t = x} n l v f)) k =
    rw (session_lies x w b (fed_sized w b byte x (room w b t e).bytes f)) f

pub refused_keeps : RefusedKeeps
refused_keeps w b byte t w' b' t' (doors.fed e (feed.unsound n)) k = (words_kept w b (room w b t e).words, bytes_kept w b (room w b t e).bytes)
refused_keeps w b byte t w' b' t' (doors.fed e (feed.full n l)) k = (words_kept w b (room w b t e).words, bytes_kept w b (room w b t e).bytes)
refused_keeps w b byte t w' b' t' (doors.fed e (feed.invalid n l v)) k = (words_kept w b (room w b t e).words, bytes_kept w b (room w b t e).bytes)
refused_keeps w b byte t w' b' t' (doors.fed e (feed.fed n l v f)) k = absurd (k refl)
