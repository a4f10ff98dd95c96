-- What a function wrote, part by part, is what its contract says. Assumes nothing.
use Rattle.std.specs.Prelude.{Ok, Err}
use Rattle.std.specs.Result.{is_err}
use mathlib.Core.Path.{◌≡◌, refl}
use mathlib.Core.Bool.{true, false, ◌&&◌, and-eq-true_iff}
use mathlib.Core.List.{List}
use Prim.Native.Nat.{ℕ, ◌≤◌}
use lib.Dec.{leb}
use lib.ListN.{length, get_or}
use native.Mathlib.Omega.{arith}
use borrow.Author.Tests.{leb-true}
use Rattle.table.specs.Refusals.{told}
use Rattle.table.specs.declared.answer.Refusal.{Refusal}
use Rattle.table.specs.declared.answer.Refusal.TheVariants.{Rows, States, Symbols, Entry, Waiting, Losses, Event, Unsound, Events, Buffer}
use Rattle.table.specs.Test.{Test}
use Rattle.session.specs.declared.Opened.{Opened}
use Rattle.monitor.specs.declared.feed.Fed.{Fed}
use Rattle.session.specs.Open.{opened}
use Rattle.monitor.specs.Feed.{Feeds}
use Rattle.lent.specs.Lent.{front, put_at}
use Rattle.lent.proofs.Laws.{put_start}
use Rattle.sessiondoors.specs.Layout.{session_words, session_bytes, words_of, bytes_of, session_in}
use Rattle.sessiondoors.specs.Doors.{test_size, test_results, roomy, Opens, Feeding}
use Rattle.sessiondoors.specs.Doors as doors

-- there is room
pub record Room (w b t : List ℕ) : Type 0 where
  pub words : session_words ≤ length w
  pub bytes : session_bytes ≤ length b
  pub told : test_size ≤ length t

pub room : (w b t : List ℕ) → roomy w b t ≡ true → Room w b t
room w b t e =
    let (x, r) = (and-eq-true_iff (leb session_words (length w)) (leb session_bytes (length b) && leb test_size (length t))).0 e in
    let (y, z) = (and-eq-true_iff (leb session_bytes (length b)) (leb test_size (length t))).0 r in
    record { words = leb-true _ _ x; bytes = leb-true _ _ y; told = leb-true _ _ z }

-- a number of 0 is told of no refusal
pub refuses : (r : Refusal) → (told r).number ≡ 0 → ⊥
unfolding told
refuses (Rows _) e = omega arith
refuses (States _) e = omega arith
refuses (Symbols _) e = omega arith
refuses (Entry _ _) e = omega arith
refuses (Waiting _) e = omega arith
refuses (Losses _) e = omega arith
refuses (Event _) e = omega arith
refuses Unsound e = omega arith
refuses (Events _) e = omega arith
refuses (Buffer _) e = omega arith

-- what is told with 0 passed, and what is not is refused
pub told_passed : (t : Test) {v : List ℕ} → v ≡ test_results t → get_or v 0 0 ≡ 0 → is_err t ≡ false
told_passed (Ok _) e n = refl
told_passed (Err r) e n = absurd (refuses r (rw e at n))

pub told_refused : (t : Test) {v : List ℕ} → v ≡ test_results t → (get_or v 0 0 ≡ 0 → ⊥) → is_err t ≡ true
told_refused (Ok _) e n = absurd (n (rw e))
told_refused (Err r) e n = refl

pub opens_by : {rows : List ℕ} {s i o B c : ℕ} {w b t w' b' v t' : List ℕ} (r : Opened) → roomy w b t ≡ true → r ≡ opened rows s i o B c
    → is_err r.test ≡ false → w' ≡ front w (words_of r.session) → b' ≡ front b (bytes_of r.session) → v ≡ test_results r.test
    → t' ≡ put_at t 0 v → Opens rows s i o B c w b t true w' b' t'
opens_by {w = w} {b = b} {t = t} {v = v} {t' = t'} r e f n x y g h =
    let z : t' ≡ front t (test_results r.test) = put_start t v (test_results r.test) t' (room w b t e).told g h in
    rw (x, y, z) (doors.opens {r = r} e f (passes r.test n))
  where
    passes : (t : Test) → is_err t ≡ false → t ≡ Ok tt
    passes (Ok _) k = refl
    passes (Err why) k = cc

pub refuses_by : {rows : List ℕ} {s i o B c : ℕ} {w b t v t' : List ℕ} (r : Opened) → roomy w b t ≡ true → r ≡ opened rows s i o B c
    → is_err r.test ≡ true → v ≡ test_results r.test → t' ≡ put_at t 0 v → Opens rows s i o B c w b t true w b t'
refuses_by {rows} {s} {i} {o} {B} {c} {w} {b} {t} {v} {t'} r e f n g h =
    let z : t' ≡ front t (test_results r.test) = put_start t v (test_results r.test) t' (room w b t e).told g h in
    rw z (go r.test refl)
  where
    go : (q : Test) → r.test ≡ q → Opens rows s i o B c w b t true w b (front t (test_results r.test))
    go (Ok _) k = let x = rw k at n in cc x
    go (Err why) k = doors.refused {r = r} e f k

pub feeds_by : {w b : List ℕ} {byte : ℕ} {t w' b' v t' : List ℕ} (r : Fed) → roomy w b t ≡ true → Feeds (session_in w b) byte r
    → w' ≡ front w (words_of r.session) → b' ≡ front b (bytes_of r.session) → v ≡ test_results r.test → t' ≡ put_at t 0 v
    → Feeding w b byte t true w' b' t'
feeds_by {w = w} {b = b} {t = t} {v = v} {t' = t'} r e f x y g h =
    let z : t' ≡ front t (test_results r.test) = put_start t v (test_results r.test) t' (room w b t e).told g h in
    rw (x, y, z) (doors.fed {r = r} e f)
