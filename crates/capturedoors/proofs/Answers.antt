-- What a function wrote is what its contract says. Assumes nothing.
use mathlib.Core.Path.{◌≡◌}
use mathlib.Core.Bool.{true, false}
use mathlib.Core.List.{List}
use Prim.Native.Nat.{ℕ, ◌≤◌, ◌<◌}
use lib.ListN.{length}
use borrow.Author.Tests.{lt-leb, le-leb}
use Rattle.lent.specs.Lent.{front, put_at}
use Rattle.lent.proofs.Laws.{put_start}
use Rattle.capture.specs.Importing.{Imports}
use Rattle.capture.specs.Reading.{handed_at}
use Rattle.capture.specs.declared.answer.Handed.{Handed}
use Rattle.capture.specs.Answers.{Imported}
use Rattle.capturedoors.specs.Results.{import_size, import_results, hand_size, hand_results, Importing, Handing}
use Rattle.capturedoors.specs.Results as doors

pub import_short : (s d t : List ℕ) → length t < import_size → Importing s d t false d t
import_short s d t l = doors.Importing.short (lt-leb _ _ l)

pub imports_by : {s d t d' w t' : List ℕ} {r : Imported} → import_size ≤ length t → Imports s d r d' → w ≡ import_results r
    → t' ≡ put_at t 0 w → Importing s d t true d' t'
imports_by {t = t} {w = w} {t' = t'} {r = r} l f g h =
    let told : t' ≡ front t (import_results r) = put_start t w (import_results r) t' l g h in
    rw told (doors.imports {r = r} (le-leb _ _ l) f)

pub hand_short : (s : List ℕ) (i : ℕ) (t : List ℕ) → length t < hand_size → Handing s i t false t
hand_short s i t l = doors.Handing.short (lt-leb _ _ l)

pub hands_by : {s : List ℕ} {i : ℕ} {t w t' : List ℕ} {r : Handed} → hand_size ≤ length t → r ≡ handed_at s i → w ≡ hand_results r
    → t' ≡ put_at t 0 w → Handing s i t true t'
hands_by {t = t} {w = w} {t' = t'} {r = r} l f g h =
    let told : t' ≡ front t (hand_results r) = put_start t w (hand_results r) t' l g h in
    rw (told, f) (doors.hands (le-leb _ _ l))
