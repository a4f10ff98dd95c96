-- What each function of this crate answers and leaves in the memory lent to it, for every input. Its answer is false exactly when memory
-- is shorter than its layout, and then nothing is written. What is longer keeps the rest. Assumes nothing.
use Rattle.std.specs.Prelude.{◌≡◌, Bool, true, false, ◌&&◌, List, ℕ, leb, length, Ok, Err}
use Rattle.table.specs.declared.answer.Refusal.{Refusal}
use Rattle.table.specs.Test.{Test}
use Rattle.session.specs.declared.Opened.{Opened}
use Rattle.monitor.specs.declared.feed.Fed.{Fed}
use Rattle.session.specs.Open.{opened}
use Rattle.monitor.specs.Feed.{Feeds}
use Rattle.lent.specs.Lent.{front}
use Rattle.figures.specs.Figures.{figures, told_test}
use Rattle.sessiondoors.specs.Layout.{session_words, session_bytes, words_of, bytes_of, session_in}

-- The results of opening and feeding: a refusal's number and places.
abbrev pub test_size : ℕ
test_size = 3

abbrev pub test_results : Test → List ℕ
test_results t = figures (told_test t)

-- There is room for a session and for the results.
abbrev pub roomy : List ℕ → List ℕ → List ℕ → Bool
roomy words bytes told = leb session_words (length words) && (leb session_bytes (length bytes) && leb test_size (length told))

-- Opening: the results are at the start of their memory, and so is the session; a refusal "leaves the session and all memory handed over as
-- they were": what lay in words and bytes lies there still.
pub data Opens (rows : List ℕ) (s i o B c : ℕ) (words bytes told : List ℕ) : Bool → List ℕ → List ℕ → List ℕ → Type 0 where
  short : roomy words bytes told ≡ false → Opens rows s i o B c words bytes told false words bytes told
  refused : {r : Opened} {why : Refusal} → roomy words bytes told ≡ true → r ≡ opened rows s i o B c → r.test ≡ Err why
      → Opens rows s i o B c words bytes told true words bytes (front told (test_results r.test))
  opens : {r : Opened} → roomy words bytes told ≡ true → r ≡ opened rows s i o B c → r.test ≡ Ok tt
      → Opens rows s i o B c words bytes told true (front words (words_of r.session)) (front bytes (bytes_of r.session)) (front told (test_results r.test))

-- Feeding: the session that lies in the memory is fed, and what it became lies there.
pub data Feeding (words bytes : List ℕ) (b : ℕ) (told : List ℕ) : Bool → List ℕ → List ℕ → List ℕ → Type 0 where
  short : roomy words bytes told ≡ false → Feeding words bytes b told false words bytes told
  fed : {r : Fed} → roomy words bytes told ≡ true → Feeds (session_in words bytes) b r
      → Feeding words bytes b told true (front words (words_of r.session)) (front bytes (bytes_of r.session)) (front told (test_results r.test))
