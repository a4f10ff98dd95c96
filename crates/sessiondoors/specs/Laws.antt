-- What is shown of the layout and of the functions, each under one sentence. proofs/Laws.antt proves them all. Assumes nothing.
use Rattle.std.specs.Prelude.{◌≡◌, Bool, true, false, List, ◌⊎◌, ◌↔◌, ℕ, ◌≤◌, ◌<◌, length, get_or}
use Rattle.session.specs.declared.Session.{Session}
use Rattle.session.specs.Open.{opened}
use Rattle.monitor.specs.Feed.{FedTo}
use Rattle.lent.specs.Lent.{front}
use Rattle.sessiondoors.specs.Layout.{session_words, session_bytes, words_of, bytes_of, session_in}
use Rattle.sessiondoors.specs.Doors.{test_size, Opens, Feeding}

-- THE LAYOUT

-- The lengths that a session's arrays have in memory.
pub record Sized (s : Session) : Type 0 where
  pub rows : length s.rows ≡ 2048
  pub set : length s.set ≡ 264
  pub held : length s.held ≡ 32

-- What goes in comes out: a session's words and bytes are as many as the layout says, and are that session;
pub record ComesOut (s : Session) : Type 0 where
  pub words : length (words_of s) ≡ session_words
  pub bytes : length (bytes_of s) ≡ session_bytes
  pub same : session_in (words_of s) (bytes_of s) ≡ s

abbrev pub SessionBack : Type 0
SessionBack = (s : Session) → Sized s → ComesOut s

-- and so they are at the start of memory that is longer.
abbrev pub SessionLies : Type 0
SessionLies = (s : Session) (w b : List ℕ) → Sized s → session_in (front w (words_of s)) (front b (bytes_of s)) ≡ s

-- So many words and bytes are those of the session that they are;
abbrev pub WordsBack : Type 0
WordsBack = (w b : List ℕ) → length w ≡ session_words → words_of (session_in w b) ≡ w

abbrev pub BytesBack : Type 0
BytesBack = (w b : List ℕ) → length b ≡ session_bytes → bytes_of (session_in w b) ≡ b

-- and in longer memory a session that is put where it was changes nothing.
abbrev pub WordsKept : Type 0
WordsKept = (w b : List ℕ) → session_words ≤ length w → front w (words_of (session_in w b)) ≡ w

abbrev pub BytesKept : Type 0
BytesKept = (w b : List ℕ) → session_bytes ≤ length b → front b (bytes_of (session_in w b)) ≡ b

-- WHAT LIES IN THE MEMORY AFTERWARDS

-- After an opening whose number is 0 the memory holds the session that opening gives.
abbrev pub OpenedLies : Type 0
OpenedLies =
    (rows : List ℕ) (s i o B c : ℕ) (w b t w' b' t' : List ℕ) → Opens rows s i o B c w b t true w' b' t' → get_or t' 0 0 ≡ 0
    → session_in w' b' ≡ (opened rows s i o B c).session

-- An opening with another number is refused, and leaves words and bytes as they were: a session that lies there goes on.
abbrev pub RefusedOpeningKeeps : Type 0
RefusedOpeningKeeps =
    (rows : List ℕ) (s i o B c : ℕ) (w b t w' b' t' : List ℕ) → Opens rows s i o B c w b t true w' b' t' → (get_or t' 0 0 ≡ 0 → ⊥)
    → (w' ≡ w) × (b' ≡ b)

-- A feed whose number is 0 leaves the session that was there, fed the event.
abbrev pub FedLies : Type 0
FedLies =
    (w b : List ℕ) (byte : ℕ) (t w' b' t' : List ℕ) → Feeding w b byte t true w' b' t' → get_or t' 0 0 ≡ 0
    → FedTo (session_in w b) byte (session_in w' b')

-- A feed with another number is refused, and leaves words and bytes as they were.
abbrev pub RefusedKeeps : Type 0
RefusedKeeps =
    (w b : List ℕ) (byte : ℕ) (t w' b' t' : List ℕ) → Feeding w b byte t true w' b' t' → (get_or t' 0 0 ≡ 0 → ⊥)
    → (w' ≡ w) × (b' ≡ b)

-- WHEN FALSE

-- Memory for the session or for the results is shorter than its layout.
abbrev pub Short : List ℕ → List ℕ → List ℕ → Type 0
Short w b t = (length w < session_words) ⊎ ((length b < session_bytes) ⊎ (length t < test_size))

-- A function answers false exactly then,
abbrev pub OpeningFalse : Type 0
OpeningFalse =
    (rows : List ℕ) (s i o B c : ℕ) (w b t : List ℕ) (a : Bool) (w' b' t' : List ℕ) → Opens rows s i o B c w b t a w' b' t'
    → a ≡ false ↔ Short w b t

abbrev pub FeedingFalse : Type 0
FeedingFalse =
    (w b : List ℕ) (byte : ℕ) (t : List ℕ) (a : Bool) (w' b' t' : List ℕ) → Feeding w b byte t a w' b' t' → a ≡ false ↔ Short w b t

-- and nothing is written.
abbrev pub OpeningFalseKeeps : Type 0
OpeningFalseKeeps =
    (rows : List ℕ) (s i o B c : ℕ) (w b t w' b' t' : List ℕ) → Opens rows s i o B c w b t false w' b' t'
    → (w' ≡ w) × (b' ≡ b) × (t' ≡ t)

abbrev pub FeedingFalseKeeps : Type 0
FeedingFalseKeeps =
    (w b : List ℕ) (byte : ℕ) (t w' b' t' : List ℕ) → Feeding w b byte t false w' b' t' → (w' ≡ w) × (b' ≡ b) × (t' ≡ t)

-- ONE ANSWER

-- Of one input there is one answer, and one content of each memory that was lent.
abbrev pub OneOpening : Type 0
OneOpening =
    (rows : List ℕ) (s i o B c : ℕ) (w b t : List ℕ) (a₁ a₂ : Bool) (w₁ b₁ t₁ w₂ b₂ t₂ : List ℕ)
    → Opens rows s i o B c w b t a₁ w₁ b₁ t₁ → Opens rows s i o B c w b t a₂ w₂ b₂ t₂
    → (a₁ ≡ a₂) × (w₁ ≡ w₂) × (b₁ ≡ b₂) × (t₁ ≡ t₂)

abbrev pub OneFeeding : Type 0
OneFeeding =
    (w b : List ℕ) (byte : ℕ) (t : List ℕ) (a₁ a₂ : Bool) (w₁ b₁ t₁ w₂ b₂ t₂ : List ℕ)
    → Feeding w b byte t a₁ w₁ b₁ t₁ → Feeding w b byte t a₂ w₂ b₂ t₂
    → (a₁ ≡ a₂) × (w₁ ≡ w₂) × (b₁ ≡ b₂) × (t₁ ≡ t₂)
