-- How a session lies in memory that a program in another language lends: 267 words of 64 bits, and 2,085 bytes. Assumes nothing.
use Rattle.std.specs.Prelude.{List, [], ◌∷◌, ◌++◌, ℕ, get_or, take, drop}
use Rattle.session.specs.declared.Session.{Session}
use Rattle.figures.specs.Figures.{flag_word, flag_in}

abbrev pub session_words : ℕ
session_words = 267

abbrev pub session_bytes : ℕ
session_bytes = 2085

-- Words 0 to 263 are the set, 264 the events, 265 the inputs among them, 266 the flag.
unfoldable pub words_of : Session → List ℕ
words_of s = s.set ++ (s.events ∷ s.arrived ∷ flag_word s.flag ∷ [])

-- Bytes 0 to 2047 are the rows, 2048 to 2079 the held inputs, 2080 states, 2081 inputs, 2082 outputs, 2083 B, 2084 c.
unfoldable pub bytes_of : Session → List ℕ
bytes_of s = s.rows ++ s.held ++ (s.states ∷ s.inputs ∷ s.outputs ∷ s.waiting ∷ s.losses ∷ [])

-- The session that the words and the bytes are. Later ones are no part of it.
unfoldable pub session_in : List ℕ → List ℕ → Session
session_in words bytes =
    record {
      states = get_or bytes 2080 0;
      inputs = get_or bytes 2081 0;
      outputs = get_or bytes 2082 0;
      rows = take 2048 bytes;
      waiting = get_or bytes 2083 0;
      losses = get_or bytes 2084 0;
      set = take 264 words;
      held = take 32 (drop 2048 bytes);
      events = get_or words 264 0;
      arrived = get_or words 265 0;
      flag = flag_in (get_or words 266 0);
    }
