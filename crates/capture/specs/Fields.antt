-- Request L1, "Other fields are not read": which bytes of a capture are read, and captures that agree on them. Assumes nothing.
use Rattle.std.specs.Prelude.{◌≡◌, List, ℕ, ◌+◌, ◌*◌, ◌≤◌, ◌<◌, length}
use Rattle.capture.specs.Limits.{header_size, record_size}
use Rattle.capture.specs.Capture.{byte}

-- Byte i is one of the n bytes from byte a on.
abbrev pub Field : ℕ → ℕ → ℕ → Type 0
Field a n i = (a ≤ i) × (i < a + n)

-- Of the header are read the magic, the version and the link type; not the time zone, the accuracy of times
-- and the length at which records are cut.
pub data OfHeader (i : ℕ) : Type 0 where
  magic : Field 0 4 i → OfHeader i
  version_major : Field 4 2 i → OfHeader i
  version_minor : Field 6 2 i → OfHeader i
  link_type : Field 20 4 i → OfHeader i

-- Of a record are read the captured length, the original length and the octet; not the time.
pub data OfRecord (j : ℕ) : Type 0 where
  captured : Field 8 4 j → OfRecord j
  original : Field 12 4 j → OfRecord j
  octet : Field 16 1 j → OfRecord j

-- Byte i of a capture is read for record k.
pub data IsRead (k : ℕ) : ℕ → Type 0 where
  of_header : {i : ℕ} → OfHeader i → IsRead k i
  of_record : {j : ℕ} → OfRecord j → IsRead k (header_size + record_size * k + j)

-- Two captures of one length that agree on the bytes that are read for record k,
pub record SameFor (k : ℕ) (s t : List ℕ) : Type 0 where
  pub long : length s ≡ length t
  pub bytes : (i : ℕ) → IsRead k i → byte s i ≡ byte t i

-- and for every record.
abbrev pub SameFields : List ℕ → List ℕ → Type 0
SameFields s t = (k : ℕ) → SameFor k s t
