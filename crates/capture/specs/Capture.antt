-- Request L1: a capture, byte by byte, and what its bytes mean. A capture is a list of bytes; bytes that are missing are 0. Assumes nothing.
use Rattle.std.specs.Prelude.{◌≡◌, Bool, true, false, ◌&&◌, ◌||◌, List, [], ◌∷◌, ◌++◌, ℕ, zero, suc, ◌+◌, ◌*◌, ◌-◌, ◌/◌, ◌≤◌, ◌<◌, eqb, ltb, leb, length, take, drop, get_or}
use Rattle.model.specs.Limits.{most_inputs, most_outputs, most_events}
use Rattle.capture.specs.Limits.{header_size, record_size, magic, version_major, version_minor, link_type}

-- THE NUMBERS

abbrev pub byte : List ℕ → ℕ → ℕ
byte s i = get_or s i 0

-- Numbers of two and of four bytes in either byte order: big, the most significant byte first; or else the least.
abbrev pub two : Bool → ℕ → ℕ → ℕ
two true a b = 256 * a + b
two false a b = a + 256 * b

abbrev pub four : Bool → ℕ → ℕ → ℕ → ℕ → ℕ
four true a b c d = 16777216 * a + 65536 * b + 256 * c + d
four false a b c d = a + 256 * b + 65536 * c + 16777216 * d

-- The number that stands from byte i on.
abbrev pub two_at : Bool → List ℕ → ℕ → ℕ
two_at big s i = two big (byte s i) (byte s (i + 1))

abbrev pub four_at : Bool → List ℕ → ℕ → ℕ
four_at big s i = four big (byte s i) (byte s (i + 1)) (byte s (i + 2)) (byte s (i + 3))

-- THE HEADER

-- Magic a1b2c3d4 in either byte order: the order in which the magic stands there is that of all other numbers.
unfoldable pub big : List ℕ → Bool
big s = eqb (four_at true s 0) magic

-- 24-byte header with magic a1b2c3d4 in either byte order, version 2.4, link type 147. Other fields are not read.
unfoldable pub headed : List ℕ → Bool
headed s =
    leb header_size (length s)
    && (eqb (four_at (big s) s 0) magic
    && (eqb (two_at (big s) s 4) version_major && (eqb (two_at (big s) s 6) version_minor && eqb (four_at (big s) s 20) link_type)))

-- THE RECORDS

-- Then records with a 16-byte header and one octet: record i, counted from 0, or what there is of it. Past the last byte that is nothing.
abbrev pub record_at : List ℕ → ℕ → List ℕ
record_at s i = take record_size (drop (header_size + record_size * i) s)

-- How many records there are. Bytes left after the last whole one are one more, a short one.
abbrev pub records : List ℕ → ℕ
records s = (length s - header_size + (record_size - 1)) / record_size

-- A record is there, with captured and original length both 1. Other fields are not read.
unfoldable pub right : Bool → List ℕ → Bool
right big r = leb record_size (length r) && (eqb (four_at big r 8) 1 && eqb (four_at big r 12) 1)

abbrev pub right_at : List ℕ → ℕ → Bool
right_at s i = right (big s) (record_at s i)

-- One octet,
abbrev pub octet : List ℕ → ℕ
octet r = byte r (record_size - 1)

abbrev pub octet_at : List ℕ → ℕ → ℕ
octet_at s i = octet (record_at s i)

-- 0 to 15 or 128 to 143: the public layout's, whatever the counts of a table.
unfoldable pub of_layout : ℕ → Bool
of_layout x = ltb x most_inputs || (leb 128 x && ltb x (128 + most_outputs))

abbrev pub layout_at : List ℕ → ℕ → Bool
layout_at s i = of_layout (octet_at s i)

-- WHAT A CAPTURE'S BYTES MEAN

-- The octets of the first k records, in order.
unfoldable pub octets : List ℕ → ℕ → List ℕ
octets s zero = []
octets s (suc k) = octets s k ++ (octet_at s k ∷ [])

-- Its events, as event bytes.
abbrev pub events_of : List ℕ → List ℕ
events_of s = octets s (records s)

-- A capture that is good: its header and all its records are right, there are not too many, and each octet is an event.
pub record GoodCapture (s : List ℕ) : Type 0 where
  pub header : headed s ≡ true
  pub lengths : (k : ℕ) → k < records s → right_at s k ≡ true
  pub few : records s ≤ most_events
  pub layout : (k : ℕ) → k < records s → layout_at s k ≡ true
