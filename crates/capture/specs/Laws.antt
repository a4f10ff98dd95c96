-- What is shown of captures, each under one sentence. proofs/Laws.antt proves them all. Assumes nothing.
use Rattle.std.specs.Prelude.{◌≡◌, Bool, true, false, List, [], ◌∷◌, ◌↔◌, ◌⊎◌, ℕ, ◌+◌, ◌≤◌, ◌<◌, length, take, drop, get_or, set, Some, None, Ok, Err}
use Rattle.model.specs.Limits.{most_inputs, most_outputs, most_events}
use Rattle.table.specs.Bytes.{symbol_of}
use Rattle.capture.specs.Limits.{header_size, record_size, magic, version_major, version_minor, link_type}
use Rattle.capture.specs.Capture.{byte, two, four, two_at, four_at, big, headed, records, right, right_at, octet_at}
use Rattle.capture.specs.Capture.{of_layout, layout_at, octets, events_of, GoodCapture}
use Rattle.capture.specs.Reading.{taken_at, place_after, handed_at}
use Rattle.capture.specs.Fields.{IsRead, SameFor, SameFields}
use Rattle.capture.specs.Importing.{imported, Imports}
use Rattle.capture.specs.declared.answer.Refusal.{Refusal}
use Rattle.capture.specs.declared.answer.Refusal.TheVariants as refusal
use Rattle.capture.specs.Answers.{Imported, Taken}

-- THE BYTES

-- The two byte orders are each other's reverse.
abbrev pub Reversed : Type 0
Reversed = (a b c d : ℕ) → (two true a b ≡ two false b a) × (four true a b c d ≡ four false d c b a)

-- 24-byte header with magic a1b2c3d4 in either byte order, version 2.4, link type 147, all in that order.
pub record GoodHeader (s : List ℕ) : Type 0 where
  pub whole : header_size ≤ length s
  pub magic_there : four_at (big s) s 0 ≡ magic
  pub major : two_at (big s) s 4 ≡ version_major
  pub minor : two_at (big s) s 6 ≡ version_minor
  pub link : four_at (big s) s 20 ≡ link_type

abbrev pub HeaderPasses : Type 0
HeaderPasses = (s : List ℕ) → headed s ≡ true ↔ GoodHeader s

-- Most significant byte first exactly where the magic is written so.
abbrev pub OrderTold : Type 0
OrderTold = (s : List ℕ) → big s ≡ true ↔ (four_at true s 0 ≡ magic)

-- A record with a 16-byte header, captured and original length both 1, and one octet.
pub record GoodRecord (order : Bool) (r : List ℕ) : Type 0 where
  pub whole : record_size ≤ length r
  pub captured : four_at order r 8 ≡ 1
  pub original : four_at order r 12 ≡ 1

abbrev pub RecordPasses : Type 0
RecordPasses = (order : Bool) (r : List ℕ) → right order r ≡ true ↔ GoodRecord order r

-- Octets 0 to 15 or 128 to 143: those that are valid under a table with as many symbols as there may be.
abbrev pub LayoutIs : Type 0
LayoutIs = (x : ℕ) → of_layout x ≡ true ↔ ((x < 16) ⊎ ((128 ≤ x) × (x < 144)))

abbrev pub LayoutValid : Type 0
LayoutValid = (x : ℕ) → of_layout x ≡ true ↔ (symbol_of x most_inputs most_outputs ≡ None → ⊥)

-- One byte a record, in order.
abbrev pub OneEach : Type 0
OneEach = (s : List ℕ) → (length (events_of s) ≡ records s) × ((k : ℕ) → k < records s → get_or (events_of s) k 0 ≡ octet_at s k)

-- The events are all of the public layout's.
abbrev pub AllOfLayout : Type 0
AllOfLayout = (s : List ℕ) → GoodCapture s → (k : ℕ) → k < length (events_of s) → of_layout (get_or (events_of s) k 0) ≡ true

-- THE READER

-- Each call tests 15, then at its record 16, 9 (place the index plus one) and 7; past the last byte it reports the end.
pub data Takes (s : List ℕ) (i : ℕ) : Taken → Type 0 where
  unheaded : headed s ≡ false → Takes s i (Err refusal.Header)
  ended : headed s ≡ true → records s ≤ i → Takes s i (Ok None)
  wrong : headed s ≡ true → i < records s → right_at s i ≡ false → Takes s i (Err (refusal.Record i))
  over : headed s ≡ true → i < records s → right_at s i ≡ true → most_events ≤ i → Takes s i (Err (refusal.Events (i + 1)))
  strange : headed s ≡ true → i < records s → right_at s i ≡ true → i < most_events → layout_at s i ≡ false
      → Takes s i (Err (refusal.Event i))
  handed : headed s ≡ true → i < records s → right_at s i ≡ true → i < most_events → layout_at s i ≡ true
      → Takes s i (Ok (Some (octet_at s i)))

abbrev pub TakesExactly : Type 0
TakesExactly = (s : List ℕ) (i : ℕ) (t : Taken) → Takes s i t ↔ (t ≡ taken_at s i)

-- Calls of a reader at place i hand out the bytes, one a call, and leave it at place j.
pub data HandedOut (s : List ℕ) : ℕ → List ℕ → ℕ → Type 0 where
  no_more : {i : ℕ} → HandedOut s i [] i
  call : {i j b : ℕ} {bytes : List ℕ} → taken_at s i ≡ Ok (Some b) → HandedOut s (place_after (taken_at s i) i) bytes j
      → HandedOut s i (b ∷ bytes) j

-- From its start a reader hands out the octets of the records it has passed, in order.
abbrev pub InOrder : Type 0
InOrder = (s bytes : List ℕ) (j : ℕ) → HandedOut s 0 bytes j → (bytes ≡ octets s j) × (j ≤ records s)

-- Called to its end it has handed out exactly the capture's events, and the capture is good.
pub record CalledToItsEnd (s bytes : List ℕ) (j : ℕ) : Type 0 where
  pub calls : HandedOut s 0 bytes j
  pub end : taken_at s j ≡ Ok None

abbrev pub ExactlyTheEvents : Type 0
ExactlyTheEvents = (s bytes : List ℕ) (j : ℕ) → CalledToItsEnd s bytes j → GoodCapture s × (bytes ≡ events_of s) × (j ≡ records s)

-- A good capture's reader can be called to its end.
abbrev pub ComesToItsEnd : Type 0
ComesToItsEnd = (s : List ℕ) → GoodCapture s → CalledToItsEnd s (events_of s) (records s)

-- The end stays the end, and a refusal leaves the reader there: it hands out the same again.
abbrev pub LeftThere : Type 0
LeftThere =
    (s : List ℕ) (i : ℕ) (t : Taken) → t ≡ taken_at s i → ((b : ℕ) → t ≡ Ok (Some b) → ⊥)
    → (place_after t i ≡ i) × (taken_at s (place_after t i) ≡ t)

-- THE IMPORT

-- Refusals: 15 header short or wrong, then 16 the first record short or with another length, then 9 above 1,048,576 records, 7, and 10
-- with the length needed.
pub data Imported_as (s : List ℕ) (room : ℕ) : Imported → Type 0 where
  unheaded : headed s ≡ false → Imported_as s room (Err refusal.Header)
  wrong : {k : ℕ} → headed s ≡ true → k < records s → ((j : ℕ) → j < k → right_at s j ≡ true) → right_at s k ≡ false
      → Imported_as s room (Err (refusal.Record k))
  over : headed s ≡ true → ((j : ℕ) → j < records s → right_at s j ≡ true) → most_events < records s
      → Imported_as s room (Err (refusal.Events (records s)))
  strange : {k : ℕ} → headed s ≡ true → ((j : ℕ) → j < records s → right_at s j ≡ true) → records s ≤ most_events → k < records s
      → ((j : ℕ) → j < k → layout_at s j ≡ true) → layout_at s k ≡ false → Imported_as s room (Err (refusal.Event k))
  short : GoodCapture s → room < records s → Imported_as s room (Err (refusal.Buffer (records s)))
  good : GoodCapture s → records s ≤ room → Imported_as s room (Ok (records s))

abbrev pub ImportsExactly : Type 0
ImportsExactly = (s : List ℕ) (room : ℕ) (r : Imported) → Imported_as s room r ↔ (r ≡ imported s room)

-- Of one capture and one buffer there is one import, memory included.
abbrev pub OneImport : Type 0
OneImport =
    (s d : List ℕ) (r₁ r₂ : Imported) (d₁ d₂ : List ℕ) → Imports s d r₁ d₁ → Imports s d r₂ d₂ → (r₁ ≡ r₂) × (d₁ ≡ d₂)

-- A refused import writes nothing.
abbrev pub NothingWritten : Type 0
NothingWritten = (s d : List ℕ) (r : Refusal) (d' : List ℕ) → Imports s d (Err r) d' → d' ≡ d

-- A whole import writes one byte a record, the capture's events, and keeps later bytes.
pub record Written (s d : List ℕ) (n : ℕ) (d' : List ℕ) : Type 0 where
  pub capture : GoodCapture s
  pub count : n ≡ records s
  pub fits : n ≤ length d
  pub start : take n d' ≡ events_of s
  pub later : drop n d' ≡ drop n d

abbrev pub WhatIsWritten : Type 0
WhatIsWritten = (s d : List ℕ) (n : ℕ) (d' : List ℕ) → Imports s d (Ok n) d' → Written s d n d'

-- THE TWO AGREE

-- What a good import writes is what the reader hands out when it is called to its end, and it can be.
abbrev pub ReadAsImported : Type 0
ReadAsImported = (s d : List ℕ) (n : ℕ) (d' : List ℕ) → Imports s d (Ok n) d' → CalledToItsEnd s (take n d') n

-- A capture whose reader comes to its end is imported wherever there is room, and the same is written.
abbrev pub ImportedAsRead : Type 0
ImportedAsRead =
    (s bytes : List ℕ) (j : ℕ) (d : List ℕ) (r : Imported) (d' : List ℕ) → CalledToItsEnd s bytes j → Imports s d r d' → j ≤ length d
    → (r ≡ Ok j) × (take j d' ≡ bytes)

-- THE FIELDS

-- Other fields are not read. Two captures of one length that agree on the bytes that are read for a record: there the reader answers the
-- same of both, event or end or refusal, and stands at the same place then.
abbrev pub TakenAlike : Type 0
TakenAlike = (s t : List ℕ) (k : ℕ) → SameFor k s t → handed_at s k ≡ handed_at t k

-- Two that agree on all that is read: they have the same events, and every import of the one is one of the other, answer and memory.
pub record Alike (s t : List ℕ) : Type 0 where
  pub events : events_of s ≡ events_of t
  pub imports : (d : List ℕ) (r : Imported) (d' : List ℕ) → Imports s d r d' → Imports t d r d'

abbrev pub ImportedAlike : Type 0
ImportedAlike = (s t : List ℕ) → SameFields s t → Alike s t

-- The fields that are read are: where a reader hands out an event, another value of any byte that is read for its record, and of no other,
-- and it hands out that event no more.
abbrev pub EachRead : Type 0
EachRead =
    (s : List ℕ) (k i b x : ℕ) → ((j : ℕ) → byte s j < 256) → IsRead k i → taken_at s k ≡ Ok (Some b)
    → x < 256 → (x ≡ byte s i → ⊥) → taken_at (set s i x) k ≡ Ok (Some b) → ⊥
