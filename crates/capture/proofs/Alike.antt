-- What the reader and an import answer is settled by the bytes that are read. Assumes nothing.
use mathlib.Core.Path.{◌≡◌, refl, sym, ap, ◌∙◌, fun_ext}
use mathlib.Core.Bool.{Bool, true}
use mathlib.Core.List.{List}
use Prim.Native.Nat.{ℕ, zero, suc, ◌+◌, ◌*◌, ◌-◌, ◌/◌, ◌<◌, min}
use native.Mathlib.Omega.{arith}
use lib.ListN.{length, drop}
use lib.Seq.{get_or-take, get_or-drop}
use Rattle.capture.specs.Limits.{header_size, record_size}
use Rattle.capture.specs.Capture.{byte, two, four, two_at, four_at, big, headed}
use Rattle.capture.specs.Capture.{record_at, records, right, right_at, octet_at, of_layout, layout_at, octets, events_of}
use Rattle.capture.specs.Fields as field
use Rattle.capture.specs.Fields.{Field, OfHeader, OfRecord, of_header, of_record, SameFor, SameFields}
use Rattle.capture.specs.Importing.{imported, after}
use Rattle.capture.specs.Reading.{taken_at, place_after, handed}
use Rattle.capture.specs.Laws.{TakenAlike, ImportedAlike}
use Rattle.capture.specs.Answers.{Taken}
use Rattle.capture.proofs.Records.{record_length}

-- NUMBERS OF THE SAME BYTES

pub twos_same : (order : Bool) {a b a' b' : ℕ} → a ≡ a' → b ≡ b' → two order a b ≡ two order a' b'
twos_same order p q = λ j. two order (p j) (q j)

pub fours_same : (order : Bool) {a b c d a' b' c' d' : ℕ} → a ≡ a' → b ≡ b' → c ≡ c' → d ≡ d' → four order a b c d ≡ four order a' b' c' d'
fours_same order p q r u = λ j. four order (p j) (q j) (r j) (u j)

-- byte j of a record is this byte of the capture
pub record_byte : (s : List ℕ) (k j : ℕ) → j < record_size → byte (record_at s k) j ≡ byte s (header_size + record_size * k + j)
record_byte s k j l =
    get_or-take record_size (drop (header_size + record_size * k) s) j 0 l ∙ get_or-drop (header_size + record_size * k) s j 0

-- ONE RECORD

module _ (s t : List ℕ) (k : ℕ) (h : SameFor k s t) where
  -- the numbers of the header that are read
  head : {i : ℕ} → OfHeader i → byte s i ≡ byte t i
  head {i} f = h.bytes i (of_header f)

  head_two : (order : Bool) (a : ℕ) → ((i : ℕ) → Field a 2 i → OfHeader i) → two_at order s a ≡ two_at order t a
  head_two order a f = twos_same order (head (f a (omega arith))) (head (f (a + 1) (omega arith)))

  head_four : (order : Bool) (a : ℕ) → ((i : ℕ) → Field a 4 i → OfHeader i) → four_at order s a ≡ four_at order t a
  head_four order a f =
      fours_same order (head (f a (omega arith))) (head (f (a + 1) (omega arith))) (head (f (a + 2) (omega arith)))
      (head (f (a + 3) (omega arith)))

  magics : (order : Bool) → four_at order s 0 ≡ four_at order t 0
  magics order = head_four order 0 (λ i f. field.magic (omega arith))

  big_same : big s ≡ big t
  unfolding big
  big_same = rw (magics true)

  headed_same : headed s ≡ headed t
  unfolding headed
  headed_same =
      let major = head_two (big t) 4 (λ i f. field.version_major (omega arith)) in
      let minor = head_two (big t) 6 (λ i f. field.version_minor (omega arith)) in
      let link = head_four (big t) 20 (λ i f. field.link_type (omega arith)) in
      rw (h.long, big_same, magics (big t), major, minor, link)

  -- the numbers of its record that are read
  part : (j : ℕ) → j < record_size → OfRecord j → byte (record_at s k) j ≡ byte (record_at t k) j
  part j l f = record_byte s k j l ∙ h.bytes _ (of_record f) ∙ sym (record_byte t k j l)

  part_four : (order : Bool) (a : ℕ) → a + 3 < record_size → ((j : ℕ) → Field a 4 j → OfRecord j)
      → four_at order (record_at s k) a ≡ four_at order (record_at t k) a
  part_four order a l f =
      fours_same order (part a (omega arith) (f a (omega arith))) (part (a + 1) (omega arith) (f (a + 1) (omega arith)))
      (part (a + 2) (omega arith) (f (a + 2) (omega arith))) (part (a + 3) (omega arith) (f (a + 3) (omega arith)))

  as_long : length (record_at s k) ≡ length (record_at t k)
  as_long = record_length s k ∙ ap (λ (n : ℕ). min record_size (n - (header_size + record_size * k))) h.long ∙ sym (record_length t k)

  right_same : right_at s k ≡ right_at t k
  unfolding right
  right_same =
      let captured = part_four (big t) 8 (omega arith) (λ j f. field.captured (omega arith)) in
      let original = part_four (big t) 12 (omega arith) (λ j f. field.original (omega arith)) in
      rw (big_same, as_long, captured, original)

  octet_same : octet_at s k ≡ octet_at t k
  octet_same = part 16 (omega arith) (field.octet (omega arith))

  taken_same : taken_at s k ≡ taken_at t k
  unfolding taken_at
  taken_same = rw (headed_same, as_long, right_same, octet_same)

pub taken_alike : TakenAlike
taken_alike s t k h = ap (λ (x : Taken). handed x (place_after x k)) (taken_same s t k h)

-- ALL RECORDS

module _ (s t : List ℕ) (h : SameFields s t) where
  records_same : records s ≡ records t
  records_same = ap (λ (n : ℕ). (n - header_size + (record_size - 1)) / record_size) (h 0).long

  octets_same : (k : ℕ) → octets s k ≡ octets t k
  unfolding octets
  octets_same zero = refl
  octets_same (suc k) = rw (octets_same k, octet_same s t k (h k))

  events_same : events_of s ≡ events_of t
  events_same = octets_same (records s) ∙ ap (octets t) records_same

  imported_same : (room : ℕ) → imported s room ≡ imported t room
  unfolding imported
  imported_same room =
      let rights : right_at s ≡ right_at t = fun_ext (λ k. right_same s t k (h k)) in
      let layouts : layout_at s ≡ layout_at t = fun_ext (λ k. ap of_layout (octet_same s t k (h k))) in
      rw (headed_same s t 0 (h 0), records_same, rights, layouts)

pub imported_alike : ImportedAlike
imported_alike s t h =
    record {
      events = events_same s t h;
      imports = λ d r d' x.
          record { answer = x.answer ∙ imported_same s t h (length d); events = x.events ∙ ap (after r d) (events_same s t h) };
    }
