-- Each byte that is read matters: where an event is handed out, the other bytes that are read and the event settle it. Assumes nothing.
use Rattle.std.specs.Prelude.{Some, Ok}
use mathlib.Core.Path.{◌≡◌, refl, sym, ap, ◌∙◌}
use mathlib.Core.Bool.{Bool, true, false}
use mathlib.Core.List.{List}
use Prim.Native.Nat.{ℕ, zero, suc, ◌+◌, ◌*◌, ◌-◌, ◌≤◌, ◌<◌}
use native.Mathlib.Decide.{ℕ_discrete}
use native.Mathlib.Omega.{arith}
use lib.ListN.{length, set}
use lib.Seq.{get_or-set_same, get_or-set_other}
use Rattle.capture.specs.Limits.{header_size, record_size, magic, version_major, version_minor, link_type}
use Rattle.capture.specs.Capture.{byte, two, four, two_at, four_at, big, record_at}
use Rattle.capture.specs.Fields as field
use Rattle.capture.specs.Fields.{Field, IsRead, of_header, of_record}
use Rattle.capture.specs.Reading.{taken_at}
use Rattle.capture.specs.Laws.{EachRead}
use Rattle.capture.proofs.Alike.{fours_same, record_byte}
use Rattle.capture.proofs.Fields.{header_passes, record_passes}
use Rattle.capture.proofs.Handing as handing
use Rattle.capture.proofs.Records.{record_length}

-- ONE BYTE OF A NUMBER, by the number and its other bytes

pub record OneOfTwo (a b a' b' : ℕ) : Type 0 where
  pub first : b ≡ b' → a ≡ a'
  pub last : a ≡ a' → b ≡ b'

one_of_two : (order : Bool) (a b a' b' : ℕ) → two order a b ≡ two order a' b' → OneOfTwo a b a' b'
one_of_two true a b a' b' e = record { first = λ x. omega arith; last = λ x. omega arith }
one_of_two false a b a' b' e = record { first = λ x. omega arith; last = λ x. omega arith }

pub record OneOfFour (a b c d a' b' c' d' : ℕ) : Type 0 where
  pub first : b ≡ b' → c ≡ c' → d ≡ d' → a ≡ a'
  pub second : a ≡ a' → c ≡ c' → d ≡ d' → b ≡ b'
  pub third : a ≡ a' → b ≡ b' → d ≡ d' → c ≡ c'
  pub last : a ≡ a' → b ≡ b' → c ≡ c' → d ≡ d'

one_of_four : (order : Bool) (a b c d a' b' c' d' : ℕ) → four order a b c d ≡ four order a' b' c' d' → OneOfFour a b c d a' b' c' d'
one_of_four true a b c d a' b' c' d' e =
    record { first = λ x y z. omega arith; second = λ x y z. omega arith; third = λ x y z. omega arith; last = λ x y z. omega arith }
one_of_four false a b c d a' b' c' d' e =
    record { first = λ x y z. omega arith; second = λ x y z. omega arith; third = λ x y z. omega arith; last = λ x y z. omega arith }

-- the magic's bytes, the most significant first
magic_bytes : (a b c d : ℕ) → a < 256 → b < 256 → c < 256 → d < 256 → four true a b c d ≡ magic
    → (a ≡ 161) × (b ≡ 178) × (c ≡ 195) × (d ≡ 212)
magic_bytes a b c d k l m n e =
    let x : a ≡ 161 = omega arith in
    let y : b ≡ 178 = omega arith in
    let z : c ≡ 195 = omega arith in
    (x, y, z, omega arith)

-- TWO CAPTURES THAT AGREE BUT FOR BYTE i

module _ (s t : List ℕ) (i : ℕ) (other : (j : ℕ) → (j ≡ i → ⊥) → byte t j ≡ byte s j) where
  here : (j : ℕ) → i ≡ j → byte t j ≡ byte s j → byte t i ≡ byte s i
  here j e f = rw e f

  in_two : (order : Bool) (a : ℕ) → two_at order t a ≡ two_at order s a → Field a 2 i → byte t i ≡ byte s i
  in_two order a e f =
      let o = one_of_two order _ _ _ _ e in
      elim (ℕ_discrete i a) [
        | yes z ↦ here a z (o.first (other (a + 1) (λ x. omega arith)))
        | no z ↦ here (a + 1) (omega arith) (o.last (other a (λ x. omega arith)))
      ]

  in_four : (order : Bool) (a : ℕ) → four_at order t a ≡ four_at order s a → Field a 4 i → byte t i ≡ byte s i
  in_four order a e f = go (i - a) (omega arith) (omega arith)
    where
      o : OneOfFour (byte t a) (byte t (a + 1)) (byte t (a + 2)) (byte t (a + 3))
          (byte s a) (byte s (a + 1)) (byte s (a + 2)) (byte s (a + 3))
      o = one_of_four order _ _ _ _ _ _ _ _ e

      go : (n : ℕ) → i ≡ a + n → n < 4 → byte t i ≡ byte s i
      go zero z l =
          here a (omega arith)
          (o.first (other (a + 1) (λ x. omega arith)) (other (a + 2) (λ x. omega arith)) (other (a + 3) (λ x. omega arith)))
      go (suc zero) z l =
          here (a + 1) z (o.second (other a (λ x. omega arith)) (other (a + 2) (λ x. omega arith)) (other (a + 3) (λ x. omega arith)))
      go (suc (suc zero)) z l =
          here (a + 2) z (o.third (other a (λ x. omega arith)) (other (a + 1) (λ x. omega arith)) (other (a + 3) (λ x. omega arith)))
      go (suc (suc (suc zero))) z l =
          here (a + 3) z (o.last (other a (λ x. omega arith)) (other (a + 1) (λ x. omega arith)) (other (a + 2) (λ x. omega arith)))
      go (suc (suc (suc (suc n)))) z l = absurd (omega arith)

-- THE BYTE ORDER

abbrev Bytes : List ℕ → Type 0
Bytes s = (j : ℕ) → byte s j < 256

-- no change of one byte turns the magic around
apart : (s t : List ℕ) (i : ℕ) → ((j : ℕ) → (j ≡ i → ⊥) → byte t j ≡ byte s j) → Bytes s → Bytes t
    → four_at true s 0 ≡ magic → four_at false t 0 ≡ magic → ⊥
apart s t i other m n e f =
    let (p, q, r, u) = magic_bytes (byte s 0) (byte s 1) (byte s 2) (byte s 3) (m 0) (m 1) (m 2) (m 3) e in
    let (u', r', q', p') = magic_bytes (byte t 3) (byte t 2) (byte t 1) (byte t 0) (n 3) (n 2) (n 1) (n 0) (omega arith) in
    elim (ℕ_discrete 0 i) [
      | yes z ↦ omega (arith, other 1 (λ x. omega arith))
      | no z ↦ omega (arith, other 0 z)
    ]

same_order : (s t : List ℕ) (i : ℕ) → ((j : ℕ) → (j ≡ i → ⊥) → byte t j ≡ byte s j) → Bytes s → Bytes t → (o o' : Bool)
    → four_at o s 0 ≡ magic → four_at o' t 0 ≡ magic → o' ≡ o
same_order s t i other m n true true e f = refl
same_order s t i other m n true false e f = absurd (apart s t i other m n e f)
same_order s t i other m n false true e f = absurd (apart t s i (λ j d. sym (other j d)) n m f e)
same_order s t i other m n false false e f = refl

-- A RECORD'S NUMBERS, in the capture

record_four : (order : Bool) (s : List ℕ) (k a : ℕ) → a + 3 < record_size
    → four_at order (record_at s k) a ≡ four_at order s (header_size + record_size * k + a)
record_four order s k a l =
    fours_same order (record_byte s k a (omega arith)) (at 1 (omega arith)) (at 2 (omega arith)) (at 3 (omega arith))
  where
    at : (n : ℕ) → n ≤ 3 → byte (record_at s k) (a + n) ≡ byte s (header_size + record_size * k + a + n)
    at n m =
        let e : header_size + record_size * k + (a + n) ≡ header_size + record_size * k + a + n = omega arith in
        record_byte s k (a + n) (omega arith) ∙ ap (byte s) e

-- WHERE AN EVENT IS HANDED OUT

record Known (s : List ℕ) (k b : ℕ) (order : Bool) : Type 0 where
  magic_at : four_at order s 0 ≡ magic
  major_at : two_at order s 4 ≡ version_major
  minor_at : two_at order s 6 ≡ version_minor
  link_at : four_at order s 20 ≡ link_type
  captured_at : four_at order s (header_size + record_size * k + 8) ≡ 1
  original_at : four_at order s (header_size + record_size * k + 12) ≡ 1
  event_at : byte s (header_size + record_size * k + 16) ≡ b
  there : header_size + record_size * k + record_size ≤ length s

known : (s : List ℕ) (k b : ℕ) → taken_at s k ≡ Ok (Some b) → Known s k b (big s)
known s k b e =
    let r = handing.read s k b e in
    let g = (header_passes s).0 r.header in
    let p = (record_passes (big s) (record_at s k)).0 r.lengths in
    record {
      magic_at = g.magic_there;
      major_at = g.major;
      minor_at = g.minor;
      link_at = g.link;
      captured_at = sym (record_four (big s) s k 8 (omega arith)) ∙ p.captured;
      original_at = sym (record_four (big s) s k 12 (omega arith)) ∙ p.original;
      event_at = sym (record_byte s k 16 (omega arith)) ∙ sym r.byte;
      there = omega (arith, p.whole, record_length s k);
    }

settled : (s t : List ℕ) (k i b : ℕ) (order : Bool) → Known s k b order → Known t k b order → IsRead k i
    → ((j : ℕ) → (j ≡ i → ⊥) → byte t j ≡ byte s j) → byte t i ≡ byte s i
settled s t k i b order x y (of_header (field.magic f)) other =
    in_four s t i other order 0 (y.magic_at ∙ sym x.magic_at) (omega arith)
settled s t k i b order x y (of_header (field.version_major f)) other =
    in_two s t i other order 4 (y.major_at ∙ sym x.major_at) (omega arith)
settled s t k i b order x y (of_header (field.version_minor f)) other =
    in_two s t i other order 6 (y.minor_at ∙ sym x.minor_at) (omega arith)
settled s t k i b order x y (of_header (field.link_type f)) other =
    in_four s t i other order 20 (y.link_at ∙ sym x.link_at) (omega arith)
settled s t k i b order x y (of_record (field.captured f)) other =
    in_four s t i other order (header_size + record_size * k + 8) (y.captured_at ∙ sym x.captured_at) (omega arith)
settled s t k i b order x y (of_record (field.original f)) other =
    in_four s t i other order (header_size + record_size * k + 12) (y.original_at ∙ sym x.original_at) (omega arith)
settled s t k i b order x y (of_record (field.octet f)) other =
    here s t i other (header_size + record_size * k + 16) (omega arith) (y.event_at ∙ sym x.event_at)

-- so byte i lies in the capture
inside : {k i : ℕ} → IsRead k i → (n : ℕ) → header_size + record_size * k + record_size ≤ n → i < n
inside (of_header (field.magic f)) n l = omega arith
inside (of_header (field.version_major f)) n l = omega arith
inside (of_header (field.version_minor f)) n l = omega arith
inside (of_header (field.link_type f)) n l = omega arith
inside (of_record (field.captured f)) n l = omega arith
inside (of_record (field.original f)) n l = omega arith
inside (of_record (field.octet f)) n l = omega arith

pub each_read : EachRead
each_read s k i b x small r e l differs e' =
    let y = known s k b e in
    let z = known (set s i x) k b e' in
    let new : byte (set s i x) i ≡ x = get_or-set_same s i x 0 (inside r (length s) y.there) in
    let same : big (set s i x) ≡ big s
    = same_order s (set s i x) i other small (low new) (big s) (big (set s i x)) y.magic_at z.magic_at in
    differs (sym new ∙ settled s (set s i x) k i b (big s) y (rw same at z) r other)
  where
    other : (j : ℕ) → (j ≡ i → ⊥) → byte (set s i x) j ≡ byte s j
    other j d = get_or-set_other s i j x 0 d

    low : byte (set s i x) i ≡ x → Bytes (set s i x)
    low new j =
        elim (ℕ_discrete j i) [
          | yes d ↦ rw (d, new) l
          | no d ↦ rw (other j d) (small j)
        ]
