-- Laws of one block as it is laid out: what the reader's definitions see in it; and that they see it in no other. Assumes nothing.
use mathlib.Core.Path.{◌≡◌, refl, sym, ap, ◌∙◌}
use mathlib.Core.List.{List, [], ◌∷◌, ◌++◌, append_assoc}
use mathlib.Core.Logic.{◌⊎◌}
use Prim.Native.Nat.{ℕ, zero, suc, ◌+◌, ◌-◌, ◌/◌, ◌%◌, ◌≤◌, ◌<◌, min}
use native.Mathlib.Decide.{dec_le}
use native.Mathlib.Omega.{arith}
use lib.ListN.{length, drop, get_or, replicate, length-append, length-take, length-drop, length-replicate, get_or-replicate, get_or-eq_default, get_or-append}
use lib.Seq.{get_or-append-add, get_or-take, get_or-drop, ext_get_or}
use Rattle.std.specs.Int.{w16, to_le_bytes}
use Rattle.model.specs.Limits.{UpTo}
use Rattle.block.specs.Limits.{block_size, payload_at, check_at, room, modulus, setup_kind, row_kind, event_kind, setup_size}
use Rattle.block.specs.Block.{byte, two, kind, byte_one, number, used, payload, stored, weighed, check, GoodBlock}
use Rattle.writer.specs.Writing.{Spelt}
use Rattle.writer.specs.Layout.{spelling, header, body, block_of}

-- NUMBERS AND SUMS

-- two bytes of a number give it back
spelt_back : (n : ℕ) → two (n % 256) (n / 256) ≡ n
spelt_back n = omega arith

-- they are those that the library's `to_le_bytes` gives
pub spelt_so : (n : ℕ) → n < 65536 → to_le_bytes w16 n ≡ spelling n
spelt_so n l = ap (λ (k : ℕ). n % 256 ∷ k ∷ []) (omega arith)

-- and with a low byte below 256 there are no other two
low_is : (a b n : ℕ) → two a b ≡ n → a < 256 → a ≡ n % 256
low_is a b n e l = omega arith

high_is : (a b n : ℕ) → two a b ≡ n → a < 256 → b ≡ n / 256
high_is a b n e l = omega arith

-- only the first n bytes are weighed
weighed_same : (a b : List ℕ) (n : ℕ) → ((i : ℕ) → i < n → byte a i ≡ byte b i) → weighed a n ≡ weighed b n
unfolding weighed
weighed_same a b zero h = refl
weighed_same a b (suc n) h =
    let e : byte a n ≡ byte b n = h n (omega arith) in
    let f : weighed a n ≡ weighed b n = weighed_same a b n (λ i l. h i (omega arith)) in
    rw (e, f)

pub check_same : (a b : List ℕ) → ((i : ℕ) → i < check_at → byte a i ≡ byte b i) → check a ≡ check b
check_same a b h = ap (λ (n : ℕ). n % modulus) (weighed_same a b check_at h)

-- past the end of a list followed by zeros there are zeros
padded : (p : List ℕ) (n j : ℕ) → get_or (p ++ replicate n 0) j 0 ≡ get_or p j 0
padded p n j =
    elim (dec_le (suc j) (length p)) [
      | yes l ↦ get_or-append p (replicate n 0) 0 j l
      | no l ↦
          let e : length p + (j - length p) ≡ j = omega arith in
          ap (λ (k : ℕ). get_or (p ++ replicate n 0) k 0) (sym e)
          ∙ get_or-append-add p (replicate n 0) (j - length p) 0
          ∙ zeros n (j - length p)
          ∙ sym (get_or-eq_default p 0 (omega arith))
    ]
  where
    zeros : (n j : ℕ) → ◌≡◌ {A = ℕ} (get_or (replicate n 0) j 0) 0
    zeros n j =
        elim (dec_le (suc j) n) [
          | yes l ↦ get_or-replicate n j 0 0 l
          | no l ↦ get_or-eq_default (replicate n 0) 0 (rw (length-replicate {A = ℕ} n 0) (omega arith))
        ]

-- WHAT STANDS IN A BLOCK

module _ (q k : ℕ) (p : List ℕ) (h : length p ≤ room) where
  pub length_body : length (body q k p) ≡ check_at
  unfolding body
  length_body = simp (length-append, length-replicate) (omega arith)

  pub length_block : length (block_of q k p) ≡ block_size
  unfolding block_of
  length_block = simp length-append (omega (arith, length_body))

  -- bytes 0 to 509 are the body's
  in_body : (i : ℕ) → i < check_at → byte (block_of q k p) i ≡ byte (body q k p) i
  unfolding block_of
  in_body i l = get_or-append (body q k p) _ 0 i (omega (arith, length_body))

  -- the first six are the header's
  head_at : (i : ℕ) → i < payload_at → byte (block_of q k p) i ≡ get_or (header q k (length p)) i 0
  unfolding body
  head_at i l =
      in_body i (omega arith)
      ∙ ap (λ (x : List ℕ). get_or x i 0) (append_assoc (header q k (length p)) p (replicate (room - length p) 0))
      ∙ get_or-append (header q k (length p)) (p ++ replicate (room - length p) 0) 0 i (omega arith)

  -- then the payload, with zeros after it
  pub payload_byte : (j : ℕ) → j < room → byte (block_of q k p) (payload_at + j) ≡ get_or p j 0
  unfolding body
  payload_byte j l =
      in_body (payload_at + j) (omega arith)
      ∙ ap (λ (x : List ℕ). get_or x (payload_at + j) 0) (append_assoc (header q k (length p)) p (replicate (room - length p) 0))
      ∙ get_or-append-add (header q k (length p)) (p ++ replicate (room - length p) 0) j 0
      ∙ padded p (room - length p) j

  -- and the check of all these
  check_byte : (j : ℕ) → byte (block_of q k p) (check_at + j) ≡ get_or (spelling (check (body q k p))) j 0
  unfolding block_of
  check_byte j =
      ap (λ (n : ℕ). byte (block_of q k p) (n + j)) (sym length_body)
      ∙ get_or-append-add (body q k p) (spelling (check (body q k p))) j 0

  check_is : check (block_of q k p) ≡ check (body q k p)
  check_is = check_same (block_of q k p) (body q k p) in_body

  -- WHAT THE READER SEES

  pub kind_is : kind (block_of q k p) ≡ q
  kind_is = head_at 0 (omega arith)

  one_is : byte_one (block_of q k p) ≡ 0
  one_is = head_at 1 (omega arith)

  number_is : number (block_of q k p) ≡ k
  number_is = omega (arith, head_at 2 (omega arith), head_at 3 (omega arith), spelt_back k)

  pub used_is : used (block_of q k p) ≡ length p
  used_is = omega (arith, head_at 4 (omega arith), head_at 5 (omega arith), spelt_back (length p))

  stored_is : stored (block_of q k p) ≡ check (body q k p)
  stored_is = omega (arith, check_byte 0, check_byte 1, spelt_back (check (body q k p)))

  filled_is : (i : ℕ) → payload_at + used (block_of q k p) ≤ i → i < check_at → byte (block_of q k p) i ≡ 0
  filled_is i l m =
      let e : payload_at + (i - payload_at) ≡ i = omega arith in
      ap (byte (block_of q k p)) (sym e)
      ∙ payload_byte (i - payload_at) (omega arith)
      ∙ get_or-eq_default p 0 (omega (arith, used_is))

  pub payload_is : payload (block_of q k p) ≡ p
  payload_is =
      let u : min (used (block_of q k p)) room ≡ length p = omega (arith, used_is) in
      let n : length (payload (block_of q k p)) ≡ length p =
      length-take (min (used (block_of q k p)) room) (drop payload_at (block_of q k p)) ∙ omega (arith, length-drop payload_at (block_of q k p), length_block) in
      ext_get_or 0 (payload (block_of q k p)) p n
      (λ i l.
      get_or-take (min (used (block_of q k p)) room) (drop payload_at (block_of q k p)) i 0 (omega arith)
      ∙ get_or-drop payload_at (block_of q k p) i 0
      ∙ payload_byte i (omega arith))

  pub spelt_is : Spelt (block_of q k p)
  spelt_is =
      record {
        number_low = omega (arith, head_at 2 (omega arith));
        used_low = omega (arith, head_at 4 (omega arith));
        check_low = omega (arith, check_byte 0);
      }

  -- it is good where its kind, its length and its source are, and where it may follow the block before
  pub good_is : (a : List ℕ) → (k ≡ 0 → q ≡ setup_kind) → (0 < k → (q ≡ row_kind) ⊎ (q ≡ event_kind)) → kind a ≤ q → (q ≡ kind a → used a ≡ room)
      → (k ≡ 0 → length p ≡ setup_size) → (0 < k → UpTo room (length p)) → (k ≡ 0 → get_or p 5 0 ≤ 1) → GoodBlock (block_of q k p) k a
  good_is a k0 kn o f u0 un s =
      record {
        checked = check_is ∙ sym stored_is;
        first_kind = λ z. kind_is ∙ k0 z;
        later_kind = λ l. rw kind_is (kn l);
        ordered = rw kind_is o;
        full = λ e. f (sym kind_is ∙ e);
        zero_one = one_is;
        numbered = number_is;
        first_used = λ z. used_is ∙ u0 z;
        later_used = λ l. rw used_is (un l);
        sourced = λ z. rw (payload_byte 5 (omega arith)) (s z);
        filled = filled_is;
      }

-- THERE IS NO OTHER

-- a block that the reader takes for block k is laid out so
module _ (b : List ℕ) (k : ℕ) (a : List ℕ) (g : GoodBlock b k a) (s : Spelt b) (n : length b ≡ block_size) where
  pub few_used : used b ≤ room
  few_used =
      elim (dec_le 1 k) [
        | yes l ↦ (g.later_used l).1
        | no l ↦ omega (arith, g.first_used (omega arith))
      ]

  pub payload_long : length (payload b) ≡ used b
  payload_long = length-take (min (used b) room) (drop payload_at b) ∙ omega (arith, length-drop payload_at b, few_used)

  few : length (payload b) ≤ room
  few = omega (arith, payload_long, few_used)

  -- in or after the payload
  payload_in : (j : ℕ) → j < room → byte b (payload_at + j) ≡ get_or (payload b) j 0
  payload_in j l =
      elim (dec_le (suc j) (used b)) [
        | yes m ↦ sym (get_or-take (min (used b) room) (drop payload_at b) j 0 (omega arith) ∙ get_or-drop payload_at b j 0)
        | no m ↦ g.filled (payload_at + j) (omega arith) (omega arith) ∙ sym (get_or-eq_default (payload b) 0 (omega (arith, payload_long)))
      ]

  same_head : (i : ℕ) → i < payload_at → byte b i ≡ get_or (header (kind b) k (length (payload b))) i 0
  same_head zero l = refl
  same_head (suc zero) l = g.zero_one
  same_head (suc (suc zero)) l = low_is (byte b 2) (byte b 3) k g.numbered s.number_low
  same_head (suc (suc (suc zero))) l = high_is (byte b 2) (byte b 3) k g.numbered s.number_low
  same_head (suc (suc (suc (suc zero)))) l = low_is (byte b 4) (byte b 5) (length (payload b)) (sym payload_long) s.used_low
  same_head (suc (suc (suc (suc (suc zero))))) l = high_is (byte b 4) (byte b 5) (length (payload b)) (sym payload_long) s.used_low
  same_head (suc (suc (suc (suc (suc (suc i)))))) l = absurd (omega arith)

  same_body : (i : ℕ) → i < check_at → byte b i ≡ byte (block_of (kind b) k (payload b)) i
  same_body i l =
      elim (dec_le (suc i) payload_at) [
        | yes m ↦ same_head i m ∙ sym (head_at (kind b) k (payload b) few i m)
        | no m ↦
            let e : payload_at + (i - payload_at) ≡ i = omega arith in
            ap (byte b) (sym e)
            ∙ payload_in (i - payload_at) (omega arith)
            ∙ sym (payload_byte (kind b) k (payload b) few (i - payload_at) (omega arith))
            ∙ ap (byte (block_of (kind b) k (payload b))) e
      ]

  same_check : stored b ≡ check (body (kind b) k (payload b))
  same_check = sym g.checked ∙ check_same b (block_of (kind b) k (payload b)) same_body ∙ check_is (kind b) k (payload b) few

  same_end : (j : ℕ) → j < 2 → byte b (check_at + j) ≡ byte (block_of (kind b) k (payload b)) (check_at + j)
  same_end zero l =
      low_is (byte b check_at) (byte b (check_at + 1)) (check (body (kind b) k (payload b))) same_check s.check_low
      ∙ sym (check_byte (kind b) k (payload b) few 0)
  same_end (suc zero) l =
      high_is (byte b check_at) (byte b (check_at + 1)) (check (body (kind b) k (payload b))) same_check s.check_low
      ∙ sym (check_byte (kind b) k (payload b) few 1)
  same_end (suc (suc j)) l = absurd (omega arith)

  pub only_block : b ≡ block_of (kind b) k (payload b)
  only_block =
      ext_get_or 0 b (block_of (kind b) k (payload b)) (n ∙ sym (length_block (kind b) k (payload b) few))
      (λ i l.
      elim (dec_le (suc i) check_at) [
        | yes m ↦ same_body i m
        | no m ↦
            let e : check_at + (i - check_at) ≡ i = omega arith in
            ap (byte b) (sym e) ∙ same_end (i - check_at) (omega arith) ∙ ap (byte (block_of (kind b) k (payload b))) e
      ])
