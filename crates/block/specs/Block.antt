-- Document 01, "The house file": one block, byte by byte; what it must be; and the tests of it, numbers 12 and 20 to 23. A block is
-- a list of 512 bytes; of a list that is shorter, the bytes that are missing are 0. Assumes nothing.
use Rattle.std.specs.Prelude.{◌≡◌, Bool, true, cond, not, ◌&&◌, ◌||◌, List, [], ◌⊎◌, ℕ, zero, suc, ◌+◌, ◌*◌, ◌%◌, ◌≤◌, ◌<◌, min, eqb, ltb, leb, get_or, take, drop, Option, Some, None}
use Rattle.model.specs.Limits.{UpTo}
use Rattle.table.specs.First.{first}
use Rattle.flaw.specs.Flaws.{first_flaw}
use Rattle.flaw.specs.declared.Seen.{Seen}
use Rattle.flaw.specs.Test.{Test}
use Rattle.block.specs.declared.kinds.Kind.{Kind}
use Rattle.block.specs.declared.kinds.Kind.TheVariants.{Setup, Rows, Events}
use Rattle.block.specs.Limits.{payload_at, check_at, room, modulus, setup_kind, row_kind, event_kind, setup_size}

-- THE BYTES

abbrev pub byte : List ℕ → ℕ → ℕ
byte b i = get_or b i 0

-- Numbers of two bytes have the low byte first.
abbrev pub two : ℕ → ℕ → ℕ
two low high = low + 256 * high

-- Byte 0 kind;
abbrev pub kind : List ℕ → ℕ
kind b = byte b 0

-- (the numbers of the kinds: 1 the setup, 2 rows, 3 events)
abbrev pub kind_number : Kind → ℕ
kind_number Setup = setup_kind
kind_number Rows = row_kind
kind_number Events = event_kind

-- byte 1 zero;
abbrev pub byte_one : List ℕ → ℕ
byte_one b = byte b 1

-- bytes 2 and 3 block number from 0;
abbrev pub number : List ℕ → ℕ
number b = two (byte b 2) (byte b 3)

-- bytes 4 and 5 used count;
abbrev pub used : List ℕ → ℕ
used b = two (byte b 4) (byte b 5)

-- bytes 6 to 509 payload, of which so many are used (a count that is too large reaches to the end),
abbrev pub payload : List ℕ → List ℕ
payload b = take (min (used b) room) (drop payload_at b)

-- (what the block gives to the payload of kind q)
abbrev pub share : ℕ → List ℕ → List ℕ
share q b = cond (eqb (kind b) q) (payload b) []

-- zero after the used count: byte i should be zero and is not;
abbrev pub stray : List ℕ → ℕ → Bool
stray b i = leb (payload_at + used b) i && not (eqb (byte b i) 0)

-- bytes 510 and 511 the check:
abbrev pub stored : List ℕ → ℕ
stored b = two (byte b check_at) (byte b (check_at + 1))

-- the sum of (i + 1) times byte i, over the first n bytes,
unfoldable pub weighed : List ℕ → ℕ → ℕ
weighed b zero = 0
weighed b (suc i) = weighed b i + (i + 1) * byte b i

-- for i from 0 to 509, modulo 65,521.
abbrev pub check : List ℕ → ℕ
check b = weighed b check_at % modulus

-- In block 0: states, inputs, outputs, B, c, source.
abbrev pub source : List ℕ → ℕ
source b = byte b (payload_at + 5)

-- WHAT A BLOCK MUST BE, as block k after the block a. Before block 0 stands nothing, the empty list: its kind and used count are 0.

pub record GoodBlock (b : List ℕ) (k : ℕ) (a : List ℕ) : Type 0 where
  -- the check is that of the bytes
  pub checked : check b ≡ stored b
  -- block 0 has kind 1, and the others kind 2 or 3
  pub first_kind : k ≡ 0 → kind b ≡ setup_kind
  pub later_kind : 0 < k → (kind b ≡ row_kind) ⊎ (kind b ≡ event_kind)
  -- first kind 1, then kind 2, then kind 3; a block may not follow one of its own kind that is not full
  pub ordered : kind a ≤ kind b
  pub full : kind b ≡ kind a → used a ≡ room
  -- byte 1 zero; block number from 0
  pub zero_one : byte_one b ≡ 0
  pub numbered : number b ≡ k
  -- block 0 has used count 6; that of the others is 1 to 504
  pub first_used : k ≡ 0 → used b ≡ setup_size
  pub later_used : 0 < k → UpTo room (used b)
  -- source 0 or 1
  pub sourced : k ≡ 0 → source b ≤ 1
  -- zero after the used count
  pub filled : (i : ℕ) → payload_at + used b ≤ i → i < check_at → byte b i ≡ 0

-- ITS TESTS

-- Block 0 has kind 1, and the others kind 2 or 3.
abbrev pub kind_fits : ℕ → ℕ → Bool
kind_fits k kind = cond (eqb k 0) (eqb kind setup_kind) (eqb kind row_kind || eqb kind event_kind)

-- First kind 1, then kind 2, then kind 3; a block may not follow one of its own kind that is not full.
abbrev pub order_fits : ℕ → ℕ → ℕ → Bool
order_fits kind q u = cond (eqb kind q) (eqb u room) (ltb q kind)

-- Block 0 has used count 6; that of the others is 1 to 504.
abbrev pub used_fits : ℕ → ℕ → Bool
used_fits k used = cond (eqb k 0) (eqb used setup_size) (leb 1 used && leb used room)

-- Source 0 means rows follow; 1 means the standard box.
abbrev pub source_fits : ℕ → ℕ → Bool
source_fits k source = cond (eqb k 0) (leb source 1) true

-- The first byte that should be zero and is not.
abbrev pub unless_stray : Option ℕ → Option ℕ
unless_stray None = None
unless_stray (Some i) = Some i

unfoldable pub fill_of : List ℕ → Option ℕ
fill_of b = unless_stray (first (stray b) check_at)

-- What is seen of block k after the block a, part by part.
unfoldable pub seen : List ℕ → ℕ → List ℕ → Seen
seen b k a =
    record {
      check = eqb (check b) (stored b);
      kind = kind_fits k (kind b);
      order = order_fits (kind b) (kind a) (used a);
      one = eqb (byte_one b) 0;
      number = eqb (number b) k;
      used = used_fits k (used b);
      source = source_fits k (source b);
      fill = fill_of b;
    }

-- 12, then 20 to 23: the first flaw seen, in the order of the crate `flaw`.
unfoldable pub block_test : List ℕ → ℕ → List ℕ → Test
block_test b k a = first_flaw (seen b k a)
