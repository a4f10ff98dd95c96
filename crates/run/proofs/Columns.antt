-- Columns: turns of a word, states sorted one after another, and images. Assumes nothing.
use mathlib.Core.Path.{◌≡◌, refl, sym, ap, ◌∙◌}
use mathlib.Core.List.{List}
use mathlib.Core.Logic.{◌↔◌, ◌≢◌, ◌⊎◌, inl, inr, ⊎_elim}
use Prim.Native.Nat.{ℕ, suc, ◌+◌, ◌-◌, ◌*◌, ◌/◌, ◌%◌, ◌^◌, ◌≤◌, ◌<◌}
use native.Mathlib.Nat.{mul_assoc, mod-lt}
use native.Mathlib.Omega.{arith}
use native.Mathlib.Decide.{ℕ_discrete}
use lib.Bits.{bit_or, bit_and, shifted_even, or_zero_r}
use lib.ListN.{length, get_or, set, get_or-eq_default}
use lib.Pow.{field, mod-mod-pow, shr-shr, shl-shr, pow-add, pow_pos}
use lib.Seq.{get_or-set_same, get_or-set_other}
use Rattle.model.proofs.Flags.{lt_or_ge}
use Rattle.std.specs.Prelude.{Some}
use Rattle.states.specs.In.{In, Least}
use Rattle.states.specs.Rows.{byte_at, Leads, Image}
use Rattle.states.proofs.Member.{not_in_zero, in_lt, in_or, in_or_with, in_and, in_shr, in_one}
use Rattle.states.proofs.Ends.{without_least}
use Rattle.states.proofs.Through.{Going, going_more}
use Rattle.states.proofs.Words.{get_or_within}
use Rattle.states.proofs.Same.{zero_none}
use Rattle.run.specs.declared.column.Column.{Column}
use Rattle.run.specs.Column.{Turned, Moves, SortedBy, Sorted, Ready}
use Rattle.std.specs.Int.{w64, rotate_left}

-- TURNS

-- a number's digits below 64 are those of its remainder
in_mod : (t n : ℕ) → In t (n % 2 ^ 64) ↔ ((t < 64) × In t n)
unfolding In
in_mod t n = ((λ i. let l : t < 64 = in_lt 64 t (n % 2 ^ 64) (mod-lt n (pow_pos 64)) i in (l, sym (digit l) ∙ i)), (λ (l, i). digit l ∙ i))
  where
    digit : t < 64 → n % 2 ^ 64 / 2 ^ t % 2 ≡ n / 2 ^ t % 2
    digit l =
        let e : 64 - t + t ≡ 64 = omega arith in
        let f : 64 - t - 1 + 1 ≡ 64 - t = omega arith in
        let a : n % 2 ^ 64 / 2 ^ t ≡ n / 2 ^ t % 2 ^ (64 - t) = rw e at (field n (64 - t) t) in
        let b : n / 2 ^ t % 2 ^ (64 - t) % 2 ≡ n / 2 ^ t % 2 = rw f at (mod-mod-pow (n / 2 ^ t) (64 - t - 1) 1) in
        ap (λ (x : ℕ). x % 2) a ∙ b

-- a number times 2 ^ d has its digits d higher
in_shl : (t d x : ℕ) → In t (x * 2 ^ d) ↔ ((d ≤ t) × In (t - d) x)
unfolding In
in_shl t d x = ⊎_elim low high (lt_or_ge t d)
  where
    high : d ≤ t → (x * 2 ^ d / 2 ^ t % 2 ≡ 1) ↔ ((d ≤ t) × (x / 2 ^ (t - d) % 2 ≡ 1))
    high l =
        let e : d + (t - d) ≡ t = omega arith in
        let a : x * 2 ^ d / 2 ^ t ≡ x / 2 ^ (t - d) = sym (rw e at (shr-shr (x * 2 ^ d) d (t - d))) ∙ ap (λ (y : ℕ). y / 2 ^ (t - d)) (shl-shr x d) in
        ((λ i. (l, ap (λ (y : ℕ). y % 2) (sym a) ∙ i)), (λ (k, i). ap (λ (y : ℕ). y % 2) a ∙ i))

    low : t < d → (x * 2 ^ d / 2 ^ t % 2 ≡ 1) ↔ ((d ≤ t) × (x / 2 ^ (t - d) % 2 ≡ 1))
    low l =
        let e : suc (d - t - 1) + t ≡ d = omega arith in
        let p : 2 ^ d ≡ 2 ^ suc (d - t - 1) * 2 ^ t = sym (ap (λ (y : ℕ). 2 ^ y) e) ∙ pow-add 2 (suc (d - t - 1)) t in
        let a : x * 2 ^ d ≡ x * 2 ^ suc (d - t - 1) * 2 ^ t = ap (λ (y : ℕ). x * y) p ∙ sym (mul_assoc x (2 ^ suc (d - t - 1)) (2 ^ t)) in
        let b : x * 2 ^ d / 2 ^ t ≡ x * 2 ^ suc (d - t - 1) = ap (λ (y : ℕ). y / 2 ^ t) a ∙ shl-shr (x * 2 ^ suc (d - t - 1)) t in
        ((λ i. absurd (omega (arith, ap (λ (y : ℕ). y % 2) b, shifted_even x (d - t - 1)))), (λ (k, i). absurd (omega arith)))

turned_none : (x d t : ℕ) → x < 2 ^ 64 → d ≡ 0 → In t x ↔ Turned x d t
turned_none x d t l z = (
  (λ i. let s = in_lt 64 t x l i in record { from = t; here = i; there = omega arith }),
  (λ u. let s = in_lt 64 u.from x l u.here in let e : u.from ≡ t = omega (arith, u.there) in rw e at u.here),
)

turned_is : (x d t : ℕ) → x < 2 ^ 64 → 0 < d → d < 64 → In t (bit_or (x * 2 ^ d % 2 ^ 64) (x / 2 ^ (64 - d))) ↔ Turned x d t
turned_is x d t l pos few = (
  (λ i. ⊎_elim up over ((in_or t (x * 2 ^ d % 2 ^ 64) (x / 2 ^ (64 - d))).0 i)),
  (λ u. (in_or t (x * 2 ^ d % 2 ^ 64) (x / 2 ^ (64 - d))).1 (back u)),
)
  where
    up : In t (x * 2 ^ d % 2 ^ 64) → Turned x d t
    up i =
        let (s, j) = (in_mod t (x * 2 ^ d)).0 i in
        let (m, k) = (in_shl t d x).0 j in
        record { from = t - d; here = k; there = omega arith }

    over : In t (x / 2 ^ (64 - d)) → Turned x d t
    over i =
        let k = (in_shr t (64 - d) x).0 i in
        let s : 64 - d + t < 64 = in_lt 64 (64 - d + t) x l k in
        record { from = 64 - d + t; here = k; there = omega arith }

    back : Turned x d t → In t (x * 2 ^ d % 2 ^ 64) ⊎ In t (x / 2 ^ (64 - d))
    back u =
        let s : u.from < 64 = in_lt 64 u.from x l u.here in
        let th = u.there in
        ⊎_elim
        (λ m. let e : u.from ≡ t - d = omega arith in inl ((in_mod t (x * 2 ^ d)).1 (omega arith, (in_shl t d x).1 (omega arith, rw e at u.here))))
        (λ m. let e : u.from ≡ 64 - d + t = omega arith in inr ((in_shr t (64 - d) x).1 (rw e at u.here))) (lt_or_ge (u.from + d) 64)

-- a turn of a word by fewer than 64 places
pub turned_by : (x d : ℕ) → x < 2 ^ 64 → d < 64 → (t : ℕ) → In t (rotate_left w64 x d) ↔ Turned x d t
turned_by x d l few t = ⊎_elim none some (lt_or_ge 0 d)
  where
    same : (a b : ℕ) → a ≡ x → b ≡ x → d ≤ 0 → In t (bit_or a b) ↔ Turned x d t
    same a b ea eb z =
        let n = turned_none x d t l (omega arith) in
        rw (ea, eb) ((λ i. n.0 (⊎_elim (λ j. j) (λ j. j) ((in_or t x x).0 i))), (λ u. (in_or t x x).1 (inl (n.1 u))))

    small : d % 64 ≡ d
    small = omega arith

    none : 0 < d → In t (rotate_left w64 x d) ↔ Turned x d t
    none pos = let e : (64 - d % 64) % 64 ≡ 64 - d = omega arith in rw (e, small) (turned_is x d t l pos few)

    some : d ≤ 0 → In t (rotate_left w64 x d) ↔ Turned x d t
    some z =
        let a : d % 64 ≡ 0 = omega arith in
        rw a (same (x * 2 ^ 0 % 2 ^ 64) (x / 2 ^ 0) (omega arith) (omega arith) z)

-- STATES, SORTED

module _ (f : ℕ → ℕ) (n : ℕ) where
  moves_none : Moves f n 0 0
  moves_none = record { small = omega arith; below = λ s i. absurd (not_in_zero s i); leads = λ s i. absurd (not_in_zero s i) }

  moves_keep : {mask d : ℕ} → Moves f n mask d → Moves f (n + 1) mask d
  moves_keep m = record { small = m.small; below = λ s i. let l = m.below s i in omega arith; leads = m.leads }

  -- state n joins a mask that it fits
  moves_more : (mask by d : ℕ) → n < 64 → d < 64 → (n + d) % 64 ≡ f n → (mask ≡ 0) ⊎ (by ≡ d) → Moves f n mask by → Moves f (n + 1) (bit_or mask (1 * 2 ^ n % 2 ^ 64)) d
  moves_more mask by d l few e fits m =
      record {
        small = few;
        below = λ s i. ⊎_elim (λ j. let k = m.below s j in omega arith) (λ j. let k = (in_one s n l).0 j in omega arith) ((in_or s mask (1 * 2 ^ n % 2 ^ 64)).0 i);
        leads = λ s i. ⊎_elim (λ j. old s j fits) (λ j. let k : s ≡ n = (in_one s n l).0 j in rw k e) ((in_or s mask (1 * 2 ^ n % 2 ^ 64)).0 i);
      }
    where
      old : (s : ℕ) → In s mask → (mask ≡ 0) ⊎ (by ≡ d) → (s + d) % 64 ≡ f s
      old s i (inl z) = absurd (zero_none z s i)
      old s i (inr q) = rw q at (m.leads s i)

module _ (f : ℕ → ℕ) where
  pub sorted_none : SortedBy f 0 (record { near = 0; near_by = 0; far_by = 0; far = 0; rest = 0 })
  sorted_none =
      record {
        near = moves_none f 0;
        far = moves_none f 0;
        rest_below = λ s i. absurd (not_in_zero s i);
        rest_leads = λ s i. absurd (not_in_zero s i);
        all = λ s l. absurd (omega arith);
      }

module _ (f : ℕ → ℕ) (n : ℕ) (x : Column) (h : SortedBy f n x) where
  -- the states so far, or n
  below_more : (P : ℕ → Type 0) → ((s : ℕ) → s < n → f s < 64 → P s) → (f n < 64 → P n) → (s : ℕ) → s < n + 1 → f s < 64 → P s
  below_more P old new s l m =
      elim (ℕ_discrete s n) [
        | yes e ↦ rw e (new (rw e at m))
        | no d ↦ let o : s ≢ n = d in old s (omega arith) m
      ]

  -- n leads nowhere
  pub sorted_skip : 64 ≤ f n → SortedBy f (n + 1) x
  sorted_skip out =
      record {
        near = moves_keep f n h.near;
        far = moves_keep f n h.far;
        rest_below = λ s i. let l = h.rest_below s i in omega arith;
        rest_leads = h.rest_leads;
        all = below_more (λ s. In s (bit_or (bit_or x.near x.far) x.rest)) h.all (λ l. absurd (omega arith));
      }

  module _ (d : ℕ) (few : n < 64) (small : d < 64) (leads : (n + d) % 64 ≡ f n) where
    -- the states of three words are those of each; n joins a word, and what was there stays
    three : (a b c s : ℕ) → In s (bit_or (bit_or a b) c) ↔ (In s a ⊎ (In s b ⊎ In s c))
    three a b c s = (
      (λ i. ⊎_elim (λ j. ⊎_elim inl (λ k. inr (inl k)) ((in_or s a b).0 j)) (λ j. inr (inr j)) ((in_or s (bit_or a b) c).0 i)),
      (λ u. (in_or s (bit_or a b) c).1 (⊎_elim (λ i. inl ((in_or s a b).1 (inl i))) (⊎_elim (λ i. inl ((in_or s a b).1 (inr i))) inr) u)),
    )

    joins : (w : ℕ) → In n (bit_or w (1 * 2 ^ n % 2 ^ 64))
    joins w = (in_or n w (1 * 2 ^ n % 2 ^ 64)).1 (inr ((in_one n n few).1 refl))

    keeps : (w s : ℕ) → In s w → In s (bit_or w (1 * 2 ^ n % 2 ^ 64))
    keeps w s i = (in_or s w (1 * 2 ^ n % 2 ^ 64)).1 (inl i)

    pub sorted_near : x.near_by ≡ d → SortedBy f (n + 1) (record x { near = bit_or x.near (1 * 2 ^ n % 2 ^ 64) })
    sorted_near same =
        record {
          near = rw (sym same) at (moves_more f n x.near x.near_by d few small leads (inr same) h.near);
          far = moves_keep f n h.far;
          rest_below = λ s i. let l = h.rest_below s i in omega arith;
          rest_leads = h.rest_leads;
          all = below_more (λ s. In s (bit_or (bit_or (bit_or x.near (1 * 2 ^ n % 2 ^ 64)) x.far) x.rest))
              (λ s l m. (three (bit_or x.near (1 * 2 ^ n % 2 ^ 64)) x.far x.rest s).1 (⊎_elim (λ i. inl (keeps x.near s i)) inr ((three x.near x.far x.rest s).0 (h.all s l m))))
              (λ m. (three (bit_or x.near (1 * 2 ^ n % 2 ^ 64)) x.far x.rest n).1 (inl (joins x.near)));
        }

    pub sorted_far : (x.far ≡ 0) ⊎ (x.far_by ≡ d) → SortedBy f (n + 1) (record x { far = bit_or x.far (1 * 2 ^ n % 2 ^ 64); far_by = d })
    sorted_far fits =
        record {
          near = moves_keep f n h.near;
          far = moves_more f n x.far x.far_by d few small leads fits h.far;
          rest_below = λ s i. let l = h.rest_below s i in omega arith;
          rest_leads = h.rest_leads;
          all = below_more (λ s. In s (bit_or (bit_or x.near (bit_or x.far (1 * 2 ^ n % 2 ^ 64))) x.rest))
              (λ s l m. (three x.near (bit_or x.far (1 * 2 ^ n % 2 ^ 64)) x.rest s).1 (⊎_elim inl (⊎_elim (λ i. inr (inl (keeps x.far s i))) (λ i. inr (inr i))) ((three x.near x.far x.rest s).0 (h.all s l m))))
              (λ m. (three x.near (bit_or x.far (1 * 2 ^ n % 2 ^ 64)) x.rest n).1 (inr (inl (joins x.far))));
        }

    pub sorted_rest : SortedBy f (n + 1) (record x { rest = bit_or x.rest (1 * 2 ^ n % 2 ^ 64) })
    sorted_rest =
        record {
          near = moves_keep f n h.near;
          far = moves_keep f n h.far;
          rest_below = λ s i. ⊎_elim (λ j. let l = h.rest_below s j in omega arith) (λ j. let k = (in_one s n few).0 j in omega arith)
              ((in_or s x.rest (1 * 2 ^ n % 2 ^ 64)).0 i);
          rest_leads = λ s i. ⊎_elim (h.rest_leads s) (λ j. let k : s ≡ n = (in_one s n few).0 j in rw k (omega (arith, leads)))
              ((in_or s x.rest (1 * 2 ^ n % 2 ^ 64)).0 i);
          all = below_more (λ s. In s (bit_or (bit_or x.near x.far) (bit_or x.rest (1 * 2 ^ n % 2 ^ 64))))
              (λ s l m. (three x.near x.far (bit_or x.rest (1 * 2 ^ n % 2 ^ 64)) s).1 (⊎_elim inl (⊎_elim (λ i. inr (inl i)) (λ i. inr (inr (keeps x.rest s i)))) ((three x.near x.far x.rest s).0 (h.all s l m))))
              (λ m. (three x.near x.far (bit_or x.rest (1 * 2 ^ n % 2 ^ 64)) n).1 (inr (inr (joins x.rest))));
        }

-- the column at a place
pub column_at : (rows : List ℕ) (width k i : ℕ) (columns : List Column) (d : Column) → Ready rows width width columns → i ≡ k → k < width
    → Sorted rows width k 64 (get_or columns i d)
column_at rows width k i columns d h e l = rw e (h k d l)

-- one more stands
pub ready_more : (rows : List ℕ) (width n i : ℕ) (columns : List Column) (x : Column) → i ≡ n → n < length columns → Ready rows width n columns
    → Sorted rows width n 64 x → Ready rows width (n + 1) (set columns i x)
ready_more rows width n i columns x e room h s k d l =
    elim (ℕ_discrete k n) [
      | yes q ↦ rw (q, e, get_or-set_same columns n x d room) s
      | no q ↦ let o : k ≢ n = q in rw (e, get_or-set_other columns n k x d o) (h k d (omega arith))
    ]

-- IMAGES

module _ (rows : List ℕ) (width k : ℕ) (x : Column) (h : Sorted rows width k 64 x) (from : ℕ) where
  -- from a mask
  mask_to : (mask d t : ℕ) → Moves (byte_at rows width k) 64 mask d → Turned (bit_and from mask) d t → Image rows width k from t
  mask_to mask d t m u =
      let (a, b) = (in_and u.from from mask).0 u.here in
      let e : byte_at rows width k u.from ≡ t = sym (m.leads u.from b) ∙ u.there in
      record { source = u.from; here = a; leads = record { byte = e; state = let r = u.there in omega arith } }

  mask_from : (mask d s t : ℕ) → Moves (byte_at rows width k) 64 mask d → In s from → In s mask → byte_at rows width k s ≡ t → Turned (bit_and from mask) d t
  mask_from mask d s t m a b e = record { from = s; here = (in_and s from mask).1 (a, b); there = m.leads s b ∙ e }

  module _ (few : from < 2 ^ 64) (near far : ℕ) (a : (t : ℕ) → In t near ↔ Turned (bit_and from x.near) x.near_by t)
      (b : (t : ℕ) → In t far ↔ Turned (bit_and from x.far) x.far_by t) where
    pub image_all : (rest : ℕ) → ((t : ℕ) → In t rest ↔ Image rows width k (bit_and from x.rest) t)
        → (t : ℕ) → In t (bit_or (bit_or near far) rest) ↔ Image rows width k from t
    image_all rest c t = (
      (λ i. ⊎_elim (λ j. ⊎_elim (λ p. mask_to x.near x.near_by t h.near ((a t).0 p)) (λ p. mask_to x.far x.far_by t h.far ((b t).0 p)) ((in_or t near far).0 j))
          (λ j. let m = (c t).0 j in record { source = m.source; here = ((in_and m.source from x.rest).0 m.here).0; leads = m.leads }) ((in_or t (bit_or near far) rest).0 i)),
      (λ m. let s = m.source in
          let le = in_lt 64 m.source from few m.here in
          let e = m.leads.byte in
          let st = m.leads.state in
          ⊎_elim
          (λ q. (in_or t (bit_or near far) rest).1 (inl ((in_or t near far).1 (⊎_elim
          (λ p. inl ((a t).1 (mask_from x.near x.near_by m.source t h.near m.here p e)))
          (λ p. inr ((b t).1 (mask_from x.far x.far_by m.source t h.far m.here p e))) ((in_or m.source x.near x.far).0 q)))))
          (λ p. (in_or t (bit_or near far) rest).1 (inr ((c t).1 (record { source = m.source; here = (in_and m.source from x.rest).1 (m.here, p); leads = m.leads }))))
          ((in_or m.source (bit_or x.near x.far) x.rest).0 (h.all m.source le (omega arith)))),
    )

    pub image_turned : bit_and from x.rest ≡ 0 → (t : ℕ) → In t (bit_or near far) ↔ Image rows width k from t
    image_turned z t =
        rw (or_zero_r (bit_or near far)) at (image_all 0 (λ t. ((λ i. absurd (not_in_zero t i)), (λ m. absurd (zero_none z m.source m.here)))) t)

  -- what is left of a set after the masks leads somewhere
  pub rest_leads : (s : ℕ) → In s (bit_and from x.rest) → byte_at rows width k s < 64
  rest_leads s i = h.rest_leads s ((in_and s from x.rest).0 i).1

-- a state whose byte is a state has its row
pub row_there : (rows : List ℕ) (width column s : ℕ) → byte_at rows width column s < 64 → s * width + column < length rows
row_there rows width column s l =
    ⊎_elim (λ k. k) (λ k. absurd (let z : byte_at rows width column s ≡ 255 = get_or-eq_default rows 255 k in omega arith)) (lt_or_ge (s * width + column) (length rows))

-- A WALK OVER STATES THAT ARE ALLOWED

module _ (rows : List ℕ) (width column from left s : ℕ) (least : Least left (Some s)) (within : (q : ℕ) → In q left → In q from)
    (allowed : (q : ℕ) → In q from → byte_at rows width column q < 64) where
  pub led_state : byte_at rows width column s < 64
  led_state = allowed s (within s least.0)

  pub led_row : s * width + column < length rows
  led_row = row_there rows width column s led_state

  pub led_byte : get_or rows (s * width + column) 0 < 64
  led_byte = rw (get_or_within rows (s * width + column) 0 255 led_row) led_state

  pub led_within : (q : ℕ) → In q (bit_and left (left - 1)) → In q from
  led_within q i = within q ((without_least left s least q).0 i).0

  pub led_more : (out : ℕ) → Going (Leads rows width column) from left out
      → Going (Leads rows width column) from (bit_and left (left - 1)) (bit_or out (1 * 2 ^ get_or rows (s * width + column) 0 % 2 ^ 64))
  led_more out g =
      going_more (Leads rows width column) from s (bit_or out (1 * 2 ^ get_or rows (s * width + column) 0 % 2 ^ 64)) least
      (in_or_with (Leads rows width column s) out (1 * 2 ^ get_or rows (s * width + column) 0 % 2 ^ 64) (λ q. (
        (λ i. let e : q ≡ get_or rows (s * width + column) 0 = (in_one q (get_or rows (s * width + column) 0) led_byte).0 i in
            record { byte = sym (e ∙ get_or_within rows (s * width + column) 0 255 led_row); state = rw e led_byte }),
        (λ k. (in_one q (get_or rows (s * width + column) 0) led_byte).1 (sym (get_or_within rows (s * width + column) 0 255 led_row ∙ k.byte))),
      ))) g
