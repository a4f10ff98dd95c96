-- The words by lag: what each loop has done so far, and one step more. Assumes nothing.
use mathlib.Core.Path.{◌≡◌, refl, ◌∙◌}
use mathlib.Core.List.{List}
use mathlib.Core.Logic.{◌↔◌, ◌≢◌, ◌⊎◌, inl, inr, ⊎_elim}
use Prim.Native.Nat.{ℕ, suc, ◌+◌, ◌-◌, ◌≤◌, ◌<◌, min}
use native.Mathlib.Omega.{arith}
use Rattle.std.proofs.Common.{rules}
use Rattle.std.proofs.lemmas.List.{places}
use native.Mathlib.Decide.{ℕ_discrete}
use lib.Bits.{bit_or}
use lib.ListN.{length, get_or, set, length-set}
use lib.Seq.{get_or-set_same, get_or-set_other}
use Rattle.model.proofs.Flags.{lt_or_ge}
use Rattle.states.specs.In.{In, AnyOf}
use Rattle.states.specs.Rows.{Image}
use Rattle.states.proofs.Member.{not_in_zero, in_or}
use Rattle.states.proofs.Same.{some_in, zero_none}
use Rattle.run.specs.Lag.{Within, Drawn, Based, Came, FollowedFrom, DrawnFrom, Went, HasLag, PastLags, past_of, Found, Spanned, Tallied, SmallLags}
use Rattle.run.specs.declared.lag.Lags.{Lags}
use Rattle.std.specs.Prelude.{Option, Some, None, MatchOption, EachIndex, slice_index}
use borrow.Rule.Slice.PartMut.{put_mid, mid_of}

-- equal words have the same states
pub same_word : {x y : ℕ} (s : ℕ) → x ≡ y → In s x ↔ In s y
same_word s e = ((λ i. rw e at i), (λ i. rw e i))

-- THE WORDS OF ONE WAITING COUNT

pub kept_below : (x lost c : ℕ) → lost < c → (s : ℕ) → In s x ↔ ((lost < c) × In s x)
kept_below x lost c l s = ((λ i. (l, i)), (λ m. m.1))

pub kept_past : (x lost c : ℕ) → c ≤ lost → (s : ℕ) → In s 0 ↔ ((lost < c) × In s x)
kept_past x lost c l s = ((λ i. absurd (not_in_zero s i)), (λ m. absurd (omega (arith, m.0))))

module _ (words : List ℕ) (at c : ℕ) where
  pub within_none : (s : ℕ) → In s 0 ↔ Within words at (min 0 c) s
  within_none s = ((λ i. absurd (not_in_zero s i)), (λ w. absurd (omega (arith, w.few))))

  pub within_more : (lost all x : ℕ) → ((s : ℕ) → In s all ↔ Within words at (min lost c) s) → ((s : ℕ) → In s x ↔ ((lost < c) × In s (get_or words (at + lost) 0)))
      → (s : ℕ) → In s (bit_or all x) ↔ Within words at (min (lost + 1) c) s
  within_more lost all x h g s = ((λ i. ⊎_elim old new ((in_or s all x).0 i)), (λ w. (in_or s all x).1 (which w)))
    where
      old : In s all → Within words at (min (lost + 1) c) s
      old i = let w = (h s).0 i in record { lost = w.lost; few = omega (arith, w.few); member = w.member }

      new : In s x → Within words at (min (lost + 1) c) s
      new i = let (l, m) = (g s).0 i in record { lost = lost; few = omega arith; member = m }

      which : Within words at (min (lost + 1) c) s → In s all ⊎ In s x
      which w =
          elim (ℕ_discrete w.lost lost) [
            | yes e ↦ inr ((g s).1 (omega (arith, w.few), rw e at w.member))
            | no n ↦ let o : w.lost ≢ lost = n in inl ((h s).1 (record { lost = w.lost; few = omega (arith, w.few); member = w.member }))
          ]

-- the words from a place on are what counts
pub drawn_same : {rows : List ℕ} {width column c : ℕ} (a b : List ℕ) (at t : ℕ) → ((i : ℕ) → at ≤ i → get_or b i 0 ≡ get_or a i 0)
    → Drawn rows width column c a at t ↔ Drawn rows width column c b at t
drawn_same a b at t h = (
  (λ d. record { from = d.from; source = record { lost = d.source.lost; few = d.source.few; member = (same_word d.from (h (at + d.source.lost) (omega arith))).1 d.source.member }; leads = d.leads }),
  (λ d. record { from = d.from; source = record { lost = d.source.lost; few = d.source.few; member = (same_word d.from (h (at + d.source.lost) (omega arith))).0 d.source.member }; leads = d.leads }),
)

-- the image of a waiting count's states is what is drawn from it
pub drawn_image : (rows : List ℕ) (width column c : ℕ) (words : List ℕ) (at from x : ℕ) → ((s : ℕ) → In s from ↔ Within words at c s)
    → ((t : ℕ) → In t x ↔ Image rows width column from t) → (t : ℕ) → In t x ↔ Drawn rows width column c words at t
drawn_image rows width column c words at from x w im t = (
  (λ i. let m = (im t).0 i in record { from = m.source; source = (w m.source).0 m.here; leads = m.leads }),
  (λ d. (im t).1 (record { source = d.from; here = (w d.from).1 d.source; leads = d.leads })),
)

-- AN INPUT

pub came_in : (rows : List ℕ) (width c a base : ℕ) (words line : List ℕ) (up : ℕ) (words₁ line₁ : List ℕ) (x : ℕ) → Based base words line up words₁ line₁
    → ((t : ℕ) → In t x ↔ Drawn rows width a c words₁ (up - 1 + 1) t)
    → Came rows width c a base words line (up - 1) (set words₁ (up - 1) x) (set line₁ (up - 1) a)
came_in rows width c a base words line up words₁ line₁ x b d =
    let pos = b.above in
    let low = b.low in
    let wl = b.words_long in
    let ll = b.line_long in
    record {
      low = omega arith;
      words_long = length-set words₁ (up - 1) x ∙ b.words_long;
      line_long = length-set line₁ (up - 1) a ∙ b.line_long;
      moved = λ j i. let e : up - 1 + suc j ≡ up + j = omega arith in
          rw e (get_or-set_other words₁ (up - 1) (up + j) x 0 (λ q. omega arith) ∙ b.words_same j i);
      taken = λ t. let e : up - 1 + 1 ≡ suc (up - 1) = omega arith in
          let s = drawn_same {rows = rows} {width = width} {column = a} {c = c} words₁ (set words₁ (up - 1) x) (up - 1 + 1) t (λ i m. get_or-set_other words₁ (up - 1) i x 0 (λ q. omega arith)) in
          rw (get_or-set_same words₁ (up - 1) x 0 (omega arith), ← e) ((λ i. s.0 ((d t).0 i)), (λ i. (d t).1 (s.1 i)));
      head = get_or-set_same line₁ (up - 1) a 0 (omega arith);
      older = λ w i. let e : up - 1 + suc w ≡ up + w = omega arith in
          rw e (get_or-set_other line₁ (up - 1) (up + w) a 0 (λ q. omega arith) ∙ b.line_same w i);
    }

-- AN OUTPUT

-- the words of a part follow a column
pub followed_part : (rows : List ℕ) (width column base m k : ℕ) (before part : List ℕ) → k ≡ m → base + m ≤ length before
    → length part ≡ length (mid_of base k before)
    → ((j t : ℕ) → j < length (mid_of base k before) → In t (get_or part j 0) ↔ Image rows width column (get_or (mid_of base k before) j 0) t)
    → FollowedFrom rows width column base m 0 before (put_mid base k before part)
followed_part rows width column base m k before part same room long₀ h₀ = rw same (followed (rw same at long₀) (rw same at h₀))
  where
    mid_long : length (mid_of base m before) ≡ m
    mid_long = search (rules, places)

    mid : (j : ℕ) → j < m → get_or (mid_of base m before) j 0 ≡ get_or before (base + j) 0
    mid j l = search (rules, places)

    followed : length part ≡ length (mid_of base m before)
        → ((j t : ℕ) → j < length (mid_of base m before) → In t (get_or part j 0) ↔ Image rows width column (get_or (mid_of base m before) j 0) t)
        → FollowedFrom rows width column base m 0 before (put_mid base m before part)
    followed same_long h =
        let long : length part ≡ m = same_long ∙ mid_long in
        record {
          size = size long;
          sent = λ j t k l. rw (at long j l, ← (mid j l)) (h j t (omega (arith, mid_long)));
          below = λ i l. below long i (omega arith);
          above = λ i l. above long i l;
        }
      where
        size : length part ≡ m → length (put_mid base m before part) ≡ length before
        size long = search (rules, places)

        at : length part ≡ m → (j : ℕ) → j < m → get_or (put_mid base m before part) (base + j) 0 ≡ get_or part j 0
        at long j l = search (rules, places)

        below : length part ≡ m → (i : ℕ) → i < base → get_or (put_mid base m before part) i 0 ≡ get_or before i 0
        below long i l = search (rules, places)

        above : length part ≡ m → (i : ℕ) → base + m ≤ i → get_or (put_mid base m before part) i 0 ≡ get_or before i 0
        above long i l = search (rules, places)

module _ (rows : List ℕ) (width c : ℕ) (line : List ℕ) (base n : ℕ) (before : List ℕ) where
  pub draws_none : DrawnFrom rows width c line base n n before before
  draws_none = record { size = refl; taken = λ w t i l. absurd (omega arith); below = λ i l. refl; above = λ i l. refl }

  pub draws_more : (k x : ℕ) (mid : List ℕ) → k < n → base + n ≤ length before → DrawnFrom rows width c line base n (k + 1) before mid
      → ((t : ℕ) → In t x ↔ Drawn rows width (get_or line (base + k) 0) c mid (base + k + 1) t)
      → DrawnFrom rows width c line base n k before (set mid (base + k) (bit_or (get_or mid (base + k) 0) x))
  draws_more k x mid l room h g =
      let size = h.size in
      record {
        size = length-set mid (base + k) y ∙ h.size;
        taken = λ w t i q. elim (ℕ_discrete w k) [
          | yes e ↦ rw e (here t)
          | no d ↦ let o : w ≢ k = d in there w t (omega arith) q
        ];
        below = λ i q. get_or-set_other mid (base + k) i y 0 (λ e. omega arith) ∙ h.below i (omega arith);
        above = λ i q. get_or-set_other mid (base + k) i y 0 (λ e. omega arith) ∙ h.above i q;
      }
    where
      y : ℕ
      y = bit_or (get_or mid (base + k) 0) x

      after : List ℕ
      after = set mid (base + k) (bit_or (get_or mid (base + k) 0) x)

      up : (i : ℕ) → base + k < i → get_or (set mid (base + k) (bit_or (get_or mid (base + k) 0) x)) i 0 ≡ get_or mid i 0
      up i q = get_or-set_other mid (base + k) i (bit_or (get_or mid (base + k) 0) x) 0 (λ e. omega arith)

      drawn_up : (a at t : ℕ) → base + k < at
          → Drawn rows width a c mid at t ↔ Drawn rows width a c (set mid (base + k) (bit_or (get_or mid (base + k) 0) x)) at t
      drawn_up a at t q = drawn_same mid (set mid (base + k) (bit_or (get_or mid (base + k) 0) x)) at t (λ i r. up i (omega arith))

      here : (t : ℕ) → In t (get_or (set mid (base + k) (bit_or (get_or mid (base + k) 0) x)) (base + k) 0)
          ↔ (In t (get_or before (base + k) 0) ⊎ Drawn rows width (get_or line (base + k) 0) c (set mid (base + k) (bit_or (get_or mid (base + k) 0) x)) (base + k + 1) t)
      here t =
          let d = drawn_up (get_or line (base + k) 0) (base + k + 1) t (omega arith) in
          let b = same_word t (h.below (base + k) (omega arith)) in
          let o = in_or t (get_or mid (base + k) 0) x in
          let s = same_word t (get_or-set_same mid (base + k) (bit_or (get_or mid (base + k) 0) x) 0 (let z = h.size in omega arith)) in (
            (λ i. ⊎_elim (λ j. inl (b.0 j)) (λ j. inr (d.0 ((g t).0 j))) (o.0 (s.0 i))),
            (λ i. s.1 (o.1 (⊎_elim (λ j. inl (b.1 j)) (λ j. inr ((g t).1 (d.1 j))) i))),
          )

      there : (w t : ℕ) → k + 1 ≤ w → w < n → In t (get_or (set mid (base + k) (bit_or (get_or mid (base + k) 0) x)) (base + w) 0)
          ↔ (In t (get_or before (base + w) 0) ⊎ Drawn rows width (get_or line (base + w) 0) c (set mid (base + k) (bit_or (get_or mid (base + k) 0) x)) (base + w + 1) t)
      there w t i q =
          let d = drawn_up (get_or line (base + w) 0) (base + w + 1) t (omega arith) in
          let s = same_word t (up (base + w) (omega arith)) in (
            (λ j. ⊎_elim inl (λ p. inr (d.0 p)) ((h.taken w t i q).0 (s.0 j))),
            (λ j. s.1 ((h.taken w t i q).1 (⊎_elim inl (λ p. inr (d.1 p)) j))),
          )

-- one lag less, as the code has it
pub draws_step : (rows : List ℕ) (width c : ℕ) (line : List ℕ) (base n : ℕ) (before mid : List ℕ) (k x a at place : ℕ) → k < n → base + n ≤ length before
    → a ≡ get_or line (base + k) 0 → at ≡ base + k + 1 → place ≡ base + k → DrawnFrom rows width c line base n (k + 1) before mid
    → ((t : ℕ) → In t x ↔ Drawn rows width a c mid at t) → DrawnFrom rows width c line base n k before (set mid place (bit_or (get_or mid place 0) x))
draws_step rows width c line base n before mid k x a at place l room ea eat ep h g =
    rw ep (draws_more rows width c line base n before k x mid l room h (rw (ea, eat) at g))

-- THE TALLY

-- what stands in a part of the words, stands in the words
module _ (words part : List ℕ) (base m : ℕ) (same : (j : ℕ) → j < m → get_or part j 0 ≡ get_or words (base + j) 0) (long : length part ≡ m) where
  within_part : (all : ℕ) → ((s : ℕ) → In s all ↔ AnyOf (length part) part s) → (s : ℕ) → In s all ↔ Within words base m s
  within_part all h s = (
    (λ i. let w = (h s).0 i in let l : w.word < m = omega (arith, w.small) in record { lost = w.word; few = l; member = (same_word s (same w.word l)).0 w.here }),
    (λ w. (h s).1 (record { word = w.lost; small = omega (arith, w.few); here = (same_word s (same w.lost w.few)).1 w.member })),
  )

  none_at : (j : ℕ) → j < m → get_or part j 0 ≡ 0 → HasLag words base j → ⊥
  none_at j l z (q, i) = zero_none z q ((same_word q (same j l)).1 i)

  some_at : (j : ℕ) → j < m → (get_or part j 0 ≡ 0 → ⊥) → HasLag words base j
  some_at j l n = some_in (get_or words (base + j) 0) (λ z. n (same j l ∙ z))

  spanned : (l : Lags) → Found part l → Spanned words base m l
  spanned l f =
      let w : l.most < m = omega (arith, f.within) in
      let le : l.least ≤ l.most = ⊎_elim (λ a. absurd (f.most (f.below l.most a))) (λ a. a) (lt_or_ge l.most l.least) in
      record {
        within = w;
        least = some_at l.least (omega arith) f.least;
        below = λ j a. none_at j (omega arith) (f.below j a);
        most = some_at l.most w f.most;
        above = λ j a b. none_at j b (f.above j a (omega arith));
      }

  lags_part : (o : Option Lags) → MatchOption o (EachIndex part (λ j. slice_index part j ≡ 0)) (Found part)
      → MatchOption o ((j : ℕ) → j < m → HasLag words base j → ⊥) (Spanned words base m)
  lags_part None h = λ j l. none_at j l (h j (omega arith))
  lags_part (Some l) h = spanned l h

  pub tallied : (states : ℕ) (lags : Option Lags) → ((s : ℕ) → In s states ↔ AnyOf (length part) part s)
      → MatchOption lags (EachIndex part (λ j. slice_index part j ≡ 0)) (Found part) → Tallied words base m (record { states = states; lags = lags })
  tallied states lags s h = record { states = within_part states s; lags = lags_part lags h }

-- the lags of a tally are small, and there is nothing past them
module _ (words : List ℕ) (base m : ℕ) where
  pub small_lags : (lags : Option Lags) → m ≤ 40 → MatchOption lags ((j : ℕ) → j < m → HasLag words base j → ⊥) (Spanned words base m) → SmallLags lags
  small_lags None l h = tt
  small_lags (Some s) l h =
      ⊎_elim (λ a. absurd (h.below s.most a h.most)) (λ a. (omega (arith, h.within), omega (arith, h.within))) (lt_or_ge s.most s.least)

  pub past_lags : (lags : Option Lags) → MatchOption lags ((j : ℕ) → j < m → HasLag words base j → ⊥) (Spanned words base m)
      → PastLags words base m (past_of lags)
  past_lags None h = record { most = omega arith; here = λ l. absurd (omega arith); none_above = λ j _ l. h j l }
  past_lags (Some s) h =
      record {
        most = let w = h.within in omega arith;
        here = λ _. let z : s.most + 1 - 1 ≡ s.most = omega arith in rw z h.most;
        none_above = λ j a b. h.above j (omega arith) b;
      }

-- NOTHING ABOVE

-- where nothing stands from `past` on, what is done to the lags below it is done to all
module _ (rows : List ℕ) (width column c : ℕ) (line : List ℕ) (base n past : ℕ) (before mid after : List ℕ) (lags : PastLags before base (n + c) past)
    (followed : FollowedFrom rows width column base past 0 before mid) (drawn : DrawnFrom rows width c line base (min n past) 0 mid after) where
  le : past ≤ n + c
  le = lags.most

  none_mid : (j q : ℕ) → past ≤ j → j < n + c → In q (get_or mid (base + j) 0) → ⊥
  none_mid j q l m i = lags.none_above j l m (q, (same_word q (followed.above (base + j) (omega arith))).0 i)

  none_after : (j q : ℕ) → past ≤ j → j < n + c → In q (get_or after (base + j) 0) → ⊥
  none_after j q l m i = none_mid j q l m ((same_word q (drawn.above (base + j) (omega arith))).0 i)

  follows_all : FollowedFrom rows width column base (n + c) 0 before mid
  follows_all =
      record {
        size = followed.size;
        sent = λ j t k l. ⊎_elim (λ m. followed.sent j t k m)
            (λ m. ((λ i. absurd (none_mid j t m l i)), (λ im. absurd (lags.none_above j m l (im.source, im.here))))) (lt_or_ge j past);
        below = followed.below;
        above = λ i l. followed.above i (omega (arith, le));
      }

  draws_all : DrawnFrom rows width c line base n 0 mid after
  draws_all =
      record {
        size = drawn.size;
        taken = λ w t k l. ⊎_elim (λ m. drawn.taken w t k (omega arith)) (λ m. (
          (λ i. absurd (none_after w t m (omega arith) i)),
          (λ u. absurd (⊎_elim (λ i. none_mid w t m (omega arith) i) (gone w m l) u)),
        )) (lt_or_ge w past);
        below = drawn.below;
        above = λ i l. drawn.above i (omega arith);
      }
    where
      gone : {t : ℕ} (w : ℕ) → past ≤ w → w < n → Drawn rows width (get_or line (base + w) 0) c after (base + w + 1) t → ⊥
      gone w m l d =
          let f = d.source.few in
          let e : base + w + 1 + d.source.lost ≡ base + (w + 1 + d.source.lost) = omega arith in
          none_after (w + 1 + d.source.lost) d.from (omega arith) (omega arith) (rw e at d.source.member)

  pub went_all : Went rows width column c line base n before after
  went_all = record { between = mid; followed = follows_all; drawn = draws_all }
