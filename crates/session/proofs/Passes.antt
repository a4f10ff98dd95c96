-- Tests that look at every place and leave nowhere: what is gathered on the way decides. Assumes nothing.
use Rattle.std.specs.Prelude.{Option, Some, None, Ok}
use mathlib.Core.Path.{◌≡◌, refl, sym, ◌∙◌}
use mathlib.Core.Bool.{Bool, true, false, cond}
use mathlib.Core.List.{List, [], ◌∷◌}
use mathlib.Core.Logic.{◌↔◌, ◌≢◌, ◌⊎◌, inl, inr, ⊎_elim}
use Prim.Native.Nat.{ℕ, zero, suc, ◌+◌, ◌-◌, ◌*◌, ◌/◌, ◌%◌, ◌≤◌, ◌<◌, min, max}
use native.Mathlib.Omega.{arith}
use native.Mathlib.Nat.{mod-lt, div-add-mod', div-lt_iff_lt-mul, mul-le-mul}
use native.Mathlib.Decide.{ℕ_discrete}
use lib.Bits.{bit_or}
use lib.Arith.{digits_lt}
use Rattle.std.specs.List.{fold}
use lib.Dec.{eqb, leb, ltb}
use lib.ListN.{length, get_or, take, drop, set, length-take, length-drop}
use lib.Seq.{get_or-take, get_or-drop, get_or-set_same, get_or-set_other}
use borrow.Author.Tests.{eqb-true, eqb-false, ltb-true, ltb-false}
use Rattle.model.specs.Table.{Valid, byte, entry}
use Rattle.model.specs.Model.{Config, cfg}
use Rattle.model.specs.Demands.{Fits}
use Rattle.table.specs.Bytes.{table_of}
use Rattle.table.specs.Tests.{counts_test}
use Rattle.table.proofs.Laws.{counts_pass}
use Rattle.states.specs.Decides.{Decides}
use Rattle.states.specs.In.{In, Has, Empty}
use Rattle.states.proofs.Answers.{left}
use Rattle.states.proofs.Member.{in_or, not_in_zero}
use Rattle.states.proofs.Same.{none_in, zero_none}
use Rattle.states.proofs.Words.{get_or_within}
use Rattle.session.specs.Sets.{InCell, Holds}
use Rattle.session.specs.Session.{ZeroFrom, CellFits, SetFits, TableSound}
use Rattle.session.proofs.Clauses.{le_decides}

-- FOLDS

-- what holds of the first and of the rest
first_and_rest : (Q : ℕ → Type 0) (x : ℕ) (l : List ℕ) → Q x → ((k : ℕ) → k < length l → Q (get_or l k 0)) → (k : ℕ) → k < length (x ∷ l) → Q (get_or (x ∷ l) k 0)
first_and_rest Q x l q r zero b = q
first_and_rest Q x l q r (suc k) b = r k (omega arith)

-- A step keeps P exactly where Q holds of its item: the fold has P at its end exactly where it had it at the start, and Q holds of all.
fold_all : (f : ℕ → ℕ → ℕ) (P Q : ℕ → Type 0) → ((a x : ℕ) → P (f a x) ↔ (P a × Q x)) → (a : ℕ) (l : List ℕ)
    → P (fold f a l) ↔ (P a × ((k : ℕ) → k < length l → Q (get_or l k 0)))
fold_all f P Q h a [] = (λ p. (p, λ k b. absurd (omega arith)), λ (p, q). p)
fold_all f P Q h a (x ∷ l) =
    let rest = fold_all f P Q h (f a x) l in (
      λ p. let (b, r) = rest.0 p in let (c, q) = (h a x).0 b in (c, first_and_rest Q x l q r),
      λ (c, r). rest.1 ((h a x).1 (c, r 0 (omega arith)), λ k b. r (suc k) (omega arith)),
    )

or_zero : (a b : ℕ) → (bit_or a b ≡ 0) ↔ ((a ≡ 0) × (b ≡ 0))
or_zero a b = (
  λ e. (none_in a (λ s i. zero_none e s ((in_or s a b).1 (inl i))), none_in b (λ s i. zero_none e s ((in_or s a b).1 (inr i)))),
  λ (z, y). none_in (bit_or a b) (λ s i. ⊎_elim (zero_none z s) (zero_none y s) ((in_or s a b).0 i)),
)

pub zero_decides : (l : List ℕ) → Decides (eqb (fold bit_or 0 l) 0) (ZeroFrom 0 l)
zero_decides l =
    let f = fold_all bit_or (λ a. a ≡ 0) (λ x. x ≡ 0) or_zero 0 l in
    record {
      yes = λ e k a b. (f.0 (eqb-true (fold bit_or 0 l) 0 e)).1 k b;
      no = λ e h. eqb-false (fold bit_or 0 l) 0 e (f.1 (refl, λ k b. h k (omega arith) b));
    }

-- an entry is 255 or below m
abbrev pub LeadsBelow : ℕ → List ℕ → ℕ → Type 0
LeadsBelow m l k = (get_or l k 0 ≡ 255 → ⊥) → get_or l k 0 < m

pub most_decides : (states : ℕ) (l : List ℕ) → ((k : ℕ) → get_or l k 0 < 256) → Decides (leb (fold (λ a x. max a ((x + 1) % 256)) 0 l) states) ((k : ℕ) → k < length l → LeadsBelow states l k)
most_decides states l bytes =
    let f = fold_all (λ a x. max a ((x + 1) % 256)) (λ a. a ≤ states) (λ x. (x + 1) % 256 ≤ states) (λ a x. (λ h. (omega arith, omega arith), λ (h, g). omega arith)) 0 l in
    left (le_decides (fold (λ a x. max a ((x + 1) % 256)) 0 l) states)
    (λ h k b x. let g = (f.0 h).1 k b in omega (arith, bytes k))
    (λ h. f.1 (omega arith, λ k b. needed (get_or l k 0) (bytes k) (h k b)))
  where
    needed : (x : ℕ) → x < 256 → ((x ≡ 255 → ⊥) → x < states) → (x + 1) % 256 ≤ states
    needed x b h = elim (ℕ_discrete x 255) [ yes e ↦ omega arith | no n ↦ let q : x ≢ 255 = n in omega (arith, h n) ]

-- WHAT STANDS AFTER A PLACE

pub zero_rest : (n : ℕ) (l : List ℕ) → ZeroFrom 0 (drop n l) ↔ ZeroFrom n l
zero_rest n l = (
  λ z k a b. let e : n + (k - n) ≡ k = omega arith in rw (← e, ← get_or-drop) (z (k - n) (omega arith) (rw length-drop (omega arith))),
  λ z k a b. rw get_or-drop (z (n + k) (omega arith) (omega (arith, length-drop n l))),
)

pub empty_rest : (n : ℕ) (l : List ℕ) → Empty (drop n l) ↔ ZeroFrom 0 (drop n l)
empty_rest n l = (
  λ e k a b. none_in (get_or (drop n l) k 0) (λ s i. e k s b i),
  λ z k s b i. zero_none (z k (omega arith) b) s i,
)

-- THE TABLE

-- a byte and what it says
some_byte : (x t : ℕ) → cond {A = Option ℕ} (eqb x 255) None (Some x) ≡ Some t → (x ≡ t) × (x ≡ 255 → ⊥)
some_byte x t = go (eqb x 255) refl
  where
    go : (b : Bool) → eqb x 255 ≡ b → cond {A = Option ℕ} b None (Some x) ≡ Some t → (x ≡ t) × (x ≡ 255 → ⊥)
    go true e f = absurd (let z : ◌≡◌ {A = ℕ} 0 1 = cc in omega arith)
    go false e f = (cc, eqb-false x 255 e)

byte_some : (x : ℕ) → (x ≡ 255 → ⊥) → cond {A = Option ℕ} (eqb x 255) None (Some x) ≡ Some x
byte_some x n = go (eqb x 255) refl
  where
    go : (b : Bool) → eqb x 255 ≡ b → cond {A = Option ℕ} b None (Some x) ≡ Some x
    go true e = absurd (n (eqb-true x 255 e))
    go false e = refl

wide : (m w : ℕ) {j : ℕ} → j < m * w → 0 < w
wide m zero h = absurd (omega arith)
wide m (suc w) h = omega arith

-- the rows that are used, and what stands after them
module _ (rows : List ℕ) (s i o : ℕ) (len : length rows ≡ 2048) (counts : counts_test s i o ≡ Ok tt) where
  pub small : s * (i + o) ≤ 2048
  small = let (a, b, d) = (counts_pass s i o).0 counts in mul-le-mul {n₂ = 64} {m₂ = 32} a.1 (omega (arith, b.1, d.1))

  -- an entry of the table stands in the rows that are used
  inside : (q k : ℕ) → q < s → k < i + o → q * (i + o) + k < s * (i + o)
  inside q k l m = digits_lt {q = q} {m = s} {r = k} {c = i + o} l m

  here : (q k : ℕ) → q < s → k < i + o
      → entry (table_of (take (s * (i + o)) rows) s i o) q k
      ≡ cond {A = Option ℕ} (eqb (get_or rows (q * (i + o) + k) 0) 255) None (Some (get_or rows (q * (i + o) + k) 0))
  unfolding entry byte
  here q k l m =
      rw (
        get_or-take (s * (i + o)) rows (q * (i + o) + k) 255 (inside q k l m),
        get_or_within rows (q * (i + o) + k) 255 0 (omega (arith, inside q k l m, small, len)),
      )

  right_entries : ((j : ℕ) → j < s * (i + o) → LeadsBelow s rows j) → (q k q' : ℕ) → q < s → k < i + o
      → entry (table_of (take (s * (i + o)) rows) s i o) q k ≡ Some q' → q' < s
  right_entries h q k q' l m g =
      let (e, x) = some_byte (get_or rows (q * (i + o) + k) 0) q' (sym (here q k l m) ∙ g) in
      omega (arith, e, h (q * (i + o) + k) (inside q k l m) x)

  lead_below : ((q k q' : ℕ) → q < s → k < i + o → entry (table_of (take (s * (i + o)) rows) s i o) q k ≡ Some q' → q' < s)
      → (j : ℕ) → j < s * (i + o) → LeadsBelow s rows j
  lead_below h j l x =
      let w : 0 < i + o = wide s (i + o) l in
      let a : j / (i + o) < s = (div-lt_iff_lt-mul w).1 l in
      let b : j % (i + o) < i + o = mod-lt j w in
      h (j / (i + o)) (j % (i + o)) (get_or rows j 0) a b (here (j / (i + o)) (j % (i + o)) a b ∙ rw (div-add-mod' j (i + o)) (byte_some (get_or rows j 0) x))

  module _ {front back : List ℕ} (front_is : front ≡ take (s * (i + o)) rows) (back_is : back ≡ drop (s * (i + o)) rows) where
    at_front : (k : ℕ) → k < s * (i + o) → get_or front k 0 ≡ get_or rows k 0
    at_front k l = rw front_is (get_or-take (s * (i + o)) rows k 0 l)

    front_length : length front ≡ s * (i + o)
    front_length = rw (front_is, length-take) (omega (arith, small, len))

    pub front_below : TableSound rows s i o → (k : ℕ) → k < length front → LeadsBelow s front k
    front_below t k l = let m : k < s * (i + o) = rw front_length at l in rw (at_front k m) (lead_below t.valid.entries k m)

    pub back_decides : ((k : ℕ) → k < length front → LeadsBelow s front k) → {b : Bool} → Decides b (ZeroFrom 0 back) → Decides b (TableSound rows s i o)
    back_decides h d =
        left d
        (λ z. record { valid = valid; rest = (zero_rest (s * (i + o)) rows).0 (rw back_is at z) })
        (λ t. rw back_is ((zero_rest (s * (i + o)) rows).1 t.rest))
      where
        below : (k : ℕ) → k < s * (i + o) → LeadsBelow s rows k
        below k l = rw (at_front k l) at (h k (rw front_length l))

        valid : Valid (table_of (take (s * (i + o)) rows) s i o)
        valid =
            let (a, b, f) = (counts_pass s i o).0 counts in
            record { states = a; inputs = b; outputs = f; rows = simp length-take (omega (arith, small)); entries = right_entries below }

-- a sound table's counts pass
pub table_counts : (rows : List ℕ) (s i o : ℕ) → TableSound rows s i o → counts_test s i o ≡ Ok tt
table_counts rows s i o t = (counts_pass s i o).1 (t.valid.states, t.valid.inputs, t.valid.outputs)

-- THE SET

-- one word more, joined to that of its run
pub joined_more : (runs start : List ℕ) (cell : ℕ → ℕ → Type 0) (run x : ℕ) → run < length runs → ((q : ℕ) → In q x ↔ cell run q)
    → ((r : ℕ) → r < 8 → (q : ℕ) → Has runs r q ↔ (Has start r q ⊎ ((r < run) × cell r q)))
    → (r : ℕ) → r < 8 → (q : ℕ) → Has (set runs run (bit_or (get_or runs run 0) x)) r q ↔ (Has start r q ⊎ ((r < run + 1) × cell r q))
joined_more runs start cell run x len is h r b q = elim (ℕ_discrete r run) [
  | yes e ↦ rw (e, get_or-set_same runs run (bit_or (get_or runs run 0) x) 0 len) (
    λ i. ⊎_elim (λ u. ⊎_elim inl (λ (m, c). absurd (omega arith)) ((h run (rw e at b) q).0 u)) (λ j. inr (omega arith, (is q).0 j)) ((in_or q (get_or runs run 0) x).0 i),
    λ i. (in_or q (get_or runs run 0) x).1 (⊎_elim (λ u. inl ((h run (rw e at b) q).1 (inl u))) (λ (m, c). inr ((is q).1 c)) i),
  )
  | no d ↦ let n : r ≢ run = d in rw (get_or-set_other runs run r (bit_or (get_or runs run 0) x) 0 n) (
    λ i. ⊎_elim inl (λ (m, c). inr (omega arith, c)) ((h r b q).0 i),
    λ i. (h r b q).1 (⊎_elim inl (λ (m, c). inr (omega arith, c)) i),
  )
]

-- For each run, the states that it has with fewer than n waiting: that is every number that may wait, and one more.
module _ (set runs rest : List ℕ) (states B c seen n : ℕ) (len : length set ≡ 264) (most : B ≤ 32) (count : n ≡ min B seen + 1) (after : rest ≡ drop (8 * n) set)
    (by_run : (r : ℕ) → r < 8 → (q : ℕ) → Has runs r q ↔ ((w : ℕ) × (w < n) × InCell set w r q)) where
  pub runs_fit : SetFits set states B c seen → (r : ℕ) → r < 8 → CellFits (get_or runs r 0) 0 r states 0 c 0
  runs_fit h r l q i =
      let (w, b, m) = (by_run r l q).0 i in
      let f = h (cfg q w r) (record { waiting = omega (arith, count, most); run = l; member = m }) in
      record { state = f.state; waiting = omega arith; run = f.run; arrived = omega arith }

  pub rest_decides : ((r : ℕ) → r < 8 → CellFits (get_or runs r 0) 0 r states 0 c 0) → {b : Bool} → Decides b (Empty rest) → Decides b (SetFits set states B c seen)
  rest_decides h d = left d (λ e x i. fits (rw after at e) x i) (λ f. rw after (nothing f))
    where
      fits : Empty (drop (8 * n) set) → (x : Config ℕ) → Holds set x → Fits states B c seen x
      fits e x i = go (ltb x.waiting n) refl
        where
          go : (b : Bool) → ltb x.waiting n ≡ b → Fits states B c seen x
          go true t =
              let l = ltb-true x.waiting n t in
              let f = h x.run i.run x.state ((by_run x.run i.run x.state).1 (x.waiting, l, i.member)) in
              record { state = f.state; waiting = omega (arith, count); run = f.run; arrived = omega (arith, count) }
          go false t =
              let l = ltb-false x.waiting n t in
              let w = i.waiting in
              let r = i.run in
              let z = (zero_rest (8 * n) set).0 ((empty_rest (8 * n) set).0 e) (8 * x.waiting + x.run) (omega arith) (omega (arith, len)) in
              absurd (not_in_zero x.state (rw z at i.member))

      nothing : SetFits set states B c seen → Empty (drop (8 * n) set)
      nothing f =
          (empty_rest (8 * n) set).1 ((zero_rest (8 * n) set).1 (λ k a b.
          none_in (get_or set k 0) (λ q i.
          let e : 8 * (k / 8) + k % 8 ≡ k = omega arith in
          let g = f (cfg q (k / 8) (k % 8)) (record { waiting = omega (arith, len); run = omega arith; member = rw e i }) in
          let x : k / 8 ≤ B = g.waiting in
          let y : k / 8 ≤ seen = g.arrived in
          omega (arith, count))))
