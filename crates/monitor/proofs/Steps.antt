-- What the code does to a level, read as a step of a sweep or of an event. Assumes nothing.
use mathlib.Core.Path.{◌≡◌, refl, sym, ◌∙◌}
use mathlib.Core.List.{List}
use mathlib.Core.Logic.{◌↔◌, inl, inr, ⊎_elim}
use Prim.Native.Nat.{ℕ, suc, ◌+◌, ◌-◌, ◌*◌, ◌≤◌, ◌<◌}
use native.Mathlib.Omega.{arith}
use native.Mathlib.Numerals.{add-one}
use lib.ListN.{length, get_or}
use Rattle.model.proofs.Flags.{lt_or_ge}
use Rattle.states.specs.In.{In, Has, Any}
use Rattle.states.specs.Rows.{Image, Sent}
use Rattle.session.specs.Sets.{InCell}
use Rattle.monitor.specs.Sweep.{Level, Stored, LoweredTo, Took, Lowered, Followed, SentOn, SweptFrom}
use Rattle.monitor.proofs.Bridge.{same_word, swept_lower}

-- a level's words are those of the set
level_word : (set : List ℕ) (w : ℕ) (x : List ℕ) → Level set w x → (r s : ℕ) → r < 8 → Has x r s ↔ InCell set w r s
level_word set w x l r s i = same_word s (l.words r i)

stored_word : (w : ℕ) (x before after : List ℕ) → Stored w x before after → (r s : ℕ) → r < 8 → InCell after w r s ↔ Has x r s
stored_word w x before after st r s i = same_word s (st.words r i)

-- TAKES AND LOSSES

module _ (rows : List ℕ) (width c a w : ℕ) (before after above row x : List ℕ) (union taken : ℕ)
    (up : Level before (w + 1) above) (own : Level before w row) (all : (s : ℕ) → In s union ↔ Any above s)
    (image : (t : ℕ) → In t taken ↔ Image rows width a union t) (to : LoweredTo row above taken c x) (st : Stored w x before after) where
  up' : Level before (suc w) above
  up' = rw add-one at up

  took : (s : ℕ) → In s taken ↔ Took rows width a before (suc w) s
  took s = (
    (λ i.
        let m = (image s).0 i in
        let n = (all m.source).0 m.here in
        record { from = m.source; lost = n.word; eight = n.small; member = (level_word before (suc w) above up' n.word m.source n.small).0 n.here; leads = m.leads }),
    (λ t. (image s).1 (record {
      source = t.from;
      leads = t.leads;
      here = (all t.from).1 (record { word = t.lost; small = t.eight; here = (level_word before (suc w) above up' t.lost t.from t.eight).1 t.member });
    })),
  )

  pub lowered : Lowered rows width c a w before after
  lowered =
      record {
        beside = record { below = st.below; above = st.above };
        taken = λ s. let f = to.first s in
            let o = level_word before w row own 0 s (omega arith) in
            let n = stored_word w x before after st 0 s (omega arith) in (
              (λ i. ⊎_elim (λ j. inl (o.0 j)) (λ j. inr ((took s).0 j)) (f.0 (n.0 i))),
              (λ i. n.1 (f.1 (⊎_elim (λ j. inl (o.1 j)) (λ j. inr ((took s).1 j)) i))),
            );
        lost = λ r s k. let f = to.later r s k in
            let o = level_word before w row own (suc r) s k in
            let u = level_word before (suc w) above up' r s (omega arith) in
            let n = stored_word w x before after st (suc r) s k in (
              (λ i. ⊎_elim (λ j. inl (o.0 j)) (λ (l, j). inr (l, u.0 j)) (f.0 (n.0 i))),
              (λ i. n.1 (f.1 (⊎_elim (λ j. inl (o.1 j)) (λ (l, j). inr (l, u.1 j)) i))),
            );
      }

-- the next level, with the input that stands at the head of the line
-- a level that was stored
pub stored_level : (w : ℕ) (x before after : List ℕ) → Stored w x before after → Level after w x
stored_level w x before after s = record { words = λ r k. sym (s.words r k) }

pub swept_more : (rows : List ℕ) (width c : ℕ) (h : List ℕ) (w : ℕ) (before mid after : List ℕ) → 0 < w → w ≤ length h → SweptFrom rows width c h w (length h) before mid
    → Lowered rows width c (get_or h (length h - (w - 1) - 1) 0) (w - 1) mid after → SweptFrom rows width c h (w - 1) (length h) before after
swept_more rows width c h w before mid after pos le swept low =
    let e : suc (w - 1) ≡ w = omega arith in
    let i : length h - (w - 1) - 1 ≡ length h - suc (w - 1) = omega arith in
    swept_lower rows width c h (length h) before (w - 1) (omega arith) mid after (rw e swept) (rw i at low)

-- AN OUTPUT

-- in the level of w waiting every state has followed the column
pub record SentLevel (rows : List ℕ) (width column w : ℕ) (before after : List ℕ) : Type 0 where
  pub size : length after ≡ length before
  pub sent : (r t : ℕ) → r < 8 → InCell after w r t ↔ ((s : ℕ) × Followed rows width column s t before w r)
  pub below : (k : ℕ) → k < 8 * w → get_or after k 0 ≡ get_or before k 0
  pub above : (k : ℕ) → 8 * w + 8 ≤ k → get_or after k 0 ≡ get_or before k 0

sent_level : (rows : List ℕ) (width column w : ℕ) (before after row x : List ℕ) → Level before w row → Sent rows width column row x → Stored w x before after
    → SentLevel rows width column w before after
sent_level rows width column w before after row x own sent st =
    record {
      size = st.size;
      sent = λ r t i. let n = stored_word w x before after st r t i in (
        (λ j. let m = (sent r i t).0 (n.0 j) in (m.source, record { member = (level_word before w row own r m.source i).0 m.here; leads = m.leads })),
        (λ (s, f). n.1 ((sent r i t).1 (record { source = s; here = (level_word before w row own r s i).1 f.member; leads = f.leads }))),
      );
      below = st.below;
      above = st.above;
    }

-- the levels below w are done
pub record Sending (rows : List ℕ) (width column w : ℕ) (before after : List ℕ) : Type 0 where
  pub size : length after ≡ length before
  pub sent : (v r t : ℕ) → v < w → r < 8 → InCell after v r t ↔ ((s : ℕ) × Followed rows width column s t before v r)
  pub rest : (k : ℕ) → 8 * w ≤ k → get_or after k 0 ≡ get_or before k 0

module _ (rows : List ℕ) (width column : ℕ) (before : List ℕ) where
  pub sending_none : Sending rows width column 0 before before
  sending_none = record { size = refl; sent = λ v r t i. absurd (omega arith); rest = λ k i. refl }

  pub sending_more : (w : ℕ) (mid after row x : List ℕ) → Sending rows width column w before mid → Level mid w row → Sent rows width column row x → Stored w x mid after
      → Sending rows width column (w + 1) before after
  sending_more w mid after row x s own to st =
      record {
        size = l.size ∙ s.size;
        sent = λ v r t i j. ⊎_elim (λ k. old v r t k j) (λ k. let e : v ≡ w = omega arith in rw e (new r t j)) (lt_or_ge v w);
        rest = λ k i. l.above k (omega arith) ∙ s.rest k (omega arith);
      }
    where
      l : SentLevel rows width column w mid after
      l = sent_level rows width column w mid after row x own to st

      old : (v r t : ℕ) → v < w → r < 8 → InCell after v r t ↔ ((q : ℕ) × Followed rows width column q t before v r)
      old v r t i j = let m = same_word t (l.below (8 * v + r) (omega arith)) in ((λ k. (s.sent v r t i j).0 (m.0 k)), (λ k. m.1 ((s.sent v r t i j).1 k)))

      new : (r t : ℕ) → r < 8 → InCell after w r t ↔ ((q : ℕ) × Followed rows width column q t before w r)
      new r t j = (
        (λ k. let (q, f) = (l.sent r t j).0 k in (q, record { member = (same_word q (s.rest (8 * w + r) (omega arith))).0 f.member; leads = f.leads })),
        (λ (q, f). (l.sent r t j).1 (q, record { member = (same_word q (s.rest (8 * w + r) (omega arith))).1 f.member; leads = f.leads })),
      )

  pub sending_all : (n w : ℕ) (after : List ℕ) → w ≡ n → Sending rows width column (w + 1) before after → SentOn rows width column n before after
  sending_all n w after e s = record { sent = λ w r t i j. s.sent w r t (omega arith) j; above = λ k i. s.rest k (omega arith) }
