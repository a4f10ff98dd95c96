-- The event, and then takes and losses, on words: what they stand for is the fed set. Assumes nothing.
use Rattle.std.specs.Prelude.{Some}
use mathlib.Core.Path.{◌≡◌, refl, ap, ◌∙◌}
use mathlib.Core.List.{List}
use mathlib.Core.Logic.{◌↔◌, inl, inr, ⊎_elim}
use Prim.Native.Nat.{ℕ, zero, suc, ◌+◌, ◌-◌, ◌*◌, ◌≤◌, ◌<◌}
use native.Mathlib.Omega.{arith}
use lib.ListN.{length, get_or}
use Rattle.model.specs.Table.{Table, Valid, Bounded, width, entry}
use Rattle.model.specs.Model.{Device, box, Event, newest, Config, cfg, Set, Fed}
use Rattle.model.specs.Levels.{oldest, held_after, Arrived, Sent, Moved, Swept}
use Rattle.model.proofs.Flags.{lt_or_ge}
use Rattle.model.proofs.Newest.{oldest_newest}
use Rattle.model.proofs.Demands.{level_by_level}
use Rattle.session.specs.Sets.{InCell, Holds}
use Rattle.monitor.specs.Sweep.{SweptFrom, Shifted, SentOn, Packed, Ready, Contained}
use Rattle.states.proofs.Member.{not_in_zero}
use Rattle.monitor.proofs.Bridge.{same_word, words_swept}
use Rattle.monitor.proofs.Entries.{of_leads, leads}

-- SWEPT SETS, READ ANOTHER WAY

module _ (D : Device) (B c : ℕ) (h : List ℕ) (E S : Set D.State) (swept : Swept D B c h E S) where
  -- from an equal set
  pub swept_same : (E' : Set D.State) → ((x : Config D.State) → E x ↔ E' x) → Swept D B c h E' S
  swept_same E' e =
      record {
        below = swept.below;
        only = λ x i. ⊎_elim (λ j. inl ((e x).0 j)) (λ j. inr j) (swept.only x i);
        event = λ x i. swept.event x ((e x).1 i);
        taken = swept.taken;
        lost = swept.lost;
      }

-- only the newest B inputs matter
pub swept_newest : (D : Device) (B c : ℕ) (h : List ℕ) (E S : Set D.State) → Swept D B c (newest B h) E S → Swept D B c h E S
swept_newest D B c h E S swept =
    record {
      below = swept.below;
      only = λ x i. ⊎_elim (λ j. inl j) (⊎_elim (λ t. inr (inl (record {
        from = t.from;
        lost = t.lost;
        member = t.member;
        none = t.none;
        follows = rw (old x t.from t.lost t.member) at t.follows;
      }))) (λ l. inr (inr l))) (swept.only x i);
      event = swept.event;
      taken = λ x t. swept.taken x (record { from = t.from; lost = t.lost; member = t.member; none = t.none; follows = rw (old x t.from t.lost t.member) t.follows });
      lost = swept.lost;
    }
  where
    old : (x : Config D.State) (s : D.State) (r : ℕ) → S (cfg s (suc x.waiting) r) → oldest (suc x.waiting) (newest B h) ≡ oldest (suc x.waiting) h
    old x s r m = oldest_newest (suc x.waiting) B h (swept.below (cfg s (suc x.waiting) r) m)

-- AN INPUT

module _ (T : Table) (B c : ℕ) (a top n : ℕ) (symbol : a < T.inputs) (bounds : Bounded B c) (fits : top ≤ B) (most : n ≤ B)
    (all : (w : ℕ) → w ≤ top → w < B → w < n) (before after : List ℕ) (contained : Contained T c top before) (shifted : Shifted n before after) where
  none_first : (r s : ℕ) → r < 8 → InCell after 0 r s → ⊥
  none_first r s l i =
      let e : 8 * 0 + r ≡ r = omega arith in
      not_in_zero s ((same_word s (ap (λ (k : ℕ). get_or after k 0) e ∙ shifted.first r l)).0 i)

  -- a level from the first up was one lower
  was : (w r s : ℕ) → w < n → r < 8 → InCell after (suc w) r s ↔ InCell before w r s
  was w r s i l =
      let e : 8 * suc w + r ≡ 8 + (8 * w + r) = omega arith in
      rw e (same_word s (shifted.moved (8 * w + r) (omega arith)))

  -- nothing is above n
  none_above : (w r s : ℕ) → n < w → w ≤ 32 → r < 8 → InCell after w r s → ⊥
  none_above w r s i k l m =
      let j = (same_word s (shifted.above (8 * w + r) (omega arith))).0 m in
      let b = contained.waiting w r s k l j in
      omega (arith, all (w - 1) (omega arith) (omega arith))

  -- so it came up, if it is there at all
  came_up : (w r s : ℕ) → w ≤ 32 → r < 8 → InCell after w r s → (v : ℕ) × (w ≡ suc v) × (v < n) × InCell before v r s
  came_up zero r s k l i = absurd (none_first r s l i)
  came_up (suc v) r s k l i = ⊎_elim (λ j. (v, refl, j, (was v r s j l).0 i)) (λ j. absurd (none_above (suc v) r s (omega arith) k l i)) (lt_or_ge v n)

  pub shifted_contained : Contained T c n after
  shifted_contained =
      record {
        state = λ w r s k l i. let (v, e, j, m) = came_up w r s k l i in contained.state v r s (omega arith) l m;
        waiting = λ w r s k l i. let (v, e, j, m) = came_up w r s k l i in omega arith;
        run = λ w r s k l i. let (v, e, j, m) = came_up w r s k l i in contained.run v r s (omega arith) l m;
      }

  pub shifted_arrived : (x : Config ℕ) → Holds after x ↔ Arrived (box T) B c (Holds before) a x
  shifted_arrived x = (to, from)
    where
      to : Holds after x → Arrived (box T) B c (Holds before) a x
      to i =
          let (v, e, j, m) = came_up x.waiting x.run x.state i.waiting i.run i.member in
          record {
            symbol = symbol;
            waited = v;
            one_more = e;
            member = record { waiting = omega (arith, i.waiting); run = i.run; member = m };
            inside = record { room = omega arith; few = contained.run v x.run x.state (omega (arith, i.waiting)) i.run m };
          }

      from : Arrived (box T) B c (Holds before) a x → Holds after x
      from y =
          let m = y.member in
          let j = all y.waited (contained.waiting y.waited x.run x.state m.waiting m.run m.member) (omega (arith, y.inside.room, y.one_more)) in
          record {
            waiting = omega (arith, y.inside.room, bounds.waiting);
            run = m.run;
            member = rw y.one_more ((was y.waited x.run x.state j m.run).1 m.member);
          }

-- AN OUTPUT

module _ (T : Table) (rows : List ℕ) (B c : ℕ) (a top : ℕ) (table : Valid T) (packed : Packed T rows) (bounds : Bounded B c) (symbol : a < T.outputs) (most : top ≤ B)
    (before after : List ℕ) (contained : Contained T c top before) (sent : SentOn rows (width T) (T.inputs + a) top before after) where
  -- what is there followed the entry
  from_entry : (w r t : ℕ) → w ≤ 32 → r < 8 → InCell after w r t → (s : ℕ) × InCell before w r s × (s < T.states) × (entry T s (T.inputs + a) ≡ Some t) × (w ≤ top)
  from_entry w r t k l i = ⊎_elim high low (lt_or_ge top w)
    where
      high : top < w → (s : ℕ) × InCell before w r s × (s < T.states) × (entry T s (T.inputs + a) ≡ Some t) × (w ≤ top)
      high j = absurd (omega (arith, contained.waiting w r t k l ((same_word t (sent.above (8 * w + r) (omega arith))).0 i)))

      low : w ≤ top → (s : ℕ) × InCell before w r s × (s < T.states) × (entry T s (T.inputs + a) ≡ Some t) × (w ≤ top)
      low j =
          let (s, f) = (sent.sent w r t j l).0 i in
          let g = contained.state w r s k l f.member in
          (s, f.member, g, of_leads T rows table packed s (T.inputs + a) t g (omega arith) f.leads, j)

  pub sent_contained : Contained T c top after
  sent_contained =
      record {
        state = λ w r t k l i. let (s, m, g, e, j) = from_entry w r t k l i in table.entries s (T.inputs + a) t g (omega arith) e;
        waiting = λ w r t k l i. (from_entry w r t k l i).4;
        run = λ w r t k l i. let (s, m, g, e, j) = from_entry w r t k l i in contained.run w r s k l m;
      }

  pub sent_sent : (x : Config ℕ) → Holds after x ↔ Sent (box T) B c (Holds before) a x
  sent_sent x = (to, from)
    where
      to : Holds after x → Sent (box T) B c (Holds before) a x
      to i =
          let (s, m, g, e, j) = from_entry x.waiting x.run x.state i.waiting i.run i.member in
          record {
            symbol = symbol;
            from = s;
            follows = e;
            member = record { waiting = i.waiting; run = i.run; member = m };
            inside = record { room = omega arith; few = contained.run x.waiting x.run s i.waiting i.run m };
          }

      from : Sent (box T) B c (Holds before) a x → Holds after x
      from y =
          let m = y.member in
          let g = contained.state x.waiting x.run y.from m.waiting m.run m.member in
          let j = contained.waiting x.waiting x.run y.from m.waiting m.run m.member in
          record {
            waiting = m.waiting;
            run = m.run;
            member = (sent.sent x.waiting x.run x.state j m.run).1
                (y.from, record { member = m.member; leads = leads T rows table packed y.from (T.inputs + a) x.state g (omega arith) y.follows });
          }

-- THE FED SET

-- The event's words, swept, stand for the fed set.
pub fed_words : (T : Table) (rows : List ℕ) (B c : ℕ) (h : List ℕ) (e : Event) (top : ℕ) (before mid after : List ℕ)
    → ((x : Config ℕ) → Holds before x → x.waiting ≤ length h) → Ready T rows B c (newest B (held_after h e)) top → Contained T c top mid
    → ((x : Config ℕ) → Holds mid x ↔ Moved (box T) B c (Holds before) e x) → SweptFrom rows (width T) c (newest B (held_after h e)) 0 top mid after
    → (x : Config ℕ) → Holds after x ↔ Fed (box T) B c h (Holds before) e x
fed_words T rows B c h e top before mid after fit ready contained moved swept =
    level_by_level (box T) B c h (Holds before) e (Holds after) fit
    (swept_same (box T) B c (held_after h e) (Holds mid) (Holds after)
    (swept_newest (box T) B c (held_after h e) (Holds mid) (Holds after) (words_swept T rows B c (newest B (held_after h e)) top ready mid after contained swept))
    (Moved (box T) B c (Holds before) e) moved)
