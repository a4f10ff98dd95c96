-- Where the code's words and the model's level equations meet: a swept set of words stands for a swept set of configurations.
-- Assumes nothing.
use mathlib.Core.Path.{◌≡◌, refl, ◌∙◌}
use mathlib.Core.List.{List}
use mathlib.Core.Logic.{◌↔◌, ◌⊎◌, inl, inr, ⊎_elim}
use Prim.Native.Nat.{ℕ, zero, suc, ◌+◌, ◌-◌, ◌*◌, ◌≤◌, ◌<◌}
use native.Mathlib.Omega.{arith}
use lib.ListN.{length}
use Rattle.model.specs.Table.{Table, width}
use Rattle.model.specs.Model.{box, Config, cfg}
use Rattle.model.specs.Levels.{oldest, Taken, Lost, Swept}
use Rattle.model.proofs.Flags.{lt_or_ge}
use Rattle.states.specs.In.{In}
use Rattle.monitor.proofs.Entries.{of_leads, leads}
use Rattle.session.specs.Sets.{InCell, Holds}
use Rattle.monitor.specs.Sweep.{Took, Lowered, SweptFrom, Ready, Contained}

-- equal words have the same states
pub same_word : {x y : ℕ} (s : ℕ) → x ≡ y → In s x ↔ In s y
same_word s e = ((λ i. rw e at i), (λ i. rw e i))

-- ONE LEVEL MORE

module _ (rows : List ℕ) (wide c : ℕ) (h : List ℕ) (top : ℕ) (before : List ℕ) where
  pub swept_none : SweptFrom rows wide c h top top before before
  swept_none =
      record {
        below = λ k i. refl;
        above = λ k i. refl;
        taken = λ v s i j. absurd (omega arith);
        lost = λ v r s i j k. absurd (omega arith);
      }

  module _ (w : ℕ) (lt : w < top) (mid after : List ℕ) (swept : SweptFrom rows wide c h (suc w) top before mid) (low : Lowered rows wide c (oldest (suc w) h) w mid after) where
    up : (v r s : ℕ) → suc w ≤ v → InCell after v r s ↔ InCell mid v r s
    up v r s i = same_word s (low.beside.above (8 * v + r) (omega arith))

    took_up : (a v s : ℕ) → suc w ≤ v → Took rows wide a mid v s ↔ Took rows wide a after v s
    took_up a v s i = (
      (λ t. record { from = t.from; lost = t.lost; eight = t.eight; member = (up v t.lost t.from i).1 t.member; leads = t.leads }),
      (λ t. record { from = t.from; lost = t.lost; eight = t.eight; member = (up v t.lost t.from i).0 t.member; leads = t.leads }),
    )

    -- level w was as before
    down : (r s : ℕ) → r < 8 → InCell mid w r s ↔ InCell before w r s
    down r s i = same_word s (swept.below (8 * w + r) (omega arith))

    taken_here : (s : ℕ) → InCell after w 0 s ↔ (InCell before w 0 s ⊎ Took rows wide (oldest (suc w) h) after (suc w) s)
    taken_here s =
        let t = took_up (oldest (suc w) h) (suc w) s (omega arith) in
        let d = down 0 s (omega arith) in (
          (λ i. ⊎_elim (λ j. inl (d.0 j)) (λ j. inr (t.0 j)) ((low.taken s).0 i)),
          (λ i. (low.taken s).1 (⊎_elim (λ j. inl (d.1 j)) (λ j. inr (t.1 j)) i)),
        )

    lost_here : (r s : ℕ) → suc r < 8 → InCell after w (suc r) s ↔ (InCell before w (suc r) s ⊎ ((suc r < c) × InCell after (suc w) r s))
    lost_here r s i =
        let u = up (suc w) r s (omega arith) in
        let d = down (suc r) s i in (
          (λ j. ⊎_elim (λ k. inl (d.0 k)) (λ (f, k). inr (f, u.1 k)) ((low.lost r s i).0 j)),
          (λ j. (low.lost r s i).1 (⊎_elim (λ k. inl (d.1 k)) (λ (f, k). inr (f, u.0 k)) j)),
        )

    taken_above : (v s : ℕ) → suc w ≤ v → v < top → InCell after v 0 s ↔ (InCell before v 0 s ⊎ Took rows wide (oldest (suc v) h) after (suc v) s)
    taken_above v s i j =
        let t = took_up (oldest (suc v) h) (suc v) s (omega arith) in
        let u = up v 0 s i in (
          (λ k. ⊎_elim (λ l. inl l) (λ l. inr (t.0 l)) ((swept.taken v s i j).0 (u.0 k))),
          (λ k. u.1 ((swept.taken v s i j).1 (⊎_elim (λ l. inl l) (λ l. inr (t.1 l)) k))),
        )

    lost_above : (v r s : ℕ) → suc w ≤ v → v < top → suc r < 8 → InCell after v (suc r) s ↔ (InCell before v (suc r) s ⊎ ((suc r < c) × InCell after (suc v) r s))
    lost_above v r s i j k =
        let u = up v (suc r) s i in
        let u₁ = up (suc v) r s (omega arith) in (
          (λ l. ⊎_elim (λ m. inl m) (λ (f, m). inr (f, u₁.1 m)) ((swept.lost v r s i j k).0 (u.0 l))),
          (λ l. u.1 ((swept.lost v r s i j k).1 (⊎_elim (λ m. inl m) (λ (f, m). inr (f, u₁.0 m)) l))),
        )

    pub swept_lower : SweptFrom rows wide c h w top before after
    swept_lower =
        record {
          below = λ k i. low.beside.below k i ∙ swept.below k (omega arith);
          above = λ k i. low.beside.above k (omega arith) ∙ swept.above k i;
          taken = λ v s i j. pick v (λ (u : ℕ). InCell after u 0 s ↔ (InCell before u 0 s ⊎ Took rows wide (oldest (suc u) h) after (suc u) s)) i (taken_here s) (λ k. taken_above v s k j);
          lost = λ v r s i j k. pick v (λ (u : ℕ). InCell after u (suc r) s ↔ (InCell before u (suc r) s ⊎ ((suc r < c) × InCell after (suc u) r s))) i (lost_here r s k) (λ l. lost_above v r s l j k);
        }
      where
        -- a level from w up is w, or above it
        pick : (v : ℕ) (P : ℕ → Type 0) → w ≤ v → P w → (suc w ≤ v → P v) → P v
        pick v P i p q = ⊎_elim (λ k. q k) (λ k. let e : v ≡ w = omega arith in rw e p) (lt_or_ge w v)

-- THE BRIDGE

module _ (T : Table) (rows : List ℕ) (B c : ℕ) (h : List ℕ) (top : ℕ) (ready : Ready T rows B c h top) (before after : List ℕ)
    (contained : Contained T c top before) (swept : SweptFrom rows (width T) c h 0 top before after) where
  -- the oldest of the first waiting inputs is an input of the table
  head : (v : ℕ) → v < top → oldest (suc v) h < T.inputs
  head v i = ready.inputs (length h - suc v) (omega (arith, ready.held))

  -- above top nothing has moved
  unmoved : (w r s : ℕ) → top ≤ w → InCell after w r s ↔ InCell before w r s
  unmoved w r s i = same_word s (swept.above (8 * w + r) (omega arith))

  low : (w r s : ℕ) → w ≤ 32 → r < 8 → InCell after w r s → w ≤ top
  low w r s k l i = ⊎_elim (λ j. absurd (omega (arith, contained.waiting w r s k l ((unmoved w r s (omega arith)).0 i)))) (λ j. j) (lt_or_ge top w)

  -- what a level has after the sweep lies within table and bounds; n levels at the most are above it
  record Good (s r : ℕ) : Type 0 where
    state : s < T.states
    run : r < c

  before_good : (w r s : ℕ) → w ≤ 32 → r < 8 → InCell before w r s → Good s r
  before_good w r s k l i = record { state = contained.state w r s k l i; run = contained.run w r s k l i }

  good_lower : (w r s : ℕ) → w < top → r < 8 → ((r' s' : ℕ) → r' < 8 → InCell after (suc w) r' s' → Good s' r') → InCell after w r s → Good s r
  good_lower w zero s j l above i = ⊎_elim (before_good w 0 s (omega (arith, ready.few, ready.bounds.waiting)) (omega arith)) took ((swept.taken w s (omega arith) j).0 i)
    where
      took : Took rows (width T) (oldest (suc w) h) after (suc w) s → Good s 0
      took t =
          let g = above t.lost t.from t.eight t.member in
          let a = head w j in
          let e = of_leads T rows ready.table ready.packed t.from (oldest (suc w) h) s g.state (omega arith) t.leads in
          record { state = ready.table.entries t.from (oldest (suc w) h) s g.state (omega arith) e; run = omega (arith, ready.bounds.losses) }
  good_lower w (suc r) s j l above i =
      ⊎_elim (before_good w (suc r) s (omega (arith, ready.few, ready.bounds.waiting)) l)
      (λ (f, k). record { state = (above r s (omega arith) k).state; run = f }) ((swept.lost w r s (omega arith) j l).0 i)

  good : (n w r s : ℕ) → top ≤ w + n → w ≤ 32 → r < 8 → InCell after w r s → Good s r
  good zero w r s n k l i = before_good w r s k l ((unmoved w r s (omega arith)).0 i)
  good (suc n) w r s m k l i =
      ⊎_elim (λ j. good_lower w r s j l (λ r' s' l'. good n (suc w) r' s' (omega arith) (omega (arith, ready.few, ready.bounds.waiting)) l') i)
      (λ j. before_good w r s k l ((unmoved w r s j).0 i)) (lt_or_ge w top)

  pub contained_after : Contained T c top after
  contained_after =
      record {
        state = λ w r s k l i. (good top w r s (omega arith) k l i).state;
        waiting = low;
        run = λ w r s k l i. (good top w r s (omega arith) k l i).run;
      }

  only_low : (x : Config ℕ) (r : ℕ) → x.run ≡ r → x.waiting < top → Holds after x → Holds before x ⊎ (Taken (box T) B c h (Holds after) x ⊎ Lost (box T) B c (Holds after) x)
  only_low x zero e j i = ⊎_elim (λ k. inl (record { waiting = i.waiting; run = i.run; member = rw e k })) (λ t. inr (inl (took t))) ((swept.taken x.waiting x.state (omega arith) j).0 (rw e at i.member))
    where
      took : Took rows (width T) (oldest (suc x.waiting) h) after (suc x.waiting) x.state → Taken (box T) B c h (Holds after) x
      took t =
          let w : suc x.waiting ≤ 32 = omega (arith, ready.few, ready.bounds.waiting) in
          let a = head x.waiting j in
          record {
            from = t.from;
            lost = t.lost;
            member = record { waiting = w; run = t.eight; member = t.member };
            follows = of_leads T rows ready.table ready.packed t.from (oldest (suc x.waiting) h) x.state
                (contained_after.state (suc x.waiting) t.lost t.from w t.eight t.member) (omega arith) t.leads;
            none = e;
          }
  only_low x (suc r) e j i =
      let l : suc r < 8 = omega (arith, i.run) in
      ⊎_elim (λ k. inl (record { waiting = i.waiting; run = i.run; member = rw e k }))
      (λ (f, k). inr (inr (record { lost = r; member = record { waiting = omega (arith, ready.few, ready.bounds.waiting); run = omega arith; member = k }; one_more = e; few = rw e f })))
      ((swept.lost x.waiting r x.state (omega arith) j l).0 (rw e at i.member))

  event_low : (x : Config ℕ) (r : ℕ) → x.run ≡ r → x.waiting < top → Holds before x → Holds after x
  event_low x zero e j i = record { waiting = i.waiting; run = i.run; member = rw e ((swept.taken x.waiting x.state (omega arith) j).1 (inl (rw e at i.member))) }
  event_low x (suc r) e j i =
      record { waiting = i.waiting; run = i.run; member = rw e ((swept.lost x.waiting r x.state (omega arith) j (omega (arith, i.run))).1 (inl (rw e at i.member))) }

  -- what comes from the level above is below top
  under : (x y : Config ℕ) → y.waiting ≡ suc x.waiting → Holds after y → x.waiting < top
  under x y e i = omega (arith, low y.waiting y.run y.state i.waiting i.run i.member)

  -- The words swept, level by level, stand for the swept set.
  pub words_swept : Swept (box T) B c h (Holds before) (Holds after)
  words_swept =
      record {
        below = λ x i. omega (arith, low x.waiting x.run x.state i.waiting i.run i.member, ready.few);
        only = λ x i. ⊎_elim (λ j. only_low x x.run refl j i)
            (λ j. inl (record { waiting = i.waiting; run = i.run; member = (unmoved x.waiting x.run x.state j).0 i.member })) (lt_or_ge x.waiting top);
        event = λ x i. ⊎_elim (λ j. event_low x x.run refl j i)
            (λ j. record { waiting = i.waiting; run = i.run; member = (unmoved x.waiting x.run x.state j).1 i.member }) (lt_or_ge x.waiting top);
        taken = λ x t. let m = t.member in
            let j = under x (cfg t.from (suc x.waiting) t.lost) refl m in
            let a = head x.waiting j in
            let g = contained_after.state (suc x.waiting) t.lost t.from m.waiting m.run m.member in
            record {
              waiting = omega (arith, m.waiting);
              run = omega (arith, t.none);
              member = rw t.none ((swept.taken x.waiting x.state (omega arith) j).1 (inr (record {
                from = t.from;
                lost = t.lost;
                eight = m.run;
                member = m.member;
                leads = leads T rows ready.table ready.packed t.from (oldest (suc x.waiting) h) x.state g (omega arith) t.follows;
              })));
            };
        lost = λ x t. let m = t.member in
            let j = under x (cfg x.state (suc x.waiting) t.lost) refl m in
            let b : x.run < 8 = omega (arith, t.few, ready.bounds.losses) in
            record {
              waiting = omega (arith, m.waiting);
              run = b;
              member = rw t.one_more ((swept.lost x.waiting t.lost x.state (omega arith) j (omega (arith, t.one_more))).1 (inr (omega (arith, t.one_more, t.few), m.member)));
            };
      }
