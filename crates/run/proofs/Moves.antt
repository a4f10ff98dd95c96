-- What an event does to the words by lag is what the model does to the plausible set. Assumes nothing.
use Rattle.std.specs.Prelude.{Some, None}
use mathlib.Core.Path.{◌≡◌, refl, sym, ◌∙◌}
use mathlib.Core.List.{List, [], ◌∷◌, ◌++◌, append-nil}
use mathlib.Core.Logic.{◌↔◌, ◌⊎◌, inl, inr, ⊎_elim}
use Prim.Native.Nat.{ℕ, zero, suc, ◌+◌, ◌-◌, ◌*◌, ◌≤◌, ◌<◌, min}
use native.Mathlib.Nat.{mul-le-mul_right}
use native.Mathlib.Omega.{arith}
use lib.ListN.{length, get_or, length-append, get_or-append, get_or-eq_default}
use lib.Seq.{get_or-append_seam}
use Rattle.model.specs.Table.{Table, Valid, Bounded, byte, entry}
use Rattle.model.specs.Model.{Device, box, Event, input, output, inputs_of, newest, Place, place, placed, Config, cfg, config, Set, Step, Within, Plausible}
use Rattle.model.specs.Model as model
use Rattle.model.specs.Levels.{oldest, held_after, Arrived, Sent, Moved, Taken, Lost, Swept}
use Rattle.model.proofs.Flags.{lt_or_ge}
use Rattle.model.proofs.Newest.{length_newest, newest_suc}
use Rattle.model.proofs.Demands.{last_event, level_by_level, closed, contained}
use Rattle.table.specs.Bytes.{table_of}
use Rattle.states.specs.In.{In}
use Rattle.states.specs.Rows.{Leads}
use Rattle.monitor.proofs.Entries as entries
use Rattle.run.specs.Lag.{Lagged, Came, Went}
use Rattle.run.proofs.Lags.{same_word}

-- ROWS THAT ARE ALL THERE

module _ (rows : List ℕ) (s i o : ℕ) (valid : Valid (table_of rows s i o)) where
  past : (q k : ℕ) → s ≤ q → get_or rows (q * (i + o) + k) 255 ≡ 255
  past q k h = get_or-eq_default rows 255 (omega (arith, valid.rows, mul-le-mul_right (i + o) h))

  packed : (q k : ℕ) → q < s → k < i + o → get_or rows (q * (i + o) + k) 255 ≡ byte (table_of rows s i o) q k
  unfolding byte
  packed q k l m = refl

  pub entry_of : (q k t : ℕ) → k < i + o → Leads rows (i + o) k q t → entry (table_of rows s i o) q k ≡ Some t
  entry_of q k t l d =
      ⊎_elim (λ h. entries.of_leads (table_of rows s i o) rows valid packed q k t h l d)
      (λ h. absurd (omega (arith, past q k h, d.byte, d.state))) (lt_or_ge q s)

  pub leads_of : (q k t : ℕ) → k < i + o → entry (table_of rows s i o) q k ≡ Some t → Leads rows (i + o) k q t
  unfolding entry byte
  leads_of q k t l e =
      ⊎_elim (λ h. entries.leads (table_of rows s i o) rows valid packed q k t h l e)
      (λ h. absurd (let z = past q k h in let w : entry (table_of rows s i o) q k ≡ None = rw z in let y : ◌≡◌ {A = ℕ} 0 1 = cc in omega arith)) (lt_or_ge q s)

-- THE LINE

-- one input more: it is the newest, and the others are one further back
pub oldest_new : (h : List ℕ) (a : ℕ) → oldest 1 (h ++ (a ∷ [])) ≡ a
oldest_new h a =
    let e : length (h ++ (a ∷ [])) - 1 ≡ length h = simp length-append (omega arith) in
    rw (e, get_or-append_seam)

pub oldest_back : (h : List ℕ) (a w : ℕ) → suc w ≤ length h → oldest (suc (suc w)) (h ++ (a ∷ [])) ≡ oldest (suc w) h
oldest_back h a w l =
    let e : length (h ++ (a ∷ [])) - suc (suc w) ≡ length h - suc w = simp length-append (omega arith) in
    rw e (get_or-append h (a ∷ []) 0 (length h - suc w) (omega arith))

-- the heads of the lines after one input more
module _ (rows : List ℕ) (wide i B c a n n' base base' : ℕ) (h words line words' line' : List ℕ) (few : B ≤ 32) (symbol : a < i) (count : n' ≡ min (n + 1) B)
    (came : Came rows wide c a base words line base' words' line') where
  pub input_heads : n ≤ length h → ((w : ℕ) → w < n → get_or line (base + w) 0 ≡ oldest (suc w) h)
      → (w : ℕ) → w < n' → get_or line' (base' + w) 0 ≡ oldest (suc w) (h ++ (a ∷ []))
  input_heads seen heads zero l = let e : base' + 0 ≡ base' = omega arith in rw e came.head ∙ sym (oldest_new h a)
  input_heads seen heads (suc w) l = came.older w (omega arith) ∙ heads w (omega arith) ∙ sym (oldest_back h a w (omega arith))

  pub input_small : ((w : ℕ) → w < n → get_or line (base + w) 0 < i) → (w : ℕ) → w < n' → get_or line' (base' + w) 0 < i
  input_small small zero l = let e : base' + 0 ≡ base' = omega arith in rw (e, came.head) symbol
  input_small small (suc w) l = rw (came.older w (omega arith)) (small w (omega arith))

-- a plausible set is closed under takes
pub take_closed : (T : Table) (B c : ℕ) (t : List Event) (q s v lost : ℕ) → Valid T → Bounded B c → Plausible (box T) B c t (cfg q (suc v) lost)
    → entry T q (oldest (suc v) (inputs_of t)) ≡ Some s → Plausible (box T) B c t (cfg s v 0)
take_closed T B c t q s v lost valid bounded p e =
    let h = inputs_of t in
    let f = contained T B c t (cfg q (suc v) lost) valid bounded p in
    let some_in : suc v ≤ length (inputs_of t) = f.arrived in
    let len : length (newest v (inputs_of t)) ≡ v = length_newest v (inputs_of t) (omega arith) in
    let k = closed (box T) B c t (cfg q (suc v) lost) model.take (place s (newest v (inputs_of t)) 0) p refl
    (oldest (suc v) (inputs_of t), newest v (inputs_of t), s, newest_suc v (inputs_of t) some_in, e, refl)
    (omega (arith, f.waiting), omega (arith, bounded.losses.0)) in
    rw len at k

module _ (rows : List ℕ) (s i o B c : ℕ) (valid : Valid (table_of rows s i o)) (bounded : Bounded B c) (t : List Event) (words line : List ℕ) (base n : ℕ)
    (le : n ≤ B) (heads : (w : ℕ) → w < n → get_or line (base + w) 0 ≡ oldest (suc w) (inputs_of t)) (small : (w : ℕ) → w < n → get_or line (base + w) 0 < i)
    (plausible : (x : Config ℕ) → Lagged words base n c x ↔ Plausible (box (table_of rows s i o)) B c t x) where
  T : Table
  T = table_of rows s i o

  h : List ℕ
  h = inputs_of t

  -- no more wait than were seen
  fit : (x : Config ℕ) → Plausible (box (table_of rows s i o)) B c t x → x.waiting ≤ length (inputs_of t)
  fit x p = (contained (table_of rows s i o) B c t x valid bounded p).arrived

  -- a set swept from what the event leaves is the plausible set after it
  after : (e : Event) (S : Set ℕ) → Swept (box (table_of rows s i o)) B c (held_after (inputs_of t) e) (Moved (box (table_of rows s i o)) B c (Plausible (box (table_of rows s i o)) B c t) e) S
      → (x : Config ℕ) → S x ↔ Plausible (box (table_of rows s i o)) B c (t ++ (e ∷ [])) x
  after e S swept x =
      let a = level_by_level (box (table_of rows s i o)) B c (inputs_of t) (Plausible (box (table_of rows s i o)) B c t) e S fit swept x in
      let b = last_event (box (table_of rows s i o)) B c t e x in
      ((λ y. b.1 (a.0 y)), (λ p. a.1 (b.0 p)))

  -- AN INPUT

  module _ (a n' base' : ℕ) (words' line' : List ℕ) (symbol : a < i) (count : n' ≡ min (n + 1) B) (came : Came rows (i + o) c a base words line base' words' line') where
    S' : Set ℕ
    S' = Lagged words' base' n' c

    E : Set ℕ
    E = Moved (box (table_of rows s i o)) B c (Plausible (box (table_of rows s i o)) B c t) (input a)

    to_old : (q w r : ℕ) → Lagged words' base' n' c (cfg q (suc w) r) → Lagged words base n c (cfg q w r)
    to_old q w r y =
        let y₁ : suc w ≤ n' = y.room in
        let y₂ : r < c = y.few in
        let e : base' + (suc w + r) ≡ base' + suc (w + r) = omega arith in
        record {
          room = omega arith;
          few = y.few;
          member = (same_word q (came.moved (w + r) (omega (arith, bounded.waiting.1, bounded.losses.1)))).0 (rw e at y.member);
        }

    to_new : (q w r : ℕ) → suc w ≤ B → Lagged words base n c (cfg q w r) → Lagged words' base' n' c (cfg q (suc w) r)
    to_new q w r l y =
        let y₁ : w ≤ n = y.room in
        let y₂ : r < c = y.few in
        let e : base' + (suc w + r) ≡ base' + suc (w + r) = omega arith in
        record {
          room = omega arith;
          few = y.few;
          member = rw e ((same_word q (came.moved (w + r) (omega (arith, bounded.waiting.1, bounded.losses.1)))).1 y.member);
        }

    one_waits : 1 ≤ n'
    one_waits = omega (arith, bounded.waiting.0)

    -- the newest is at the head of a line of one
    head_taken : (w q q' : ℕ) → w ≡ 0 → entry (table_of rows s i o) q a ≡ Some q' → entry (table_of rows s i o) q (oldest (suc w) (inputs_of t ++ (a ∷ []))) ≡ Some q'
    head_taken w q q' e f = rw (e, oldest_new (inputs_of t) a) f

    only : (x : Config ℕ) (w r : ℕ) → x.waiting ≡ w → x.run ≡ r → Lagged words' base' n' c x
        → Arrived (box (table_of rows s i o)) B c (Plausible (box (table_of rows s i o)) B c t) a x
        ⊎ (Taken (box (table_of rows s i o)) B c (inputs_of t ++ (a ∷ [])) (Lagged words' base' n' c) x ⊎ Lost (box (table_of rows s i o)) B c (Lagged words' base' n' c) x)
    only x (suc w) r ew er y =
        let room = y.room in
        inl (record {
          symbol = symbol;
          waited = w;
          one_more = ew;
          member = (plausible (cfg x.state w x.run)).0 (to_old x.state w x.run (record { room = omega arith; few = y.few; member = rw ew at y.member }));
          inside = record { room = omega arith; few = y.few };
        })
    only x zero (suc r) ew er y =
        let few = y.few in
        let e : base' + (x.waiting + x.run) ≡ base' + (suc x.waiting + r) = omega arith in
        inr (inr (record {
          lost = r;
          member = record { room = omega (arith, one_waits); few = omega arith; member = rw e at y.member };
          one_more = er;
          few = y.few;
        }))
    only x zero zero ew er y =
        let e : base' + (x.waiting + x.run) ≡ base' = omega arith in
        let d = (came.taken x.state).0 (rw e at y.member) in
        let g : suc base' + d.source.lost ≡ base' + (suc x.waiting + d.source.lost) = omega arith in
        inr (inl (record {
          from = d.from;
          lost = d.source.lost;
          member = record { room = omega (arith, one_waits); few = d.source.few; member = rw g at d.source.member };
          follows = head_taken x.waiting d.from x.state ew (entry_of rows s i o valid d.from a x.state (omega arith) d.leads);
          none = er;
        }))

    event_in : (x : Config ℕ) → Arrived (box (table_of rows s i o)) B c (Plausible (box (table_of rows s i o)) B c t) a x → Lagged words' base' n' c x
    event_in x m =
        let y = to_new x.state m.waited x.run (omega (arith, m.one_more, m.inside.room)) ((plausible (cfg x.state m.waited x.run)).1 m.member) in
        record { room = rw m.one_more y.room; few = y.few; member = rw m.one_more y.member }

    taken_in : (x : Config ℕ) (w : ℕ) → x.waiting ≡ w → Taken (box (table_of rows s i o)) B c (inputs_of t ++ (a ∷ [])) (Lagged words' base' n' c) x → Lagged words' base' n' c x
    taken_in x zero ew k =
        let m = k.member in
        let room = m.room in
        let None = k.none in
        let e : base' + (x.waiting + x.run) ≡ base' = omega arith in
        let g : base' + (suc x.waiting + k.lost) ≡ suc base' + k.lost = omega arith in
        let f : entry (table_of rows s i o) k.from a ≡ Some x.state = rw (ew, oldest_new (inputs_of t) a) at k.follows in
        record {
          room = omega arith;
          few = omega (arith, bounded.losses.0);
          member = rw e ((came.taken x.state).1 (record {
            from = k.from;
            source = record { lost = k.lost; few = m.few; member = rw g at m.member };
            leads = leads_of rows s i o valid k.from a x.state (omega arith) f;
          }));
        }
    taken_in x (suc v) ew k =
        let m = k.member in
        let room = m.room in
        let None = k.none in
        let p = (plausible (cfg k.from x.waiting k.lost)).0 (to_old k.from x.waiting k.lost m) in
        let p₁ : Plausible (box (table_of rows s i o)) B c t (cfg k.from (suc v) k.lost) = rw ew at p in
        let back : oldest (suc (suc v)) (inputs_of t ++ (a ∷ [])) ≡ oldest (suc v) (inputs_of t) = oldest_back (inputs_of t) a v (fit (cfg k.from (suc v) k.lost) p₁) in
        let f : entry (table_of rows s i o) k.from (oldest (suc v) (inputs_of t)) ≡ Some x.state = rw (ew, back) at k.follows in
        let old = (plausible (cfg x.state v 0)).1 (take_closed (table_of rows s i o) B c t k.from x.state v k.lost valid bounded p₁ f) in
        let new = to_new x.state v 0 (omega (arith, count)) old in
        record { room = omega arith; few = omega (arith, bounded.losses.0); member = rw (ew, None) new.member }

    pub input_plausible : (x : Config ℕ) → Lagged words' base' n' c x ↔ Plausible (box (table_of rows s i o)) B c (t ++ (input a ∷ [])) x
    input_plausible =
        after (input a) (Lagged words' base' n' c)
        (record {
          below = λ x y. omega (arith, y.room, count);
          only = λ x y. only x x.waiting x.run refl refl y;
          event = event_in;
          taken = λ x k. taken_in x x.waiting refl k;
          lost = λ x k. let m = k.member in
              let e : base' + (suc x.waiting + k.lost) ≡ base' + (x.waiting + x.run) = omega (arith, k.one_more) in
              record { room = omega (arith, m.room); few = k.few; member = rw e at m.member };
        })

  -- AN OUTPUT

  module _ (a : ℕ) (words' : List ℕ) (symbol : a < o) (went : Went rows (i + o) (i + a) c line base n words words') where
    mid : List ℕ
    mid = went.between

    -- what follows the output stays, and from n on there is nothing else
    stays : (j q : ℕ) → j < n + c → In q (get_or went.between (base + j) 0) → In q (get_or words' (base + j) 0)
    stays j q l m = ⊎_elim (λ k. (went.drawn.taken j q (omega arith) k).1 (inl m)) (λ k. (same_word q (went.drawn.above (base + j) (omega arith))).1 m) (lt_or_ge j n)

    sent_in : (q w r : ℕ) → w ≤ n → r < c → In q (get_or went.between (base + (w + r)) 0)
        → Sent (box (table_of rows s i o)) B c (Plausible (box (table_of rows s i o)) B c t) a (cfg q w r)
    sent_in q w r l f m =
        let im = (went.followed.sent (w + r) q (omega arith) (omega arith)).0 m in
        record {
          symbol = symbol;
          from = im.source;
          follows = entry_of rows s i o valid im.source (i + a) q (omega arith) im.leads;
          member = (plausible (cfg im.source w r)).0 (record { room = l; few = f; member = im.here });
          inside = record { room = omega arith; few = f };
        }

    -- the head of a line, as the model has it and as the line has it
    from_line : (q q' w : ℕ) → w < n → entry (table_of rows s i o) q (get_or line (base + w) 0) ≡ Some q' → entry (table_of rows s i o) q (oldest (suc w) (inputs_of t ++ [])) ≡ Some q'
    from_line q q' w l e = rw (append-nil (inputs_of t), ← (heads w l)) e

    to_line : (q q' w : ℕ) → w < n → entry (table_of rows s i o) q (oldest (suc w) (inputs_of t ++ [])) ≡ Some q' → entry (table_of rows s i o) q (get_or line (base + w) 0) ≡ Some q'
    to_line q q' w l e = rw (heads w l) (rw (append-nil (inputs_of t)) at e)

    only_out : (x : Config ℕ) (r : ℕ) → x.run ≡ r → Lagged words' base n c x
        → Sent (box (table_of rows s i o)) B c (Plausible (box (table_of rows s i o)) B c t) a x
        ⊎ (Taken (box (table_of rows s i o)) B c (inputs_of t ++ []) (Lagged words' base n c) x ⊎ Lost (box (table_of rows s i o)) B c (Lagged words' base n c) x)
    only_out x r er y = ⊎_elim (λ k. low r er k) (λ k. inl (sent_in x.state x.waiting x.run y.room y.few ((same_word x.state (went.drawn.above (base + (x.waiting + x.run)) (omega arith))).0 y.member))) (lt_or_ge x.waiting n)
      where
        low : (r : ℕ) → x.run ≡ r → x.waiting < n → Sent (box (table_of rows s i o)) B c (Plausible (box (table_of rows s i o)) B c t) a x
            ⊎ (Taken (box (table_of rows s i o)) B c (inputs_of t ++ []) (Lagged words' base n c) x ⊎ Lost (box (table_of rows s i o)) B c (Lagged words' base n c) x)
        low (suc r) er k =
            let few = y.few in
            let e : base + (x.waiting + x.run) ≡ base + (suc x.waiting + r) = omega arith in
            inr (inr (record { lost = r; member = record { room = k; few = omega arith; member = rw e at y.member }; one_more = er; few = y.few }))
        low zero er k =
            let z : base + (x.waiting + x.run) ≡ base + x.waiting = omega arith in
            ⊎_elim
            (λ m. inl (sent_in x.state x.waiting x.run y.room y.few (rw z m)))
            (λ d. let g : base + x.waiting + 1 + d.source.lost ≡ base + (suc x.waiting + d.source.lost) = omega arith in
            inr (inl (record {
              from = d.from;
              lost = d.source.lost;
              member = record { room = k; few = d.source.few; member = rw g at d.source.member };
              follows = from_line d.from x.state x.waiting k (entry_of rows s i o valid d.from (get_or line (base + x.waiting) 0) x.state (omega (arith, small x.waiting k)) d.leads);
              none = er;
            })))
            ((went.drawn.taken x.waiting x.state (omega arith) k).0 (rw z at y.member))

    pub output_plausible : (x : Config ℕ) → Lagged words' base n c x ↔ Plausible (box (table_of rows s i o)) B c (t ++ (output a ∷ [])) x
    output_plausible =
        after (output a) (Lagged words' base n c)
        (record {
          below = λ x y. omega (arith, y.room);
          only = λ x y. only_out x x.run refl y;
          event = λ x m. let y = (plausible (cfg m.from x.waiting x.run)).1 m.member in
              let l : x.waiting + x.run < n + c = omega (arith, y.room, y.few) in
              record {
                room = y.room;
                few = y.few;
                member = stays (x.waiting + x.run) x.state l ((went.followed.sent (x.waiting + x.run) x.state (omega arith) l).1
                    (record { source = m.from; here = y.member; leads = leads_of rows s i o valid m.from (i + a) x.state (omega arith) m.follows }));
              };
          taken = λ x k. let m = k.member in
              let l : x.waiting < n = m.room in
              let None = k.none in
              let z : base + (x.waiting + x.run) ≡ base + x.waiting = omega arith in
              let g : base + (suc x.waiting + k.lost) ≡ base + x.waiting + 1 + k.lost = omega arith in
              record {
                room = omega arith;
                few = omega (arith, bounded.losses.0);
                member = rw z ((went.drawn.taken x.waiting x.state (omega arith) l).1 (inr (record {
                  from = k.from;
                  source = record { lost = k.lost; few = m.few; member = rw g at m.member };
                  leads = leads_of rows s i o valid k.from (get_or line (base + x.waiting) 0) x.state (omega (arith, small x.waiting l)) (to_line k.from x.state x.waiting l k.follows);
                })));
              };
          lost = λ x k. let m = k.member in
              let e : base + (suc x.waiting + k.lost) ≡ base + (x.waiting + x.run) = omega (arith, k.one_more) in
              record { room = omega (arith, m.room); few = k.few; member = rw e at m.member };
        })
