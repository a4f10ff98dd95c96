-- A run, event by event: the words by lag hold the plausible set, and the lines written are those of the plausible sets. Assumes nothing.
use Rattle.std.specs.Prelude.{Option, Some, None, Ok}
use mathlib.Core.Path.{◌≡◌, refl, sym, ◌∙◌, ap}
use mathlib.Core.Bool.{Bool, true, false, not}
use mathlib.Core.List.{List, [], ◌∷◌, ◌++◌, append-nil}
use mathlib.Core.Logic.{◌↔◌, ◌≢◌, ⊎_elim}
use Prim.Native.Nat.{ℕ, suc, ◌+◌, ◌-◌, ◌*◌, ◌≤◌, ◌<◌, min}
use native.Mathlib.Omega.{arith}
use native.Mathlib.Numerals.{add-one}
use lib.Dec.{eqb}
use borrow.Author.Tests.{eqb-true, eqb-false, ne_eqb}
use lib.ListN.{length, get_or, take, set, length-take, length-append, drop, take-append-drop}
use lib.Seq.{take-suc, take_all, take-add, take-append-le, take-length, get_or-set_same, get_or-set_other}
use Rattle.model.specs.Model.{Device, box, Event, input, output, event, events, inputs_of, Config, cfg, Plausible, Empty, FlagIs}
use Rattle.model.specs.Levels.{oldest}
use Rattle.model.proofs.Flags.{lt_or_ge, flag_none, flag_falls}
use Rattle.model.proofs.Bytes.{events_append, events_length}
use Rattle.model.proofs.Newest.{inputs_append}
use Rattle.model.proofs.Demands.{opens, stays_empty}
use Rattle.table.specs.Bytes.{table_of, symbol_of}
use Rattle.table.specs.declared.answer.Symbol.TheVariants.{Input, Output}
use Rattle.table.proofs.Laws.{given_means}
use Rattle.states.specs.In.{In}
use Rattle.states.proofs.Member.{not_in_zero, in_pow}
use Rattle.session.specs.Open.{zeros, opening}
use Rattle.session.proofs.Padded.{length_zeros, zeros_at}
use Rattle.session.proofs.Laws.{opening_passes}
use Rattle.run.specs.declared.lag.Lags.{Lags}
use Rattle.run.specs.declared.lag.Window.{Window}
use Rattle.run.specs.Window.{First, InTable, SameLine}
use Rattle.run.specs.Run.{Line, At, RunTo, Followed}
use Rattle.run.specs.Lag.{Lagged, Came, Went, PastLags, past_of}
use Rattle.run.specs.Trace.{Stepped, came, went, Recorded, empty_line, Emptied}
use Rattle.run.proofs.Moves.{input_plausible, input_heads, input_small, output_plausible}
use Rattle.run.proofs.Lines.{empty_is}
use Rattle.run.proofs.Whole.{line_same}

-- with a lag there is a member, and with none there is none
module _ (words : List ℕ) (base n c past : ℕ) (lags : PastLags words base (n + c) past) where
  pub some_lagged : 0 < c → 0 < past → (x : Config ℕ) × Lagged words base n c x
  some_lagged pos l =
      let (q, m) = lags.here l in
      let le = lags.most in
      let e : min (past - 1) n + (past - 1 - min (past - 1) n) ≡ past - 1 = omega arith in
      (cfg q (min (past - 1) n) (past - 1 - min (past - 1) n), record { room = omega arith; few = omega arith; member = rw e m })

  pub none_lagged : past ≡ 0 → (x : Config ℕ) → Lagged words base n c x → ⊥
  none_lagged z x y = lags.none_above (x.waiting + x.run) (omega arith) (omega (arith, y.room, y.few)) (x.state, y.member)

-- BEFORE ANY EVENT

abbrev pub first_words : List ℕ
first_words = set (zeros 104) 64 1

-- the first words hold state 0 at lag 0 alone
pub first_lagged : (c : ℕ) → 0 < c → (x : Config ℕ) → Lagged first_words 64 0 c x ↔ (x ≡ cfg 0 0 0)
first_lagged c pos x = (to, from)
  where
    equal : (s w r : ℕ) → s ≡ 0 → w ≡ 0 → r ≡ 0 → cfg s w r ≡ cfg 0 0 0
    equal s w r es ew er = cc

    here : get_or first_words 64 0 ≡ 1
    here = get_or-set_same (zeros 104) 64 1 0 (rw length_zeros (omega arith))

    there : (k : ℕ) → 64 < k → get_or first_words k 0 ≡ 0
    there k l = get_or-set_other (zeros 104) 64 k 1 0 (λ e. omega arith) ∙ zeros_at 104 k

    to : Lagged first_words 64 0 c x → x ≡ cfg 0 0 0
    to y =
        let room = y.room in
        ⊎_elim (λ l. absurd (not_in_zero x.state (rw (there (64 + (x.waiting + x.run)) (omega arith)) at y.member)))
        (λ l. let e : 64 + (x.waiting + x.run) ≡ 64 = omega arith in
        let m : In x.state 1 = rw here at (rw e at y.member) in
        equal x.state x.waiting x.run ((in_pow x.state 0).0 m) (omega arith) (omega arith)) (lt_or_ge 0 x.run)

    zero_in : Lagged first_words 64 0 c (cfg 0 0 0)
    zero_in = record { room = omega arith; few = pos; member = rw here ((in_pow 0 0).1 refl) }

    from : x ≡ cfg 0 0 0 → Lagged first_words 64 0 c x
    from e = rw e zero_in

pub first_lags : (c : ℕ) → 0 < c → PastLags first_words 64 (0 + c) 1
first_lags c pos =
    record {
      most = omega arith;
      here = λ l. (0, rw (get_or-set_same (zeros 104) 64 1 0 (rw length_zeros (omega arith))) ((in_pow 0 0).1 refl));
      none_above = λ j l m (q, i). not_in_zero q (rw (get_or-set_other (zeros 104) 64 (64 + j) 1 0 (λ e. omega arith) ∙ zeros_at 104 (64 + j)) at i);
    }

-- THE TRACE

-- a flag stays where it fell
flag_longer : (D : Device) (B c : ℕ) (t more : List Event) (p : ℕ) → FlagIs D B c t (Some p) → FlagIs D B c (t ++ more) (Some p)
flag_longer D B c t more p (l, e, n) = (
  simp length-append (omega arith),
  rw (take-append-le (suc p) t more l) e,
  λ j q. rw (take-append-le (suc j) t more (omega arith)) (n j q),
)

-- the inputs among the first k events
abbrev pub inputs_in : List ℕ → ℕ → List ℕ
inputs_in trace k = inputs_of (events (take k trace))

-- the place of the flag, while the last event may be the first after which nothing is found
abbrev pub place_by : Bool → ℕ → Option ℕ
place_by true k = None
place_by false k = Some (k - 1)

-- what holds for every count of states with which the table passes its tests
pub record Kept (rows : List ℕ) (s i o B c : ℕ) (bytes : List ℕ) (p : Window) (found : Bool) : Type 0 where
  pub plausible : (x : Config ℕ) → Lagged p.words p.base p.count c x ↔ Plausible (box (table_of rows s i o)) B c (events bytes) x
  pub flag : FlagIs (box (table_of rows s i o)) B c (events bytes) (place_by found (length bytes))

module _ (rows : List ℕ) (i o B c : ℕ) (trace before : List ℕ) where
  -- after k events the words hold the plausible set, and the lines up to here are written
  pub record Following (p : Window) (k : ℕ) (out : List ℕ) (past : ℕ) : Type 0 where
    pub some_of : k ≤ length trace
    pub begun : past ≡ 0 → 0 < k
    pub lags : PastLags p.words p.base (p.count + c) past
    pub count : p.count ≡ min B (length (inputs_in trace k))
    pub heads : (w : ℕ) → w < p.count → get_or p.line (p.base + w) 0 ≡ oldest (suc w) (inputs_in trace k)
    pub small : InTable i p
    pub size : length out ≡ length before
    pub rest : (q : ℕ) → 12 * k ≤ q → get_or out q 0 ≡ get_or before q 0
    pub kept : (s : ℕ) → opening rows s i o B c ≡ Ok tt → Kept rows s i o B c (take k trace) p (not (eqb past 0))
    pub lines : (s : ℕ) → opening rows s i o B c ≡ Ok tt → (j : ℕ) → j < k
        → (bytes : List ℕ) × Line (Plausible (box (table_of rows s i o)) B c (events (take (suc j) trace))) bytes × At (12 * j) bytes out

  pub following_none : (w : Window) → First w → 0 < c → Following w 0 before 1
  following_none w f pos =
      record {
        some_of = omega arith;
        begun = λ e. absurd (omega arith);
        lags = rw (f.words, f.base, f.count) (first_lags c pos);
        count = rw f.count (omega arith);
        heads = rw f.count (λ w l. absurd (omega arith));
        small = rw f.count (λ w l. absurd (omega arith));
        size = refl;
        rest = λ q l. refl;
        kept = λ s passes.
            let first = opens (box (table_of rows s i o)) B c in
            record {
              plausible = rw (f.words, f.base, f.count) (λ x. ((λ y. (first.plausible x).0 ((first_lagged c pos x).0 y)), (λ y. (first_lagged c pos x).1 ((first.plausible x).1 y))));
              flag = λ j l. absurd (omega arith);
            };
        lines = λ s passes j l. absurd (omega arith);
      }

  -- one event more
  module _ (p : Window) (k : ℕ) (out : List ℕ) (past : ℕ) (here : k < length trace) (some_left : 0 < past) (h : Following p k out past) where
    b : ℕ
    b = get_or trace k 0

    trace_more : take (k + 1) trace ≡ take k trace ++ (get_or trace k 0 ∷ [])
    trace_more = rw add-one (take-suc trace k 0 here)

    events_more : events (take (k + 1) trace) ≡ events (take k trace) ++ (event (get_or trace k 0) ∷ [])
    events_more = rw (trace_more, events_append)

    inputs_more : inputs_in trace (k + 1) ≡ inputs_in trace k ++ inputs_of (event (get_or trace k 0) ∷ [])
    inputs_more = rw (events_more, inputs_append)

    -- where the event has left the run
    record Left (p' : Window) : Type 0 where
      count : p'.count ≡ min B (length (inputs_in trace (k + 1)))
      heads : (w : ℕ) → w < p'.count → get_or p'.line (p'.base + w) 0 ≡ oldest (suc w) (inputs_in trace (k + 1))
      small : InTable i p'
      plausible : (s : ℕ) → opening rows s i o B c ≡ Ok tt
          → (x : Config ℕ) → Lagged p'.words p'.base p'.count c x ↔ Plausible (box (table_of rows s i o)) B c (events (take (k + 1) trace)) x

    -- an input has
    left_input : (few : B ≤ 32) (a : ℕ) (p' : Window) → symbol_of (get_or trace k 0) i o ≡ Some (Input a) → p'.count ≡ min (p.count + 1) B
        → Came rows (i + o) c a p.base p.words p.line p'.base p'.words p'.line → Left p'
    left_input few a p' e count cm =
        let (ea, l, ev) = (given_means (get_or trace k 0) i o a).0 e in
        let im : inputs_in trace (k + 1) ≡ inputs_in trace k ++ (a ∷ []) = rw ev at inputs_more in
        let em : events (take (k + 1) trace) ≡ events (take k trace) ++ (input a ∷ []) = rw ev at events_more in
        let old = h.count in
        let longer : length (inputs_in trace k ++ (a ∷ [])) ≡ length (inputs_in trace k) + 1 = simp length-append (omega arith) in
        record {
          count = rw im (omega arith);
          heads = rw im (input_heads rows (i + o) i B c a p.count p'.count p.base p'.base (inputs_in trace k) p.words p.line p'.words p'.line few l count cm (omega arith) h.heads);
          small = input_small rows (i + o) i B c a p.count p'.count p.base p'.base (inputs_in trace k) p.words p.line p'.words p'.line few l count cm h.small;
          plausible = λ s passes.
              let (valid, bounded) = (opening_passes rows s i o B c).0 passes in
              rw em (input_plausible rows s i o B c valid bounded (events (take k trace)) p.words p.line p.base p.count (omega arith) h.heads h.small
              (h.kept s passes).plausible a p'.count p'.base p'.words p'.line l count cm);
        }

    -- an output has
    left_output : (a : ℕ) (p' : Window) → symbol_of (get_or trace k 0) i o ≡ Some (Output a) → SameLine p p'
        → Went rows (i + o) (i + a) c p.line p.base p.count p.words p'.words → Left p'
    left_output a p' e same wt =
        let (ea, l, ev) = (given_means (get_or trace k 0) i o a).1 e in
        let im₁ : inputs_in trace (k + 1) ≡ inputs_in trace k ++ [] = rw ev at inputs_more in
        let im : inputs_in trace (k + 1) ≡ inputs_in trace k = im₁ ∙ append-nil (inputs_in trace k) in
        let em : events (take (k + 1) trace) ≡ events (take k trace) ++ (output a ∷ []) = rw ev at events_more in
        record {
          count = rw (im, same.count) h.count;
          heads = rw (im, same.count, same.base, same.line) h.heads;
          small = rw (same.count, same.base, same.line) h.small;
          plausible = λ s passes.
              let (valid, bounded) = (opening_passes rows s i o B c).0 passes in
              let old = h.count in
              rw (em, same.count, same.base) (output_plausible rows s i o B c valid bounded (events (take k trace)) p.words p.line p.base p.count (omega arith) h.heads h.small
              (h.kept s passes).plausible a p'.words l wt);
        }

    left : B ≤ 32 → (p' : Window) → Stepped rows i o B c (get_or trace k 0) p p' → Left p'
    left few p' (came {a = a} e count cm) = left_input few a p' e count cm
    left few p' (went {a = a} e same wt) = left_output a p' e same wt

    module _ (few : B ≤ 32) (p' : Window) (out' : List ℕ) (lags : Option Lags) (st : Stepped rows i o B c (get_or trace k 0) p p')
        (rec : Recorded p' c k out out' lags) where
      l : Left p'
      l = left few p' st

      module _ (s : ℕ) (passes : opening rows s i o B c ≡ Ok tt) where
        now : (x : Config ℕ) → Lagged p'.words p'.base p'.count c x ↔ Plausible (box (table_of rows s i o)) B c (events (take (k + 1) trace)) x
        now = (left few p' st).plausible s passes

        longer : length (take (k + 1) trace) ≡ k + 1
        longer = simp length-take (omega arith)

        was_none : FlagIs (box (table_of rows s i o)) B c (events (take k trace)) None
        was_none = let e : eqb past 0 ≡ false = ne_eqb past 0 (λ z. omega arith) in rw e at (h.kept s passes).flag

        flag_now : (b : Bool) → eqb (past_of lags) 0 ≡ b → FlagIs (box (table_of rows s i o)) B c (events (take (k + 1) trace)) (place_by (not b) (length (take (k + 1) trace)))
        flag_now false e =
            let z : (past_of lags) ≢ 0 = eqb-false (past_of lags) 0 e in
            let (x, y) = some_lagged p'.words p'.base p'.count c (past_of lags) rec.past ((opening_passes rows s i o B c).0 passes).1.losses.0 (omega arith) in
            rw events_more (flag_none (box (table_of rows s i o)) B c (events (take k trace)) (event (get_or trace k 0)) was_none (x, rw events_more at ((now x).0 y)))
        flag_now true e =
            let l : length (events (take k trace)) ≡ length (take (k + 1) trace) - 1 = events_length (take k trace) ∙ simp length-take (omega arith) in
            let fallen = flag_falls (box (table_of rows s i o)) B c (events (take k trace)) (event (get_or trace k 0)) was_none
            (λ x y. none_lagged p'.words p'.base p'.count c (past_of lags) rec.past (eqb-true (past_of lags) 0 e) x ((now x).1 (rw events_more y))) in
            rw events_more (rw l at fallen)

        line_now : Line (Plausible (box (table_of rows s i o)) B c (events (take (suc k) trace))) rec.line
        line_now =
            let e : take (suc k) trace ≡ take (k + 1) trace = rw add-one in
            rw e (line_same (Lagged p'.words p'.base p'.count c) (Plausible (box (table_of rows s i o)) B c (events (take (k + 1) trace))) rec.line now rec.of_set)

        line_at : (j : ℕ) → j < k + 1 → (bytes : List ℕ) × Line (Plausible (box (table_of rows s i o)) B c (events (take (suc j) trace))) bytes × At (12 * j) bytes out'
        line_at j q = ⊎_elim old (λ m. let e : j ≡ k = omega arith in rw e (rec.line, line_now, rec.put.bytes)) (lt_or_ge j k)
          where
            old : j < k → (bytes : List ℕ) × Line (Plausible (box (table_of rows s i o)) B c (events (take (suc j) trace))) bytes × At (12 * j) bytes out'
            old m = let (bytes, is, at) = h.lines s passes j m in (bytes, is, λ p q. rec.put.below (12 * j + p) (omega arith) ∙ at p q)

      pub following_more : Following p' (k + 1) out' (past_of lags)
      unfolding l
      following_more =
          record {
            some_of = omega arith;
            begun = λ e. omega arith;
            lags = rec.past;
            count = l.count;
            heads = l.heads;
            small = l.small;
            size = rec.put.size ∙ h.size;
            rest = λ q m. rec.put.above q (omega arith) ∙ h.rest q (omega arith);
            kept = λ s passes. record { plausible = now s passes; flag = flag_now s passes (eqb (past_of lags) 0) refl };
            lines = line_at;
          }

  -- after all of them
  pub run_end : (p : Window) (k : ℕ) (out : List ℕ) (past : ℕ) → k ≡ length trace → 0 < past → Following p k out past → Followed rows i o B c trace before out None
  run_end p k out past e some_left h s passes =
      record {
        size = h.size;
        lines = λ j l. h.lines s passes j (omega arith);
        rest = λ q l. h.rest q (omega arith);
        flag = let a : take k trace ≡ trace = rw e (take-length trace) in let z : eqb past 0 ≡ false = ne_eqb past 0 (λ q. omega arith) in rw (a, z) at (h.kept s passes).flag;
      }

  -- after the first that left nothing
  module _ (p : Window) (k : ℕ) (out after : List ℕ) (past : ℕ) (none_left : past ≡ 0) (h : Following p k out past) (em : Emptied k (length trace) out after) (s : ℕ)
      (passes : opening rows s i o B c ≡ Ok tt) where
    D : Device
    D = box (table_of rows s i o)

    len : length (take k trace) ≡ k
    len = simp length-take (omega (arith, h.some_of))

    fallen : FlagIs (box (table_of rows s i o)) B c (events (take k trace)) (Some (k - 1))
    fallen = let z : eqb past 0 ≡ true = rw none_left in rw (len, z) at (h.kept s passes).flag

    -- an event came, after which the set was empty
    came_one : 0 < k
    came_one = h.begun none_left

    empty : Empty (box (table_of rows s i o)) B c (events (take k trace))
    empty =
        let e = events_length (take k trace) ∙ len in
        let a : take (suc (k - 1)) (events (take k trace)) ≡ events (take k trace) = take_all (suc (k - 1)) (events (take k trace)) (omega (arith, came_one)) in
        rw a at fallen.1

    -- every longer beginning is that and more, and so is the whole
    longer_empty : (j : ℕ) → k ≤ j → Empty (box (table_of rows s i o)) B c (events (take j trace))
    longer_empty j l =
        let e : k + (j - k) ≡ j = omega arith in
        let a : take j trace ≡ take k trace ++ take (j - k) (drop k trace) = rw e at (take-add k (j - k) trace) in
        let b : events (take j trace) ≡ events (take k trace) ++ events (take (j - k) (drop k trace)) = rw (a, events_append) in
        rw b (stays_empty (box (table_of rows s i o)) B c (events (take k trace)) (events (take (j - k) (drop k trace))) empty)

    whole_flag : FlagIs (box (table_of rows s i o)) B c (events trace) (Some (k - 1))
    whole_flag =
        let a : events trace ≡ events (take k trace) ++ events (drop k trace) =
        sym (ap events (take-append-drop k trace)) ∙ events_append (take k trace) (drop k trace) in
        rw a (flag_longer (box (table_of rows s i o)) B c (events (take k trace)) (events (drop k trace)) (k - 1) fallen)

    line_flagged : (j : ℕ) → j < length trace
        → (bytes : List ℕ) × Line (Plausible (box (table_of rows s i o)) B c (events (take (suc j) trace))) bytes × At (12 * j) bytes after
    line_flagged j l =
        ⊎_elim (λ m. let (bytes, is, at) = h.lines s passes j m in (bytes, is, λ p q. em.below (12 * j + p) (omega arith) ∙ at p q))
        (λ m. (empty_line, empty_is (Plausible (box (table_of rows s i o)) B c (events (take (suc j) trace))) (longer_empty (suc j) (omega arith)), em.lines j m l)) (lt_or_ge j k)

    flagged_run : RunTo rows s i o B c trace before after (Some (k - 1))
    flagged_run =
        record {
          size = em.size ∙ h.size;
          lines = line_flagged;
          rest = λ q l. em.above q l ∙ h.rest q (omega (arith, h.some_of));
          flag = whole_flag;
        }

  pub run_flagged : (p : Window) (k : ℕ) (out after : List ℕ) (past : ℕ) → past ≡ 0 → Following p k out past → Emptied k (length trace) out after
      → Followed rows i o B c trace before after (Some (k - 1))
  run_flagged p k out after past none_left h em s passes = flagged_run p k out after past none_left h em s passes
