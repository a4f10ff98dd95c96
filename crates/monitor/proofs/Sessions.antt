-- Fed sessions: one answer, sound again, and the plausible set after any trace. Assumes nothing.
use Rattle.std.specs.Prelude.{Option, Ok, Err}
use mathlib.Core.Path.{◌≡◌, refl, sym, ◌∙◌, ap, subst}
use mathlib.Core.List.{List, [], ◌∷◌, ◌++◌, append-nil}
use mathlib.Core.Logic.{◌↔◌, ◌⊎◌, inl, inr}
use Prim.Native.Nat.{ℕ, ◌+◌, ◌-◌, ◌*◌, ◌/◌, ◌%◌, ◌≤◌, ◌<◌, min}
use native.Mathlib.Omega.{arith}
use lib.ListN.{length, get_or, take, length-append, length-drop, get_or-eq_default}
use lib.Seq.{append_snoc, get_or-drop}
use Rattle.model.specs.Limits.{most_events}
use Rattle.model.specs.Table.{Table}
use Rattle.model.specs.Model.{box, Event, input, output, event, events, inputs_of, newest, Config, cfg, Fed, FlagIs}
use Rattle.model.specs.Levels.{held_after}
use Rattle.model.specs.Demands.{Carries, Fits}
use Rattle.model.proofs.Flags.{flag_none, flag_falls, flag_stays}
use Rattle.model.proofs.Bytes.{events_append, events_length}
use Rattle.model.proofs.Newest.{inputs_append}
use Rattle.model.proofs.Contained.{fed_contained}
use Rattle.model.proofs.Demands.{opens, feeds, allowing_more, never_convicts}
use Rattle.table.specs.Bytes.{table_of}
use Rattle.table.specs.declared.answer.Refusal.{Refusal}
use Rattle.table.specs.Test.{Test}
use Rattle.states.specs.In.{In, Has}
use Rattle.states.proofs.Same.{words_ext}
use Rattle.session.specs.declared.Session.{Session}
use Rattle.monitor.specs.declared.feed.Fed as declared
use Rattle.session.specs.Sets.{Holds}
use Rattle.session.specs.Session.{table_in, kept, line, FlagFits, Sound, Proper, place_of}
use Rattle.session.specs.Open.{opening, begun}
use Rattle.session.proofs.Laws.{opened_sound, opened_begins}
use Rattle.monitor.specs.Feed.{FlagAfter, stays, clear, falls, FedTo, passed, ValidEvent, Feeds, unsound, full, invalid, fed}
use Rattle.monitor.specs.Laws.{OneFeed, NotRefused, FedSound, Follows, FedAll, none_left, then, PlausibleAfterFeeding, SessionsAllowMore}
use Rattle.monitor.proofs.Lines.{shows_one, shown_take}
use Rattle.monitor.proofs.Feeding.{length_line, line_valid, fit, valid_more, event_cases}

clash : ◌≡◌ {A = ℕ} 0 1 → ⊥
clash z = omega arith

-- ONE ANSWER

-- sets that hold the same configurations are the same words
pub one_set : (a b : List ℕ) → length a ≡ 264 → length b ≡ 264 → ((x : Config ℕ) → Holds a x ↔ Holds b x) → a ≡ b
one_set a b la lb h = words_ext a b (la ∙ sym lb) (λ k i q. same k (omega arith) q)
  where
    at : (l : List ℕ) (k q : ℕ) → k < 264 → In q (get_or l k 0) → Holds l (cfg q (k / 8) (k % 8))
    at l k q i m = let e : 8 * (k / 8) + k % 8 ≡ k = omega arith in record { waiting = omega arith; run = omega arith; member = rw e m }

    out : (l : List ℕ) (k q : ℕ) → Holds l (cfg q (k / 8) (k % 8)) → In q (get_or l k 0)
    out l k q m = let e : 8 * (k / 8) + k % 8 ≡ k = omega arith in rw e at m.member

    same : (k : ℕ) → k < 264 → (q : ℕ) → Has a k q ↔ Has b k q
    same k i q = (
      (λ m. out b k q ((h (cfg q (k / 8) (k % 8))).0 (at a k q i m))),
      (λ m. out a k q ((h (cfg q (k / 8) (k % 8))).1 (at b k q i m))),
    )

one_flag_after : (e : ℕ) (set : List ℕ) (f g g' : Option ℕ) → FlagAfter e set f g → FlagAfter e set f g' → g ≡ g'
one_flag_after e set f g g' stays stays = refl
one_flag_after e set f g g' (clear x i) (clear y j) = refl
one_flag_after e set f g g' (clear x i) (falls n) = absurd (n x i)
one_flag_after e set f g g' (falls n) (clear x i) = absurd (n x i)
one_flag_after e set f g g' (falls n) (falls m) = refl

one_fed : (s : Session) (b : ℕ) (t t' : Session) → FedTo s b t → FedTo s b t' → t ≡ t'
one_fed s b t t' f g =
    let es : t.set ≡ t'.set = one_set t.set t'.set f.words g.words (λ x. ((λ i. (g.set x).1 ((f.set x).0 i)), (λ i. (f.set x).1 ((g.set x).0 i)))) in
    let ef : t.flag ≡ t'.flag = one_flag_after s.events t'.set s.flag t.flag t'.flag (rw es at f.flag) g.flag in
    equal (f.states ∙ sym g.states) (f.inputs ∙ sym g.inputs) (f.outputs ∙ sym g.outputs) (f.rows ∙ sym g.rows) (f.waiting ∙ sym g.waiting) (f.losses ∙ sym g.losses)
    es (shows_one _ t.held t'.held f.held g.held) (f.events ∙ sym g.events) (f.arrived ∙ sym g.arrived) ef
  where
    equal : t.states ≡ t'.states → t.inputs ≡ t'.inputs → t.outputs ≡ t'.outputs → t.rows ≡ t'.rows → t.waiting ≡ t'.waiting → t.losses ≡ t'.losses → t.set ≡ t'.set → t.held ≡ t'.held
        → t.events ≡ t'.events → t.arrived ≡ t'.arrived → t.flag ≡ t'.flag → t ≡ t'
    equal e₁ e₂ e₃ e₄ e₅ e₆ e₇ e₈ e₉ e₁₀ e₁₁ =
        λ i. record { states = e₁ i; inputs = e₂ i; outputs = e₃ i; rows = e₄ i; waiting = e₅ i; losses = e₆ i; set = e₇ i; held = e₈ i; events = e₉ i; arrived = e₁₀ i; flag = e₁₁ i }

-- Any two answers that a feed may give are equal.
pub one_feed : OneFeed
one_feed s b r r' (unsound n) (unsound m) = refl
one_feed s b r r' (unsound n) (full k l) = absurd (n k)
one_feed s b r r' (unsound n) (invalid k l e) = absurd (n k)
one_feed s b r r' (unsound n) (fed k l v t) = absurd (n k)
one_feed s b r r' (full k l) (unsound n) = absurd (n k)
one_feed s b r r' (full k l) (full k' l') = refl
one_feed s b r r' (full k l) (invalid k' l' e) = absurd (omega arith)
one_feed s b r r' (full k l) (fed k' l' v t) = absurd (omega arith)
one_feed s b r r' (invalid k l e) (unsound n) = absurd (n k)
one_feed s b r r' (invalid k l e) (full k' l') = absurd (omega arith)
one_feed s b r r' (invalid k l e) (invalid k' l' e') = refl
one_feed s b r r' (invalid k l e) (fed k' l' v t) = absurd (v e)
one_feed s b r r' (fed k l v t) (unsound n) = absurd (n k)
one_feed s b r r' (fed k l v t) (full k' l') = absurd (omega arith)
one_feed s b r r' (fed k l v t) (invalid k' l' e) = absurd (v e)
one_feed s b r r' (fed {t = t} k l v f) (fed {t = t'} k' l' v' f') = ap passed (one_fed s b t t' f f')

-- A sound session that is not full is never refused a valid event.
pub not_refused : NotRefused
not_refused s b r (unsound n) k l v = absurd (n k)
not_refused s b r (full k' l') k l v = absurd (omega arith)
not_refused s b r (invalid k' l' e) k l v = absurd (v e)
not_refused s b r (fed {t = t} k' l' v' f) k l v = (t, refl, f)

-- SOUND AGAIN

pub record Went (s : Session) (b : ℕ) (t : Session) : Type 0 where
  pub sound : Sound s
  pub room : s.events < most_events
  pub valid : ValidEvent s b
  pub to : FedTo s b t

-- no refusal passes
not_passed : (r : Refusal) → ◌≡◌ {A = Test} (Err r) (Ok tt) → ⊥
not_passed r e = clash (cc)

went : (s : Session) (b : ℕ) (r : declared.Fed) (t : Session) → r ≡ passed t → Feeds s b r → Went s b t
went s b r t e (unsound n) = absurd (not_passed _ (ap (λ (x : declared.Fed). x.test) e))
went s b r t e (full k l) = absurd (not_passed _ (ap (λ (x : declared.Fed). x.test) e))
went s b r t e (invalid k l i) = absurd (not_passed _ (ap (λ (x : declared.Fed). x.test) e))
went s b r t e (fed {t = u} k l v f) =
    let q : u ≡ t = ap (λ (x : declared.Fed). x.session) e in
    record { sound = k; room = l; valid = v; to = subst (λ (x : Session). FedTo s b x) q f }

-- what an event adds to the inputs
one_input : (e : Event) → length (inputs_of (e ∷ [])) ≤ 1
one_input (input a) = omega arith
one_input (output a) = omega arith

module _ (s t : Session) (b : ℕ) (proper : Proper s) (w : Went s b t) where
  f : FedTo s b t
  f = w.to

  sound : Sound s
  sound = w.sound

  e : Event
  e = event b

  -- the line after the event
  h : List ℕ
  h = held_after (line s) (event b)

  h' : List ℕ
  h' = newest s.waiting (held_after (line s) (event b))

  length_h : length (held_after (line s) (event b)) ≡ kept s + length (inputs_of (event b ∷ []))
  length_h = simp length-append (omega (arith, length_line s sound proper.held))

  length_h' : length (newest s.waiting (held_after (line s) (event b))) ≡ min t.waiting t.arrived
  unfolding h'
  length_h' = simp length-drop (omega (arith, length_h, f.waiting, f.arrived, one_input (event b)))

  fits : (x : Config ℕ) → Holds t.set x → Fits s.states s.waiting s.losses (length (held_after (line s) (event b))) x
  fits x i =
      fed_contained (table_in s) s.waiting s.losses (line s) (Holds s.set) (event b) x sound.table.valid (line_valid s sound proper.held)
      (λ y j. (sound.set y j).state) (fit s sound proper.held) ((f.set x).0 i)

  -- the line's inputs are still the table's
  valid_h : (k : ℕ) → k < length (held_after (line s) (event b)) → get_or (held_after (line s) (event b)) k 0 < s.inputs
  unfolding sound
  valid_h k i = go (event_cases b s.inputs s.outputs w.valid) k i
    where
      go : ((a : ℕ) × (event b ≡ input a) × (a < s.inputs)) ⊎ ((a : ℕ) × (event b ≡ output a) × (a < s.outputs)) → (k : ℕ)
          → k < length (held_after (line s) (event b)) → get_or (held_after (line s) (event b)) k 0 < s.inputs
      go (inl (a, q, l)) = rw q (valid_more s sound proper.held a l)
      go (inr (a, q, l)) = rw (q, append-nil) (line_valid s sound proper.held)

  valid_h' : (k : ℕ) → k < length h' → get_or h' k 0 < s.inputs
  unfolding h'
  valid_h' k i =
      let d = length (held_after (line s) (event b)) - s.waiting in
      rw (get_or-drop d (held_after (line s) (event b)) k 0) (valid_h (d + k) (omega (arith, length-drop d (held_after (line s) (event b)))))

  held_at : (k : ℕ) → k < 32 → get_or t.held k 0 ≡ get_or h' k 0
  unfolding f h'
  held_at k i = f.held.places k i

  flag_fits : (f g : Option ℕ) → FlagAfter s.events t.set f g → FlagFits s.events s.set f → FlagFits t.events t.set g
  flag_fits f g stays (l, n) = (omega (arith, w.to.events), λ x i. let m = (w.to.set x).0 i in n m.0 m.4)
  flag_fits f g (clear x i) k = (x, i)
  flag_fits f g (falls n) k = (omega (arith, w.to.events), n)

  pub went_sound : Sound t
  unfolding f sound h'
  went_sound =
      let d = one_input (event b) in
      record {
        table = rw (f.rows, f.states, f.inputs, f.outputs) sound.table;
        bounds = rw (f.waiting, f.losses) sound.bounds;
        set = λ x i. let k = fits x i in
            record { state = rw f.states k.state; waiting = rw f.waiting k.waiting; run = rw f.losses k.run; arrived = omega (arith, k.arrived, length_h, f.arrived) };
        held = record {
          valid = λ k l m. let i : k < 32 = omega (arith, f.held.size) in rw (f.inputs, held_at k i) (valid_h' k (omega (arith, length_h')));
          rest = λ k l m. let i : k < 32 = omega (arith, f.held.size) in held_at k i ∙ get_or-eq_default h' 0 (omega (arith, length_h'));
        };
        seen = omega (arith, sound.seen, f.arrived, f.events);
        limit = omega (arith, w.room, f.events);
        flag = flag_fits s.flag t.flag f.flag sound.flag;
      }

  pub went_proper : Proper t
  unfolding f
  went_proper = record { set = f.words; held = f.held.size }

-- A fed session is sound again.
pub fed_sound : FedSound
fed_sound s t b p k = let w = went s b (passed t) t refl k in (went_sound s t b p w, went_proper s t b p w)

-- THE PLAUSIBLE SET

-- before any event
first_follows : (rows : List ℕ) (s i o B c : ℕ) → opening rows s i o B c ≡ Ok tt → Follows (table_of rows s i o) B c [] (begun rows s i o B c)
first_follows rows s i o B c e =
    let open' = opens (box (table_of rows s i o)) B c in
    let (sound, holds) = opened_sound rows s i o B c e in
    let begins = opened_begins rows s i o B c e in
    record {
      sound = sound;
      proper = begins.proper;
      table = begins.table;
      waiting = begins.waiting;
      losses = begins.losses;
      carries = record {
        newest_inputs = begins.held ∙ open'.newest_inputs;
        plausible = λ x. ((λ h. (open'.plausible x).0 ((holds x).0 h)), (λ p. (holds x).1 ((open'.plausible x).1 p)));
      };
      seen = begins.events;
      arrived = begins.arrived;
      flag = rw begins.flag (λ j l. absurd (omega arith));
    }

-- one event more
module _ (T : Table) (B c : ℕ) (bytes : List ℕ) (s t : Session) (b : ℕ) (fo : Follows T B c bytes s) (fe : Feeds s b (passed t)) where
  gone : Went s b t
  gone = went s b (passed t) t refl fe

  fd : FedTo s b t
  fd = gone.to

  trace : events (bytes ++ (b ∷ [])) ≡ events bytes ++ (event b ∷ [])
  trace = events_append bytes (b ∷ [])

  same_table : table_in t ≡ table_in s
  unfolding fd
  same_table = λ i. table_of (take (fd.states i * (fd.inputs i + fd.outputs i)) (fd.rows i)) (fd.states i) (fd.inputs i) (fd.outputs i)

  line_is : line t ≡ newest B (held_after (line s) (event b))
  unfolding fd
  line_is =
      let len = length_h' s t b fo.proper gone in
      let le : kept t ≤ 32 = omega (arith, (went_sound s t b fo.proper gone).bounds.waiting.1) in
      let shown = shown_take (newest s.waiting (held_after (line s) (event b))) t.held (omega arith) fd.held in
      rw (← fo.waiting, ← len) shown

  set_is : (x : Config ℕ) → Holds t.set x ↔ Fed (box T) B c (line s) (Holds s.set) (event b) x
  unfolding fd
  set_is x = rw (← fo.table, ← fo.waiting, ← fo.losses) (fd.set x)

  carried : Carries (box T) B c (events (bytes ++ (b ∷ []))) (line t) (Holds t.set)
  carried =
      let k = feeds (box T) B c (events bytes) (line s) (Holds s.set) (event b) fo.carries in
      rw trace (record {
        newest_inputs = line_is ∙ k.newest_inputs;
        plausible = λ x. ((λ i. (k.plausible x).0 ((set_is x).0 i)), (λ p. (set_is x).1 ((k.plausible x).1 p)));
      })

  -- the flag, by what it was and what it is
  flag_is : (f g : Option ℕ) → FlagIs (box T) B c (events bytes) (place_of f) → FlagAfter s.events t.set f g → FlagIs (box T) B c (events (bytes ++ (b ∷ []))) (place_of g)
  flag_is f g h stays = rw trace (flag_stays (box T) B c (events bytes) (event b) _ h)
  flag_is f g h (clear x i) = rw trace (flag_none (box T) B c (events bytes) (event b) h (x, rw trace at ((carried.plausible x).0 i)))
  flag_is f g h (falls n) =
      let l : length (events bytes) ≡ s.events = events_length bytes ∙ sym fo.seen in
      rw (trace, ← l) (flag_falls (box T) B c (events bytes) (event b) h (λ x p. n x ((carried.plausible x).1 (rw trace p))))

  pub more_follows : Follows T B c (bytes ++ (b ∷ [])) t
  unfolding fd
  more_follows =
      record {
        sound = went_sound s t b fo.proper gone;
        proper = went_proper s t b fo.proper gone;
        table = same_table ∙ fo.table;
        waiting = fd.waiting ∙ fo.waiting;
        losses = fd.losses ∙ fo.losses;
        carries = carried;
        seen = simp length-append (omega (arith, fd.events, fo.seen));
        arrived = rw (trace, inputs_append) (simp length-append (omega (arith, fd.arrived, fo.arrived)));
        flag = flag_is s.flag t.flag fo.flag fd.flag;
      }

all_follow : (T : Table) (B c : ℕ) (bytes rest : List ℕ) (s t : Session) → Follows T B c bytes s → FedAll s rest t → Follows T B c (bytes ++ rest) t
all_follow T B c bytes [] s t fo none_left = rw append-nil fo
all_follow T B c bytes (b ∷ rest) s t fo (then {t = u} fe all) = rw append_snoc at (all_follow T B c (bytes ++ (b ∷ [])) rest u t (more_follows T B c bytes s u b fo fe) all)

-- From an opened session that is the plausible set.
pub plausible_after_feeding : PlausibleAfterFeeding
plausible_after_feeding rows s i o B c bytes t e all =
    all_follow (table_of rows s i o) B c [] bytes (begun rows s i o B c) t (first_follows rows s i o B c e) all

-- Demand 3 for sessions.
pub sessions_allow_more : SessionsAllowMore
sessions_allow_more T T' B c B' c' j bytes bytes' s s' slack f f' =
    let k = allowing_more T T' B c B' c' j (events bytes) (events bytes') slack in
    record {
      state = λ q w r i. let (w', r', p) = k.state q w r ((f.carries.plausible (cfg q w r)).0 i) in (w', r', (f'.carries.plausible (cfg q w' r')).1 p);
      same = λ z x i. (f'.carries.plausible x).1 (k.same z x ((f.carries.plausible x).0 i));
      flag = never_convicts T T' B c B' c' j (events bytes) (events bytes') (place_of s.flag) (place_of s'.flag) slack f.flag f'.flag;
    }
