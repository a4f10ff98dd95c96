-- A sound session, fed an input or an output. Assumes nothing.
use Rattle.std.specs.Prelude.{Option, Some, None, Bool, true, false, not}
use Rattle.std.specs.Option.{option_or}
use Rattle.std.specs.Bool.{then_some}
use mathlib.Core.Path.{◌≡◌, refl, sym, ◌∙◌, ap}
use mathlib.Core.List.{List, [], ◌∷◌, ◌++◌, append-nil}
use mathlib.Core.Logic.{◌⊎◌, inl, inr, ⊎_elim}
use Prim.Native.Nat.{ℕ, suc, ◌+◌, ◌-◌, ◌*◌, ◌≤◌, ◌<◌, min}
use native.Mathlib.Omega.{arith}
use native.Mathlib.Nat.{mul-le-mul_right, add-zero}
use lib.ListN.{length, get_or, take, length-take, length-append, length-drop, get_or-append}
use lib.Seq.{get_or-take, get_or-drop, get_or-append_seam}
use Rattle.model.specs.Table.{Table, width, byte}
use Rattle.model.specs.Model.{input, output, event, newest, Config, cfg}
use Rattle.model.specs.Demands.{Fits}
use Rattle.model.proofs.Flags.{lt_or_ge}
use Rattle.model.proofs.Bytes.{input_byte, output_byte}
use Rattle.table.specs.Bytes.{symbol_of}
use Rattle.table.specs.declared.answer.Symbol.{Symbol}
use Rattle.table.specs.declared.answer.Symbol.TheVariants.{Input, Output}
use Rattle.table.proofs.Laws.{given_means}
use Rattle.session.specs.declared.Session.{Session}
use Rattle.states.specs.In.{Empty}
use Rattle.states.specs.Decides.{Decides}
use Rattle.session.specs.Sets.{InCell, Holds, Finds}
use Rattle.monitor.specs.Sweep.{Packed, Ready, Contained}
use Rattle.session.proofs.Laws.{finds_unless_empty}
use Rattle.session.specs.Session.{used, table_in, kept, line, Sound}
use Rattle.monitor.specs.Event.{Arrival, Departure}
use Rattle.monitor.specs.Feed.{Shows, FlagAfter, stays, clear, falls, MovedOn, FedTo, unsound, full, invalid, fed}
use Rattle.monitor.proofs.Moves.{shifted_contained, shifted_arrived, sent_contained, sent_sent, fed_words}
use Rattle.monitor.proofs.Lines.{shows_first, shown_take}

-- a session whose set and held inputs have moved on, and then the rest of it
pub moved_from : (s : Session) (set held : List ℕ) (arrived : ℕ) (r : Session)
    → MovedOn (record { set = set; events = s.events; arrived = s.arrived; flag = s.flag; rows = s.rows; held = held; states = s.states; inputs = s.inputs; outputs = s.outputs; waiting = s.waiting; losses = s.losses }) set held arrived r
    → MovedOn s set held arrived r
moved_from s set held arrived r m =
    record {
      states = m.states;
      inputs = m.inputs;
      outputs = m.outputs;
      rows = m.rows;
      waiting = m.waiting;
      losses = m.losses;
      words = m.words;
      bytes = m.bytes;
      events = m.events;
      inputs_seen = m.inputs_seen;
      flag = m.flag;
    }

-- the flag stays, or falls where the set is empty
pub flag_after : (event : ℕ) (set : List ℕ) (empty : Bool) (f o g : Option ℕ) → length set ≡ 264 → Decides empty (Empty set) → o ≡ then_some empty event → g ≡ option_or f o → FlagAfter event set f g
flag_after event set empty f o g len d oe ge = rw (ge, oe) (go f empty (finds_unless_empty set empty len d))
  where
    go : (h : Option ℕ) (b : Bool) → Finds set (not b) → FlagAfter event set h (option_or h (then_some b event))
    go (Some place) b found = stays
    go None true found = falls (found.no refl)
    go None false found = let (x, i) = found.yes refl in clear x i

module _ (s : Session) (sound : Sound s) (held_long : length s.held ≡ 32) where
  T : Table
  T = table_in s

  B≤ : s.waiting ≤ 32
  B≤ = sound.bounds.waiting.1

  kept≤ : kept s ≤ s.waiting
  kept≤ = omega arith

  pub length_line : length (line s) ≡ kept s
  length_line = simp length-take (omega (arith, B≤))

  shows_line : Shows (line s) s.held
  shows_line = shows_first (kept s) s.held held_long sound.held.rest

  packed : Packed (table_in s) s.rows
  unfolding byte
  packed q k l m = sym (get_or-take (used s) s.rows (q * width (table_in s) + k) 255 (omega (arith, mul-le-mul_right (width (table_in s)) (let h : suc q ≤ s.states = l in h))))

  contained : Contained (table_in s) s.losses (kept s) s.set
  contained =
      record {
        state = λ w r q i j k. (fits w r q i j k).state;
        waiting = λ w r q i j k. let f = fits w r q i j k in omega (arith, f.waiting, f.arrived);
        run = λ w r q i j k. (fits w r q i j k).run;
      }
    where
      fits : (w r q : ℕ) → w ≤ 32 → r < 8 → InCell s.set w r q → Fits s.states s.waiting s.losses s.arrived (cfg q w r)
      fits w r q i j k = sound.set (cfg q w r) (record { waiting = i; run = j; member = k })

  pub fit : (x : Config ℕ) → Holds s.set x → x.waiting ≤ length (line s)
  fit x i = let f = sound.set x i in omega (arith, f.waiting, f.arrived, length_line)

  -- the line's inputs are the table's
  pub line_valid : (k : ℕ) → k < length (line s) → get_or (line s) k 0 < s.inputs
  line_valid k i =
      let j : k < kept s = omega (arith, length_line) in
      rw (get_or-take (kept s) s.held k 0 j) (sound.held.valid k j (omega (arith, B≤)))

  ready : (h : List ℕ) (top : ℕ) → top ≡ length h → top ≤ s.waiting → ((k : ℕ) → k < length h → get_or h k 0 < s.inputs) → Ready (table_in s) s.rows s.waiting s.losses h top
  ready h top e le v = record { table = sound.table.valid; packed = packed; bounds = sound.bounds; inputs = v; few = le; held = omega arith }

  -- AN INPUT

  module _ (a : ℕ) (symbol : a < s.inputs) where
    h' : List ℕ
    h' = newest s.waiting (line s ++ (a ∷ []))

    length_more : length (line s ++ (a ∷ [])) ≡ kept s + 1
    length_more = simp length-append (omega (arith, length_line))

    length_h' : length h' ≡ min (kept s + 1) s.waiting
    unfolding h'
    length_h' = simp length-drop (omega (arith, length_more))

    pub valid_more : (k : ℕ) → k < length (line s ++ (a ∷ [])) → get_or (line s ++ (a ∷ [])) k 0 < s.inputs
    valid_more k i =
        ⊎_elim (λ j. rw (get_or-append (line s) (a ∷ []) 0 k j) (line_valid k j))
        (λ j. let e : k ≡ length (line s) = omega (arith, length_more, length_line) in rw (e, get_or-append_seam) symbol) (lt_or_ge k (length (line s)))

    valid_h' : (k : ℕ) → k < length h' → get_or h' k 0 < s.inputs
    unfolding h'
    valid_h' k i =
        let d = length (line s ++ (a ∷ [])) - s.waiting in
        rw (get_or-drop d (line s ++ (a ∷ [])) k 0) (valid_more (d + k) (omega (arith, length-drop d (line s ++ (a ∷ [])))))

    pub arrived_to : (n top : ℕ) (after held : List ℕ) (r : Session) → n ≡ kept s → Arrival s.rows (s.inputs + s.outputs) s.waiting s.losses n a top s.set s.held after held
        → MovedOn s after held (s.arrived + 1) r → FedTo s a r
    unfolding h'
    arrived_to n top after held r en arr mo =
        let et = arr.count in
        let mid = arr.raised in
        let sh = arr.shifted in
        let few = sound.table.valid.inputs.1 in
        let b : event a ≡ input a = input_byte a (omega arith) in
        let shown : Shows h' held = arr.held_on.line (line s) (length_line ∙ sym en) shows_line in
        let len : top ≡ length h' = omega (arith, length_h') in
        let is_line : take top held ≡ h' = rw len (shown_take h' held (omega (arith, B≤)) shown) in
        let le : top ≤ s.waiting = omega arith in
        let all : (w : ℕ) → w ≤ kept s → w < s.waiting → w < top = λ w i j. omega arith in
        let to = fed_words (table_in s) s.rows s.waiting s.losses (line s) (input a) top s.set mid after fit
        (ready h' top len le valid_h')
        (shifted_contained (table_in s) s.waiting s.losses a (kept s) top symbol sound.bounds kept≤ le all s.set mid contained sh)
        (shifted_arrived (table_in s) s.waiting s.losses a (kept s) top symbol sound.bounds kept≤ le all s.set mid contained sh)
        (rw is_line at arr.swept) in
        record {
          states = mo.states;
          inputs = mo.inputs;
          outputs = mo.outputs;
          rows = mo.rows;
          waiting = mo.waiting;
          losses = mo.losses;
          words = ap length mo.words ∙ arr.words;
          set = λ x. rw (b, mo.words) (to x);
          held = rw (b, mo.bytes) shown;
          events = mo.events;
          arrived = rw b mo.inputs_seen;
          flag = mo.flag;
        }

  -- AN OUTPUT

  -- the line stays
  line_kept : newest s.waiting (line s ++ []) ≡ line s
  line_kept = let z : length (line s) - s.waiting ≡ 0 = omega (arith, length_line) in rw (append-nil, z)

  pub sent_to : (a n : ℕ) (after : List ℕ) (r : Session) → a < s.outputs → n ≡ kept s → Departure s.rows (s.inputs + s.outputs) (s.inputs + a) s.losses n s.set s.held after
      → MovedOn s after s.held s.arrived r → FedTo s (128 + a) r
  sent_to a n after r symbol en dep mo =
      let mid = dep.followed in
      let b = output_byte a in
      let sent = rw en at dep.sent in
      let sw = rw en at dep.swept in
      let to = fed_words (table_in s) s.rows s.waiting s.losses (line s) (output a) (kept s) s.set mid after fit
      (rw line_kept (ready (line s) (kept s) (sym length_line) kept≤ line_valid))
      (sent_contained (table_in s) s.rows s.waiting s.losses a (kept s) sound.table.valid packed sound.bounds symbol kept≤ s.set mid contained sent)
      (sent_sent (table_in s) s.rows s.waiting s.losses a (kept s) sound.table.valid packed sound.bounds symbol kept≤ s.set mid contained sent)
      (rw line_kept sw) in
      record {
        states = mo.states;
        inputs = mo.inputs;
        outputs = mo.outputs;
        rows = mo.rows;
        waiting = mo.waiting;
        losses = mo.losses;
        words = ap length mo.words ∙ dep.words;
        set = λ x. rw (b, mo.words) (to x);
        held = rw (b, line_kept, mo.bytes) shows_line;
        events = mo.events;
        arrived = rw b (mo.inputs_seen ∙ sym (add-zero s.arrived));
        flag = mo.flag;
      }

-- EVENT BYTES

pub input_means : (b i o a : ℕ) → symbol_of b i o ≡ Some (Input a) → (a ≡ b) × (a < i) × (symbol_of b i o ≡ None → ⊥)
input_means b i o a e = let m = (given_means b i o a).0 e in (m.0, m.1, λ f. let z : ◌≡◌ {A = ℕ} 0 1 = cc in omega arith)

pub output_means : (b i o a : ℕ) → symbol_of b i o ≡ Some (Output a) → (128 + a ≡ b) × (a < o) × (symbol_of b i o ≡ None → ⊥)
output_means b i o a e = let m = (given_means b i o a).1 e in (m.0, m.1, λ f. let z : ◌≡◌ {A = ℕ} 0 1 = cc in omega arith)

-- how a feed may end
pub ruleset endings = (unsound, full, invalid, fed, input_means, output_means)

-- a valid byte is an input or an output of the table
pub event_cases : (b i o : ℕ) → (symbol_of b i o ≡ None → ⊥) → ((a : ℕ) × (event b ≡ input a) × (a < i)) ⊎ ((a : ℕ) × (event b ≡ output a) × (a < o))
event_cases b i o v = go (symbol_of b i o) refl
  where
    go : (x : Option Symbol) → symbol_of b i o ≡ x → ((a : ℕ) × (event b ≡ input a) × (a < i)) ⊎ ((a : ℕ) × (event b ≡ output a) × (a < o))
    go (Some (Input a)) e = let m = (given_means b i o a).0 e in inl (a, m.2, m.1)
    go (Some (Output a)) e = let m = (given_means b i o a).1 e in inr (a, m.2, m.1)
    go None e = absurd (v e)
