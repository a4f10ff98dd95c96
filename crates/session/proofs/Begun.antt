-- Opened sessions, and one of zeros. Assumes nothing.
use Rattle.std.specs.Prelude.{Ok}
use mathlib.Core.Path.{◌≡◌, refl, ◌∙◌, ap}
use mathlib.Core.List.{List}
use mathlib.Core.Logic.{◌↔◌, ◌≢◌, ⊎_elim}
use Prim.Native.Nat.{ℕ, ◌+◌, ◌-◌, ◌*◌, ◌≤◌, ◌<◌, min}
use native.Mathlib.Omega.{arith}
use native.Mathlib.Nat.{mul-le-mul}
use lib.ListN.{length, get_or, take, drop, set, length-set}
use lib.Seq.{get_or-set_same, get_or-set_other, get_or-append-add, get_or-drop, take_at, take_all}
use Rattle.model.specs.Table.{Valid}
use Rattle.model.specs.Model.{Config, cfg}
use Rattle.model.proofs.Flags.{lt_or_ge}
use Rattle.table.specs.Bytes.{table_of}
use Rattle.states.specs.In.{In}
use Rattle.states.proofs.Member.{not_in_zero, in_pow}
use Rattle.session.specs.Sets.{Holds}
use Rattle.session.specs.Session.{ZeroFrom, Sound}
use Rattle.session.specs.Open.{zeros, padded, opening, begun, zero_session}
use Rattle.session.specs.Laws.{OpenedSound, OpenedBegins, ZerosUnsound}
use Rattle.session.proofs.Padded.{length_zeros, zeros_at}
use Rattle.session.proofs.Openings.{opening_passes}

-- A session of zeros only has no states.
pub zeros_unsound : ZerosUnsound
unfolding zero_session
zeros_unsound s = omega (arith, s.table.valid.states.0)

-- THE ROWS

module _ (l : List ℕ) (fits : length l ≤ 2048) where
  take_padded : take (length l) (padded 2048 l) ≡ l
  unfolding padded
  take_padded =
      let e : take 2048 l ≡ l = take_all 2048 l fits in
      rw e (take_at l (drop (length l) (zeros 2048)) (length l) refl)

  padded_rest : (k : ℕ) → length l ≤ k → get_or (padded 2048 l) k 0 ≡ 0
  unfolding padded
  padded_rest k i =
      let e : take 2048 l ≡ l = take_all 2048 l fits in
      let g : length l + (k - length l) ≡ k = omega arith in
      rw (e, ← g, get_or-append-add, get_or-drop) (zeros_at 2048 (length l + (k - length l)))

-- THE SET

abbrev first_set : List ℕ
first_set = set (zeros 264) 0 1

word_first : get_or first_set 0 0 ≡ 1
word_first = get_or-set_same (zeros 264) 0 1 0 (rw length_zeros (omega arith))

word_other : (k : ℕ) → 0 < k → get_or first_set k 0 ≡ 0
word_other k i = let n : k ≢ 0 = λ e. omega arith in get_or-set_other (zeros 264) 0 k 1 0 n ∙ zeros_at 264 k

-- the word 1 has state 0 alone
one : (q : ℕ) → In q 1 ↔ (q ≡ 0)
one q = in_pow q 0

-- the first set holds (0,0,0) alone
first_holds : (x : Config ℕ) → Holds first_set x ↔ (x ≡ cfg 0 0 0)
first_holds x = (to, from)
  where
    equal : (s w r : ℕ) → s ≡ 0 → w ≡ 0 → r ≡ 0 → cfg s w r ≡ cfg 0 0 0
    equal s w r es ew er = cc

    at_first : 8 * x.waiting + x.run ≡ 0 → Holds first_set x → x ≡ cfg 0 0 0
    at_first e i =
        let h : In x.state (get_or first_set 0 0) = rw e at i.member in
        let h₁ : In x.state 1 = rw word_first at h in
        equal x.state x.waiting x.run ((one x.state).0 h₁) (omega arith) (omega arith)

    to : Holds first_set x → x ≡ cfg 0 0 0
    to i =
        ⊎_elim (λ k. absurd (not_in_zero x.state (rw (word_other (8 * x.waiting + x.run) k) at i.member)))
        (λ k. at_first (omega arith) i) (lt_or_ge 0 (8 * x.waiting + x.run))

    zero_held : Holds first_set (cfg 0 0 0)
    zero_held = record { waiting = omega arith; run = omega arith; member = rw word_first ((one 0).1 refl) }

    from : x ≡ cfg 0 0 0 → Holds first_set x
    from e = rw e zero_held

-- THE SESSION

-- rows that pass, with zeros after them
module _ (rows : List ℕ) (s i o B c : ℕ) (passes : opening rows s i o B c ≡ Ok tt) where
  valid : Valid (table_of rows s i o)
  valid = ((opening_passes rows s i o B c).0 passes).0

  fits : length rows ≤ 2048
  fits = omega (arith, valid.rows, mul-le-mul {n₂ = 64} {m₂ = 32} valid.states.1 (let w : i + o ≤ 32 = omega (arith, valid.inputs.1, valid.outputs.1) in w))

  begun_rows : take (s * (i + o)) (padded 2048 rows) ≡ rows
  begun_rows = rw (← valid.rows) (take_padded rows fits)

  begun_rest : ZeroFrom (s * (i + o)) (padded 2048 rows)
  begun_rest k l m = padded_rest rows fits k (omega (arith, valid.rows))

-- An opened session is sound and has the one configuration (0,0,0).
pub opened_sound : OpenedSound
unfolding begun
opened_sound rows s i o B c e =
    let (valid, bounded) = (opening_passes rows s i o B c).0 e in
    let sound : Sound (begun rows s i o B c) = record {
      table = record { valid = rw (begun_rows rows s i o B c e) valid; rest = begun_rest rows s i o B c e };
      bounds = bounded;
      set = λ x h. rw ((first_holds x).0 h) (record { state = valid.states.0; waiting = omega arith; run = bounded.losses.0; arrived = omega arith });
      held = record { valid = λ k l m. absurd (omega arith); rest = λ k l m. zeros_at 32 k };
      seen = omega arith;
      limit = omega arith;
      flag = (cfg 0 0 0, (first_holds (cfg 0 0 0)).1 refl);
    } in
    (sound, first_holds)

-- It has what it was opened with, and nothing was seen.
pub opened_begins : OpenedBegins
unfolding begun
opened_begins rows s i o B c e =
    let z : min B 0 ≡ 0 = omega arith in
    record {
      proper = record { set = length-set (zeros 264) 0 1 ∙ length_zeros 264; held = length_zeros 32 };
      table = ap (λ (l : List ℕ). table_of l s i o) (begun_rows rows s i o B c e);
      waiting = refl;
      losses = refl;
      held = rw z refl;
      events = refl;
      arrived = refl;
      flag = refl;
    }
