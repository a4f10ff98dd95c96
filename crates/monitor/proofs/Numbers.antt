-- Which number a feed tells, and when: the law of specs/Numbers.antt. Assumes nothing.
use Rattle.std.specs.Prelude.{None, Err}
use mathlib.Core.Path.{◌≡◌}
use mathlib.Core.List.Memᴰ.{head as at_head}
use mathlib.Core.List.Memᴰ.{tail as in_tail}
use mathlib.Core.Logic.{◌↔◌}
use Prim.Native.Nat.{ℕ, ◌+◌}
use native.Mathlib.Omega.{arith}
use Rattle.model.specs.Model.{event}
use Rattle.table.specs.Bytes.{symbol_of}
use Rattle.table.specs.Numbers.{Tells, IsValid}
use Rattle.table.specs.declared.answer.Refusal.{Refusal}
use Rattle.table.specs.Test.{Test}
use Rattle.table.proofs.Laws.{passed_tells_none, invalid_byte}
use Rattle.table.proofs.Numbers.{Never, Gives, alone, told_alone, passed_never, event_gives, events_give, unsound_gives}
use Rattle.session.specs.declared.Session.{Session}
use Rattle.session.specs.Session.{Sound}
use Rattle.monitor.specs.Feed.{unsound, full, invalid, fed}
use Rattle.monitor.specs.Numbers.{FeedingTells}

-- a number that is not told, for a reason that is not there
neither : {t : Test} {n p q : ℕ} {P : Type 0} → Never n t → (P → ⊥) → Tells t n p q ↔ P
neither {t} {n} {p} {q} f g = (λ x. absurd (f p q x), λ h. absurd (g h))

-- a refusal tells no number but its own
no_other : {r : Refusal} {k x : ℕ} (n : ℕ) → Gives r k x → (n ≡ k → ⊥) → Never n (Err r)
no_other n g d p q t = d (alone g t).0

-- in a sound session a byte is invalid exactly when its event is not valid
not_valid : (s : Session) (b : ℕ) → Sound s
    → symbol_of b s.inputs s.outputs ≡ None ↔ (IsValid s.inputs s.outputs (event b) → ⊥)
not_valid s b so = invalid_byte b s.inputs s.outputs so.table.valid.inputs.1 so.table.valid.outputs.1

pub feeding_tells : FeedingTells
feeding_tells s b r (unsound n) =
    record {
      unsound = λ p q. (λ t. (n, (alone unsound_gives t).1), λ (f, a). told_alone unsound_gives a);
      full = λ p q. neither (no_other 9 unsound_gives (λ e. omega arith)) (λ (so, e, a). n so);
      invalid = λ p q. neither (no_other 7 unsound_gives (λ e. omega arith)) (λ (so, l, f, a). n so);
      among = λ n p q t. at_head (alone unsound_gives t).0;
    }
feeding_tells s b r (full so l) =
    record {
      unsound = λ p q. neither (no_other 8 (events_give (s.events + 1)) (λ e. omega arith)) (λ (f, a). f so);
      full = λ p q.
          let m = so.limit in (
            λ t. let (n, (e, d)) = alone (events_give (s.events + 1)) t in (so, omega arith, (omega arith, d)),
            λ (x, f, (e, d)). told_alone (events_give (s.events + 1)) (omega arith, d),
          );
      invalid = λ p q. neither (no_other 7 (events_give (s.events + 1)) (λ e. omega arith)) (λ (x, m, f, a). omega arith);
      among = λ n p q t. in_tail (at_head (alone (events_give (s.events + 1)) t).0);
    }
feeding_tells s b r (invalid so l e) =
    record {
      unsound = λ p q. neither (no_other 8 (event_gives s.events) (λ e. omega arith)) (λ (f, a). f so);
      full = λ p q. neither (no_other 9 (event_gives s.events) (λ e. omega arith)) (λ (x, f, a). omega arith);
      invalid = λ p q. (
        λ t. (so, l, (not_valid s b so).0 e, (alone (event_gives s.events) t).1),
        λ (x, m, f, a). told_alone (event_gives s.events) a,
      );
      among = λ n p q t. in_tail (in_tail (at_head (alone (event_gives s.events) t).0));
    }
feeding_tells s b r (fed so l v x) =
    record {
      unsound = λ p q. neither (passed_never 8) (λ (f, a). f so);
      full = λ p q. neither (passed_never 9) (λ (y, f, a). omega arith);
      invalid = λ p q. neither (passed_never 7) (λ (y, m, f, a). v ((not_valid s b so).1 f));
      among = λ n p q t. absurd (passed_tells_none n p q t);
    }
