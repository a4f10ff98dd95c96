-- The line of a tally is the line of the set that its words stand for. Assumes nothing.
use mathlib.Core.Path.{◌≡◌, refl, sym, ◌∙◌}
use mathlib.Core.List.{List}
use mathlib.Core.Logic.{◌↔◌, ⊎_elim}
use Prim.Native.Nat.{ℕ, ◌+◌, ◌-◌, ◌*◌, ◌≤◌, ◌<◌, min}
use native.Mathlib.Omega.{arith}
use lib.ListN.{get_or}
use Rattle.model.specs.Model.{Config, cfg, Set}
use Rattle.model.proofs.Flags.{lt_or_ge}
use Rattle.states.specs.In.{In}
use Rattle.states.proofs.Member.{not_in_zero}
use Rattle.run.specs.declared.lag.Tally.{Tally}
use Rattle.run.specs.declared.lag.Lags.{Lags}
use Rattle.run.specs.Lag.{Lagged, HasLag, Spanned, Tallied, figures, line_of}
use Rattle.run.specs.Run.{Lowest, Highest, StateOf, WaitingOf, RunOf, number, Line, Put}
use Rattle.std.specs.Prelude.{Option, Some, None, MatchOption, ◌++◌}
use Rattle.run.specs.Trace.{empty_line, Emptied}

module _ (words : List ℕ) (base n c : ℕ) (pos : 0 < c) (t : Tally) (tally : Tallied words base (n + c) t) where
  -- a lag may be split between waiting and lost in any way that the bounds allow
  split : (q w r j : ℕ) → w ≤ n → r < c → w + r ≡ j → In q (get_or words (base + j) 0) → Lagged words base n c (cfg q w r)
  split q w r j a b e i = record { room = a; few = b; member = rw e i }

  -- one way that always is
  shared : (q j : ℕ) → j < n + c → In q (get_or words (base + j) 0) → Lagged words base n c (cfg q (min j n) (j - min j n))
  shared q j l i = split q (min j n) (j - min j n) j (omega arith) (omega arith) (omega arith) i

  states_are : (q : ℕ) → In q t.states ↔ StateOf (Lagged words base n c) q
  states_are q = (
    (λ i. let w = (tally.states q).0 i in (cfg q (min w.lost n) (w.lost - min w.lost n), shared q w.lost w.few w.member, refl)),
    (λ (x, y, e). (tally.states q).1 (record { lost = x.waiting + x.run; few = omega (arith, y.room, y.few); member = rw e at y.member })),
  )

  -- with a lag there are members, whose lags lie between the least and the greatest
  module _ (l : Lags) (spanned : Spanned words base (n + c) l) where
    few : l.least < n + c
    few = ⊎_elim (λ a. absurd (spanned.below l.most a spanned.most)) (λ a. omega (arith, spanned.within)) (lt_or_ge l.most l.least)

    low : (x : Config ℕ) → Lagged words base n c x → l.least ≤ x.waiting + x.run
    low x y = ⊎_elim (λ a. absurd (spanned.below (x.waiting + x.run) a (x.state, y.member))) (λ a. a) (lt_or_ge (x.waiting + x.run) l.least)

    high : (x : Config ℕ) → Lagged words base n c x → x.waiting + x.run ≤ l.most
    high x y =
        ⊎_elim (λ a. absurd (spanned.above (x.waiting + x.run) a (omega (arith, y.room, y.few)) (x.state, y.member))) (λ a. a)
        (lt_or_ge l.most (x.waiting + x.run))

    -- a member of this lag, of which so many wait
    at_least : (w : ℕ) → w ≤ n → l.least - w < c → w ≤ l.least → Lagged words base n c (cfg spanned.least.0 w (l.least - w))
    at_least w a b d = split spanned.least.0 w (l.least - w) l.least a b (omega arith) spanned.least.1

    at_most : (w : ℕ) → w ≤ n → l.most - w < c → w ≤ l.most → Lagged words base n c (cfg spanned.most.0 w (l.most - w))
    at_most w a b d = split spanned.most.0 w (l.most - w) l.most a b (omega arith) spanned.most.1

    lowest : (of : Config ℕ → ℕ) (x : Config ℕ) → Lagged words base n c x → ((y : Config ℕ) → Lagged words base n c y → of x ≤ of y)
        → Lowest (λ k. (y : Config ℕ) × Lagged words base n c y × (of y ≡ k)) (of x)
    lowest of x m le = record { none = λ h. absurd (h (of x) (x, m, refl)); some = λ k (y, i, e). ((x, m, refl), rw (sym e) (le y i)) }

    highest : (of : Config ℕ → ℕ) (x : Config ℕ) → Lagged words base n c x → ((y : Config ℕ) → Lagged words base n c y → of y ≤ of x)
        → Highest (λ k. (y : Config ℕ) × Lagged words base n c y × (of y ≡ k)) (of x)
    highest of x m le = record { none = λ h. absurd (h (of x) (x, m, refl)); some = λ k (y, i, e). ((x, m, refl), rw (sym e) (le y i)) }

    least_waiting : Lowest (WaitingOf (Lagged words base n c)) (l.least - (c - 1))
    least_waiting =
        let f = few in
        lowest (λ x. x.waiting) (cfg spanned.least.0 (l.least - (c - 1)) (l.least - (l.least - (c - 1))))
        (at_least (l.least - (c - 1)) (omega arith) (omega arith) (omega arith)) (λ y i. omega (arith, low y i, i.few))

    most_waiting : Highest (WaitingOf (Lagged words base n c)) (min l.most n)
    most_waiting =
        let f = spanned.within in
        highest (λ x. x.waiting) (cfg spanned.most.0 (min l.most n) (l.most - min l.most n))
        (at_most (min l.most n) (omega arith) (omega arith) (omega arith)) (λ y i. omega (arith, high y i, i.room))

    least_run : Lowest (RunOf (Lagged words base n c)) (l.least - n)
    least_run =
        let f = few in
        let e : l.least - (l.least - (l.least - n)) ≡ l.least - n = omega arith in
        rw e at (lowest (λ x. x.run) (cfg spanned.least.0 (l.least - (l.least - n)) (l.least - (l.least - (l.least - n))))
        (at_least (l.least - (l.least - n)) (omega arith) (omega arith) (omega arith)) (λ y i. omega (arith, low y i, i.room)))

    most_run : Highest (RunOf (Lagged words base n c)) (min l.most (c - 1))
    most_run =
        let f = spanned.within in
        let e : l.most - (l.most - min l.most (c - 1)) ≡ min l.most (c - 1) = omega arith in
        rw e at (highest (λ x. x.run) (cfg spanned.most.0 (l.most - min l.most (c - 1)) (l.most - (l.most - min l.most (c - 1))))
        (at_most (l.most - min l.most (c - 1)) (omega arith) (omega arith) (omega arith)) (λ y i. omega (arith, high y i, i.few)))

  -- the figures of the lags are those of the set
  line_by : (lags : Option Lags) → MatchOption lags ((j : ℕ) → j < n + c → HasLag words base j → ⊥) (Spanned words base (n + c))
      → Line (Lagged words base n c) (number t.states ++ figures lags n c)
  line_by None none =
      let empty : (x : Config ℕ) → Lagged words base n c x → ⊥ = λ x y. none (x.waiting + x.run) (omega (arith, y.room, y.few)) (x.state, y.member) in
      record {
        states = t.states;
        least_waiting = 255;
        most_waiting = 255;
        least_run = 255;
        most_run = 255;
        states_are = states_are;
        least_waiting_is = record { none = λ h. refl; some = λ k (x, y, e). absurd (empty x y) };
        most_waiting_is = record { none = λ h. refl; some = λ k (x, y, e). absurd (empty x y) };
        least_run_is = record { none = λ h. refl; some = λ k (x, y, e). absurd (empty x y) };
        most_run_is = record { none = λ h. refl; some = λ k (x, y, e). absurd (empty x y) };
        bytes_are = refl;
      }
  line_by (Some l) s =
      record {
        states = t.states;
        least_waiting = l.least - (c - 1);
        most_waiting = min l.most n;
        least_run = l.least - n;
        most_run = min l.most (c - 1);
        states_are = states_are;
        least_waiting_is = least_waiting l s;
        most_waiting_is = most_waiting l s;
        least_run_is = least_run l s;
        most_run_is = most_run l s;
        bytes_are = refl;
      }

  pub is_line : Line (Lagged words base n c) (line_of t n c)
  is_line = line_by t.lags tally.lags

-- NOTHING

-- the line of nothing is the line of every empty set
pub empty_is : (S : Set ℕ) → ((x : Config ℕ) → S x → ⊥) → Line S empty_line
empty_is S none =
    record {
      states = 0;
      least_waiting = 255;
      most_waiting = 255;
      least_run = 255;
      most_run = 255;
      states_are = λ q. ((λ i. absurd (not_in_zero q i)), (λ (x, y, e). absurd (none x y)));
      least_waiting_is = record { none = λ h. refl; some = λ k (x, y, e). absurd (none x y) };
      most_waiting_is = record { none = λ h. refl; some = λ k (x, y, e). absurd (none x y) };
      least_run_is = record { none = λ h. refl; some = λ k (x, y, e). absurd (none x y) };
      most_run_is = record { none = λ h. refl; some = λ k (x, y, e). absurd (none x y) };
      bytes_are = refl;
    }

pub emptied_none : (k : ℕ) (l : List ℕ) → Emptied k k l l
emptied_none k l = record { size = refl; lines = λ i a b. absurd (omega arith); below = λ q a. refl; above = λ q a. refl }

pub emptied_more : (k n : ℕ) (before mid after : List ℕ) → k ≤ n → Emptied k n before mid → Put (12 * n) empty_line mid after → Emptied k (n + 1) before after
emptied_more k n before mid after l h p =
    record {
      size = p.size ∙ h.size;
      lines = λ i a b. ⊎_elim (λ c q m. p.below (12 * i + q) (omega arith) ∙ h.lines i a c q m) (λ c. let e : i ≡ n = omega arith in rw e p.bytes) (lt_or_ge i n);
      below = λ q a. p.below q (omega arith) ∙ h.below q a;
      above = λ q a. p.above q (omega arith) ∙ h.above q (omega arith);
    }
