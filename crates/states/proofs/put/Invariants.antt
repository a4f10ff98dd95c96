use Rattle.std.proofs.Common.{◌≡◌, ◌⊎◌, ℕ, ◌<◌, ◌≤◌, get_or}
use Rattle.states.specs.In.{word_states, Has}
use Rattle.states.proofs.Words.{Filled}
use Rattle.states.proofs.put.Given as goal

abbrev pub invariant-loop-r : goal.invariant-loop-r
invariant-loop-r l =
    record {
      done : Filled (λ k q. Has l.initial.out k q ⊎ (Has l.row k l.s × ((q ≡ l.t) × (q < word_states)))) l.r l.out;
      rest : (k : ℕ) → l.r ≤ k → get_or l.out k 0 ≡ get_or l.initial.out k 0;
    }
