use Rattle.monitor.proofs.Feeding.{flag_after}
use mathlib.Core.Path.{refl}
use borrow.Author.Rules.{rules}
use Rattle.monitor.proofs.feed.moved_on.Goals as goal

pub returns : goal.returns
returns c =
    record {
      states = refl;
      inputs = refl;
      outputs = refl;
      rows = refl;
      waiting = refl;
      losses = refl;
      words = refl;
      bytes = refl;
      events = refl;
      inputs_seen = refl;
      flag = flag_after _ _ _ _ _ _ (search rules) c.empty-empty.ensures c.then_some.ensures c.or-s.ensures;
    }
