-- `layout::session_in` meets its contract. Assumes nothing.
use Rattle.sessiondoors.proofs.Layouts.{held_part}
use Rattle.sessiondoors.specs.Layout.{session_in}
use Rattle.sessiondoors.proofs.layout.session_in.Goals as goal

pub returns : goal.returns
unfolding session_in
returns c = record {
  value = rw (c.first-set.ensures, c.first-rows.ensures, c.first-held.ensures, c.flag_in-flag.ensures.value, held_part);
  flag_bound = c.flag_in-flag.ensures.result_bound;
}
