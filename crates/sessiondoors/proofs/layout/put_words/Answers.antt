-- `layout::put_words` meets its contract. Assumes nothing.
use mathlib.Core.Path.{◌≡◌}
use lib.ListN.{length}
use Rattle.sessiondoors.proofs.Layouts.{words_put}
use borrow.Author.Rules.{rules}
use Rattle.sessiondoors.proofs.layout.put_words.Goals as goal

pub returns : goal.returns
returns c =
    let s = c.args.s.now in
    let n : length s.set ≡ 264 = search rules in
    words_put c.args.words.now _ _ s _ c.requires.0 n c.requires.1 c.flag_word-flag.ensures c.put.ensures c.put-2.ensures
