use Rattle.std.proofs.lemmas.Result.{err_from_is_err_and}
use Rattle.lister.proofs.Judging.{followed}
use Rattle.lister.proofs.judge.follow.Goals as goal

pub returns-in_err-flag : goal.returns-in_err-flag
returns-in_err-flag c =
    let runs = rw (c.from.ensures, c.from-2.ensures, c.from-3.ensures, c.from-4.ensures, c.from-5.ensures) at c.run.ensures in
    let p = err_from_is_err_and c.from_residual.result c.from_residual.ensures.1 in
    rw (p.1, p.2)
    (rw c.in_err-flag.was at (followed c.args.c c.args.rows.now c.args.results.now c.run.new.out c.run.result c.front.ensures runs))

pub returns : goal.returns
returns c =
    let runs = rw (c.from.ensures, c.from-2.ensures, c.from-3.ensures, c.from-4.ensures, c.from-5.ensures) at c.run.ensures in
    rw c.in_ok-flag.was at (followed c.args.c c.args.rows.now c.args.results.now c.run.new.out c.run.result c.front.ensures runs)
