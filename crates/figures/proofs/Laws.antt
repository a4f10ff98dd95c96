-- Every statement of specs/Laws.antt, proved. Assumes nothing.
use Rattle.std.specs.Prelude.{Some, None}
use Rattle.std.proofs.Common.{zero, suc, refl, add-one, arith}
use Rattle.figures.specs.Figures.{flag_word, flag_in}
use Rattle.figures.specs.Laws.{FlagBack, FlagKept, NoneFits, PlaceFits}

pub flag_back : FlagBack
unfolding flag_word flag_in
flag_back None = refl
flag_back (Some place) = rw add-one

pub flag_kept : FlagKept
unfolding flag_word flag_in
flag_kept zero = refl
flag_kept (suc n) = add-one n

pub none_fits : NoneFits
unfolding flag_word
none_fits = omega arith

pub place_fits : PlaceFits
unfolding flag_word
place_fits place h = omega arith
