-- Every statement of specs/Laws.antt, proved, under one roof: other crates take the laws from here. Assumes nothing.
use Rattle.lines.specs.Laws.{TextHolds, EventFits, LastFits, RefusedFits, SymbolShown, LineTells}
use Rattle.lines.proofs.Fitting
use Rattle.lines.proofs.Telling

-- Nothing is left out.
pub text_holds : TextHolds
text_holds = Fitting.text_holds

pub event_fits : EventFits
event_fits = Fitting.event_fits

pub last_fits : LastFits
last_fits = Fitting.last_fits

pub refused_fits : RefusedFits
refused_fits = Fitting.refused_fits

-- What a line tells.
pub symbol_shown : SymbolShown
symbol_shown = Telling.symbol_shown

pub line_tells : LineTells
line_tells = Telling.line_tells
