-- What a descriptor tells at a read, and at the reads after it. Assumes nothing.
use Rattle.std.specs.Prelude.{◌≡◌, Option, None, Some, Result, MatchResult, pos}
use Rattle.std.specs.IoError.{raw_os_error}
use Rattle.std.specs.declared.io.Error.{Error}

-- The system notes this error of a call on a descriptor that is not open.
abbrev pub NotOpen : Error → Type 0
NotOpen e = raw_os_error e ≡ Some (pos 9)

-- After an end or a failure was told, this is told next: that the descriptor is not open is told again, and nothing else is.
abbrev pub ToldNext : Result (Unit {0}) Error → Option (Result (Unit {0}) Error) → Type 0
ToldNext told next = MatchResult told (λ _. next ≡ None) (λ e. (NotOpen e → next ≡ Some told) × (¬ NotOpen e → next ≡ None))
