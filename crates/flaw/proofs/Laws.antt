-- Every statement of specs/Laws.antt, proved: other crates take the laws from here. Assumes nothing.
use Rattle.std.specs.Prelude.{ℕ, Option, Some, None, Ok, Err}
use mathlib.Core.Path.{◌≡◌, refl}
use mathlib.Core.Bool.{Bool, true, false}
use Rattle.flaw.specs.Flaws.{first_flaw}
use Rattle.flaw.specs.Laws.{Filled, Shows, FirstFlaw, NoFlaw}
use Rattle.flaw.specs.declared.Flaw.{Flaw}
use Rattle.flaw.specs.declared.Flaw.TheVariants.{Check, Kind, Order, ByteOne, Number, Used, Source, Fill}
use Rattle.flaw.specs.declared.Seen.{Seen}
use Rattle.flaw.specs.Test.{Test}

-- what a test that came to this end shows
abbrev Ends : Seen → Test → Type 0
Ends s (Ok tt) = Filled s
Ends s (Err f) = Shows s f

-- part by part
seen : (check kind order one number used source : Bool) → Option ℕ → Seen
seen c k o b n u s f = record { check = c; kind = k; order = o; one = b; number = n; used = u; source = s; fill = f }

ends : (c k o b n u s : Bool) (f : Option ℕ) → Ends (seen c k o b n u s f) (first_flaw (seen c k o b n u s f))
unfolding first_flaw seen
ends false k o b n u s f = refl
ends true false o b n u s f = (refl, refl)
ends true true false b n u s f = (refl, refl, refl)
ends true true true false n u s f = ((refl, refl, refl), refl)
ends true true true true false u s f = ((refl, refl, refl), refl, refl)
ends true true true true true false s f = (((refl, refl, refl), refl, refl), refl)
ends true true true true true true false f = ((((refl, refl, refl), refl, refl), refl), refl)
ends true true true true true true true (Some i) = ((((refl, refl, refl), refl, refl), refl), refl, refl)
ends true true true true true true true None = ((((refl, refl, refl), refl, refl), refl), refl, refl)

ended : (s : Seen) → Ends s (first_flaw s)
unfolding seen
ended s = ends s.check s.kind s.order s.one s.number s.used s.source s.fill

from : (s : Seen) (f : Flaw) → Shows s f → first_flaw s ≡ Err f
unfolding first_flaw
from s Check e = rw e
from s Kind (c, e) = rw (c, e)
from s Order (c, k, e) = rw (c, k, e)
from s ByteOne ((c, k, o), e) = rw (c, k, o, e)
from s Number ((c, k, o), b, e) = rw (c, k, o, b, e)
from s Used (((c, k, o), b, n), e) = rw (c, k, o, b, n, e)
from s Source ((((c, k, o), b, n), u), e) = rw (c, k, o, b, n, u, e)
from s (Fill i) ((((c, k, o), b, n), u), w, e) = rw (c, k, o, b, n, u, w, e)

pub first_told : FirstFlaw
first_told s f = (λ e. rw e at (ended s), from s f)

pub no_flaw : NoFlaw
unfolding first_flaw
no_flaw s = (λ e. rw e at (ended s), λ ((((c, k, o), b, n), u), w, e). rw (c, k, o, b, n, u, w, e))
