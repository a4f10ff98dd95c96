-- What a writer has after one write and another. Assumes nothing.
use mathlib.Core.Path.{◌≡◌, sym, ◌∙◌, ap}
use mathlib.Core.Bool.{Bool, true}
use mathlib.Core.List.{List, ◌++◌, append_assoc}
use Prim.Native.Nat.{ℕ, ◌+◌, ◌-◌}
use lib.ListN.{length, take, drop}
use Rattle.std.proofs.Common.{Option, take-append-drop}
use Rattle.std.proofs.lemmas.List.{take_rest}
use Rattle.std.specs.Io.KnownBytes.{Appends}
use Rattle.std.proofs.KnownBytes.{Appends-nil, Appends-trans}
use Rattle.lister.specs.Judging.{Judges}
use Rattle.lister.specs.Listing.{event_room, result_room, joined, listing_of, outcome_of, unless_broken, Writes}
use Rattle.lister.specs.Judged.{Judged}
use Rattle.lister.specs.declared.Outcome.{Outcome}
use Rattle.lister.proofs.Joined.{joined_none}
use Rattle.lister.proofs.Putting.{joined_next}

-- what is left of some bytes after n more of them
pub left : (all done rest : List ℕ) (n : ℕ) → all ≡ done ++ rest → all ≡ (done ++ take n rest) ++ take (length rest - n) (drop n rest)
left all done rest n e =
    e ∙ ap (λ (l : List ℕ). done ++ l) (sym (take-append-drop n rest)) ∙ sym (append_assoc done (take n rest) (drop n rest))
    ∙ ap (λ (l : List ℕ). (done ++ take n rest) ++ l) (sym (take_rest rest n))

-- no text yet, and one more
pub appends_none : (text : ℕ → List ℕ) (b : Option (List ℕ)) → Appends b b (joined text 0)
appends_none text b = rw (joined_none text) (Appends-nil b)

pub appends_next : (text : ℕ → List ℕ) (k : ℕ) {q : List ℕ} (a b c : Option (List ℕ)) → q ≡ text k → Appends a b (joined text k) → Appends b c q
    → Appends a c (joined text (k + 1))
appends_next text k {q} a b c is h more = rw (joined_next text k q is) (Appends-trans a b c (joined text k) q h more)

-- what a listing that was said, or was not, leaves
pub writes : {s e o : List ℕ} {j : Judged} {e' o' : List ℕ} {a b : Option (List ℕ)} {n : ℕ} (said : Bool) {r : Outcome} → length e ≡ event_room
    → length o ≡ result_room → Judges s e o j e' o' → r ≡ unless_broken said (outcome_of j)
    → (said ≡ true → Appends a b (listing_of j n e' o')) → Writes a b s n r
writes {e} {o} {j} {e'} {o'} said le lo h x w =
    record {
      comes = record {
        judged = j;
        events = e';
        results = o';
        leaves = record { events_before = e; results_before = o; event_room_is = le; result_room_is = lo; judges = h };
        said = said;
        is = x;
      };
      written = w;
    }
