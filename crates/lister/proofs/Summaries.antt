-- What is told with a listing that stands in memory. Assumes nothing.
use Rattle.std.specs.Prelude.{Option, Some, None, Ok, Err}
use mathlib.Core.Path.{◌≡◌, refl, sym, ◌∙◌, ap}
use mathlib.Core.List.{List}
use mathlib.Core.Logic.{◌↔◌}
use Prim.Native.Nat.{ℕ, ◌<◌}
use native.Mathlib.Decide.{dec_le}
use native.Mathlib.Omega.{arith}
use lib.ListN.{length, length-append}
use borrow.Author.Tests.{ne_eqb, leb-true, leb-false}
use Rattle.lent.specs.Lent.{front}
use Rattle.lent.proofs.Laws.{front_stands}
use Rattle.model.proofs.Bytes.{events_length}
use Rattle.table.specs.Refusals as table
use Rattle.table.specs.declared.answer.Refusal.TheVariants as content
use Rattle.flaw.specs.Flaws as flaw
use Rattle.flaw.specs.declared.Flaw.TheVariants.{Check, Kind, Order, ByteOne, Number, Used, Source, Fill}
use Rattle.lines.specs.Lines.{header, refused_line}
use Rattle.house.specs.Limits.{most_bytes}
use Rattle.house.specs.File.{events_of, contents_of}
use Rattle.house.specs.Laws.{GoodFile}
use Rattle.house.specs.Reading.{verdict}
use Rattle.house.specs.Refusals.{told}
use Rattle.house.specs.declared.answer.Refusal.{Refusal}
use Rattle.house.specs.declared.answer.Refusal.TheVariants.{Length, Block, Standard, Content}
use Rattle.house.proofs.Laws.{read_exactly}
use Rattle.lister.specs.Judging.{row_room, RunsFile, Judges, refused, cramped, listed}
use Rattle.lister.specs.Listing.{event_room, result_room, true_length, listing_of, events_in, outcome_of, Kept}
use Rattle.lister.specs.Putting.{text_room, refusal_told, flag_told, summary_of, outcome_told, short, put}
use Rattle.lister.specs.Laws.{TextShort, TextNone, TextFits, TextPlaced, TextLists, TextGood, GoodSummary, GoodTold}
use Rattle.lister.specs.Laws.{OtherSummary, OtherTold, OneText}
use Rattle.lister.specs.Judged.{Judged}
use Rattle.lister.proofs.Built.{few_listed}
use Rattle.lister.proofs.Lengths.{own_length, too_long}
use Rattle.lister.proofs.Listed.{clash, refusals, passes, good_short, whole, long, not_cramped, one_judged}

-- WHETHER THERE IS ROOM

pub text_short : TextShort
text_short s n o r o' h (short e) = (refl, refl)
text_short s n o r o' h (put e l f) = absurd (omega (arith, leb-true text_room (length o) e))

-- every listing begins with a word
some_bytes : (j : Judged) (n : ℕ) (events results : List ℕ) → 0 < length (listing_of j n events results)
unfolding header refused_line
some_bytes (Err r) n events results = simp length-append (omega arith)
some_bytes (Ok (m, f)) n events results = simp length-append (omega arith)

pub text_none : TextNone
text_none s n o r o' (short e) = (λ _. leb-false text_room (length o) e, λ _. refl)
text_none s n o r o' (put {j} {events} {results} e l f) = (
  λ z. absurd (omega (arith, z, some_bytes j n events results)),
  λ h. absurd (omega (arith, h, leb-true text_room (length o) e)),
)

pub text_fits : TextFits
text_fits s n o r o' (short e) = omega arith
text_fits s n o r o' (put e l f) = f

-- THE FLAG

flag_within : (s o o' : List ℕ) (f : Option ℕ) → RunsFile s o o' f → (place : ℕ) → f ≡ Some place → place < length (events_of s)
flag_within s o o' None w place e = absurd (let z : ◌≡◌ {A = ℕ} 0 1 = cc in omega arith)
flag_within s o o' (Some k) w place e =
    let same : k ≡ place = cc in
    omega (arith, same, w.flag.0, events_length (events_of s))

placed : {s e o : List ℕ} {j : Judged} {e' o' : List ℕ} → Judges s e o j e' o' → (place : ℕ) → flag_told j ≡ Some place
    → place < events_in j
placed (refused v) place e = absurd (let z : ◌≡◌ {A = ℕ} 0 1 = cc in omega arith)
placed (cramped v l) place e = absurd (let z : ◌≡◌ {A = ℕ} 0 1 = cc in omega arith)
placed {s} {o} {o'} (listed {f} v l w) place e = flag_within s o o' f w place e

pub text_placed : TextPlaced
text_placed s n o r o' (short e) =
    record { few = omega arith; within = λ place e. absurd (let z : ◌≡◌ {A = ℕ} 0 1 = cc in omega arith) }
text_placed s n o r o' (put e l f) = record { few = few_listed l.judges; within = placed l.judges }

-- THE NUMBER

-- every refusal has one
numbered : (r : Refusal) → (told r).number ≡ 0 → ⊥
unfolding told flaw.told table.told
numbered (Length n) e = omega arith
numbered (Block Check k) e = omega arith
numbered (Block Kind k) e = omega arith
numbered (Block Order k) e = omega arith
numbered (Block ByteOne k) e = omega arith
numbered (Block Number k) e = omega arith
numbered (Block Used k) e = omega arith
numbered (Block Source k) e = omega arith
numbered (Block (Fill i) k) e = omega arith
numbered Standard e = omega arith
numbered (Content (content.Rows n)) e = omega arith
numbered (Content (content.States n)) e = omega arith
numbered (Content (content.Symbols n)) e = omega arith
numbered (Content (content.Entry i k)) e = omega arith
numbered (Content (content.Waiting n)) e = omega arith
numbered (Content (content.Losses n)) e = omega arith
numbered (Content (content.Event n)) e = omega arith
numbered (Content content.Unsound) e = omega arith
numbered (Content (content.Events n)) e = omega arith
numbered (Content (content.Buffer n)) e = omega arith

-- so it tells what the listing comes to
same_outcome : (j : Judged) (n : ℕ) (text : List ℕ) → outcome_told (summary_of j n text) ≡ outcome_of j
same_outcome (Err r) n text = rw (ne_eqb (told (true_length r n)).number 0 (numbered (true_length r n)))
same_outcome (Ok (m, f)) n text = refl

pub text_lists : TextLists
text_lists f s o r o' k l (short e) = absurd (omega (arith, l, leb-false text_room (length o) e))
text_lists f s o r o' k l (put {j} {events} {results} e leaves fits) =
    let text : List ℕ = listing_of j (length f) events results in (
      record {
        kept = s;
        judged = j;
        events = events;
        results = results;
        is_kept = k;
        leaves = leaves;
        text_is = (front_stands o text).start;
        outcome_is = same_outcome j (length f) text;
      },
      (front_stands o text).later,
    )

-- what is kept of a good file is good,
kept_good : (f s : List ℕ) → Kept f s → GoodFile f (contents_of f) → GoodFile s (contents_of s)
kept_good f s k g = rw (whole f s (good_short f g) k) g

-- and of no other file passes
passed_good : (f s : List ℕ) (room : ℕ) → Kept f s → verdict s row_room room ≡ Ok tt → GoodFile f (contents_of f)
passed_good f s room k v =
    elim (dec_le (length f) most_bytes) [
      | yes l ↦ rw (whole f s l k) at ((read_exactly s row_room room).0 v).0
      | no n ↦ absurd (clash (sym v ∙ too_long s row_room room (long f s (omega (arith, n)) k)))
    ]

good_number : (f s e o : List ℕ) (j : Judged) (e' o' : List ℕ) (n : ℕ) → Kept f s → length e ≡ event_room → length o ≡ result_room
    → Judges s e o j e' o' → (refusal_told j n).number ≡ 0 ↔ GoodFile f (contents_of f)
good_number f s e o j e' o' n k le lo (refused {r} v) = (
  λ z. absurd (numbered (true_length r n) z),
  λ g. absurd (clash (sym (passes s (length e) (omega arith) (kept_good f s k g)) ∙ v)),
)
good_number f s e o j e' o' n k le lo (cramped v l) = absurd (not_cramped s e o lo v l)
good_number f s e o j e' o' n k le lo (listed v l w) = (λ z. passed_good f s (length e) k v, λ g. refl)

pub text_good : TextGood
text_good f s o r o' k l (short e) = absurd (omega (arith, l, leb-false text_room (length o) e))
text_good f s o r o' k l (put {j} {events} {results} e h fits) =
    good_number f s h.events_before h.results_before j events results (length f) k h.event_room_is h.result_room_is h.judges

-- OF A GOOD FILE

good_from : (f e o : List ℕ) (j : Judged) (e' o' : List ℕ) (n : ℕ) (text : List ℕ) → length e ≡ event_room → length o ≡ result_room
    → GoodFile f (contents_of f) → Judges f e o j e' o' → GoodSummary f (summary_of j n text)
good_from f e o j e' o' n text le lo g (refused v) = absurd (clash (sym (passes f (length e) (omega arith) g) ∙ v))
good_from f e o j e' o' n text le lo g (cramped v l) = absurd (not_cramped f e o lo v l)
good_from f e o j e' o' n text le lo g (listed v l w) = record { unrefused = refl; events_are = refl; flag_is = w.flag }

pub good_told : GoodTold
good_told f s o r o' g k l (short e) = absurd (omega (arith, l, leb-false text_room (length o) e))
good_told f s o r o' g k l (put {j} {events} {results} e h fits) =
    let judges : Judges f h.events_before h.results_before j events results = rw (whole f s (good_short f g) k) at h.judges in
    good_from f h.events_before h.results_before j events results (length f) (listing_of j (length f) events results)
    h.event_room_is h.result_room_is g judges

-- OF ANY OTHER FILE

other_from : (f e o : List ℕ) (j : Judged) (e' o' : List ℕ) (text : List ℕ) → length e ≡ event_room → (GoodFile f (contents_of f) → ⊥)
    → Judges f e o j e' o' → OtherSummary f (summary_of j (length f) text)
other_from f e o j e' o' text le bad (refused {r} v) =
    record {
      refusal = r;
      refused_by = rw le at v;
      told_is = ap told (own_length f row_room (length e) r v);
      events_are = refl;
      flag_is = refl;
    }
other_from f e o j e' o' text le bad (cramped v l) = absurd (bad ((read_exactly f row_room (length e)).0 v).0)
other_from f e o j e' o' text le bad (listed v l w) = absurd (bad ((read_exactly f row_room (length e)).0 v).0)

-- one that is too long
long_from : (f s e o : List ℕ) (j : Judged) (e' o' : List ℕ) (text : List ℕ) → most_bytes < length f → most_bytes < length s
    → Judges s e o j e' o' → OtherSummary f (summary_of j (length f) text)
long_from f s e o j e' o' text h l (refused {r} v) =
    let is : Length (length s) ≡ r = refusals (sym (too_long s row_room (length e) l) ∙ v) in
    record {
      refusal = Length (length f);
      refused_by = too_long f row_room event_room h;
      told_is = ap (λ (x : Refusal). told (true_length x (length f))) (sym is);
      events_are = refl;
      flag_is = refl;
    }
long_from f s e o j e' o' text h l (cramped v x) = absurd (clash (sym v ∙ too_long s row_room (length e) l))
long_from f s e o j e' o' text h l (listed v x w) = absurd (clash (sym v ∙ too_long s row_room (length e) l))

pub other_told : OtherTold
other_told f s o r o' bad k l (short e) = absurd (omega (arith, l, leb-false text_room (length o) e))
other_told f s o r o' bad k l (put {j} {events} {results} e h fits) =
    let text : List ℕ = listing_of j (length f) events results in
    elim (dec_le (length f) most_bytes) [
      | yes m ↦
          let judges : Judges f h.events_before h.results_before j events results = rw (whole f s m k) at h.judges in
          other_from f h.events_before h.results_before j events results text h.event_room_is bad judges
      | no n ↦
          let m : most_bytes < length f = omega (arith, n) in
          long_from f s h.events_before h.results_before j events results text m (long f s m k) h.judges
    ]

-- ONE ANSWER

pub one_text : OneText
one_text s n o r₁ r₂ o₁ o₂ (short e) (short e') = (refl, refl)
one_text s n o r₁ r₂ o₁ o₂ (short e) (put e' l f) =
    absurd (omega (arith, leb-false text_room (length o) e, leb-true text_room (length o) e'))
one_text s n o r₁ r₂ o₁ o₂ (put e l f) (short e') =
    absurd (omega (arith, leb-false text_room (length o) e', leb-true text_room (length o) e))
one_text s n o r₁ r₂ o₁ o₂ (put {j = i} {events = a} {results = b} e l f) (put {j} {events = c} {results = d} e' l' f') =
    let (p, q) =
    one_judged s l.events_before l.results_before l'.events_before l'.results_before i j a b c d n l.event_room_is
    l'.event_room_is l.result_room_is l'.result_room_is l.judges l'.judges in (
      ap (λ (x : Judged). summary_of x n (listing_of i n a b)) p ∙ ap (summary_of j n) q,
      ap (front o) q,
    )
