-- What the reader hands out, call by call. Assumes nothing.
use Rattle.std.specs.Prelude.{Some, None, Ok, Err}
use mathlib.Core.Path.{◌≡◌, refl, sym, ap, ◌∙◌, subst}
use mathlib.Core.Bool.{Bool, true, false, cond}
use mathlib.Core.List.{List, [], ◌∷◌, ◌++◌, append-nil}
use Prim.Native.Nat.{ℕ, zero, suc, ◌+◌, ◌≤◌, ◌<◌}
use native.Mathlib.Numerals.{add-one}
use native.Mathlib.Decide.{dec_lt}
use native.Mathlib.Omega.{arith}
use lib.Dec.{ltb}
use lib.Seq.{append_snoc}
use borrow.Author.Tests.{lt-ltb, le-ltb, eq-eqb, ne_eqb}
use lib.ListN.{length}
use Rattle.model.specs.Limits.{most_events}
use Rattle.capture.specs.Capture.{headed, record_at, records, right_at, octet_at, layout_at, octets}
use Rattle.capture.specs.Reading.{tested, taken_at, place_after}
use Rattle.capture.specs.Laws.{Takes, unheaded, ended, wrong, over, strange, handed, TakesExactly, HandedOut, no_more, call, InOrder, ExactlyTheEvents, ComesToItsEnd, LeftThere}
use Rattle.capture.specs.Answers.{Taken}
use Rattle.capture.proofs.Records
use Rattle.capture.proofs.Records.{there, octets_none, octets_more}

-- ONE CALL

module _ (s : List ℕ) (i : ℕ) where
  -- every answer that the tests lead to is the answer
  exact : (t : Taken) → Takes s i t → t ≡ taken_at s i
  unfolding taken_at tested
  exact t (unheaded e) = simp e
  exact t (ended e l) = simp (e, eq-eqb (length (record_at s i)) 0 (Records.ended s i l))
  exact t (wrong e l w) = simp (e, ne_eqb (length (record_at s i)) 0 (there s i l), w)
  exact t (over e l r m) = simp (e, ne_eqb (length (record_at s i)) 0 (there s i l), r, le-ltb i most_events m)
  exact t (strange e l r m w) = simp (e, ne_eqb (length (record_at s i)) 0 (there s i l), r, lt-ltb i most_events m, w)
  exact t (handed e l r m y) = simp (e, ne_eqb (length (record_at s i)) 0 (there s i l), r, lt-ltb i most_events m, y)

  given : {t : Taken} → Takes s i t → Takes s i (taken_at s i)
  given {t} x = subst (λ (y : Taken). Takes s i y) (exact t x) x

  -- and the tests lead to one
  takes : Takes s i (taken_at s i)
  takes = head (headed s) refl
    where
      octet : headed s ≡ true → i < records s → right_at s i ≡ true → i < most_events → (b : Bool) → layout_at s i ≡ b → Takes s i (taken_at s i)
      octet h l r m true e = given (handed h l r m e)
      octet h l r m false e = given (strange h l r m e)

      lengths : headed s ≡ true → i < records s → (b : Bool) → right_at s i ≡ b → Takes s i (taken_at s i)
      lengths h l false e = given (wrong h l e)
      lengths h l true e =
          elim (dec_lt i most_events) [
            | yes m ↦ octet h l e m (layout_at s i) refl
            | no m ↦ given (over h l e (omega arith))
          ]

      head : (b : Bool) → headed s ≡ b → Takes s i (taken_at s i)
      head false e = given (unheaded e)
      head true e =
          elim (dec_lt i (records s)) [
            | yes l ↦ lengths e l (right_at s i) refl
            | no l ↦ given (ended e (omega arith))
          ]

pub takes_exactly : TakesExactly
takes_exactly s i t = (exact s i t, λ e. subst (λ (y : Taken). Takes s i y) (sym e) (takes s i))

-- what is known where an event is handed out
pub record Read (s : List ℕ) (i b : ℕ) : Type 0 where
  pub header : headed s ≡ true
  pub below : i < records s
  pub lengths : right_at s i ≡ true
  pub few : i < most_events
  pub layout : layout_at s i ≡ true
  pub byte : b ≡ octet_at s i
  pub next : place_after (taken_at s i) i ≡ i + 1

module _ (s : List ℕ) (i : ℕ) where
  read_of : (b : ℕ) (t : Taken) → Takes s i t → t ≡ Ok (Some b) → taken_at s i ≡ Ok (Some b) → Read s i b
  read_of b t (unheaded e) f g = absurd (cc)
  read_of b t (ended e l) f g = absurd (cc)
  read_of b t (wrong e l w) f g = absurd (cc)
  read_of b t (over e l r m) f g = absurd (cc)
  read_of b t (strange e l r m w) f g = absurd (cc)
  read_of b t (handed e l r m y) f g =
      record {
        header = e;
        below = l;
        lengths = r;
        few = m;
        layout = y;
        byte = (cc);
        next = ap (λ (x : Taken). place_after x i) g;
      }

  pub read : (b : ℕ) → taken_at s i ≡ Ok (Some b) → Read s i b
  read b e = read_of b (taken_at s i) (takes s i) e e

  pub few : (b : ℕ) → taken_at s i ≡ Ok (Some b) → i < most_events
  few b e = (read b e).few

  -- and where the end is told
  ended_of : (t : Taken) → Takes s i t → t ≡ Ok None → (headed s ≡ true) × (records s ≤ i)
  ended_of t (unheaded e) f = absurd (cc)
  ended_of t (ended e l) f = (e, l)
  ended_of t (wrong e l w) f = absurd (cc)
  ended_of t (over e l r m) f = absurd (cc)
  ended_of t (strange e l r m w) f = absurd (cc)
  ended_of t (handed e l r m y) f = absurd (cc)

  at_end : taken_at s i ≡ Ok None → (headed s ≡ true) × (records s ≤ i)
  at_end e = ended_of (taken_at s i) (takes s i) e

-- where no event is handed out the place stays
stays : (t : Taken) (i : ℕ) → ((b : ℕ) → t ≡ Ok (Some b) → ⊥) → place_after t i ≡ i
stays (Ok (Some b)) i n = absurd (n b refl)
stays (Ok None) i n = refl
stays (Err r) i n = refl

pub left_there : LeftThere
left_there s i t e n =
    let p = stays t i n in
    (p, ap (taken_at s) p ∙ sym e)

-- no event is handed out at or above the limit, so the limit changes nothing of where the reader goes
pub place_kept : (s : List ℕ) (i : ℕ) → cond (ltb i most_events) (place_after (taken_at s i) i) i ≡ place_after (taken_at s i) i
place_kept s i = go (taken_at s i) refl
  where
    same : (b : Bool) → cond b i i ≡ i
    same true = refl
    same false = refl

    go : (t : Taken) → taken_at s i ≡ t → cond (ltb i most_events) (place_after t i) i ≡ place_after t i
    go (Ok (Some b)) e = simp (lt-ltb i most_events (few s i b e))
    go (Ok None) e = same (ltb i most_events)
    go (Err r) e = same (ltb i most_events)

-- CALL AFTER CALL

module _ (s : List ℕ) where
  -- what is handed out from place i to place j is what the octets up to j have more than those up to i
  adds : {i j : ℕ} {bytes : List ℕ} → HandedOut s i bytes j → octets s j ≡ octets s i ++ bytes
  adds {i} no_more = sym (append-nil (octets s i))
  adds {i} {j} (call {b = b} {bytes = bytes} e h) =
      let r = read s i b e in
      adds h
      ∙ ap (λ (k : ℕ). octets s k ++ bytes) r.next
      ∙ ap (λ (l : List ℕ). l ++ bytes) (octets_more s i ∙ ap (λ (x : ℕ). octets s i ++ (x ∷ [])) (sym r.byte))
      ∙ append_snoc (octets s i) b bytes

  -- it only goes on, and not past the records
  onward : {i j : ℕ} {bytes : List ℕ} → HandedOut s i bytes j → (i ≤ j) × (i ≤ records s → j ≤ records s)
  onward no_more = (omega arith, λ l. l)
  onward {i} (call {b = b} e h) =
      let r = read s i b e in
      let (a, f) = onward h in
      let n = r.next in
      let l = r.below in
      (omega arith, λ m. f (omega arith))

  -- every record on its way was read
  passed : {i j : ℕ} {bytes : List ℕ} → HandedOut s i bytes j → (k : ℕ) → i ≤ k → k < j → Read s k (octet_at s k)
  passed no_more k l m = absurd (omega arith)
  passed {i} (call {b = b} e h) k l m =
      let r = read s i b e in
      elim (dec_lt i k) [
        | yes n ↦ passed h k (rw r.next (omega arith)) m
        | no n ↦
            let f : i ≡ k = omega arith in
            let r' : Read s i (octet_at s i) = read s i (octet_at s i) (e ∙ ap (λ (x : ℕ). Ok (Some x)) r.byte) in
            rw (← f) r'
      ]

  -- one call more
  more : {i j b : ℕ} {bytes : List ℕ} → HandedOut s i bytes j → taken_at s j ≡ Ok (Some b) → HandedOut s i (bytes ++ (b ∷ [])) (j + 1)
  more {i} {j = j} {b = b} no_more e = call {j = j + 1} {bytes = []} e (rw (read s i b e).next no_more)
  more {j = j} (call f h) e = call {j = j + 1} f (more h e)

pub in_order : InOrder
in_order s bytes j h = (
  sym (adds s h ∙ ap (λ (l : List ℕ). l ++ bytes) (octets_none s)),
  (onward s h).1 (omega arith),
)

pub exactly_the_events : ExactlyTheEvents
exactly_the_events s bytes j x =
    let (h, l) = at_end s j x.end in
    let (e, m) = in_order s bytes j x.calls in
    let f : j ≡ records s = omega arith in
    let p : (k : ℕ) → k < records s → Read s k (octet_at s k) = λ k n. passed s x.calls k (omega arith) (omega arith) in (
      record {
        header = h;
        lengths = λ k n. (p k n).lengths;
        few =
            elim (dec_lt most_events (records s)) [
              | yes n ↦ let r = p most_events n in absurd (omega (arith, r.few))
              | no n ↦ omega arith
            ];
        layout = λ k n. (p k n).layout;
      },
      e ∙ ap (octets s) f,
      f,
    )

pub comes_to_its_end : ComesToItsEnd
comes_to_its_end s g = record { calls = go (records s) (omega arith); end = sym ((takes_exactly s (records s) (Ok None)).0 (ended g.header (omega arith))) }
  where
    go : (n : ℕ) → n ≤ records s → HandedOut s 0 (octets s n) n
    go zero l = rw (octets_none s) no_more
    go (suc n) l =
        let m : n < records s = omega arith in
        let few = g.few in
        let t = sym ((takes_exactly s n (Ok (Some (octet_at s n)))).0 (handed g.header m (g.lengths n m) (omega arith) (g.layout n m))) in
        rw (← add-one n, octets_more s n) (more s (go n (omega arith)) t)
