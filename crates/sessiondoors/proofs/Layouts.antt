-- Laws of the layout of a session. Assumes nothing.
use mathlib.Core.Path.{◌≡◌, sym, ◌∙◌}
use mathlib.Core.List.{List, [], ◌∷◌, ◌++◌}
use Prim.Native.Nat.{ℕ, ◌%◌, ◌^◌, ◌≤◌, ◌<◌}
use native.Mathlib.Omega.{arith}
use lib.ListN.{length, take, drop, length-append, length-drop}
use native.Mathlib.Nat.{le_refl, mod-eq_of_lt}
use lib.Seq.{take-take, length-take-le}
use Rattle.session.specs.Session.{Proper}
use Rattle.session.specs.declared.Session.{Session}
use Rattle.figures.specs.Figures.{flag_word}
use Rattle.sessiondoors.specs.Layout.{session_words, session_bytes, words_of, bytes_of, session_in}
use Rattle.lent.specs.Lent.{front, put_at}
use Rattle.lent.proofs.Laws.{put_fits, front_more}

-- READING

pub held_part : (b : List ℕ) → take 32 (take 32 (drop 2048 b)) ≡ take 32 (drop 2048 b)
held_part b = take-take 32 32 (drop 2048 b) (le_refl 32)

pub proper_in : (w b : List ℕ) → session_words ≤ length w → session_bytes ≤ length b → Proper (session_in w b)
unfolding session_in
proper_in w b h k =
    record {
      set = length-take-le 264 w (omega arith);
      held = length-take-le 32 (drop 2048 b) (rw length-drop (omega arith));
    }

-- WRITING

-- the set, and then what was seen
pub words_put : (d x y : List ℕ) (s : Session) (f : ℕ) → session_words ≤ length d → length s.set ≡ 264 → flag_word s.flag < 2 ^ 64
    → f ≡ flag_word s.flag % 2 ^ 64
    → x ≡ put_at d 0 s.set → y ≡ put_at x 264 (s.events ∷ s.arrived ∷ f ∷ []) → y ≡ front d (words_of s)
unfolding words_of
words_put d x y s f l n h g p q =
    let e : f ≡ flag_word s.flag = g ∙ mod-eq_of_lt h in
    let one : x ≡ front d s.set = p ∙ put_fits d s.set (omega arith) in
    q ∙ rw (one, e) (front_more d s.set (s.events ∷ s.arrived ∷ flag_word s.flag ∷ []) 264 (sym n) (omega arith))

-- the rows, then the held inputs, then the counts and bounds
pub bytes_put : (d x y z : List ℕ) (s : Session) → session_bytes ≤ length d → length s.rows ≡ 2048 → length s.held ≡ 32
    → x ≡ put_at d 0 s.rows → y ≡ put_at x 2048 s.held
    → z ≡ put_at y 2080 (s.states ∷ s.inputs ∷ s.outputs ∷ s.waiting ∷ s.losses ∷ []) → z ≡ front d (bytes_of s)
unfolding bytes_of
bytes_put d x y z s l n m p q r =
    let counts = s.states ∷ s.inputs ∷ s.outputs ∷ s.waiting ∷ s.losses ∷ [] in
    let one : x ≡ front d s.rows = p ∙ put_fits d s.rows (omega arith) in
    let two : y ≡ front d (s.rows ++ s.held) = q ∙ rw one (front_more d s.rows s.held 2048 (sym n) (omega arith)) in
    let k : 2080 ≡ length (s.rows ++ s.held) = simp length-append (omega arith) in
    r ∙ rw two (front_more d (s.rows ++ s.held) counts 2080 k (omega arith))
