-- A session and the words and bytes that it is: what goes in comes out, both ways. Assumes nothing.
use mathlib.Core.Path.{◌≡◌, sym, ap, ◌∙◌}
use mathlib.Core.List.{List, [], ◌∷◌, ◌++◌, append_assoc, append-nil}
use Prim.Native.Nat.{ℕ, ◌+◌, ◌≤◌}
use native.Mathlib.Omega.{arith}
use lib.ListN.{length, get_or, take, drop, length-append, take-append-drop}
use lib.Seq.{take_at, drop_at, get_or-append-add, drop-cons, take-add, take_all, length-take-le}
use Rattle.session.specs.declared.Session.{Session}
use Rattle.lent.specs.Lent.{front}
use Rattle.figures.specs.Figures.{flag_word, flag_in}
use Rattle.figures.proofs.Laws.{flag_kept, flag_back}
use Rattle.sessiondoors.specs.Layout.{session_words, session_bytes, words_of, bytes_of, session_in}
use Rattle.sessiondoors.specs.Laws.{Sized, SessionBack, SessionLies, WordsBack, BytesBack, WordsKept, BytesKept}

-- FROM MEMORY TO A SESSION AND BACK

-- what is behind the set, and behind the held inputs
seen : (w : List ℕ) → session_words ≤ length w → drop 264 w ≡ get_or w 264 0 ∷ get_or w 265 0 ∷ get_or w 266 0 ∷ drop 267 w
seen w h = drop-cons w 264 0 (omega arith) ∙ ap (λ (r : List ℕ). get_or w 264 0 ∷ r) (drop-cons w 265 0 (omega arith) ∙ ap (λ (r : List ℕ). get_or w 265 0 ∷ r) (drop-cons w 266 0 (omega arith)))

pub counts : (b : List ℕ) → session_bytes ≤ length b
    → drop 2080 b ≡ get_or b 2080 0 ∷ get_or b 2081 0 ∷ get_or b 2082 0 ∷ get_or b 2083 0 ∷ get_or b 2084 0 ∷ drop 2085 b
counts b h =
    drop-cons b 2080 0 (omega arith)
    ∙ ap (λ (r : List ℕ). get_or b 2080 0 ∷ r)
    (drop-cons b 2081 0 (omega arith)
    ∙ ap (λ (r : List ℕ). get_or b 2081 0 ∷ r)
    (drop-cons b 2082 0 (omega arith)
    ∙ ap (λ (r : List ℕ). get_or b 2082 0 ∷ r)
    (drop-cons b 2083 0 (omega arith) ∙ ap (λ (r : List ℕ). get_or b 2083 0 ∷ r) (drop-cons b 2084 0 (omega arith)))))

words_are : (w b : List ℕ) → session_words ≤ length w → words_of (session_in w b) ≡ take 267 w
unfolding words_of session_in
words_are w b h =
    ap (λ (f : ℕ). take 264 w ++ (get_or w 264 0 ∷ get_or w 265 0 ∷ f ∷ [])) (flag_kept (get_or w 266 0))
    ∙ sym (take-add 264 3 w ∙ ap (λ (r : List ℕ). take 264 w ++ take 3 r) (seen w h))

bytes_are : (w b : List ℕ) → session_bytes ≤ length b → bytes_of (session_in w b) ≡ take 2085 b
unfolding bytes_of session_in
bytes_are w b h =
    sym
    (take-add 2080 5 b
    ∙ ap (λ (r : List ℕ). take 2080 b ++ take 5 r) (counts b h)
    ∙ ap (λ (r : List ℕ). r ++ (get_or b 2080 0 ∷ get_or b 2081 0 ∷ get_or b 2082 0 ∷ get_or b 2083 0 ∷ get_or b 2084 0 ∷ [])) (take-add 2048 32 b))

-- what is put where it was
put_back : (n : ℕ) (l p : List ℕ) → n ≤ length l → p ≡ take n l → front l p ≡ l
put_back n l p h e = rw (e, length-take-le n l h) (take-append-drop n l)

pub words_kept : WordsKept
words_kept w b h = put_back 267 w (words_of (session_in w b)) h (words_are w b h)

pub bytes_kept : BytesKept
bytes_kept w b h = put_back 2085 b (bytes_of (session_in w b)) h (bytes_are w b h)

pub words_back : WordsBack
words_back w b e = words_are w b (omega arith) ∙ take_all 267 w (omega arith)

pub bytes_back : BytesBack
bytes_back w b e = bytes_are w b (omega arith) ∙ take_all 2085 b (omega arith)

-- FROM A SESSION TO MEMORY AND BACK

-- a place behind p
behind : (p l : List ℕ) (n k : ℕ) → length p ≡ n → get_or (p ++ l) (n + k) 0 ≡ get_or l k 0
behind p l n k e = rw (sym e) (get_or-append-add p l k 0)

-- field by field
session_is : (s : Session) (w b : List ℕ) → take 264 w ≡ s.set → get_or w 264 0 ≡ s.events → get_or w 265 0 ≡ s.arrived
    → flag_in (get_or w 266 0) ≡ s.flag → take 2048 b ≡ s.rows → take 32 (drop 2048 b) ≡ s.held → get_or b 2080 0 ≡ s.states
    → get_or b 2081 0 ≡ s.inputs → get_or b 2082 0 ≡ s.outputs → get_or b 2083 0 ≡ s.waiting → get_or b 2084 0 ≡ s.losses → session_in w b ≡ s
unfolding session_in
session_is s w b x₀ x₁ x₂ x₃ y₀ y₁ y₂ y₃ y₄ y₅ y₆ = rw (x₀, x₁, x₂, x₃, y₀, y₁, y₂, y₃, y₄, y₅, y₆)

-- in memory that goes on behind it
lies : (s : Session) (x y : List ℕ) → Sized s → session_in (words_of s ++ x) (bytes_of s ++ y) ≡ s
unfolding words_of bytes_of
lies s x y z =
    let tail = s.events ∷ s.arrived ∷ flag_word s.flag ∷ [] in
    let w = s.set ++ tail ++ x in
    let wide : w ≡ s.set ++ (tail ++ x) = append_assoc s.set tail x in
    let five = s.states ∷ s.inputs ∷ s.outputs ∷ s.waiting ∷ s.losses ∷ [] in
    let b = s.rows ++ s.held ++ five ++ y in
    let long : b ≡ s.rows ++ s.held ++ (five ++ y) = append_assoc (s.rows ++ s.held) five y in
    let deep : b ≡ s.rows ++ (s.held ++ (five ++ y)) = long ∙ append_assoc s.rows s.held (five ++ y) in
    let size : length (s.rows ++ s.held) ≡ 2080 = simp length-append (omega (arith, z.rows, z.held)) in
    let at_word : (k : ℕ) → get_or w (264 + k) 0 ≡ get_or (tail ++ x) k 0 = λ k. ap (λ (l : List ℕ). get_or l (264 + k) 0) wide ∙ behind s.set (tail ++ x) 264 k z.set in
    let at_byte : (k : ℕ) → get_or b (2080 + k) 0 ≡ get_or (five ++ y) k 0 = λ k. ap (λ (l : List ℕ). get_or l (2080 + k) 0) long ∙ behind (s.rows ++ s.held) (five ++ y) 2080 k size in
    session_is
    s
    w
    b
    (ap (λ (l : List ℕ). take 264 l) wide ∙ take_at s.set (tail ++ x) 264 z.set)
    (at_word 0)
    (at_word 1)
    (ap flag_in (at_word 2) ∙ flag_back s.flag)
    (ap (λ (l : List ℕ). take 2048 l) deep ∙ take_at s.rows (s.held ++ (five ++ y)) 2048 z.rows)
    (ap (λ (l : List ℕ). take 32 (drop 2048 l)) deep ∙ ap (λ (l : List ℕ). take 32 l) (drop_at s.rows (s.held ++ (five ++ y)) 2048 z.rows) ∙ take_at s.held (five ++ y) 32 z.held)
    (at_byte 0)
    (at_byte 1)
    (at_byte 2)
    (at_byte 3)
    (at_byte 4)

pub session_lies : SessionLies
session_lies s w b z = lies s (drop (length (words_of s)) w) (drop (length (bytes_of s)) b) z

many_words : (s : Session) → Sized s → length (words_of s) ≡ session_words
unfolding words_of
many_words s z = simp length-append (omega (arith, z.set))

many_bytes : (s : Session) → Sized s → length (bytes_of s) ≡ session_bytes
unfolding bytes_of
many_bytes s z = simp length-append (omega (arith, z.rows, z.held))

pub session_back : SessionBack
session_back s z =
    record {
      words = many_words s z;
      bytes = many_bytes s z;
      same = ap² (sym (append-nil (words_of s))) (sym (append-nil (bytes_of s))) ∙ lies s [] [] z;
    }
  where
    ap² : {w w' b b' : List ℕ} → w ≡ w' → b ≡ b' → session_in w b ≡ session_in w' b'
    ap² e f = rw (e, f)
