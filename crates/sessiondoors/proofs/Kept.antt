-- Of the bytes of a session a feed changes the held inputs alone. Assumes nothing.
use mathlib.Core.Path.{◌≡◌, refl, sym, ap, ◌∙◌}
use mathlib.Core.List.{List, [], ◌∷◌, ◌++◌, append_assoc}
use Prim.Native.Nat.{ℕ, ◌+◌, ◌≤◌}
use native.Mathlib.Omega.{arith}
use lib.ListN.{length, get_or, take, drop, length-append}
use lib.Seq.{paste, take-length, length-take-le}
use Rattle.session.specs.declared.Session.{Session}
use Rattle.monitor.specs.declared.feed.Fed.{Fed}
use Rattle.monitor.specs.Feed as feed
use Rattle.monitor.specs.Feed.{Feeds}
use Rattle.lent.specs.Lent.{front, put_at}
use Rattle.lent.proofs.Laws.{put_at_fits}
use Rattle.sessiondoors.specs.Layout.{session_bytes, bytes_of, session_in}
use Rattle.sessiondoors.proofs.Lies.{counts}

-- the two have the same table and the same bounds
pub record Alike (s t : Session) : Type 0 where
  pub states : t.states ≡ s.states
  pub inputs : t.inputs ≡ s.inputs
  pub outputs : t.outputs ≡ s.outputs
  pub rows : t.rows ≡ s.rows
  pub waiting : t.waiting ≡ s.waiting
  pub losses : t.losses ≡ s.losses

itself : (s : Session) → Alike s s
itself s = record { states = refl; inputs = refl; outputs = refl; rows = refl; waiting = refl; losses = refl }

pub fed_alike : (s : Session) (b : ℕ) (r : Fed) → Feeds s b r → Alike s r.session
fed_alike s b _ (feed.unsound _) = itself s
fed_alike s b _ (feed.full _ _) = itself s
fed_alike s b _ (feed.invalid _ _ _) = itself s
fed_alike s b _ (feed.fed _ _ _ f) =
    record { states = f.states; inputs = f.inputs; outputs = f.outputs; rows = f.rows; waiting = f.waiting; losses = f.losses }

pub fed_held : (s : Session) (b : ℕ) (r : Fed) → length s.held ≡ 32 → Feeds s b r → length r.session.held ≡ 32
fed_held s b _ n (feed.unsound _) = n
fed_held s b _ n (feed.full _ _) = n
fed_held s b _ n (feed.invalid _ _ _) = n
fed_held s b _ n (feed.fed _ _ _ f) = f.held.size

-- bytes whose middle was pasted over
middle : (b h : List ℕ) → session_bytes ≤ length b → length h ≡ 32
    → paste b 2048 h (length h) ≡ front b (take 2048 b ++ h ++ (get_or b 2080 0 ∷ get_or b 2081 0 ∷ get_or b 2082 0 ∷ get_or b 2083 0 ∷ get_or b 2084 0 ∷ []))
middle b h k n =
    let five = get_or b 2080 0 ∷ get_or b 2081 0 ∷ get_or b 2082 0 ∷ get_or b 2083 0 ∷ get_or b 2084 0 ∷ [] in
    let t : length (take 2048 b) ≡ 2048 = length-take-le 2048 b (omega arith) in
    let l : length (take 2048 b ++ h ++ five) ≡ 2085 = simp length-append (omega (arith, t, n)) in
    ap (λ (i : ℕ). take 2048 b ++ take (length h) h ++ drop (2048 + i) b) n
    ∙ ap (λ (x : List ℕ). take 2048 b ++ x ++ drop 2080 b) (take-length h)
    ∙ ap (λ (x : List ℕ). take 2048 b ++ h ++ x) (counts b k)
    ∙ sym (ap (λ (i : ℕ). take 2048 b ++ h ++ five ++ drop i b) l ∙ append_assoc (take 2048 b ++ h) five (drop 2085 b))

-- the bytes of a session, with the held inputs of one that is alike
pub held_put : (w b x : List ℕ) (t : Session) → session_bytes ≤ length b → length t.held ≡ 32 → Alike (session_in w b) t
    → x ≡ put_at b 2048 t.held → x ≡ front b (bytes_of t)
unfolding bytes_of session_in
held_put w b x t k n a e =
    e ∙ put_at_fits b 2048 t.held (omega arith) ∙ rw (a.rows, a.states, a.inputs, a.outputs, a.waiting, a.losses) (middle b t.held k n)
