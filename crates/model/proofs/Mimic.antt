-- A device that does what another does, over related states, keeps what is plausible. Wider tables are a case of it. Assumes nothing.
use Rattle.std.specs.Prelude.{Some}
use mathlib.Core.Path.{◌≡◌, refl, ap}
use mathlib.Core.List.{List, [], ◌∷◌, ◌++◌}
use Prim.Native.Nat.{ℕ, suc, ◌+◌, ◌-◌, ◌≤◌, ◌<◌}
use native.Mathlib.Omega.{arith}
use lib.ListN.{length}
use Rattle.model.specs.Table.{Table}
use Rattle.model.specs.Model.{Device, box, Event, input, output, Place, place, Config, cfg, config, Move, arrive, take, lose, send, Step, Within, Run, seen, shows, start, Reached, Plausible}
use Rattle.model.specs.Demands.{Inserted, nothing, kept, more, InputOf, Wider, AllowingMore}
use Rattle.model.proofs.Reach.{here, before, once, joined}
use Rattle.model.proofs.Contained.{Below, step_below}
use Rattle.model.proofs.Inserted.{inserted_length, kept_last, more_last, none_inserted}

-- What D does in a state, D' does in each related state, and they are related again.
pub record Mimics (D D' : Device) (R : D.State → D'.State → Type 0) : Type 0 where
  pub inputs : D'.inputs ≡ D.inputs
  pub outputs : D'.outputs ≡ D.outputs
  pub begins : R D.initial D'.initial
  pub takes : (x y : D.State) (x' : D'.State) (a : ℕ) → a < D.inputs → R x x' → (D.taken x a ≡ Some y) → (y' : D'.State) × (D'.taken x' a ≡ Some y') × R y y'
  pub sends : (x y : D.State) (x' : D'.State) (a : ℕ) → a < D.outputs → R x x' → (D.sent x a ≡ Some y) → (y' : D'.State) × (D'.sent x' a ≡ Some y') × R y y'

module _ (D D' : Device) (R : D.State → D'.State → Type 0) (mimics : Mimics D D' R) (B c B' c' j : ℕ) (waits : B + j ≤ B') (loses : c + j ≤ c') where
  -- the extra inputs, in a line and in a trace
  abbrev InLine : ℕ → List ℕ → List ℕ → Type 0
  InLine = Inserted (λ a. a < D.inputs)

  abbrev InTrace : ℕ → List Event → List Event → Type 0
  InTrace = Inserted (InputOf D.inputs)

  -- p' is p with x more waiting, and at most y more lost since the last take
  record Near (p : Place D.State) (p' : Place D'.State) (x y : ℕ) : Type 0 where
    state : R p.state p'.state
    line : InLine x p.line p'.line
    least : p.run ≤ p'.run
    most : p'.run ≤ p.run + y
    total : x + y ≤ j

  near_within : (p : Place D.State) (p' : Place D'.State) (x y : ℕ) → Near p p' x y → Within D B c p → Within D' B' c' p'
  near_within p p' x y n (k, k') = (omega (arith, inserted_length n.line), omega (arith, n.most, n.total))

  -- within the bounds, or at the start, where no loss stands against even c = 0
  abbrev Calm : Place D.State → Type 0
  Calm p = (length p.line ≤ B) × (p.run ≤ c - 1)

  calm : (p : Place D.State) → Within D B c p → Calm p
  calm p (k, k') = (k, omega arith)

  -- EXTRA INPUTS AT THE HEAD ARE LOST

  record Flushed (a : ℕ) (s : D'.State) (l l' : List ℕ) (r x : ℕ) : Type 0 where
    rest : List ℕ
    left : ℕ
    run : ℕ
    reached : Reached D' B' c' (place s l' r) [] (place s (a ∷ rest) run)
    line : InLine left l rest
    total : left + run ≡ r + x
    most : r ≤ run

  flush : (a : ℕ) (s : D'.State) (l : List ℕ) {x : ℕ} {l' : List ℕ} (r : ℕ) → InLine x (a ∷ l) l' → length l' ≤ B' → r + x < c' → Flushed a s l l' r x
  flush a s l r (kept {j = x} {l' = l₂} _ i) b f =
      record { rest = l₂; left = x; run = r; reached = here D' B' c' (place s (a ∷ l₂) r); line = i; total = omega arith; most = omega arith }
  flush a s l r (more {l' = l'} e v i) b f =
      let g = flush a s l (suc r) i (omega arith) (omega arith) in
      record {
        rest = g.rest;
        left = g.left;
        run = g.run;
        reached = before D' B' c' lose (place s (e ∷ l') r) (place s l' (suc r)) (place s (a ∷ g.rest) g.run) [] (e, l', refl, refl) (omega arith, omega arith) g.reached;
        line = g.line;
        total = omega (arith, g.total);
        most = omega (arith, g.most);
      }

  -- ONE MOVE IS FOLLOWED

  -- the extra inputs ride in the line, and are lost when they stand before the input that is taken or lost
  record Followed (m : Move) (q : Place D.State) (p' : Place D'.State) (x y : ℕ) : Type 0 where
    place' : Place D'.State
    waiting : ℕ
    lost : ℕ
    total : waiting + lost ≡ x + y
    near : Near q place' waiting lost
    reached : Reached D' B' c' p' (seen m) place'

  -- the move m, made last
  at_last : (m : Move) (p p₁ q : Place D'.State) → Reached D' B' c' p [] p₁ → Step D' p₁ m q → Within D' B' c' q → Reached D' B' c' p (seen m) q
  at_last m p p₁ q g st w = joined D' B' c' p p₁ q [] (seen m) g (once D' B' c' m p₁ q st w)

  take_flushed : (a : ℕ) (s : D.State) (l : List ℕ) (p : Place D.State) (p' : Place D'.State) (x y : ℕ) → a < D.inputs → D.taken p.state a ≡ Some s → Within D B c (place s l 0)
      → Near p p' x y → Flushed a p'.state l p'.line p'.run x → Followed take (place s l 0) p' x y
  take_flushed a s l p p' x y v f w n g =
      let (s', f', e) = mimics.takes p.state s p'.state a v n.state f in
      let z : Near (place s l 0) (place s' g.rest 0) g.left (x + y - g.left) = record { state = e; line = g.line; least = omega arith; most = omega arith; total = omega (arith, g.total, g.most, n.total) } in
      record {
        place' = place s' g.rest 0;
        waiting = g.left;
        lost = x + y - g.left;
        total = omega (arith, g.total, g.most);
        near = z;
        reached = at_last take p' (place p'.state (a ∷ g.rest) g.run) (place s' g.rest 0) g.reached (a, g.rest, s', refl, f', refl)
            (near_within (place s l 0) (place s' g.rest 0) g.left (x + y - g.left) z w);
      }

  lose_flushed : (a : ℕ) (l : List ℕ) (p : Place D.State) (p' : Place D'.State) (x y : ℕ) → Within D B c (place p.state l (suc p.run)) → Near p p' x y
      → Flushed a p'.state l p'.line p'.run x → Followed lose (place p.state l (suc p.run)) p' x y
  lose_flushed a l p p' x y w n g =
      let q = place p.state l (suc p.run) in
      let q' = place p'.state g.rest (suc g.run) in
      let z : Near q q' g.left (x + y - g.left) =
      record { state = n.state; line = g.line; least = omega (arith, n.least, g.most); most = omega (arith, n.most, g.total, g.most); total = omega (arith, g.total, g.most, n.total) } in
      record {
        place' = q';
        waiting = g.left;
        lost = x + y - g.left;
        total = omega (arith, g.total, g.most);
        near = z;
        reached = at_last lose p' (place p'.state (a ∷ g.rest) g.run) q' g.reached (a, g.rest, refl, refl) (near_within q q' g.left (x + y - g.left) z w);
      }

  -- the line of p' before an input is taken or lost in p
  flushed : (a : ℕ) (l : List ℕ) (p : Place D.State) (p' : Place D'.State) (x y : ℕ) → p.line ≡ a ∷ l → Calm p → 1 ≤ c → Near p p' x y → Flushed a p'.state l p'.line p'.run x
  flushed a l p p' x y e k one n =
      flush a p'.state l p'.run (rw e at n.line) (omega (arith, k.0, inserted_length n.line, n.total)) (omega (arith, k.1, n.most, n.total))

  follow : (m : Move) (p q : Place D.State) (p' : Place D'.State) (x y : ℕ) → Step D p m q → Below D.inputs p.line → Calm p → Within D B c q → Near p p' x y → Followed m q p' x y
  follow (arrive a) p q p' x y (k, e) b w w' n =
      let q' = place p'.state (p'.line ++ (a ∷ [])) p'.run in
      let z : Near q q' x y = rw e (record { state = n.state; line = kept_last a n.line; least = n.least; most = n.most; total = n.total }) in
      record { place' = q'; waiting = x; lost = y; total = refl; near = z; reached = once D' B' c' (arrive a) p' q' (rw mimics.inputs k, refl) (near_within q q' x y z w') }
  follow (send a) p q p' x y (k, s, f, e) b w w' n =
      let (s', f', g) = mimics.sends p.state s p'.state a k n.state f in
      let q' = place s' p'.line p'.run in
      let z : Near q q' x y = rw e (record { state = g; line = n.line; least = n.least; most = n.most; total = n.total }) in
      record { place' = q'; waiting = x; lost = y; total = refl; near = z; reached = once D' B' c' (send a) p' q' (rw mimics.outputs k, s', f', refl) (near_within q q' x y z w') }
  follow take p q p' x y (a, l, s, e, f, e') b w w' n =
      let v : Within D B c (place s l 0) = rw e' at w' in
      rw e' (take_flushed a s l p p' x y (rw e at b).0 f v n (flushed a l p p' x y e w (omega arith) n))
  follow lose p q p' x y (a, l, e, e') b w w' n =
      let v : Within D B c (place p.state l (suc p.run)) = rw e' at w' in
      rw e' (lose_flushed a l p p' x y v n (flushed a l p p' x y e w (omega arith) n))

  -- A RUN IS FOLLOWED

  -- D' shows the trace t from p' and ends near q
  record Result (p' : Place D'.State) (t : List Event) (q : Place D.State) : Type 0 where
    end : Place D'.State
    waiting : ℕ
    lost : ℕ
    reached : Reached D' B' c' p' t end
    near : Near q end waiting lost

  abbrev with_extra : Place D'.State → ℕ → Place D'.State
  with_extra p a = place p.state (p.line ++ (a ∷ [])) p.run

  extra_near : (a : ℕ) (p : Place D.State) (p' : Place D'.State) (x y i : ℕ) → a < D.inputs → Near p p' x y → x + y + suc i ≤ j → Near p (with_extra p' a) (suc x) y
  extra_near a p p' x y i v n k = record { state = n.state; line = more_last a v n.line; least = n.least; most = n.most; total = omega arith }

  -- an inserted input arrives
  extra : (a : ℕ) (p : Place D.State) (p' : Place D'.State) (q : Place D.State) (x y : ℕ) (t : List Event) → a < D.inputs → Calm p → Near p (with_extra p' a) (suc x) y
      → Result (with_extra p' a) t q → Result p' (input a ∷ t) q
  extra a p p' q x y t v w n g =
      record {
        end = g.end;
        waiting = g.waiting;
        lost = g.lost;
        reached = before D' B' c' (arrive a) p' (with_extra p' a) g.end t (rw mimics.inputs v, refl)
            (omega (arith, inserted_length n.line, n.total, w.0), omega (arith, n.most, n.total, w.1)) g.reached;
        near = g.near;
      }

  -- the inputs inserted at the end of the trace
  rest : (p : Place D.State) (p' : Place D'.State) (x y : ℕ) {i : ℕ} {t : List Event} → InTrace i [] t → Calm p → Near p p' x y → x + y + i ≤ j → Result p' t p
  rest p p' x y nothing w n k = record { end = p'; waiting = x; lost = y; reached = here D' B' c' p'; near = n }
  rest p p' x y (more {j = i} {l' = t} e (a, v, is) ins) w n k =
      let n₂ = extra_near a p p' x y i v n k in
      rw is (extra a p p' p x y t v w n₂ (rest p (with_extra p' a) (suc x) y ins w n₂ (omega arith)))

  -- the rest of the run can be followed
  abbrev Goes : Place D.State → Place D.State → List Event → Type 0
  Goes p q t = (p' : Place D'.State) (x y i : ℕ) (t' : List Event) → InTrace i t t' → Near p p' x y → x + y + i ≤ j → Result p' t' q

  -- a move made, and then the rest of the run followed
  then : (m : Move) (p q : Place D.State) (p' : Place D'.State) (x y i : ℕ) (t t' : List Event) → Followed m p p' x y → x + y + i ≤ j → InTrace i t t' → Goes p q t → Result p' (seen m ++ t') q
  then m p q p' x y i t t' f k ins goes =
      let g = goes f.place' f.waiting f.lost i t' ins f.near (omega (arith, f.total)) in
      record { end = g.end; waiting = g.waiting; lost = g.lost; reached = joined D' B' c' p' f.place' g.end (seen m) t' f.reached g.reached; near = g.near }

  -- a move that shows the event e, and the inputs inserted before it
  loud : (m : Move) (e : Event) (t : List Event) (p p₁ q : Place D.State) (p' : Place D'.State) (x y : ℕ) {i : ℕ} {t' : List Event} → seen m ≡ e ∷ [] → Step D p m p₁ → Below D.inputs p.line
      → Calm p → Within D B c p₁ → Goes p₁ q t → InTrace i (e ∷ t) t' → Near p p' x y → x + y + i ≤ j → Result p' t' q
  loud m e t p p₁ q p' x y s st b w w₁ goes (kept {j = i} {l' = t'} _ ins) n k =
      rw s at (then m p₁ q p' x y i t t' (follow m p p₁ p' x y st b w w₁ n) k ins goes)
  loud m e t p p₁ q p' x y s st b w w₁ goes (more {j = i} {l' = t'} _ (a, v, is) ins) n k =
      let n₂ = extra_near a p p' x y i v n k in
      rw is (extra a p p' q x y t' v w n₂ (loud m e t p p₁ q (with_extra p' a) (suc x) y s st b w w₁ goes ins n₂ (omega arith)))

  simulate : (ms : List Move) (p q : Place D.State) → Run D B c p ms q → Below D.inputs p.line → Calm p → Goes p q (shows ms)
  simulate [] p q e b w p' x y i t ins n k = rw (← e) (rest p p' x y ins w n k)
  simulate (arrive a ∷ ms) p q (p₁, st, w₁, r) b w p' x y i t ins n k =
      loud (arrive a) (input a) (shows ms) p p₁ q p' x y refl st b w w₁ (simulate ms p₁ q r (step_below D (arrive a) p p₁ st b) (calm p₁ w₁)) ins n k
  simulate (take ∷ ms) p q (p₁, st, w₁, r) b w p' x y i t ins n k =
      then take p₁ q p' x y i (shows ms) t (follow take p p₁ p' x y st b w w₁ n) k ins (simulate ms p₁ q r (step_below D take p p₁ st b) (calm p₁ w₁))
  simulate (lose ∷ ms) p q (p₁, st, w₁, r) b w p' x y i t ins n k =
      then lose p₁ q p' x y i (shows ms) t (follow lose p p₁ p' x y st b w w₁ n) k ins (simulate ms p₁ q r (step_below D lose p p₁ st b) (calm p₁ w₁))
  simulate (send a ∷ ms) p q (p₁, st, w₁, r) b w p' x y i t ins n k =
      loud (send a) (output a) (shows ms) p p₁ q p' x y refl st b w w₁ (simulate ms p₁ q r (step_below D (send a) p p₁ st b) (calm p₁ w₁)) ins n k

  start_near : Near (start D) (start D') 0 0
  start_near = record { state = mimics.begins; line = nothing; least = omega arith; most = omega arith; total = omega arith }

  followed : (t t' : List Event) (q : Place D.State) → InTrace j t t' → Reached D B c (start D) t q → Result (start D') t' q
  followed t t' q ins (ms, r, e) = simulate ms (start D) q r tt (omega arith, omega arith) (start D') 0 0 j t' (rw e ins) start_near (omega arith)

  -- With j more inputs, j more places in line and j more losses allowed, a related state is plausible.
  pub mimicked : (t t' : List Event) (x : Config D.State) → InTrace j t t' → Plausible D B c t x → (y : Config D'.State) × R x.state y.state × Plausible D' B' c' t' y
  mimicked t t' x ins (q, r, k) =
      let g = followed t t' q ins r in
      (config g.end, rw (← k) g.near.state, (g.end, g.reached, refl))

  -- With none, as many wait and as many are lost.
  pub mimicked_same : (t t' : List Event) (x : Config D.State) → j ≡ 0 → InTrace j t t' → Plausible D B c t x → (s : D'.State) × R x.state s × Plausible D' B' c' t' (cfg s x.waiting x.run)
  mimicked_same t t' x z ins (q, r, k) =
      let g = followed t t' q ins r in
      let n = g.near in
      let l : g.end.line ≡ q.line = none_inserted n.line (omega (arith, n.total)) in
      let u : g.end.run ≡ q.run = omega (arith, n.least, n.most, n.total) in
      rw (← k) (g.end.state, n.state, (g.end, g.reached, rw (l, u)))

-- WIDER TABLES

box_wider : (T T' : Table) → Wider T T' → Mimics (box T) (box T') (λ s s'. s' ≡ s)
box_wider T T' w =
    record {
      inputs = w.inputs;
      outputs = w.outputs;
      begins = refl;
      takes = λ x y x' a v e f. (y, rw e (w.agrees x a y (omega arith) f), refl);
      sends = λ x y x' a v e f. (y, cc (e, ap (λ (n : ℕ). n + a) w.inputs, w.agrees x (T.inputs + a) y (omega arith) f), refl);
    }

-- Demand 3.
pub allowing_more : AllowingMore
allowing_more T T' B c B' c' j t t' k =
    record {
      state = λ s w r p. state s (mimicked (box T) (box T') (λ s s'. s' ≡ s) (box_wider T T' k.table) B c B' c' j (omega (arith, k.waiting)) (omega (arith, k.losses)) t t' (cfg s w r) k.inputs p);
      same = λ z x p. same x (mimicked_same (box T) (box T') (λ s s'. s' ≡ s) (box_wider T T' k.table) B c B' c' j (omega (arith, k.waiting)) (omega (arith, k.losses)) t t' x z k.inputs p);
    }
  where
    state : (s : ℕ) → (y : Config ℕ) × (y.state ≡ s) × Plausible (box T') B' c' t' y → (w : ℕ) × (r : ℕ) × Plausible (box T') B' c' t' (cfg s w r)
    state s (y, e, q) = (y.waiting, y.run, rw e at q)

    same : (x : Config ℕ) → (s : ℕ) × (s ≡ x.state) × Plausible (box T') B' c' t' (cfg s x.waiting x.run) → Plausible (box T') B' c' t' x
    same x (s, e, q) = rw e at q
