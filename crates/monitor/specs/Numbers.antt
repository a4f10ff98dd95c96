-- Document 01, "Numbers for what is turned away", of feeding: which number is told when, in the document's order, 8, 9, 7, and with which
-- place. proofs/Numbers.antt proves the law. Assumes nothing.
use Rattle.std.specs.Prelude.{◌≡◌, [], ◌∷◌, ◌↔◌, ℕ, ◌<◌}
use Rattle.model.specs.Limits.{most_events}
use Rattle.model.specs.Model.{event}
use Rattle.table.specs.Numbers.{Tells, Alone, Among, IsValid}
use Rattle.table.specs.Test.{Test}
use Rattle.session.specs.declared.Session.{Session}
use Rattle.session.specs.Session.{Sound}
use Rattle.monitor.specs.declared.feed.Fed.{Fed}
use Rattle.monitor.specs.Feed.{Feeds}

-- What the test t of a feed tells of the session s and the byte b:
pub record TellsFeeding (s : Session) (b : ℕ) (t : Test) : Type 0 where
  -- 8 | session not sound | 0
  pub unsound : (p q : ℕ) → Tells t 8 p q ↔ ((Sound s → ⊥) × Alone 0 p q)
  -- 9 | events past the limit | the count. In feeding, number 9 counts this event too, so a full session gives 1,048,577.
  pub full : (p q : ℕ) → Tells t 9 p q ↔ (Sound s × (s.events ≡ most_events) × Alone 1048577 p q)
  -- 7 | event byte not valid | event index
  pub invalid : (p q : ℕ) → Tells t 7 p q
      ↔ (Sound s × (s.events < most_events) × (IsValid s.inputs s.outputs (event b) → ⊥) × Alone s.events p q)
  -- Feeding: 8, 9, 7, and no other number.
  pub among : Among (8 ∷ 9 ∷ 7 ∷ []) t

abbrev pub FeedingTells : Type 0
FeedingTells = (s : Session) (b : ℕ) (r : Fed) → Feeds s b r → TellsFeeding s b r.test
