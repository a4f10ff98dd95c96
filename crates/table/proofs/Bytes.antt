-- Looking up an entry: what the byte in its place says. Assumes nothing.
use mathlib.Core.Path.{◌≡◌, refl}
use Prim.Native.Nat.{ℕ}
use Rattle.model.specs.Table.{Table, entry, byte}
use Rattle.table.specs.Bytes.{next_of}
use Rattle.table.specs.Laws.{NextMeans}

-- What is looked up is what the entry says, whatever the count of states.
pub looked_up : (T : Table) (s k : ℕ) → next_of T.rows T.inputs T.outputs s k ≡ (entry T s k)
unfolding next_of entry byte
looked_up T s k = refl

pub next_means : NextMeans
next_means T s k = rw looked_up (λ t. (λ e. e, λ e. e), (λ e. e, λ e. e))
