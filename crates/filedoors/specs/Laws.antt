-- What is shown of the functions, each under one sentence. proofs/Laws.antt proves them all. Assumes nothing.
use Rattle.std.specs.Prelude.{◌≡◌, Bool, true, false, List, ◌⊎◌, ◌↔◌, ℕ, ◌<◌, length, take, get_or}
use Rattle.house.specs.File.{contents_of}
use Rattle.house.specs.Laws.{GoodFile}
use Rattle.lister.specs.Listing.{Kept, Lists}
use Rattle.lister.specs.Putting.{text_room}
use Rattle.lister.specs.declared.Outcome.{Outcome}
use Rattle.filedoors.specs.Results.{run_size, read_size, listing_size}
use Rattle.filedoors.specs.Doors.{Running, Read, Listing}

-- A function answers false exactly when the memory for its results, or for a listing, is too short,
abbrev pub RunningFalse : Type 0
RunningFalse =
    (rows : List ℕ) (s i o B c : ℕ) (trace out t : List ℕ) (a : Bool) (out' t' : List ℕ) → Running rows s i o B c trace out t a out' t'
    → a ≡ false ↔ (length t < run_size)

abbrev pub ReadFalse : Type 0
ReadFalse =
    (file rows events t : List ℕ) (a : Bool) (rows' events' t' : List ℕ) → Read file rows events t a rows' events' t'
    → a ≡ false ↔ (length t < read_size)

abbrev pub ListingFalse : Type 0
ListingFalse =
    (file : List ℕ) (n : ℕ) (out t : List ℕ) (a : Bool) (out' t' : List ℕ) → Listing file n out t a out' t'
    → a ≡ false ↔ ((length out < text_room) ⊎ (length t < listing_size))

-- and nothing is written.
abbrev pub RunningFalseKeeps : Type 0
RunningFalseKeeps =
    (rows : List ℕ) (s i o B c : ℕ) (trace out t out' t' : List ℕ) → Running rows s i o B c trace out t false out' t'
    → (out' ≡ out) × (t' ≡ t)

abbrev pub ReadFalseKeeps : Type 0
ReadFalseKeeps =
    (file rows events t rows' events' t' : List ℕ) → Read file rows events t false rows' events' t'
    → (rows' ≡ rows) × (events' ≡ events) × (t' ≡ t)

abbrev pub ListingFalseKeeps : Type 0
ListingFalseKeeps =
    (file : List ℕ) (n : ℕ) (out t out' t' : List ℕ) → Listing file n out t false out' t' → (out' ≡ out) × (t' ≡ t)

-- As many bytes as word 3 of its results tells are the listing of the file, and word 0 is 0 exactly where that is good.
abbrev pub ListingLists : Type 0
ListingLists =
    (f file out t out' t' : List ℕ) → Kept f file → Listing file (length f) out t true out' t'
    → (o : Outcome) × Lists f (take (get_or t' 3 0) out') o

abbrev pub ListingGood : Type 0
ListingGood =
    (f file out t out' t' : List ℕ) → Kept f file → Listing file (length f) out t true out' t' → get_or t' 0 0 ≡ 0 ↔ GoodFile f (contents_of f)

-- Of one input there is one answer, and one content of each memory that was lent.
abbrev pub OneRunning : Type 0
OneRunning =
    (rows : List ℕ) (s i o B c : ℕ) (trace out t : List ℕ) (a₁ a₂ : Bool) (out₁ t₁ out₂ t₂ : List ℕ)
    → Running rows s i o B c trace out t a₁ out₁ t₁ → Running rows s i o B c trace out t a₂ out₂ t₂
    → (a₁ ≡ a₂) × (out₁ ≡ out₂) × (t₁ ≡ t₂)

abbrev pub OneRead : Type 0
OneRead =
    (file rows events t : List ℕ) (a₁ a₂ : Bool) (rows₁ events₁ t₁ rows₂ events₂ t₂ : List ℕ)
    → Read file rows events t a₁ rows₁ events₁ t₁ → Read file rows events t a₂ rows₂ events₂ t₂
    → (a₁ ≡ a₂) × (rows₁ ≡ rows₂) × (events₁ ≡ events₂) × (t₁ ≡ t₂)

abbrev pub OneListed : Type 0
OneListed =
    (file : List ℕ) (n : ℕ) (out t : List ℕ) (a₁ a₂ : Bool) (out₁ t₁ out₂ t₂ : List ℕ) → Listing file n out t a₁ out₁ t₁
    → Listing file n out t a₂ out₂ t₂ → (a₁ ≡ a₂) × (out₁ ≡ out₂) × (t₁ ≡ t₂)
