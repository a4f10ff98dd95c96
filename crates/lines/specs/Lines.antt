-- Document 01, "Small cases": the lines of a listing, byte by byte. Assumes nothing.
use Rattle.std.specs.Prelude.{Bool, true, cond, ◌&&◌, List, [], ◌∷◌, ◌++◌, ℕ, ◌-◌, eqb, ltb, leb, get_or, Option, Some, None}
use Rattle.table.specs.declared.answer.Told.{Told}
use Rattle.run.specs.Run.{eight}
pub use Rattle.run.specs.Run.{four}
use Rattle.lines.specs.Texts.{decimal, hexadecimal}

-- One space between fields;
abbrev pub space : ℕ
space = 32

-- every line, the last too, ends with one line feed.
abbrev pub line_feed : ℕ
line_feed = 10

abbrev pub dash : ℕ
dash = 45

-- The first line: "event symbol states waiting run".
unfoldable pub header : List ℕ
header =
    101 ∷ 118 ∷ 101 ∷ 110 ∷ 116 ∷ space ∷ 115 ∷ 121 ∷ 109 ∷ 98 ∷ 111 ∷ 108 ∷ space ∷ 115 ∷ 116 ∷ 97 ∷ 116 ∷ 101 ∷ 115 ∷ space
    ∷ 119 ∷ 97 ∷ 105 ∷ 116 ∷ 105 ∷ 110 ∷ 103 ∷ space ∷ 114 ∷ 117 ∷ 110 ∷ line_feed ∷ []

-- i or o with the symbol;
abbrev pub symbol : ℕ → List ℕ
symbol b = cond (ltb b 128) (105 ∷ decimal b) (111 ∷ decimal (b - 128))

-- The plausible states: the number that the first eight of a run's twelve bytes are.
abbrev pub states_in : List ℕ → ℕ
states_in twelve = eight twelve 0

-- least and most, a dash for the pair when the set is empty: there is no state then.
abbrev pub pair : ℕ → ℕ → ℕ → List ℕ
pair states least most = cond (eqb states 0) (dash ∷ []) (decimal least ++ (dash ∷ decimal most))

-- Fields: event index; i or o with the symbol; plausible states as 16 lower-case hexadecimal digits; least and most waiting; least and
-- most run.
unfoldable pub event_line : ℕ → ℕ → List ℕ → List ℕ
event_line k b twelve =
    decimal k ++ (space ∷ symbol b) ++ (space ∷ hexadecimal (states_in twelve))
    ++ (space ∷ pair (states_in twelve) (get_or twelve 8 0) (get_or twelve 9 0))
    ++ (space ∷ pair (states_in twelve) (get_or twelve 10 0) (get_or twelve 11 0))
    ++ (line_feed ∷ [])

-- "consistent", "flagged", "refused"
abbrev pub consistent : List ℕ
consistent = 99 ∷ 111 ∷ 110 ∷ 115 ∷ 105 ∷ 115 ∷ 116 ∷ 101 ∷ 110 ∷ 116 ∷ []

abbrev pub flagged : List ℕ
flagged = 102 ∷ 108 ∷ 97 ∷ 103 ∷ 103 ∷ 101 ∷ 100 ∷ []

abbrev pub refused : List ℕ
refused = 114 ∷ 101 ∷ 102 ∷ 117 ∷ 115 ∷ 101 ∷ 100 ∷ []

-- The last line: the flag's place, or, with no flag, `consistent`.
unfoldable pub last_line : Option ℕ → List ℕ
last_line None = consistent ++ (line_feed ∷ [])
last_line (Some place) = flagged ++ (space ∷ decimal place) ++ (line_feed ∷ [])

-- The numbers that have a second place: 4, row then column; 20 to 23, block then offset.
abbrev pub has_second : ℕ → Bool
has_second number = cond (eqb number 4) true (leb 20 number && leb number 23)

abbrev pub second_place : ℕ → ℕ → List ℕ
second_place number second = cond (has_second number) (space ∷ decimal second) []

-- A refused file prints only `refused`, the number and the place (for 4, row then column; for 20 to 23, block then offset).
unfoldable pub refused_line : Told → List ℕ
refused_line t =
    refused ++ (space ∷ decimal t.number) ++ (space ∷ decimal t.place) ++ second_place t.number t.second ++ (line_feed ∷ [])
