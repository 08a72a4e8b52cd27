-- A text in a caller's memory.
use Rattle.std.specs.Prelude.{◌++◌, ℕ, List, drop, length, take}

-- the room with the front of the text in it: as much as there is room, and then the rest of the room as it was
abbrev pub filled : List ℕ → List ℕ → List ℕ
filled text room = take (length room) text ++ drop (length text) room
