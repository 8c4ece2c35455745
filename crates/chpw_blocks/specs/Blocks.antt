-- Byte strings one after the other, each after its length: four bytes, high byte first.
use Rattle.std.specs.Prelude.{◌≡◌, ℕ, ◌<◌, ◌^◌, List, ◌++◌, length}
use Rattle.std.specs.Int.{to_be_bytes, w32}
use Rattle.std.specs.List.{flat_map, AllByRecursion}

abbrev pub block : List ℕ → List ℕ
block bytes = to_be_bytes w32 (length bytes) ++ bytes

abbrev pub joined : List (List ℕ) → List ℕ
joined blocks = flat_map block blocks

-- the length fits its four bytes
abbrev pub IsShort : List ℕ → Type 0
IsShort bytes = length bytes < 2 ^ 32

abbrev pub AreShort : List (List ℕ) → Type 0
AreShort blocks = AllByRecursion IsShort blocks

-- what was written is read in one way
abbrev pub IsOneWay : Type 0
IsOneWay = (bs cs : List (List ℕ)) → AreShort bs → AreShort cs → joined bs ≡ joined cs → bs ≡ cs
