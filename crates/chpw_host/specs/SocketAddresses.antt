-- The address of a Unix socket (unix(7)): the family in the machine's order, and a path with a zero after it, or a name of
-- the abstract namespace with a zero before it.
use Rattle.std.specs.Prelude.{ℕ, ◌+◌, ◌==◌, nat_lt, if◌then◌else◌, List, [], ◌∷◌, ◌++◌, length, take, drop, replicate, Option, Some, None}
use Rattle.std.specs.Int.{w16, to_le_bytes}

-- the bytes written over others from an offset on
unfoldable pub put : List ℕ → ℕ → List ℕ → List ℕ
put raw at bytes = take at raw ++ (bytes ++ drop (at + length bytes) raw)

-- a buffer of 128 bytes, and how many of them count
abbrev pub filled : ℕ → List ℕ → List ℕ × ℕ
filled at text = (put (put (replicate 128 0) 0 (to_le_bytes w16 1)) at text, length text + 3)

-- a path begins with a slash; an abstract name is written with an `@`
abbrev pub address_of : List ℕ → Option (List ℕ × ℕ)
address_of [] = None
address_of (first ∷ rest) =
    if nat_lt 106 (length rest) then None
    else if first == 47 then Some (filled 2 (first ∷ rest))
    else if first == 64 then Some (filled 3 rest)
    else None
