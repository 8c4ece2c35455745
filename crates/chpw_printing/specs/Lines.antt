-- Lines of somebody else, as they are printed.
use Rattle.std.specs.Prelude.{ℕ, Bool, ◌==◌, ◌||◌, List, [], ◌∷◌, if◌then◌else◌}
use Rattle.std.specs.List.{flat_map, list_all}
use Rattle.chpw_rules.specs.Limits.{range, is_in}
use Rattle.chpw_printing.specs.Quoting.{escaped}

-- printable ASCII, with the space, and the end of a line
abbrev pub is_plain_in_lines : ℕ → Bool
is_plain_in_lines byte = is_in (range 0x20 0x7e) byte || byte == 10

abbrev pub are_lines : List ℕ → Bool
are_lines text = list_all is_plain_in_lines text

-- a byte of lines: a `\` stays, since who wrote them may have escaped bytes
abbrev pub lines_byte : ℕ → List ℕ
lines_byte byte = if is_plain_in_lines byte then byte ∷ [] else escaped byte

abbrev pub lines_text : List ℕ → List ℕ
lines_text lines = flat_map lines_byte lines
