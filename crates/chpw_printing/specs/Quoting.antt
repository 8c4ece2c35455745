-- How names, texts and numbers are printed: as printable ASCII, a name without spaces.
use Rattle.std.specs.Prelude.{ℕ, Bool, ◌&&◌, ◌||◌, nat_lt, List, [], ◌∷◌, ◌++◌, length, map, codes, if◌then◌else◌}
use Rattle.std.specs.List.{flat_map, join_with_byte, list_all}
use Rattle.std.specs.Fmt.{decimal}
use Rattle.hex.specs.Hex.{encode_lower}
use Rattle.chpw_rules.specs.declared.name.Name.{Name}
use Rattle.chpw_rules.specs.Limits.{range, is_in}

-- printable ASCII, from the space on; and without the space
abbrev pub are_printed : List ℕ → Bool
are_printed text = list_all (is_in (range 0x20 0x7e)) text

abbrev pub are_graphic : List ℕ → Bool
are_graphic text = list_all (is_in (range 0x21 0x7e)) text

-- what can be between two spaces: at least one byte
abbrev pub is_field : List ℕ → Bool
is_field text = nat_lt 0 (length text) && are_graphic text

-- a byte as \x and two hexadecimal digits
abbrev pub escaped : ℕ → List ℕ
escaped byte = codes "\\x" ++ encode_lower (byte ∷ [])

-- ---- names

-- printable ASCII except the space, `/`, `@` and `\`
abbrev pub is_plain : ℕ → Bool
is_plain byte =
    is_in (range 0x21 0x2e) byte || is_in (range 0x30 0x3f) byte
    || is_in (range 0x41 0x5b) byte || is_in (range 0x5d 0x7e) byte

-- a byte of a name
abbrev pub byte_text : ℕ → List ℕ
byte_text byte = if is_plain byte then byte ∷ [] else escaped byte

abbrev pub quoted : List ℕ → List ℕ
quoted bytes = flat_map byte_text bytes

-- the components with `/` between them
abbrev pub name_text : Name → List ℕ
name_text name = join_with_byte 47 (map quoted name.parts)

-- name and realm
abbrev pub principal_text : List ℕ → Name → List ℕ
principal_text realm name = name_text name ++ codes "@" ++ quoted realm

-- ---- texts

-- printable ASCII, with the space, except `\`
abbrev pub is_plain_in_words : ℕ → Bool
is_plain_in_words byte = is_in (range 0x20 0x5b) byte || is_in (range 0x5d 0x7e) byte

-- a byte of a text
abbrev pub words_byte : ℕ → List ℕ
words_byte byte = if is_plain_in_words byte then byte ∷ [] else escaped byte

abbrev pub words_text : List ℕ → List ℕ
words_text words = flat_map words_byte words

-- ---- numbers

-- after a space
abbrev pub number_text : ℕ → List ℕ
number_text number = codes " " ++ decimal number
