-- For proofs: what is known of a pattern's prefixes while a text is read.
use Rattle.std.specs.Prelude.{ℕ, ◌≤◌, Bool, false, not, ◌&&◌, ◌||◌, ◌==◌, if◌then◌else◌, List, take, length, slice_index_or}
use Rattle.std.specs.Bool.{Decides}
use Rattle.chpw_rules.specs.Patterns.{Matches, star, slash}

-- place k says whether the pattern's first k bytes match the text
abbrev pub AreMatched : List ℕ → List ℕ → List Bool → Type 0
AreMatched pattern text matched =
    (k : ℕ) → k ≤ length pattern → Decides (slice_index_or matched k false) (Matches (take k pattern) text)

-- whether a pattern with one more byte matches a text with one more byte: `shorter` says whether the pattern without it
-- matches the longer text, `here` whether the pattern with it matches the shorter one, `before` whether the shorter one
-- matches the shorter one
abbrev pub is_matched : ℕ → ℕ → Bool → Bool → Bool → Bool
is_matched symbol byte shorter here before =
    if symbol == star then shorter || (here && not (byte == slash)) else before && (symbol == byte)
