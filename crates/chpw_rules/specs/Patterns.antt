-- Patterns of names, and which of the KDC's names are the service's.
use Rattle.std.specs.Prelude.{◌≡◌, ◌≢◌, ◌⊎◌, ℕ, Bool, true, false, not, ◌&&◌, ◌||◌, ◌==◌, if◌then◌else◌, List, [], ◌∷◌, ◌++◌, length, codes, Option, Some, None}
use Rattle.std.specs.List.{Any, join_with_byte, list_all, list_any}
use Rattle.chpw_rules.specs.declared.name.Name.{Name}
use Rattle.chpw_rules.specs.declared.pattern.NamePatterns.{NamePatterns}
use Rattle.chpw_rules.specs.Limits.{is_in, pattern_counts, pattern_lengths}

-- the bytes `*` and `/`
abbrev pub star : ℕ
star = 42

abbrev pub slash : ℕ
slash = 47

abbrev pub has_no_slash : List ℕ → Bool
has_no_slash bytes = list_all (λ byte. not (byte == slash)) bytes

-- what a byte of a pattern stands for: `*` for any run of bytes without `/`, every other one for itself
abbrev pub StandsFor : ℕ → List ℕ → Type 0
StandsFor byte run = ((byte ≡ star) × (has_no_slash run ≡ true)) ⊎ ((byte ≢ star) × (run ≡ byte ∷ []))

-- the text can be cut into runs, one for each byte of the pattern, in their order
abbrev pub Matches : List ℕ → List ℕ → Type 0
Matches [] text = text ≡ []
Matches (byte ∷ pattern) text =
    (run : List ℕ) × (rest : List ℕ) × (text ≡ run ++ rest) × StandsFor byte run × Matches pattern rest

-- the text that spells a name: its components with `/` between them
abbrev pub spelling : Name → List ℕ
spelling name = join_with_byte slash name.parts

-- one of the patterns matches the name
abbrev pub AnyMatches : List (List ℕ) → Name → Type 0
AnyMatches patterns name = Any (λ pattern. Matches pattern (spelling name)) patterns

-- one that is included and not excluded
abbrev pub IsOurs : NamePatterns → Name → Type 0
IsOurs patterns name = AnyMatches patterns.include name × (¬ (AnyMatches patterns.exclude name))

-- ---- the same as tests

-- the text is a run without `/`, and then what passes the test
abbrev pub after_run : (List ℕ → Bool) → List ℕ → Bool
after_run test [] = test []
after_run test (byte ∷ text) = test (byte ∷ text) || (not (byte == slash) && after_run test text)

-- the text is this byte, and then what passes the test
abbrev pub after_byte : ℕ → (List ℕ → Bool) → List ℕ → Bool
after_byte byte test [] = false
after_byte byte test (first ∷ text) = (first == byte) && test text

abbrev pub matches : List ℕ → List ℕ → Bool
matches [] text = length text == 0
matches (byte ∷ pattern) text =
    if byte == star then after_run (matches pattern) text else after_byte byte (matches pattern) text

abbrev pub any_matches : List (List ℕ) → Name → Bool
any_matches patterns name = list_any (λ pattern. matches pattern (spelling name)) patterns

abbrev pub is_ours : NamePatterns → Name → Bool
is_ours patterns name = any_matches patterns.include name && not (any_matches patterns.exclude name)

-- ---- the patterns of a configuration

-- a pattern of an allowed length
abbrev pub is_pattern : List ℕ → Bool
is_pattern text = is_in pattern_lengths (length text)

abbrev pub pattern_of : List ℕ → Option (List ℕ)
pattern_of text = if is_pattern text then Some text else None

-- those of a configuration that names none: `*` is included
abbrev pub of_one_component : NamePatterns
of_one_component = record { include = codes "*" ∷ []; exclude = [] }

-- an allowed number of patterns, each of an allowed length
abbrev pub patterns_fit : List (List ℕ) → Bool
patterns_fit patterns = is_in pattern_counts (length patterns) && list_all is_pattern patterns
