-- What `client` says of a seed.
use Rattle.std.specs.Prelude.{ℕ, Bool, List, [], ◌∷◌, ◌++◌, codes, if◌then◌else◌}

-- the warning of a seed in a regular file, since two requests of one seed have the same keys
abbrev pub warning_of : List ℕ → List ℕ
warning_of file = codes "the seed " ++ file ++ codes " is a regular file: use it only once"

-- the line about a seed, if it has one
abbrev pub seed_line : List ℕ → Bool → List ℕ
seed_line file is_regular = if is_regular then warning_of file ++ 10 ∷ [] else []
