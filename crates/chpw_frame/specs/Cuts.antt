-- A stream cut into its messages (RFC 3244 section 2), and how it ends after them.
use Rattle.std.specs.Prelude.{◌≡◌, ℕ, ◌+◌, ◌<◌, ◌≤◌, List, [], ◌∷◌, ◌++◌, length}
use Rattle.chpw_frame.specs.Stream.{longest, sent, stated_length}

-- where a stream ends: between messages, within a length or a message, or before a message that is too long
pub data End : Type 0 where
  between : End
  within_length : End
  within_message : End
  before_too_long : End

-- what is left of the stream there
abbrev pub IsLeft : End → List ℕ → Type 0
IsLeft between rest = rest ≡ []
IsLeft within_length rest = (0 < length rest) × (length rest < 4)
IsLeft within_message rest = (4 ≤ length rest) × (stated_length rest ≤ longest) × (length rest < 4 + stated_length rest)
IsLeft before_too_long rest = (4 ≤ length rest) × (longest < stated_length rest)

-- the stream has these messages, each after its length, and this end
abbrev pub Cuts : List ℕ → List (List ℕ) → End → Type 0
Cuts stream [] end = IsLeft end stream
Cuts stream (message ∷ messages) end =
    (rest : List ℕ) × (length message ≤ longest) × (stream ≡ sent message ++ rest) × Cuts rest messages end
