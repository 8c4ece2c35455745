-- The new password that `client` sends: a text of the command line, or the one line of a file or of standard input.
use Rattle.std.specs.Prelude.{◌≡◌, ◌⊎◌, ◌<◌, ◌==◌, ℕ, true, false, List, [], ◌∷◌, ◌++◌, codes, length}
use Rattle.std.specs.List.{list_any}
use Rattle.chpw_commands.specs.declared.drill.DrillFault.TheVariants.{Memory}
use Rattle.chpw_endings.specs.declared.ending.Ending.{Ending}
use Rattle.chpw_endings.specs.declared.ending.Ending.TheVariants.{Early, EmptyPassword, ManyLines, Unread}
use Rattle.chpw_invocation.specs.declared.invocation.PasswordSource.{PasswordSource}
use Rattle.chpw_invocation.specs.declared.invocation.PasswordSource.TheVariants as source

abbrev pub EndsIn : ℕ → List ℕ → Type 0
EndsIn byte bytes = (front : List ℕ) × (bytes ≡ front ++ byte ∷ [])

-- the bytes without one such byte at their end, if it is there
abbrev pub IsWithoutLast : ℕ → List ℕ → List ℕ → Type 0
IsWithoutLast byte bytes rest = (bytes ≡ rest ++ byte ∷ []) ⊎ ((bytes ≡ rest) × ¬ (EndsIn byte bytes))

-- the bytes without a newline (10) at their end, and without a carriage return (13) before that
abbrev pub IsWithoutEnd : List ℕ → List ℕ → Type 0
IsWithoutEnd bytes line = ((front : List ℕ) × (bytes ≡ front ++ 10 ∷ []) × IsWithoutLast 13 front line)
    ⊎ ((bytes ≡ line) × ¬ (EndsIn 10 bytes))

-- that is a line, and all that there is
pub record IsOnlyLine (bytes line : List ℕ) : Type 0 where
  pub without : IsWithoutEnd bytes line
  pub some : 0 < length line
  pub one : list_any (λ b. b == 10) line ≡ false

-- why the bytes of the source with this name aren't such a line: there is nothing in them, or there are several; or
-- memory ran out
abbrev pub IsNoLine : List ℕ → List ℕ → Ending → Type 0
IsNoLine name bytes (EmptyPassword file) = (file.now ≡ name) × IsWithoutEnd bytes []
IsNoLine name bytes (ManyLines file) = (file.now ≡ name)
    × ((line : List ℕ) × (IsWithoutEnd bytes line × (list_any (λ b. b == 10) line ≡ true)))
IsNoLine name bytes (Early fault) = fault ≡ Memory
IsNoLine name bytes _ = ⊥

-- the source with this name can't be read, or memory ran out
abbrev pub IsUnread : List ℕ → Ending → Type 0
IsUnread name (Unread file) = file.now ≡ name
IsUnread name (Early fault) = fault ≡ Memory
IsUnread name _ = ⊥

-- that, or its bytes aren't such a line
abbrev pub IsNoSource : List ℕ → Ending → Type 0
IsNoSource name fault = IsUnread name fault ⊎ ((bytes : List ℕ) × IsNoLine name bytes fault)

abbrev pub IsPassword : PasswordSource → List ℕ → Type 0
IsPassword (source.Text text) password = password ≡ text.now
IsPassword other password = (bytes : List ℕ) × IsOnlyLine bytes password

-- why there is no password
abbrev pub IsNoPassword : PasswordSource → Ending → Type 0
IsNoPassword (source.Text text) fault = fault ≡ Early Memory
IsNoPassword (source.File file) fault = IsNoSource file.now fault
IsNoPassword source.StandardInput fault = IsNoSource (codes "standard input") fault
