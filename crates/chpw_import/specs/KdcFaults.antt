-- What `import --kdc` writes of an answer, and which faults come from where.
use Rattle.std.specs.Prelude.{◌≡◌, ◌⊎◌, ◌+◌, ℕ, true, nat_lt, List, [], length, take, Option, Some, None, option_map, Result, Ok, Err, IfSome, if◌then◌else◌}
use Rattle.std.specs.Str.{is_utf8}
use Rattle.std.specs.Io.KnownBytes.{Appends}
use Rattle.chpw_rules.specs.declared.pattern.NamePatterns.{NamePatterns}
use Rattle.chpw_rules.specs.Fitting.{principals_fit}
use Rattle.chpw_config.specs.declared.fault.ConfigFault.{ConfigFault}
use Rattle.chpw_config.specs.Faults.{no_toml}
use Rattle.chpw_config.specs.Kdc.{kdc_of}
use Rattle.chpw_invocation.specs.declared.invocation.KdcOptions.{KdcOptions}
use Rattle.chpw_import.specs.declared.fault.KeysFault.{KeysFault}
use Rattle.chpw_import.specs.declared.fault.KeysFault.TheVariants.{Unconnected, Unanswered, Kdc, Patterns, NoPrincipal, Memory}
use Rattle.chpw_import.specs.declared.kdc.choosing.KdcImport.{KdcImport}
use Rattle.chpw_import.specs.declared.kdc.fault.ListFault.{ListFault}
use Rattle.chpw_import.specs.declared.kdc.fault.ListFault.TheVariants.{TooLong}
use Rattle.chpw_import.specs.declared.kdc.listing.Listed.{Listed}
use Rattle.chpw_import.specs.Faults.{IsLate, IsUnread}
use Rattle.chpw_import.specs.KdcChoices.{Choice, chosen_from, nothing}
use Rattle.chpw_import.specs.KdcLines.{told}
use Rattle.chpw_import.specs.KdcLists.{listing_in}
use Rattle.chpw_import.specs.Stanzas.{AppendsRows}

-- the most bytes of an answer
abbrev pub answer_limit : ℕ
answer_limit = 67108864

-- what is read of an answer: all of it, or one byte more than it may have
abbrev pub IsHeard : Option (List ℕ) → List ℕ → Type 0
IsHeard answer bytes = IfSome answer (λ all. bytes ≡ take (answer_limit + 1) all)

-- the principals in an answer, or its first fault
abbrev pub answer_listing : List ℕ → Result (List Listed) ListFault
answer_listing bytes = if nat_lt answer_limit (length bytes) then Err TooLong else listing_in bytes

-- the agent couldn't be asked, or its answer not be read
abbrev pub IsUnheard : List ℕ → KeysFault → Type 0
IsUnheard path (Unanswered socket) = socket.now ≡ path
IsUnheard path Memory = Unit {0}
IsUnheard path fault = ⊥

-- what an answer gives: each principal that is imported, in stanzas that a configuration can have, and a line for each of
-- the others, with both numbers
pub record Heard (o : KdcOptions) (patterns : NamePatterns) (bytes : List ℕ) (c : Choice) : Type 0 where
  pub listed : List Listed
  pub is_listed : answer_listing bytes ≡ Ok listed
  pub is_chosen : c ≡ chosen_from patterns o.iterations nothing listed

pub record ImportsKdc (o : KdcOptions) (patterns : NamePatterns) (bytes : List ℕ)
    (before behind untold telling : Option (List ℕ)) : Type 0 where
  pub choice : Choice
  pub heard : Heard o patterns bytes choice
  pub fits : principals_fit choice.principals ≡ true
  pub written : AppendsRows before behind [] choice.principals
  pub left : Appends untold telling (told o.socket.now choice)

-- the fault of an answer's bytes: their first
abbrev pub IsListed : List ℕ → List ℕ → KeysFault → Type 0
IsListed path bytes (Kdc socket fault) = (socket.now ≡ path) × (answer_listing bytes ≡ Err fault)
IsListed path bytes Memory = Unit {0}
IsListed path bytes fault = ⊥

-- no principal is imported
abbrev pub IsNone : List ℕ → KdcImport → KeysFault → Type 0
IsNone path import (NoPrincipal socket) = (socket.now ≡ path) × (import.principals.items ≡ [])
IsNone path import fault = ⊥

-- the fault of an answer: its first, or that none of its principals is imported
abbrev pub IsOfList : KdcOptions → NamePatterns → List ℕ → KeysFault → Type 0
IsOfList o patterns bytes (NoPrincipal socket) = (socket.now ≡ o.socket.now)
    × ((c : Choice) × Heard o patterns bytes c × (c.principals ≡ []))
IsOfList o patterns bytes fault = IsListed o.socket.now bytes fault

-- ---- the patterns

-- those of a file with these bytes, or its fault; bytes that are not UTF-8 are no TOML
abbrev pub patterns_in : List ℕ → Result NamePatterns ConfigFault
patterns_in bytes = if is_utf8 bytes then kdc_of bytes else Err no_toml

abbrev pub IsOfPatterns : List ℕ → List ℕ → KeysFault → Type 0
IsOfPatterns path bytes (Patterns file fault) = (file.now ≡ path) × (patterns_in bytes ≡ Err fault)
IsOfPatterns path bytes Memory = Unit {0}
IsOfPatterns path bytes fault = ⊥

-- the file can't be read, or its bytes have a fault; without a file only memory can run out
abbrev pub IsOfConfig : Option (List ℕ) → KeysFault → Type 0
IsOfConfig None fault = fault ≡ Memory
IsOfConfig (Some path) fault = IsUnread path fault ⊎ ((bytes : List ℕ) × IsOfPatterns path bytes fault)

-- ---- a fault of `import --kdc`

abbrev pub IsUnconnected : List ℕ → KeysFault → Type 0
IsUnconnected path (Unconnected socket) = socket.now ≡ path
IsUnconnected path fault = ⊥

abbrev pub IsOfKdc : KdcOptions → KeysFault → Type 0
IsOfKdc o fault = IsOfConfig (option_map (λ f. f.now) o.config) fault ⊎ (IsUnconnected o.socket.now fault
    ⊎ (IsUnheard o.socket.now fault ⊎ (((patterns : NamePatterns) × (bytes : List ℕ) × IsOfList o patterns bytes fault) ⊎ IsLate fault)))
