-- How `check` ends, and what it prints.
use Rattle.std.specs.Prelude.{◌≡◌, ℕ, List, Option}
use Rattle.std.specs.Io.KnownBytes.{Appends}
use Rattle.chpw_check.specs.Checked.{IsCheckFault, checked, line_of_check, status_of}
use Rattle.chpw_endings.specs.declared.ending.Ending.{Ending}
use Rattle.chpw_endings.specs.declared.ending.Ending.TheVariants.{Good, Faulty, Early, Unread}

-- the configuration with this text, in the file of this name, has no fault, or one
abbrev pub IsChecked : List ℕ → List ℕ → Ending → Type 0
IsChecked file text Good = status_of (checked text) ≡ 0
IsChecked file text (Faulty path words) = (path.now ≡ file) × (status_of (checked text) ≡ 1)
IsChecked file text (Early fault) = IsCheckFault fault
IsChecked file text _ = ⊥

-- the line about the text is written, unless it ended early
abbrev pub PrintsCheck : List ℕ → Ending → Option (List ℕ) → Option (List ℕ) → Type 0
PrintsCheck text (Early fault) before after = Unit {0}
PrintsCheck text _ before after = Appends before after (line_of_check (checked text))

-- the file of this name can't be read, or that came of its text
abbrev pub HasChecked : List ℕ → Ending → Type 0
HasChecked file Good = (text : List ℕ) × IsChecked file text Good
HasChecked file (Faulty path words) = (text : List ℕ) × IsChecked file text (Faulty path words)
HasChecked file (Early fault) = IsCheckFault fault
HasChecked file (Unread path) = path.now ≡ file
HasChecked file _ = ⊥
