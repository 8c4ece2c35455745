-- The lines about a KDC's principals that aren't imported.
use Rattle.std.specs.Prelude.{ℕ, List, [], ◌∷◌, ◌++◌, length, codes}
use Rattle.chpw_printing.specs.Quoting.{name_text}
use Rattle.chpw_kdc.specs.declared.answer.Reason.TheVariants as reason
use Rattle.chpw_import.specs.declared.kdc.choosing.LeftName.{LeftName}
use Rattle.chpw_import.specs.declared.kdc.choosing.LeftReason.{LeftReason}
use Rattle.chpw_import.specs.declared.kdc.choosing.LeftReason.TheVariants.{Untold, NotOurs, BadName, NoVersion, TooMany}
use Rattle.chpw_import.specs.Counts.{count_line}
use Rattle.chpw_import.specs.KdcChoices.{Choice}

abbrev pub reason_words : LeftReason → List ℕ
reason_words (Untold reason.Reserved) = codes "the KDC or its servers live by it"
reason_words (Untold reason.Components) = codes "the agent tells no keys of more than one component"
reason_words (Untold reason.Lockdown) = codes "its keys are locked down"
reason_words (Untold reason.Keys) = codes "it lacks a key of etype 17 or 18 under the default salt"
reason_words (Untold reason.Version) = codes "the database has no higher version"
reason_words NotOurs = codes "[kdc] doesn't include it, or excludes it"
reason_words BadName = codes "a name has 1 to 8 components of 1 to 128 bytes, in UTF-8 and without a /"
reason_words NoVersion = codes "a version is at least 1"
reason_words TooMany = codes "there are 10000 principals already"

-- after the socket's name
abbrev pub left_line : List ℕ → LeftName → List ℕ
left_line socket left = socket ++ codes ": skipped: " ++ name_text left.name ++ codes ": " ++ reason_words left.why ++ codes "\n"

abbrev pub left_lines : List ℕ → List LeftName → List ℕ
left_lines socket [] = []
left_lines socket (l ∷ left) = left_line socket l ++ left_lines socket left

abbrev pub told : List ℕ → Choice → List ℕ
told socket c = left_lines socket c.left ++ count_line (length c.principals) (length c.left)
