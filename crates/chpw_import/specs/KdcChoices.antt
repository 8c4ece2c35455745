-- Which of the KDC's principals are imported: those whose keys the agent tells, that are the service's by the patterns, and
-- that a configuration can have; at most 10,000.
use Rattle.std.specs.Prelude.{ℕ, not, ◌&&◌, nat_le, List, [], ◌∷◌, ◌++◌, length, Result, Ok, Err, if◌then◌else◌}
use Rattle.chpw_rules.specs.declared.name.Name.{Name}
use Rattle.chpw_rules.specs.declared.config.PrincipalRow.{PrincipalRow}
use Rattle.chpw_rules.specs.declared.pattern.NamePatterns.{NamePatterns}
use Rattle.chpw_rules.specs.Limits.{is_in, kvnos, principal_counts}
use Rattle.chpw_rules.specs.Names.{is_name}
use Rattle.chpw_rules.specs.Patterns.{is_ours}
use Rattle.chpw_config_text.specs.Writable.{is_writable_name}
use Rattle.chpw_kdc.specs.declared.answer.Reason.{Reason}
use Rattle.chpw_import.specs.declared.kdc.choosing.KdcImport.{KdcImport}
use Rattle.chpw_import.specs.declared.kdc.choosing.LeftName.{LeftName}
use Rattle.chpw_import.specs.declared.kdc.choosing.LeftReason.{LeftReason}
use Rattle.chpw_import.specs.declared.kdc.choosing.LeftReason.TheVariants.{Untold, NotOurs, BadName, NoVersion, TooMany}
use Rattle.chpw_import.specs.declared.kdc.listing.KdcKeys.{KdcKeys}
use Rattle.chpw_import.specs.declared.kdc.listing.Listed.{Listed}

-- the keys of a principal that follows so many imported ones, or why it isn't imported
abbrev pub reason_by : NamePatterns → ℕ → Name → Result KdcKeys Reason → Result KdcKeys LeftReason
reason_by patterns count name (Err reason) = Err (Untold reason)
reason_by patterns count name (Ok keys) =
    if not (is_ours patterns name) then Err NotOurs
    else if not (is_name name && is_writable_name name) then Err BadName
    else if not (is_in kvnos keys.kvno) then Err NoVersion
    else if nat_le principal_counts.high count then Err TooMany
    else Ok keys

abbrev pub reason_for : NamePatterns → ℕ → Listed → Result KdcKeys LeftReason
reason_for patterns count p = reason_by patterns count p.name p.found

-- the row of a principal with one version
abbrev pub row_of : Name → KdcKeys → ℕ → PrincipalRow
row_of name keys iterations = record {
  name = name;
  keys = record { kvno = keys.kvno; iterations = iterations; aes128 = keys.keys.aes128; aes256 = keys.keys.aes256 } ∷ [];
}

-- what is imported and what isn't
pub record Choice : Type 0 where
  pub principals : List PrincipalRow
  pub left : List LeftName

abbrev pub choice_of : KdcImport → Choice
choice_of import = record { principals = import.principals.items; left = import.left.items }

abbrev pub nothing : Choice
nothing = record { principals = []; left = [] }

-- one more of the list: at the end of those that are imported, or of the others
abbrev pub placed : ℕ → Choice → Name → Result KdcKeys LeftReason → Choice
placed iterations c name (Ok keys) = record c { principals = c.principals ++ row_of name keys iterations ∷ [] }
placed iterations c name (Err why) = record c { left = c.left ++ record { name = name; why = why } ∷ [] }

abbrev pub with_next : NamePatterns → ℕ → Choice → Listed → Choice
with_next patterns iterations c p = placed iterations c p.name (reason_for patterns (length c.principals) p)

abbrev pub chosen_from : NamePatterns → ℕ → Choice → List Listed → Choice
chosen_from patterns iterations c [] = c
chosen_from patterns iterations c (p ∷ ps) = chosen_from patterns iterations (with_next patterns iterations c p) ps
