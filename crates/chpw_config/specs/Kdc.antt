-- What the table [kdc] sets, or the first fault in it: `include` is read before `exclude`.
use Rattle.std.specs.Prelude.{ℕ, List, [], length, codes, Option, Some, None, Result, Ok, Err}
use Rattle.std.specs.Option.{ok_or}
use Rattle.toml.specs.Data.{Data, Members, get_member, as_str}
use Rattle.toml.specs.Parse.{parse_document}
use Rattle.chpw_rules.specs.declared.pattern.NamePatterns.{NamePatterns}
use Rattle.chpw_rules.specs.Limits.{pattern_counts}
use Rattle.chpw_rules.specs.Patterns.{of_one_component, pattern_of}
use Rattle.chpw_config.specs.declared.fault.ConfigFaultKind.{ConfigFaultKind}
use Rattle.chpw_config.specs.declared.fault.ConfigFaultKind.TheVariants.{OutOfRange}
use Rattle.chpw_config.specs.declared.fault.ConfigFault.{ConfigFault}
use Rattle.chpw_config.specs.declared.fault.Part.{Part}
use Rattle.chpw_config.specs.declared.fault.Part.TheVariants.{Kdc, KdcInclude, KdcExclude}
use Rattle.chpw_config.specs.Faults.{location, no_toml, placed, ◌>>=◌}
use Rattle.chpw_config.specs.Kinds.{a_list, a_table, of_kind}
use Rattle.chpw_config.specs.Rows.{walk}

-- a text that is a pattern
abbrev pub a_pattern : Data → Result (List ℕ) ConfigFaultKind
a_pattern value = of_kind (as_str value) (λ text. ok_or (pattern_of text) OutOfRange)

abbrev pub pattern_row : Part → List (List ℕ) → Data → Result (List ℕ) ConfigFault
pattern_row part before value = placed (location part (length before)) (a_pattern value)

-- the patterns of a list, or these if the key is missing
abbrev pub pattern_list : Part → List (List ℕ) → Option Data → Result (List (List ℕ)) ConfigFault
pattern_list part default None = Ok default
pattern_list part default (Some value) =
    placed (location part 0) (a_list pattern_counts value) >>= (λ items. walk (pattern_row part) [] items)

-- [kdc]
abbrev pub kdc_table : Members → Result NamePatterns ConfigFault
kdc_table kdc = do
  include ← pattern_list KdcInclude of_one_component.include (get_member (codes "include") kdc)
  exclude ← pattern_list KdcExclude of_one_component.exclude (get_member (codes "exclude") kdc)
  Ok (record { include = include; exclude = exclude })

-- a file that has no such table names no patterns
abbrev pub kdc_settings : Option Data → Result NamePatterns ConfigFault
kdc_settings None = Ok of_one_component
kdc_settings (Some value) = placed (location Kdc 0) (a_table value) >>= kdc_table

-- a file's text: what its table sets, or that it is no TOML
abbrev pub kdc_of_table : Option Members → Result NamePatterns ConfigFault
kdc_of_table None = Err no_toml
kdc_of_table (Some file) = kdc_settings (get_member (codes "kdc") file)

abbrev pub kdc_of : List ℕ → Result NamePatterns ConfigFault
kdc_of text = kdc_of_table (parse_document text)
