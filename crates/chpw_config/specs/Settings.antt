-- The configuration that a file sets, or the first fault in it: the parts are read in the order of these lines.
use Rattle.std.specs.Prelude.{ℕ, List, [], codes, Option, Some, None, Result, Ok, Err}
use Rattle.toml.specs.Data.{Members, no_items}
use Rattle.toml.specs.Parse.{parse_document}
use Rattle.chpw_rules.specs.declared.config.Config.{Config}
use Rattle.chpw_config.specs.declared.fault.Part.TheVariants.{Service, ServiceKey, Policy as PolicyPart, Rule as RulePart, Principal}
use Rattle.chpw_config.specs.declared.fault.ConfigFault.{ConfigFault}
use Rattle.chpw_config.specs.Faults.{location, no_toml, ◌>>=◌}
use Rattle.chpw_config.specs.Kinds.{a_number, a_text, a_table, a_list, required, optional}
use Rattle.chpw_rules.specs.Limits.{realm_lengths, entry_counts, service_key_counts, rule_counts, principal_counts}
use Rattle.chpw_config.specs.Rows.{policy_of, principal_row, rule_row, service_row, walk}

-- the whole file
abbrev pub settings : Members → Result Config ConfigFault
settings file = do
  let at = location Service 0
  service ← required at (codes "service") a_table file
  realm ← required at (codes "realm") (a_text realm_lengths) service
  max_entries ← optional at (codes "max_entries") (a_number entry_counts) entry_counts.high service
  key_items ← required (location ServiceKey 0) (codes "key") (a_list service_key_counts) service
  service_keys ← walk service_row [] key_items
  policy_table ← required (location PolicyPart 0) (codes "policy") a_table file
  policy ← policy_of policy_table
  let rules_at = location RulePart 0
  rule_items ← optional rules_at (codes "rule") (a_list rule_counts) no_items file
  rules ← walk rule_row [] rule_items
  let people_at = location Principal 0
  principal_items ← optional people_at (codes "principal") (a_list principal_counts) no_items file
  principals ← walk principal_row [] principal_items
  Ok (record {
    realm = realm;
    max_entries = max_entries;
    service = service_keys;
    policy = policy;
    rules = record { list = rules };
    principals = principals;
  })

-- a file's text: what its table sets, or that it is no TOML
abbrev pub of_table : Option Members → Result Config ConfigFault
of_table None = Err no_toml
of_table (Some file) = settings file

abbrev pub settings_of : List ℕ → Result Config ConfigFault
settings_of text = of_table (parse_document text)
