-- A configuration is read as it is written.
use Rattle.std.proofs.Common.{◌≡◌, ◌∙◌, ℕ, ◌≤◌, true, ◌&&◌, nat_le, List, [], length, map, Ok, Some, ap, le-leb}
use Rattle.std.specs.List.{list_all}
use Rattle.std.specs.Str.{is_utf8}
use Rattle.std.proofs.lemmas.Bool.{and_parts}
use Rattle.toml.specs.View.{items_of}
use Rattle.toml.specs.Parse.{parse_document}
use Rattle.chpw_rules.specs.declared.config.Config.{Config}
use Rattle.chpw_rules.specs.declared.config.PrincipalRow.{PrincipalRow}
use Rattle.chpw_rules.specs.declared.config.ServiceRow.{ServiceRow}
use Rattle.chpw_rules.specs.declared.rules.Rule.{Rule}
use Rattle.chpw_rules.specs.Fitting.{are_distinct, config_fits, is_same_principal}
use Rattle.chpw_rules.specs.Fitting.{is_same_service_key, policy_fits, principal_fits, principals_fit}
use Rattle.chpw_rules.specs.Fitting.{rule_fits, rules_fit, service_fits, service_key_fits}
use Rattle.chpw_rules.specs.Limits.{entry_counts, is_in, principal_counts, realm_lengths, rule_counts, service_key_counts}
use Rattle.chpw_config.specs.Rows.{principal_row, rule_row, service_row, walk}
use Rattle.chpw_config.specs.Settings.{settings, of_table, settings_of}
use Rattle.chpw_config_text.specs.Tables.{members_of, principal_of, rule_of, service_key_of}
use Rattle.chpw_config_text.specs.Typed.{is_typed, is_typed_principal, is_typed_service_key}
use Rattle.chpw_config_text.specs.Writable.{is_writable, is_writable_principal, is_writable_rule}
use Rattle.chpw_config_text.proofs.ListLemmas.{list_read, principals_read, rules_read, service_keys_read, walk_read}
use Rattle.chpw_config_text.proofs.RowLemmas.{policy_read}

-- the lists
services_walk : (rows : List ServiceRow) → service_fits rows ≡ true → list_all is_typed_service_key rows ≡ true
    → walk service_row [] (items_of (map service_key_of rows)) ≡ Ok rows
services_walk rows fits typed =
    let (front, distinct) = and_parts (nat_le (length rows) service_key_counts.high && list_all service_key_fits rows)
    (are_distinct is_same_service_key rows) fits in
    let (_, fit) = and_parts (nat_le (length rows) service_key_counts.high) (list_all service_key_fits rows) front in
    walk_read service_row service_key_of [] rows (service_keys_read [] rows fit typed distinct)

services_counted : (rows : List ServiceRow) → service_fits rows ≡ true → 1 ≤ length rows → is_in service_key_counts (length rows) ≡ true
services_counted rows fits some =
    let (front, _) = and_parts (nat_le (length rows) service_key_counts.high && list_all service_key_fits rows) (are_distinct is_same_service_key rows) fits in
    let (few, _) = and_parts (nat_le (length rows) service_key_counts.high) (list_all service_key_fits rows) front in
    rw (le-leb 1 (length rows) some, few)

rules_walk : (rules : List Rule) → rules_fit rules ≡ true → list_all is_writable_rule rules ≡ true
    → walk rule_row [] (items_of (map rule_of rules)) ≡ Ok rules
rules_walk rules fits writable =
    let (_, fit) = and_parts (is_in rule_counts (length rules)) (list_all rule_fits rules) fits in
    walk_read rule_row rule_of [] rules (rules_read [] rules fit writable)

principals_walk : (rows : List PrincipalRow) → principals_fit rows ≡ true → list_all is_writable_principal rows ≡ true
    → list_all is_typed_principal rows ≡ true → walk principal_row [] (items_of (map principal_of rows)) ≡ Ok rows
principals_walk rows fits writable typed =
    let (front, distinct) = and_parts (is_in principal_counts (length rows) && list_all principal_fits rows) (are_distinct is_same_principal rows) fits in
    let (_, fit) = and_parts (is_in principal_counts (length rows)) (list_all principal_fits rows) front in
    walk_read principal_row principal_of [] rows (principals_read [] rows fit writable typed distinct)

principals_counted : (rows : List PrincipalRow) → principals_fit rows ≡ true → is_in principal_counts (length rows) ≡ true
principals_counted rows fits =
    let (front, _) = and_parts (is_in principal_counts (length rows) && list_all principal_fits rows) (are_distinct is_same_principal rows) fits in
    (and_parts (is_in principal_counts (length rows)) (list_all principal_fits rows) front).0

-- the whole file
settings_read : (config : Config) → config_fits config ≡ true → 1 ≤ length config.service → is_writable config ≡ true
    → is_typed config ≡ true → settings (members_of config) ≡ Ok config
settings_read config fits some writable typed =
    let (to_rules, people) =
    and_parts (is_in realm_lengths (length config.realm) && is_in entry_counts config.max_entries
    && service_fits config.service && policy_fits config.policy && rules_fit config.rules.list)
    (principals_fit config.principals) fits in
    let (to_policy, rules) =
    and_parts (is_in realm_lengths (length config.realm) && is_in entry_counts config.max_entries
    && service_fits config.service && policy_fits config.policy) (rules_fit config.rules.list) to_rules in
    let (to_service, policy) =
    and_parts (is_in realm_lengths (length config.realm) && is_in entry_counts config.max_entries
    && service_fits config.service) (policy_fits config.policy) to_policy in
    let (to_entries, service) =
    and_parts (is_in realm_lengths (length config.realm) && is_in entry_counts config.max_entries)
    (service_fits config.service) to_service in
    let (in_lengths, in_entries) = and_parts (is_in realm_lengths (length config.realm)) (is_in entry_counts config.max_entries) to_entries in
    let (texts, people_writable) = and_parts (is_utf8 config.realm && list_all is_writable_rule config.rules.list)
    (list_all is_writable_principal config.principals) writable in
    let (_, rules_writable) = and_parts (is_utf8 config.realm) (list_all is_writable_rule config.rules.list) texts in
    let (service_typed, people_typed) = and_parts (list_all is_typed_service_key config.service) (list_all is_typed_principal config.principals) typed in
    let (rules_counted, _) = and_parts (is_in rule_counts (length config.rules.list)) (list_all rule_fits config.rules.list) rules in
    rw (
      in_lengths,
      in_entries,
      list_read service_key_counts service_key_of config.service (services_counted config.service service some),
      services_walk config.service service service_typed,
      policy_read config.policy policy,
      list_read rule_counts rule_of config.rules.list rules_counted,
      rules_walk config.rules.list rules rules_writable,
      list_read principal_counts principal_of config.principals (principals_counted config.principals people),
      principals_walk config.principals people people_writable people_typed,
    )

-- the text of its table
pub text_read : (config : Config) (text : List ℕ) → parse_document text ≡ Some (members_of config)
    → is_writable config ≡ true → is_typed config ≡ true → config_fits config ≡ true → 1 ≤ length config.service
    → settings_of text ≡ Ok config
text_read config text parsed writable typed fits some =
    ap of_table parsed ∙ settings_read config fits some writable typed
