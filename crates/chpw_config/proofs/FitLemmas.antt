-- What the walk of a file gives is within the limits.
use Rattle.std.proofs.Common.{◌≡◌, ℕ, pos, Bool, true, false, List, [], ◌∷◌, ◌++◌, length, codes, Result, Ok, Err, nat_le, ◌≤◌, IfOk, refl, arith, ◌∙◌}
use Rattle.std.specs.List.{list_all, list_any}
use Rattle.std.proofs.lemmas.Bool.{and_parts, leb-true}
use Rattle.std.proofs.lemmas.List.Folds.{list_all-append}
use Rattle.toml.specs.Data.{Data, Items, no_items, Members}
use Rattle.chpw_rules.specs.declared.name.Name.{Name}
use Rattle.chpw_rules.specs.declared.policy.Policy.{Policy}
use Rattle.chpw_rules.specs.declared.rules.Rule.{Rule}
use Rattle.chpw_rules.specs.declared.config.Config.{Config}
use Rattle.chpw_rules.specs.declared.config.KeyBytes.{KeyBytes}
use Rattle.chpw_rules.specs.declared.config.PrincipalRow.{PrincipalRow}
use Rattle.chpw_rules.specs.declared.config.ServiceRow.{ServiceRow}
use Rattle.chpw_config.specs.declared.fault.Part.TheVariants.{Service, ServiceKey, Policy as PolicyPart, Rule as RulePart, Principal, PrincipalKey}
use Rattle.chpw_config.specs.declared.fault.Location.{Location}
use Rattle.chpw_config.specs.Faults.{UnlessMemory, location, placed}
use Rattle.chpw_config.specs.declared.fault.ConfigError.{ConfigError}
use Rattle.chpw_rules.specs.Fitting.{are_distinct, config_fits, is_same_principal, is_same_service_key}
use Rattle.chpw_rules.specs.Fitting.{key_fits, kvnos_descend, policy_fits, principal_fits, principals_fit}
use Rattle.chpw_rules.specs.Fitting.{rule_fits, rules_fit, service_fits, service_key_fits}
use Rattle.chpw_config.specs.Kinds.{a_flag, a_hex_key, a_list, a_name, a_number, a_table, a_target, a_text, item_count, optional}
use Rattle.chpw_rules.specs.Limits.{is_in, realm_lengths, entry_counts, kvnos, iteration_counts, min_lengths}
use Rattle.chpw_rules.specs.Limits.{min_class_counts, depths, etypes, key_length, service_key_counts}
use Rattle.chpw_rules.specs.Limits.{key_counts, rule_counts, principal_counts, aes128_length, aes256_length}
use Rattle.chpw_rules.specs.Names.{is_name, is_same_name}
use Rattle.chpw_config.specs.Rows.{comes_after, key_row, names_of, new_name, policy_of, principal_row, rule_row, service_row, step_down, walk}
use Rattle.chpw_config.specs.Settings.{settings}
use Rattle.chpw_rules.proofs.DistinctLemmas.{none_again_last}
use Rattle.chpw_config.proofs.KvnoLemmas.{kvnos_descend_more}
use Rattle.chpw_config.proofs.GivesLemmas.{Gives, gives_any, gives_hex_key, gives_list, gives_name, gives_number}
use Rattle.chpw_config.proofs.GivesLemmas.{gives_ok, gives_once, gives_optional, gives_key, gives_target}
use Rattle.chpw_config.proofs.GivesLemmas.{gives_tested, gives_text, gives_then, gives_walk, gives_walk_length}

all_more : {A : Type 0} (p : A → Bool) (xs : List A) (a : A) → list_all p xs ≡ true → p a ≡ true → list_all p (xs ++ a ∷ []) ≡ true
all_more p xs a all here = rw (list_all-append p xs (a ∷ []), all, here)

-- ---- the parts

abbrev service_key : ℕ → ℕ → List ℕ → ServiceRow
service_key kvno etype key = record { kvno = kvno; etype = pos etype; key = key }

service_row_fits : (before : List ServiceRow) (value : Data)
    → Gives (service_row before value) (λ row. (service_key_fits row ≡ true) × (list_any (is_same_service_key row) before ≡ false))
unfolding service_row
service_row_fits before value =
    let at = location ServiceKey (length before) in
    gives_then (placed at (a_table value)) _ (gives_any _) (λ members _.
    gives_key at (codes "kvno") (a_number kvnos) members _ (gives_number kvnos) (λ kvno in_kvnos.
    gives_key at (codes "etype") (a_number etypes) members _ (gives_number etypes) (λ etype in_etypes.
    gives_key at (codes "key") (a_hex_key (key_length etype)) members _ (gives_hex_key (key_length etype)) (λ key long.
    gives_once at is_same_service_key before (service_key kvno etype key) (λ new. (rw (in_kvnos, in_etypes, long), new))))))

policy_of_fits : (members : Members) → Gives (policy_of members) (λ policy. policy_fits policy ≡ true)
unfolding policy_of
policy_of_fits members =
    let at = location PolicyPart 0 in
    gives_key at (codes "min_length") (a_number min_lengths) members _ (gives_number min_lengths) (λ min_length in_lengths.
    gives_key at (codes "min_classes") (a_number min_class_counts) members _ (gives_number min_class_counts) (λ min_classes in_classes.
    gives_key at (codes "depth") (a_number depths) members _ (gives_number depths) (λ depth in_depths.
    gives_key at (codes "iterations") (a_number iteration_counts) members _ (gives_number iteration_counts) (λ iterations in_counts.
    gives_key at (codes "set_needs_initial") a_flag members _ (λ v. gives_any (a_flag v)) (λ set_needs_initial _.
    gives_ok (λ policy. policy_fits policy ≡ true) _ (rw (in_lengths, in_classes, in_depths, in_counts)))))))

rule_row_fits : (before : List Rule) (value : Data) → Gives (rule_row before value) (λ rule. rule_fits rule ≡ true)
unfolding rule_row
rule_row_fits before value =
    let at = location RulePart (length before) in
    gives_then (placed at (a_table value)) _ (gives_any _) (λ members _.
    gives_key at (codes "actor") a_name members _ gives_name (λ actor actor_fits.
    gives_key at (codes "target") a_target members _ gives_target (λ target fits.
    gives_ok (λ rule. rule_fits rule ≡ true) _ (rw (actor_fits, fits)))))

key_row_fits : (at : Location) (before : List KeyBytes) (value : Data)
    → Gives (key_row at before value) (λ key. (key_fits key ≡ true) × (comes_after before key.kvno ≡ true))
unfolding key_row
key_row_fits at before value =
    gives_then (placed at (a_table value)) _ (gives_any _) (λ members _.
    gives_key at (codes "kvno") (a_number kvnos) members _ (gives_number kvnos) (λ kvno in_kvnos.
    gives_then {Q = λ _. comes_after before kvno ≡ true} (step_down at before kvno) _ (gives_tested (comes_after before kvno) kvno _ (λ h. h)) (λ _ after.
    gives_key at (codes "iterations") (a_number iteration_counts) members _ (gives_number iteration_counts) (λ iterations in_counts.
    gives_key at (codes "aes128") (a_hex_key aes128_length) members _ (λ v. gives_any (a_hex_key aes128_length v)) (λ aes128 _.
    gives_key at (codes "aes256") (a_hex_key aes256_length) members _ (λ v. gives_any (a_hex_key aes256_length v)) (λ aes256 _.
    gives_ok (λ key. (key_fits key ≡ true) × (comes_after before key.kvno ≡ true)) _ (rw (in_kvnos, in_counts), after)))))))

-- the keys of a principal
keys_fit : (at : Location) (items : Items) → is_in key_counts (item_count items) ≡ true
    → Gives (walk (key_row at) [] items) (λ keys. (is_in key_counts (length keys) ≡ true) × (list_all key_fits keys ≡ true) × (kvnos_descend keys ≡ true))
keys_fit at items in_counts =
    let all : Gives (walk (key_row at) [] items) (λ keys. (list_all key_fits keys ≡ true) × (kvnos_descend keys ≡ true))
    = gives_walk (key_row at) [] items (λ rows value so_far. record {
      at = λ key same.
          let (fits, after) = (key_row_fits at rows value).at key same in
          (all_more key_fits rows key so_far.0 fits, kvnos_descend_more rows key so_far.1 after);
    }) (refl, refl) in
    record {
      at = λ keys same.
          let (fit, descend) = all.at keys same in
          let long : length keys ≡ item_count items = omega (arith, (gives_walk_length (key_row at) [] items).at keys same) in
          (rw long in_counts, fit, descend);
    }

new_name_fits : (at : Location) (names : List Name) (members : Members)
    → Gives (new_name at names members) (λ name. (is_name name ≡ true) × (list_any (is_same_name name) names ≡ false))
new_name_fits at names members =
    gives_key at (codes "name") a_name members _ gives_name (λ name fits. gives_once at is_same_name names name (λ new. (fits, new)))

abbrev row_of : Name → List KeyBytes → PrincipalRow
row_of name keys = record { name = name; keys = keys }

principal_row_fits : (before : List PrincipalRow) (value : Data)
    → Gives (principal_row before value) (λ row. (principal_fits row ≡ true) × (list_any (is_same_name row.name) (names_of before) ≡ false))
unfolding principal_row
principal_row_fits before value =
    let at = location Principal (length before) in
    let keys_at = location PrincipalKey (length before) in
    gives_then (placed at (a_table value)) _ (gives_any _) (λ members _.
    gives_then (new_name at (names_of before) members) _ (new_name_fits at (names_of before) members) (λ name known.
    gives_key keys_at (codes "key") (a_list key_counts) members _ (gives_list key_counts) (λ items in_counts.
    gives_then (walk (key_row keys_at) [] items) _ (keys_fit keys_at items in_counts) (λ keys fit.
    gives_ok (λ row. (principal_fits row ≡ true) × (list_any (is_same_name row.name) (names_of before) ≡ false)) (row_of name keys)
    (rw (known.0, fit.0, fit.1, fit.2), known.1)))))

-- ---- the lists

service_keys_fit : (items : Items) → is_in service_key_counts (item_count items) ≡ true
    → Gives (walk service_row [] items) (λ keys. (is_in service_key_counts (length keys) ≡ true) × (service_fits keys ≡ true))
service_keys_fit items in_counts =
    let all : Gives (walk service_row [] items) (λ keys. (list_all service_key_fits keys ≡ true) × (are_distinct is_same_service_key keys ≡ true))
    = gives_walk service_row [] items (λ rows value so_far. record {
      at = λ row same.
          let (fits, new) = (service_row_fits rows value).at row same in
          (all_more service_key_fits rows row so_far.0 fits, none_again_last is_same_service_key [] rows row so_far.1 new);
    }) (refl, refl) in
    record {
      at = λ keys same.
          let (fit, distinct) = all.at keys same in
          let long : length keys ≡ item_count items = omega (arith, (gives_walk_length service_row [] items).at keys same) in
          let counted : is_in service_key_counts (length keys) ≡ true = rw long in_counts in
          let (_, at_most) = and_parts (nat_le 1 (length keys)) (nat_le (length keys) 16) counted in
          (counted, rw (at_most, fit, distinct));
    }

rules_fit_all : (items : Items) → is_in rule_counts (item_count items) ≡ true
    → Gives (walk rule_row [] items) (λ rules. rules_fit rules ≡ true)
rules_fit_all items in_counts =
    let all : Gives (walk rule_row [] items) (λ rules. list_all rule_fits rules ≡ true)
    = gives_walk rule_row [] items (λ rows value so_far. record {
      at = λ rule same.
          all_more rule_fits rows rule so_far ((rule_row_fits rows value).at rule same);
    }) refl in
    record {
      at = λ rules same.
          let long : length rules ≡ item_count items = omega (arith, (gives_walk_length rule_row [] items).at rules same) in
          let counted : is_in rule_counts (length rules) ≡ true = rw long in_counts in
          rw (counted, all.at rules same);
    }

same_by_name : (row : PrincipalRow) (rows : List PrincipalRow)
    → list_any (is_same_principal row) rows ≡ list_any (is_same_name row.name) (names_of rows)
same_by_name row [] = refl
same_by_name row (other ∷ rows) = rw (same_by_name row rows)

principals_fit_all : (items : Items) → is_in principal_counts (item_count items) ≡ true
    → Gives (walk principal_row [] items) (λ rows. principals_fit rows ≡ true)
principals_fit_all items in_counts =
    let all : Gives (walk principal_row [] items) (λ rows. (list_all principal_fits rows ≡ true) × (are_distinct is_same_principal rows ≡ true))
    = gives_walk principal_row [] items (λ rows value so_far. record {
      at = λ row same.
          let (fits, new) = (principal_row_fits rows value).at row same in
          (all_more principal_fits rows row so_far.0 fits, none_again_last is_same_principal [] rows row so_far.1 (same_by_name row rows ∙ new));
    }) (refl, refl) in
    record {
      at = λ rows same.
          let (fit, distinct) = all.at rows same in
          let long : length rows ≡ item_count items = omega (arith, (gives_walk_length principal_row [] items).at rows same) in
          let counted : is_in principal_counts (length rows) ≡ true = rw long in_counts in
          rw (counted, fit, distinct);
    }

-- ---- the file

-- as `read_config` promises: within the limits, with a service key
abbrev Served : Config → Type 0
Served config = (config_fits config ≡ true) × (is_in service_key_counts (length config.service) ≡ true)

abbrev config_of : List ℕ → ℕ → List ServiceRow → Policy → List Rule → List PrincipalRow → Config
config_of realm max_entries service policy rules principals = record {
  realm = realm;
  max_entries = max_entries;
  service = service;
  policy = policy;
  rules = record { list = rules };
  principals = principals;
}

pub settings_fit : (file : Members) → Gives (settings file) Served
settings_fit file =
    let at = location Service 0 in
    gives_key at (codes "service") a_table file _ (λ v. gives_any (a_table v)) (λ service _.
    gives_key at (codes "realm") (a_text realm_lengths) service _ (gives_text realm_lengths) (λ realm in_lengths.
    gives_then (optional at (codes "max_entries") (a_number entry_counts) entry_counts.high service) _
    (gives_optional {P = λ n. is_in entry_counts n ≡ true} at (codes "max_entries")
    (a_number entry_counts) entry_counts.high service refl (gives_number entry_counts)) (λ max_entries in_entries.
    gives_key (location ServiceKey 0) (codes "key") (a_list service_key_counts) service _ (gives_list service_key_counts) (λ key_items in_counts.
    gives_then (walk service_row [] key_items) _ (service_keys_fit key_items in_counts) (λ service_keys served.
    gives_key (location PolicyPart 0) (codes "policy") a_table file _ (λ v. gives_any (a_table v)) (λ policy_table _.
    gives_then (policy_of policy_table) _ (policy_of_fits policy_table) (λ policy policy_fit.
    gives_then (optional (location RulePart 0) (codes "rule") (a_list rule_counts) no_items file) _
    (gives_optional {P = λ items. is_in rule_counts (item_count items) ≡ true} (location RulePart 0)
    (codes "rule") (a_list rule_counts) no_items file refl (gives_list rule_counts)) (λ rule_items in_rules.
    gives_then (walk rule_row [] rule_items) _ (rules_fit_all rule_items in_rules) (λ rules rules_ok.
    gives_then (optional (location Principal 0) (codes "principal") (a_list principal_counts) no_items file) _
    (gives_optional {P = λ items. is_in principal_counts (item_count items) ≡ true} (location Principal 0)
    (codes "principal") (a_list principal_counts) no_items file refl (gives_list principal_counts))
    (λ principal_items in_principals.
    gives_then (walk principal_row [] principal_items) _ (principals_fit_all principal_items in_principals) (λ principals principals_ok.
    gives_ok Served (config_of realm max_entries service_keys policy rules principals)
    (rw (in_lengths, in_entries, served.1, policy_fit, rules_ok, principals_ok), served.0))))))))))))

-- what a reading that agrees with `settings` gives
pub fits_from_settings : (file : Members) (r : Result Config ConfigError) → UnlessMemory r (settings file)
    → IfOk r (λ config. config_fits config ≡ true)
fits_from_settings file (Ok config) same = ((settings_fit file).at config same).0
fits_from_settings file (Err error) same = tt

pub keys_from_settings : (file : Members) (r : Result Config ConfigError) → UnlessMemory r (settings file)
    → IfOk r (λ config. (1 ≤ length config.service) × (length config.service ≤ 16))
keys_from_settings file (Ok config) same =
    let (some, few) = and_parts (nat_le 1 (length config.service)) (nat_le (length config.service) 16) ((settings_fit file).at config same).1 in
    (leb-true 1 (length config.service) some, leb-true (length config.service) 16 few)
keys_from_settings file (Err error) same = tt
