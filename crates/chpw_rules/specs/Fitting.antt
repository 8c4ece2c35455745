-- A configuration within the limits, as the service takes it.
use Rattle.std.specs.Prelude.{ℕ, ℤ, pos, negsuc, Bool, true, false, not, ◌&&◌, ◌==◌, nat_le, nat_lt, List, [], ◌∷◌, ◌++◌, length, Option, Some, None}
use Rattle.std.specs.List.{list_all, list_any}
use Rattle.chpw_rules.specs.declared.name.Name.{Name}
use Rattle.chpw_rules.specs.declared.policy.Policy.{Policy}
use Rattle.chpw_rules.specs.declared.rules.Rule.{Rule}
use Rattle.chpw_rules.specs.declared.config.Config.{Config}
use Rattle.chpw_rules.specs.declared.config.KeyBytes.{KeyBytes}
use Rattle.chpw_rules.specs.declared.config.PrincipalRow.{PrincipalRow}
use Rattle.chpw_rules.specs.declared.config.ServiceRow.{ServiceRow}
use Rattle.chpw_rules.specs.Limits.{is_in, realm_lengths, entry_counts, kvnos, iteration_counts}
use Rattle.chpw_rules.specs.Limits.{min_lengths, min_class_counts, depths, etypes, key_length}
use Rattle.chpw_rules.specs.Limits.{service_key_counts, key_counts, rule_counts, principal_counts}
use Rattle.chpw_rules.specs.Names.{is_same_name, is_name}

-- no element is the same as an earlier one
abbrev pub none_again : {A : Type 0} → (A → A → Bool) → List A → List A → Bool
none_again same before [] = true
none_again same before (x ∷ xs) =
    not (list_any (same x) before) && none_again same (before ++ x ∷ []) xs

abbrev pub are_distinct : {A : Type 0} → (A → A → Bool) → List A → Bool
are_distinct same xs = none_again same [] xs

-- an encryption type of AES, and a key of its length
abbrev pub is_aes_key : ℤ → List ℕ → Bool
is_aes_key (pos etype) key = is_in etypes etype && (length key == key_length etype)
is_aes_key (negsuc _) key = false

abbrev pub service_key_fits : ServiceRow → Bool
service_key_fits row = is_in kvnos row.kvno && is_aes_key row.etype row.key

abbrev pub is_same_etype : ℤ → ℤ → Bool
is_same_etype (pos a) (pos b) = a == b
is_same_etype (negsuc a) (negsuc b) = a == b
is_same_etype (pos _) (negsuc _) = false
is_same_etype (negsuc _) (pos _) = false

-- the same encryption type and version number
abbrev pub is_same_service_key : ServiceRow → ServiceRow → Bool
is_same_service_key a b = is_same_etype a.etype b.etype && (a.kvno == b.kvno)

abbrev pub policy_fits : Policy → Bool
policy_fits policy =
    is_in min_lengths policy.min_length
    && is_in min_class_counts policy.min_classes
    && is_in depths policy.depth
    && is_in iteration_counts policy.iterations

-- a target, where there is one, is a name
abbrev pub target_fits : Option Name → Bool
target_fits None = true
target_fits (Some name) = is_name name

abbrev pub rule_fits : Rule → Bool
rule_fits rule = is_name rule.actor && target_fits rule.target

abbrev pub key_fits : KeyBytes → Bool
key_fits key = is_in kvnos key.kvno && is_in iteration_counts key.iterations

-- each version number is less than the one before it, the first than `newer`
abbrev pub descend_from : ℕ → List KeyBytes → Bool
descend_from newer [] = true
descend_from newer (key ∷ keys) = nat_lt key.kvno newer && descend_from key.kvno keys

abbrev pub kvnos_descend : List KeyBytes → Bool
kvnos_descend [] = true
kvnos_descend (key ∷ keys) = descend_from key.kvno keys

abbrev pub principal_fits : PrincipalRow → Bool
principal_fits row =
    is_name row.name
    && is_in key_counts (length row.keys)
    && list_all key_fits row.keys
    && kvnos_descend row.keys

abbrev pub is_same_principal : PrincipalRow → PrincipalRow → Bool
is_same_principal a b = is_same_name a.name b.name

-- at most 16, no encryption type twice with one version number; an empty list fits
abbrev pub service_fits : List ServiceRow → Bool
service_fits keys =
    nat_le (length keys) service_key_counts.high
    && list_all service_key_fits keys
    && are_distinct is_same_service_key keys

abbrev pub rules_fit : List Rule → Bool
rules_fit rules = is_in rule_counts (length rules) && list_all rule_fits rules

-- no name is repeated
abbrev pub principals_fit : List PrincipalRow → Bool
principals_fit principals =
    is_in principal_counts (length principals)
    && list_all principal_fits principals
    && are_distinct is_same_principal principals

-- every value within its limits
abbrev pub config_fits : Config → Bool
config_fits config =
    is_in realm_lengths (length config.realm)
    && is_in entry_counts config.max_entries
    && service_fits config.service
    && policy_fits config.policy
    && rules_fit config.rules.list
    && principals_fit config.principals
