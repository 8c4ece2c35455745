-- How deep the written tables nest.
use Rattle.std.proofs.Common.{ℕ, ◌≤◌, List, [], ◌∷◌, map, arith}
use Rattle.toml.specs.Data.{Data, depth, items_depth, members_depth}
use Rattle.toml.specs.View.{items_of}
use Rattle.chpw_rules.specs.declared.config.Config.{Config}
use Rattle.chpw_rules.specs.declared.config.PrincipalRow.{PrincipalRow}
use Rattle.chpw_rules.specs.declared.config.ServiceRow.{ServiceRow}
use Rattle.chpw_config_text.specs.Tables.{key_of, members_of, principal_of, rule_of, service_key_of}
use Rattle.chpw_config_text.specs.Stanzas.{stanzas_of}

-- a list is no deeper than its elements
list_depth : {A : Type 0} (written : A → Data) (n : ℕ) → ((a : A) → depth (written a) ≤ n) → (rows : List A)
    → items_depth (items_of (map written rows)) ≤ n
list_depth written n each [] = omega arith
list_depth written n each (row ∷ rows) =
    let here = each row in
    let more = list_depth written n each rows in
    omega (arith, here, more)

principal_depth : (row : PrincipalRow) → depth (principal_of row) ≤ 3
principal_depth row =
    let keys = list_depth key_of 1 (λ key. omega arith) row.keys in
    omega (arith, keys)

pub file_depth : (config : Config) → members_depth (members_of config) ≤ 80
file_depth config =
    let service = list_depth service_key_of 1 (λ key. omega arith) config.service in
    let rules = list_depth rule_of 1 (λ rule. omega arith) config.rules.list in
    let principals = list_depth principal_of 3 principal_depth config.principals in
    omega (arith, service, rules, principals)

pub stanzas_depth : (service : List ServiceRow) (principals : List PrincipalRow) → members_depth (stanzas_of service principals) ≤ 80
stanzas_depth [] [] = omega arith
stanzas_depth (key ∷ keys) [] =
    let service = list_depth service_key_of 1 (λ key. omega arith) (key ∷ keys) in
    omega (arith, service)
stanzas_depth [] (row ∷ rows) =
    let principals = list_depth principal_of 3 principal_depth (row ∷ rows) in
    omega (arith, principals)
stanzas_depth (key ∷ keys) (row ∷ rows) =
    let service = list_depth service_key_of 1 (λ key. omega arith) (key ∷ keys) in
    let principals = list_depth principal_of 3 principal_depth (row ∷ rows) in
    omega (arith, service, principals)
