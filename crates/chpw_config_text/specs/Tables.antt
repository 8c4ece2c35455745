-- The TOML table that a configuration is written as, with the keys of docs/ADMIN.md. The members of a table are in the
-- order of their keys, as in a `toml::Table`, and not in the order in which a file is read.
use Rattle.std.specs.Prelude.{ℕ, pos, List, codes, map, Option, Some, None}
use Rattle.std.specs.List.{join_with_byte}
use Rattle.hex.specs.Hex.{encode_lower}
use Rattle.toml.specs.Data.{Data, string, integer, boolean, array, table, Members, no_members, member}
use Rattle.toml.specs.View.{items_of}
use Rattle.chpw_rules.specs.declared.name.Name.{Name}
use Rattle.chpw_rules.specs.declared.policy.Policy.{Policy}
use Rattle.chpw_rules.specs.declared.rules.Rule.{Rule}
use Rattle.chpw_rules.specs.declared.config.Config.{Config}
use Rattle.chpw_rules.specs.declared.config.KeyBytes.{KeyBytes}
use Rattle.chpw_rules.specs.declared.config.PrincipalRow.{PrincipalRow}
use Rattle.chpw_rules.specs.declared.config.ServiceRow.{ServiceRow}

-- a whole number
abbrev pub number : ℕ → Data
number n = integer (pos n)

-- bytes in lower-case hexadecimal digits
abbrev pub hexadecimal : List ℕ → Data
hexadecimal bytes = string (encode_lower bytes)

-- a list, each element written by this function
abbrev pub list_of : {A : Type 0} → (A → Data) → List A → Data
list_of written rows = array (items_of (map written rows))

-- a name: its components with `/` (47) between them
abbrev pub text_of : Name → List ℕ
text_of name = join_with_byte 47 name.parts

-- the name of a rule's target, or `*` for everyone
abbrev pub target_text : Option Name → List ℕ
target_text None = codes "*"
target_text (Some name) = text_of name

-- [[service.key]]
abbrev pub service_key_of : ServiceRow → Data
service_key_of row =
    table (member (codes "etype") (integer row.etype)
    (member (codes "key") (hexadecimal row.key)
    (member (codes "kvno") (number row.kvno) no_members)))

-- [service]
abbrev pub service_of : Config → Members
service_of config =
    member (codes "key") (list_of service_key_of config.service)
    (member (codes "max_entries") (number config.max_entries)
    (member (codes "realm") (string config.realm) no_members))

-- [policy]
abbrev pub policy_table_of : Policy → Members
policy_table_of policy =
    member (codes "depth") (number policy.depth)
    (member (codes "iterations") (number policy.iterations)
    (member (codes "min_classes") (number policy.min_classes)
    (member (codes "min_length") (number policy.min_length)
    (member (codes "set_needs_initial") (boolean policy.set_needs_initial) no_members))))

-- [[rule]]
abbrev pub rule_of : Rule → Data
rule_of rule =
    table (member (codes "actor") (string (text_of rule.actor))
    (member (codes "target") (string (target_text rule.target)) no_members))

-- [[principal.key]]
abbrev pub key_of : KeyBytes → Data
key_of key =
    table (member (codes "aes128") (hexadecimal key.aes128)
    (member (codes "aes256") (hexadecimal key.aes256)
    (member (codes "iterations") (number key.iterations)
    (member (codes "kvno") (number key.kvno) no_members))))

-- [[principal]]
abbrev pub principal_of : PrincipalRow → Data
principal_of row =
    table (member (codes "key") (list_of key_of row.keys)
    (member (codes "name") (string (text_of row.name)) no_members))

-- the whole file
abbrev pub members_of : Config → Members
members_of config =
    member (codes "policy") (table (policy_table_of config.policy))
    (member (codes "principal") (list_of principal_of config.principals)
    (member (codes "rule") (list_of rule_of config.rules.list)
    (member (codes "service") (table (service_of config)) no_members)))
