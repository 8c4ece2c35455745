-- The TOML table of service keys and principals alone. An empty list isn't written.
use Rattle.std.specs.Prelude.{List, [], ◌∷◌, codes}
use Rattle.toml.specs.Data.{table, Members, no_members, member}
use Rattle.chpw_rules.specs.declared.config.PrincipalRow.{PrincipalRow}
use Rattle.chpw_rules.specs.declared.config.ServiceRow.{ServiceRow}
use Rattle.chpw_config_text.specs.Tables.{list_of, principal_of, service_key_of}

-- the keys of [service]
abbrev pub keys_table : List ServiceRow → Members
keys_table service = member (codes "key") (list_of service_key_of service) no_members

abbrev pub with_service : List ServiceRow → Members
with_service [] = no_members
with_service (row ∷ rows) = member (codes "service") (table (keys_table (row ∷ rows))) no_members

-- [[principal]], then [[service.key]]
abbrev pub stanzas_of : List ServiceRow → List PrincipalRow → Members
stanzas_of service [] = with_service service
stanzas_of service (row ∷ rows) = member (codes "principal") (list_of principal_of (row ∷ rows)) (with_service service)
