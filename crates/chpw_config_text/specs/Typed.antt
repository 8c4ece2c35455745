-- For proofs alone: what the types say of a configuration's keys. Each consists of bytes, and those of a principal have
-- their lengths.
use Rattle.std.specs.Prelude.{ℕ, Bool, ◌&&◌, ◌==◌, nat_lt, List, length}
use Rattle.std.specs.List.{list_all}
use Rattle.chpw_rules.specs.declared.config.Config.{Config}
use Rattle.chpw_rules.specs.declared.config.KeyBytes.{KeyBytes}
use Rattle.chpw_rules.specs.declared.config.PrincipalRow.{PrincipalRow}
use Rattle.chpw_rules.specs.declared.config.ServiceRow.{ServiceRow}
use Rattle.chpw_rules.specs.Limits.{aes128_length, aes256_length}

abbrev pub are_bytes : List ℕ → Bool
are_bytes key = list_all (λ byte. nat_lt byte 256) key

abbrev pub is_typed_service_key : ServiceRow → Bool
is_typed_service_key row = are_bytes row.key

abbrev pub is_typed_key : KeyBytes → Bool
is_typed_key key =
    are_bytes key.aes128 && (length key.aes128 == aes128_length)
    && are_bytes key.aes256 && (length key.aes256 == aes256_length)

abbrev pub is_typed_principal : PrincipalRow → Bool
is_typed_principal row = list_all is_typed_key row.keys

abbrev pub is_typed : Config → Bool
is_typed config =
    list_all is_typed_service_key config.service
    && list_all is_typed_principal config.principals
