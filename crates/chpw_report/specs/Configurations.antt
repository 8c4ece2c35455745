-- The configuration with a table's principals, and the other settings of one.
use Rattle.std.specs.Prelude.{List, [], map}
use Rattle.std.specs.Option.{option_map_or}
use Rattle.chpw_rules.specs.declared.name.Name.{Name}
use Rattle.chpw_rules.specs.declared.config.Config.{Config}
use Rattle.chpw_rules.specs.declared.config.KeyBytes.{KeyBytes}
use Rattle.chpw_rules.specs.declared.config.PrincipalRow.{PrincipalRow}
use Rattle.chpw_record.specs.declared.key.KeyRow.{KeyRow}
use Rattle.chpw_table.specs.declared.table.Principal.{Principal}
use Rattle.chpw_table.specs.State.{State, keys_held, new_count}

abbrev pub key_bytes_of : KeyRow → KeyBytes
key_bytes_of row = record { kvno = row.kvno; iterations = row.count; aes128 = row.aes128; aes256 = row.aes256 }

-- a principal with the keys that are held, newest first
abbrev pub row_of : State → Name → PrincipalRow
row_of s name = record { name = name; keys = option_map_or (map key_bytes_of) (keys_held s name) [] }

abbrev pub names_of : State → List Name
names_of s = map (λ (p : Principal). p.name) s.principals

-- the principals that are held, in the order of their names; new keys are made under the count that is held
abbrev pub config_held : State → Config → Config
config_held s config = record config {
  policy = record config.policy { iterations = new_count s };
  principals = map (row_of s) (names_of s);
}
