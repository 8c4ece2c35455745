-- The service key of a configuration that a client uses.
use Rattle.std.specs.Prelude.{◌≡◌, List, [], ◌∷◌, Some}
use Rattle.krb_keys.specs.Keys.{key_of}
use Rattle.krb_msgs.specs.declared.service_keys.ServiceKey.{ServiceKey}
use Rattle.chpw_rules.specs.declared.config.ServiceRow.{ServiceRow}

-- the first
abbrev pub IsFirstKey : List ServiceRow → ServiceKey → Type 0
IsFirstKey [] key = ⊥
IsFirstKey (row ∷ rows) key = (key.kvno ≡ row.kvno) × (key_of row.etype row.key ≡ Some key.key)
