-- The service: its realm, the keys that tickets for it are sealed under, and which messages it accepts.
use Rattle.std.specs.Prelude.{ℕ, ◌≤◌, List, length, Option, Some}
use Rattle.krb_keys.specs.Keys.{key_of}
use Rattle.krb_keys.specs.declared.key.Key.{Key}
use Rattle.krb_msgs.specs.declared.service_keys.ServiceKey.{ServiceKey}
use Rattle.chpw_rules.specs.declared.config.ServiceRow.{ServiceRow}
use Rattle.chpw_messages.specs.declared.versions.Acceptance.{Acceptance}

pub record Identity : Type 0 where
  pub realm : List ℕ
  pub keys : List ServiceKey
  pub accepts : Acceptance

-- 1 to 255 bytes
abbrev pub IsRealm : List ℕ → Type 0
IsRealm realm = (1 ≤ length realm) × (length realm ≤ 255)

-- the version and key that the service has, and those of the configuration
abbrev pub held : ServiceKey → ℕ × Option Key
held k = (k.kvno, Some k.key)

abbrev pub configured : ServiceRow → ℕ × Option Key
configured row = (row.kvno, key_of row.etype row.key)
