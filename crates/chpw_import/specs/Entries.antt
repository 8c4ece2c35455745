-- What an entry of a keytab is for a realm, by itself.
use Rattle.std.specs.Prelude.{ℕ, ℤ, pos, negsuc, Bool, false, not, ◌&&◌, ◌==◌, if◌then◌else◌, List, map, bytes_eq, Result, Ok, Err}
use Rattle.std.specs.Option.{ok_or}
use Rattle.krb_keys.specs.Keys.{key_of}
use Rattle.krb_keys.specs.declared.key.Key.{Key}
use Rattle.krb_keytab.specs.declared.entry.KeytabEntry.{KeytabEntry}
use Rattle.chpw_rules.specs.declared.name.Name.{Name}
use Rattle.chpw_rules.specs.Names.{is_name}
use Rattle.chpw_rules.specs.Limits.{is_in, etypes}
use Rattle.chpw_config_text.specs.Writable.{is_writable_name}
use Rattle.chpw_import.specs.declared.left.Reason.{Reason}
use Rattle.chpw_import.specs.declared.left.Reason.TheVariants.{OtherRealm, BadName, NoVersion, OtherType, KeyLength}

-- the name of its principal
abbrev pub name_in : KeytabEntry → Name
name_in e = record { parts = map (λ c. c.items) e.components.items }

-- a name that a configuration can have, and a file can express
abbrev pub is_good_name : Name → Bool
is_good_name name = is_name name && is_writable_name name

-- the name of whose version it is, or why it is of none
unfoldable pub named : List ℕ → KeytabEntry → Result Name Reason
named realm e =
    if not (bytes_eq e.realm.items realm) then Err OtherRealm
    else if not (is_good_name (name_in e)) then Err BadName
    else if e.kvno == 0 then Err NoVersion
    else Ok (name_in e)

-- an encryption type of a configuration's keys
abbrev pub is_aes : ℤ → Bool
is_aes (pos etype) = is_in etypes etype
is_aes (negsuc _) = false

-- its key, or why no configuration can have it
unfoldable pub key_in : KeytabEntry → Result Key Reason
key_in e =
    if not (is_aes e.etype) then Err OtherType
    else ok_or (key_of e.etype e.key.items) KeyLength
