-- The mirror of the table: the newest key that was reported for each name, in the order of the names.
use Rattle.std.specs.Prelude.{ℕ, Bool, false, ◌&&◌, ◌==◌, nat_lt, bytes_eq, if◌then◌else◌, List, length, Option, Some, None}
use Rattle.std.specs.Map.{lookup, remove_entry}
use Rattle.std.specs.BTreeMap.{is_at, insert_entry}
use Rattle.chpw_rules.specs.declared.name.Name.{Name}
use Rattle.chpw_rules.specs.declared.pattern.NamePatterns.{NamePatterns}
use Rattle.chpw_rules.specs.Names.{name_cmp, is_name}
use Rattle.chpw_rules.specs.Patterns.{is_ours}
use Rattle.chpw_record.specs.declared.key.KeyRow.{KeyRow}
use Rattle.chpw_kdc.specs.declared.fields.KeyPair.{KeyPair}
use Rattle.chpw_kdc.specs.declared.judging.Judgement.{Judgement}
use Rattle.chpw_kdc.specs.declared.judging.Judgement.TheVariants.{Leave, Adopt, Put}

abbrev pub Mirror : Type 0
Mirror = List (Name × KeyRow)

-- the key of a name
abbrev pub key_of : Mirror → Name → Option KeyRow
key_of mirror name = lookup (is_at (name_cmp name)) mirror

abbrev pub with_key : Mirror → Name → KeyRow → Mirror
with_key mirror name key = insert_entry name_cmp mirror name key

abbrev pub without : Mirror → Name → Mirror
without mirror name = remove_entry (is_at (name_cmp name)) mirror

-- of two keys the newer one, and the second if neither is newer
abbrev pub newer : KeyRow → KeyRow → KeyRow
newer held key = if nat_lt key.kvno held.kvno then held else key

abbrev pub newer_of : Option KeyRow → KeyRow → KeyRow
newer_of None key = key
newer_of (Some held) key = newer held key

-- the mirror's key of a name if it is newer than this one, or this one
abbrev pub newest : Mirror → Name → KeyRow → KeyRow
newest mirror name key = newer_of (key_of mirror name) key

-- the newest key of this name is no older than this one
abbrev pub told : Mirror → Name → KeyRow → Mirror
told mirror name key = with_key mirror name (newest mirror name key)

-- ---- against what the KDC has

-- by patterns, if there are any
abbrev pub are_ours : Option NamePatterns → Name → Bool
are_ours None name = false
are_ours (Some patterns) name = is_ours patterns name

-- a name that isn't held may be adopted: of one component, within the limits, and the service's
abbrev pub may_adopt : (Name → Bool) → Name → Bool
may_adopt ours name = (length name.parts == 1) && is_name name && ours name

-- the KDC's keys, which were derived under the default iteration count (RFC 3962 section 4)
abbrev pub adopted : ℕ → KeyPair → KeyRow
adopted kvno keys = record { kvno = kvno; count = 4096; aes128 = keys.aes128; aes256 = keys.aes256 }

abbrev pub is_same : KeyRow → ℕ → KeyPair → Bool
is_same held kvno keys = (held.kvno == kvno) && bytes_eq held.aes128 keys.aes128 && bytes_eq held.aes256 keys.aes256

-- a name that is held: the KDC's newer key is adopted; one with the same version and keys stays; any other one is replaced
abbrev pub judgement : (Name → Bool) → Option KeyRow → Name → ℕ → KeyPair → Judgement
judgement ours None name kvno keys = if may_adopt ours name then Adopt (adopted kvno keys) else Leave
judgement ours (Some held) name kvno keys =
    if nat_lt held.kvno kvno then Adopt (adopted kvno keys)
    else if is_same held kvno keys then Leave
    else Put held
