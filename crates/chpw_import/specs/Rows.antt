-- The rows that the keys of a realm make: those of the service, and the principals'.
use Rattle.std.specs.Prelude.{ℕ, ℤ, pos, zero, suc, Bool, if◌then◌else◌, List, [], ◌∷◌, take, codes, Option, Some, None}
use Rattle.std.specs.List.{flat_map}
use Rattle.std.specs.Option.{option_map, option_to_list}
use Rattle.krb_keys.specs.declared.key.Key.{Key}
use Rattle.krb_keys.specs.declared.key.Key.TheVariants.{Aes128, Aes256}
use Rattle.krb_keys.specs.Keys.{bytes_of}
use Rattle.chpw_rules.specs.declared.name.Name.{Name}
use Rattle.chpw_rules.specs.declared.config.KeyBytes.{KeyBytes}
use Rattle.chpw_rules.specs.declared.config.PrincipalRow.{PrincipalRow}
use Rattle.chpw_rules.specs.declared.config.ServiceRow.{ServiceRow}
use Rattle.chpw_rules.specs.Names.{is_same_name}
use Rattle.chpw_import.specs.declared.slot.Slot.{Slot}
use Rattle.chpw_import.specs.declared.slot.Found.{Found}

-- kadmin/changepw (RFC 3244 section 2)
unfoldable pub is_service : Name → Bool
is_service name = is_same_name name (record { parts = codes "kadmin" ∷ codes "changepw" ∷ [] })

abbrev pub slot_at : Name → ℕ → ℤ → Slot
slot_at name kvno etype = record { name = name; kvno = record { 0 = kvno }; etype = record { 0 = etype } }

abbrev pub key_for : (Slot → Option Found) → Name → ℕ → ℤ → Option Key
key_for keys name kvno etype = option_map (λ found. found.key) (keys (slot_at name kvno etype))

-- a version whose keys of both encryption types are present
abbrev pub pair_of : ℕ → ℕ → Option Key → Option Key → Option KeyBytes
pair_of kvno iterations (Some (Aes128 aes128)) (Some (Aes256 aes256)) =
    Some (record { kvno = kvno; iterations = iterations; aes128 = aes128; aes256 = aes256 })
pair_of kvno iterations aes128 aes256 = None

abbrev pub pair_for : (Slot → Option Found) → ℕ → Name → ℕ → Option KeyBytes
pair_for keys iterations name kvno = pair_of kvno iterations (key_for keys name kvno (pos 17)) (key_for keys name kvno (pos 18))

abbrev pub ahead : Option KeyBytes → List KeyBytes → List KeyBytes
ahead None others = []
ahead (Some key) others = key ∷ others

-- the keys of a version and of each one below it, as long as both are present; at most this many
unfoldable pub keys_from : (ℕ → Option KeyBytes) → ℕ → ℕ → List KeyBytes
keys_from pair zero kvno = []
keys_from pair (suc count) zero = []
keys_from pair (suc count) (suc below) = ahead (pair (suc below)) (keys_from pair count below)

-- the principal of a name with its newest version, if it has keys and isn't the service
abbrev pub row_with : Name → List KeyBytes → Option PrincipalRow
row_with name [] = None
row_with name (key ∷ others) = Some (record { name = name; keys = key ∷ others })

abbrev pub row_for : (Slot → Option Found) → ℕ → Name × ℕ → Option PrincipalRow
row_for keys iterations p =
    if is_service p.0 then None else row_with p.0 (keys_from (pair_for keys iterations p.0) 16 p.1)

-- the first of the principals, for these names in their order
unfoldable pub first_rows : {A B : Type 0} → (A → Option B) → ℕ → List A → List B
first_rows row limit xs = take limit (flat_map (λ x. option_to_list (row x)) xs)

abbrev pub first_principals : (Slot → Option Found) → ℕ → List (Name × ℕ) → List PrincipalRow
first_principals keys iterations names = first_rows (row_for keys iterations) 10000 names

-- a key of the service
abbrev pub service_row : Slot × Found → Option ServiceRow
service_row p =
    if is_service p.0.name then Some (record { kvno = p.0.kvno.0; etype = p.0.etype.0; key = bytes_of p.1.key }) else None

abbrev pub first_service_rows : List (Slot × Found) → List ServiceRow
first_service_rows slots = first_rows service_row 16 slots
