-- The keys of a password (RFC 3962 section 4), and the password in a file.
use Rattle.std.specs.Prelude.{◌≡◌, ◌⊎◌, ◌<◌, ℕ, List, [], ◌∷◌, ◌++◌, length, Bool, nat_eq}
use Rattle.std.specs.List.{flat_map, ends_with}
use Rattle.krb_keys.specs.declared.etype.Etype.TheVariants as etype
use Rattle.krb_keys.specs.Keys.{bytes_of, s2k}
use Rattle.chpw_rules.specs.declared.name.Name.{Name}
use Rattle.chpw_rules.specs.declared.config.KeyBytes.{KeyBytes}
use Rattle.chpw_rules.specs.declared.config.PrincipalRow.{PrincipalRow}
use Rattle.chpw_import.specs.declared.numbers.KeyNumbers.{KeyNumbers}

-- the last byte is this one
abbrev pub EndsIn : ℕ → List ℕ → Type 0
EndsIn byte bytes = (front : List ℕ) × (bytes ≡ front ++ byte ∷ [])

-- a newline (10), alone or after a carriage return (13), is the end of a file's line
abbrev pub IsWithoutEnd : List ℕ → List ℕ → Type 0
IsWithoutEnd file line = (file ≡ line ++ 13 ∷ 10 ∷ [])
    ⊎ (((file ≡ line ++ 10 ∷ []) × ¬ (EndsIn 13 line)) ⊎ ((file ≡ line) × ¬ (EndsIn 10 file)))

-- the file's bytes without one such end, if there are any
abbrev pub IsPasswordOf : List ℕ → List ℕ → Type 0
IsPasswordOf file password = (0 < length password) × IsWithoutEnd file password

-- nothing, or such an end
abbrev pub HoldsNoPassword : List ℕ → Type 0
HoldsNoPassword file = IsWithoutEnd file []

-- whether the end has a carriage return
abbrev pub has_carriage_return : List ℕ → Bool
has_carriage_return file = ends_with nat_eq file (13 ∷ 10 ∷ [])

-- the default salt (RFC 4120 section 4): the realm, then the name's components
abbrev pub salt_of : List ℕ → Name → List ℕ
salt_of realm name = realm ++ flat_map (λ (part : List ℕ). part) name.parts

-- string-to-key of both encryption types
abbrev pub key_of : List ℕ → List ℕ → KeyNumbers → KeyBytes
key_of password salt numbers = record {
  kvno = numbers.kvno;
  iterations = numbers.iterations;
  aes128 = bytes_of (s2k etype.Aes128 password salt numbers.iterations);
  aes256 = bytes_of (s2k etype.Aes256 password salt numbers.iterations);
}

abbrev pub row_of : List ℕ → Name → List ℕ → KeyNumbers → PrincipalRow
row_of realm name password numbers = record { name = name; keys = key_of password (salt_of realm name) numbers ∷ [] }
