-- How long names and records are.
use Rattle.std.proofs.Common.{◌≡◌, ℕ, ◌+◌, ◌*◌, ◌^◌, ◌≤◌, ◌<◌, List, [], ◌∷◌, length, Bool, true, false, ◌&&◌, ◌||◌, refl, arith, length-append}
use Rattle.std.specs.Prelude.{nat_le, ◌==◌}
use Rattle.std.specs.List.{flat_map, list_all}
use Rattle.std.proofs.Math.Bool.{or-true}
use Rattle.std.proofs.lemmas.Bool.{and_parts}
use Rattle.std.proofs.lemmas.Bool.Decides.{nat_tests}
use Rattle.chpw_rules.specs.declared.name.Name.{Name}
use Rattle.chpw_rules.specs.Limits.{is_in, component_counts, component_lengths}
use Rattle.chpw_rules.specs.Names.{is_component, is_name}
use Rattle.chpw_record.specs.declared.record.PrincipalKey.{PrincipalKey}
use Rattle.chpw_record.specs.declared.record.Record.{Record}
use Rattle.chpw_record.specs.declared.record.Record.TheVariants as record_of
use Rattle.chpw_record.specs.Laws.{LengthsAreAllowed}
use Rattle.chpw_record.specs.Records.{ChangeFits, RecordFits, body_text, key_lengths, is_record_length, key_text}
use Rattle.chpw_record.specs.Records.{kind_number, name_bytes, part_bytes, version_bytes}
use Rattle.chpw_record.proofs.VersionLemmas.{version_length}

-- ---- a name

component_short : (part : List ℕ) → is_component part ≡ true → length part ≤ 128
component_short part h = grind (arith, nat_tests)

parts_short : (parts : List (List ℕ)) → list_all is_component parts ≡ true → length (flat_map part_bytes parts) ≤ 129 * length parts
parts_short [] h = omega arith
parts_short (part ∷ parts) h =
    omega (arith, length-append part (flat_map part_bytes parts), component_short part (and_parts _ _ h).0, parts_short parts (and_parts _ _ h).1)

counts_few : (n : ℕ) → (nat_le 1 n && nat_le n 8) ≡ true → n ≤ 8
counts_few n h = grind (arith, nat_tests)

pub name_short : (name : Name) → is_name name ≡ true → length (name_bytes name) ≤ 1033
name_short name h =
    omega (arith, parts_short name.parts (and_parts _ _ h).1, counts_few (length name.parts) (and_parts _ _ h).0)

low_component : (n : ℕ) → is_in component_lengths n ≡ true → 1 ≤ n
low_component n h = grind (arith, nat_tests)

low_parts : (parts : List (List ℕ)) → (is_in component_counts (length parts) && list_all is_component parts) ≡ true → 2 ≤ length (flat_map part_bytes parts)
low_parts [] h = cc
low_parts (p ∷ ps) h =
    let all = (and_parts (is_in component_counts (length (p ∷ ps))) (list_all is_component (p ∷ ps)) h).1 in
    let one : 1 ≤ length p = low_component (length p) (and_parts (is_component p) (list_all is_component ps) all).0 in
    omega (arith, length-append p (flat_map part_bytes ps), one)

-- ---- a record

size_of : (kind : ℕ) (c : PrincipalKey) → length (key_text kind c.name c.key) ≡ length (version_bytes kind c.key) + length (name_bytes c.name)
size_of kind c = length-append (version_bytes kind c.key) (name_bytes c.name)

key_short : (kind : ℕ) (c : PrincipalKey) → ChangeFits c → length (key_text kind c.name c.key) ≤ 1090
key_short kind c f =
    omega (arith, size_of kind c, version_length kind c.key f.aes128 f.aes256, name_short c.name f.name)

key_low : (kind : ℕ) (c : PrincipalKey) → ChangeFits c → 60 ≤ length (key_text kind c.name c.key)
key_low kind c f =
    omega (arith, size_of kind c, version_length kind c.key f.aes128 f.aes256, low_parts c.name.parts f.name)

pub text_short : (r : Record) → RecordFits r → length (body_text r) ≤ 1090
text_short (record_of.Key kind c) f = key_short (kind_number kind) c f
text_short (record_of.Raise count) f = omega arith

in_range : (n : ℕ) → 60 ≤ n → n ≤ 1090 → is_in key_lengths n ≡ true
in_range n h g = grind (arith, nat_tests)

-- the length of a change is that of a record
of_change : (n : ℕ) → is_in key_lengths n ≡ true → is_record_length n ≡ true
of_change n h = rw h (or-true (n == 5))

key_range : (kind : ℕ) (c : PrincipalKey) → ChangeFits c → is_record_length (length (key_text kind c.name c.key)) ≡ true
key_range kind c f =
    let n = length (key_text kind c.name c.key) in
    of_change n (in_range n (key_low kind c f) (key_short kind c f))

pub text_range : LengthsAreAllowed
text_range (record_of.Key kind c) f = key_range (kind_number kind) c f
text_range (record_of.Raise count) f = refl

most_of_change : (n : ℕ) → is_in key_lengths n ≡ true → n ≤ 1090
most_of_change n h = grind (arith, nat_tests)

pub length_most : (n : ℕ) → is_record_length n ≡ true → n ≤ 1090
length_most n h = at (n == 5) refl h
  where
    at : (b : Bool) → (n == 5) ≡ b → (b || is_in key_lengths n) ≡ true → n ≤ 1090
    at true e k = let five : n ≡ 5 = grind (arith, nat_tests) in omega (arith, five)
    at false e k = most_of_change n k

pub length_short : (n : ℕ) → is_record_length n ≡ true → n < 2 ^ 16
length_short n h = let m = length_most n h in omega (arith, m)
