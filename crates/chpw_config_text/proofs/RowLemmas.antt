-- A row is read as it is written.
use Rattle.std.proofs.Common.{◌≡◌, ◌∙◌, ℕ, ℤ, pos, negsuc, true, false, ◌&&◌, ◌==◌, List, [], ◌∷◌, length, Ok, refl, ap}
use Rattle.std.specs.List.{list_all, list_any}
use Rattle.std.proofs.lemmas.Bool.{and_parts, false≢true}
use Rattle.hex.proofs.HexLemmas.{decode_of-encode_lower}
use Rattle.chpw_rules.specs.declared.policy.Policy.{Policy}
use Rattle.chpw_rules.specs.declared.rules.Rule.{Rule}
use Rattle.chpw_rules.specs.declared.config.KeyBytes.{KeyBytes}
use Rattle.chpw_rules.specs.declared.config.ServiceRow.{ServiceRow}
use Rattle.chpw_rules.specs.Fitting.{is_aes_key, is_same_service_key, key_fits, policy_fits, rule_fits, service_key_fits, target_fits}
use Rattle.chpw_rules.specs.Limits.{aes128_length, aes256_length, depths, etypes, is_in, iteration_counts, key_length, kvnos, min_class_counts, min_lengths}
use Rattle.chpw_rules.specs.Names.{is_name}
use Rattle.chpw_config.specs.declared.fault.Location.{Location}
use Rattle.chpw_config.specs.Kinds.{a_hex_key, decoded}
use Rattle.chpw_config.specs.Rows.{comes_after, key_row, policy_of, rule_row, service_row}
use Rattle.chpw_config_text.specs.Tables.{hexadecimal, key_of, policy_table_of, rule_of, service_key_of}
use Rattle.chpw_config_text.specs.Typed.{are_bytes, is_typed_key, is_typed_service_key}
use Rattle.chpw_config_text.specs.Writable.{is_writable_name, is_writable_rule, is_writable_target}
use Rattle.chpw_config_text.proofs.NameLemmas.{name_spelled, target_spelled}
use Rattle.chpw_config_text.proofs.TextLemmas.{bytes_untested}

-- rows that can always be written
pub all_pass : {A : Type 0} (rows : List A) → list_all (λ _. true) rows ≡ true
all_pass [] = refl
all_pass (row ∷ rows) = all_pass rows

hex_read : (size : ℕ) (key : List ℕ) → are_bytes key ≡ true → (length key == size) ≡ true
    → a_hex_key size (hexadecimal key) ≡ Ok key
hex_read size key bytes long = ap (decoded size) (decode_of-encode_lower key (bytes_untested key bytes)) ∙ rw long

abbrev service_key : ℕ → ℤ → List ℕ → ServiceRow
service_key kvno etype key = record { kvno = kvno; etype = etype; key = key }

service_key_at : (before : List ServiceRow) (kvno : ℕ) (etype : ℤ) (key : List ℕ)
    → is_in kvnos kvno ≡ true → is_aes_key etype key ≡ true → are_bytes key ≡ true
    → list_any (is_same_service_key (service_key kvno etype key)) before ≡ false
    → service_row before (service_key_of (service_key kvno etype key)) ≡ Ok (service_key kvno etype key)
unfolding service_row
service_key_at before kvno (pos etype) key in_kvnos aes bytes new =
    let (in_etypes, long) = and_parts (is_in etypes etype) (length key == key_length etype) aes in
    rw (in_kvnos, in_etypes, hex_read (key_length etype) key bytes long, new)
service_key_at before kvno (negsuc etype) key in_kvnos aes bytes new = absurd (false≢true aes)

pub service_key_read : (before : List ServiceRow) (row : ServiceRow) → service_key_fits row ≡ true → is_typed_service_key row ≡ true
    → list_any (is_same_service_key row) before ≡ false → service_row before (service_key_of row) ≡ Ok row
service_key_read before row fits bytes new =
    let (in_kvnos, aes) = and_parts (is_in kvnos row.kvno) (is_aes_key row.etype row.key) fits in
    service_key_at before row.kvno row.etype row.key in_kvnos aes bytes new

pub policy_read : (policy : Policy) → policy_fits policy ≡ true
    → policy_of (policy_table_of policy) ≡ Ok policy
unfolding policy_of
policy_read policy fits =
    let (front, in_counts) = and_parts (is_in min_lengths policy.min_length && is_in min_class_counts policy.min_classes
    && is_in depths policy.depth) (is_in iteration_counts policy.iterations) fits in
    let (first, in_depths) = and_parts (is_in min_lengths policy.min_length && is_in min_class_counts policy.min_classes) (is_in depths policy.depth) front in
    let (in_lengths, in_classes) = and_parts (is_in min_lengths policy.min_length) (is_in min_class_counts policy.min_classes) first in
    rw (in_lengths, in_classes, in_depths, in_counts)

pub rule_read : (before : List Rule) (rule : Rule) → rule_fits rule ≡ true → is_writable_rule rule ≡ true
    → rule_row before (rule_of rule) ≡ Ok rule
unfolding rule_row
rule_read before rule fits writable =
    let (actor_fits, fit) = and_parts (is_name rule.actor) (target_fits rule.target) fits in
    let (actor_writable, target_writable) = and_parts (is_writable_name rule.actor) (is_writable_target rule.target) writable in
    rw (name_spelled rule.actor actor_fits actor_writable, target_spelled rule.target fit target_writable)

pub key_read : (at : Location) (before : List KeyBytes) (key : KeyBytes) → key_fits key ≡ true → is_typed_key key ≡ true
    → comes_after before key.kvno ≡ true → key_row at before (key_of key) ≡ Ok key
unfolding key_row
key_read at before key fits typed after =
    let (in_kvnos, in_counts) = and_parts (is_in kvnos key.kvno) (is_in iteration_counts key.iterations) fits in
    let (front, long256) =
    and_parts (are_bytes key.aes128 && (length key.aes128 == aes128_length) && are_bytes key.aes256)
    (length key.aes256 == aes256_length) typed in
    let (front128, bytes256) = and_parts (are_bytes key.aes128 && (length key.aes128 == aes128_length)) (are_bytes key.aes256) front in
    let (bytes128, long128) = and_parts (are_bytes key.aes128) (length key.aes128 == aes128_length) front128 in
    rw (in_kvnos, after, in_counts, hex_read aes128_length key.aes128 bytes128 long128, hex_read aes256_length key.aes256 bytes256 long256)
