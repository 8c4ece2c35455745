-- A list is read as it is written, element by element.
use Rattle.std.proofs.Common.{◌≡◌, ◌∙◌, sym, ℕ, suc, ◌+◌, true, false, not, ◌&&◌, ◌==◌, List, []}
use Rattle.std.proofs.Common.{◌∷◌, ◌++◌, length, map, Result, Ok, refl, ap, append-nil, append_assoc}
use Rattle.std.specs.Prelude.{nat_lt}
use Rattle.std.specs.List.{list_all, list_any}
use Rattle.std.proofs.lemmas.Bool.{and_parts, not-true}
use Rattle.toml.specs.Data.{Data}
use Rattle.toml.specs.View.{items_of}
use Rattle.chpw_rules.specs.declared.rules.Rule.{Rule}
use Rattle.chpw_rules.specs.declared.limits.Limits.{Limits}
use Rattle.chpw_rules.specs.declared.config.KeyBytes.{KeyBytes}
use Rattle.chpw_rules.specs.declared.config.PrincipalRow.{PrincipalRow}
use Rattle.chpw_rules.specs.declared.config.ServiceRow.{ServiceRow}
use Rattle.chpw_rules.specs.Fitting.{descend_from, is_same_principal, is_same_service_key, key_fits}
use Rattle.chpw_rules.specs.Fitting.{kvnos_descend, none_again, principal_fits, rule_fits, service_key_fits}
use Rattle.chpw_rules.specs.Limits.{is_in, key_counts}
use Rattle.chpw_rules.specs.Names.{is_name, is_same_name}
use Rattle.chpw_config.specs.declared.fault.ConfigFault.{ConfigFault}
use Rattle.chpw_config.specs.declared.fault.Location.{Location}
use Rattle.chpw_config.specs.declared.fault.Part.TheVariants.{PrincipalKey}
use Rattle.chpw_config.specs.Faults.{◌>>=◌, location}
use Rattle.chpw_config.specs.Kinds.{a_list, item_count}
use Rattle.chpw_config.specs.Rows.{comes_after, key_row, names_of, principal_row, rule_row, service_row, walk}
use Rattle.chpw_config_text.specs.Tables.{key_of, list_of, principal_of, rule_of, service_key_of}
use Rattle.chpw_config_text.specs.Typed.{is_typed_key, is_typed_principal, is_typed_service_key}
use Rattle.chpw_config_text.specs.Writable.{is_writable_principal, is_writable_rule}
use Rattle.chpw_config_text.proofs.NameLemmas.{name_spelled}
use Rattle.chpw_config_text.proofs.RowLemmas.{key_read, rule_read, service_key_read}

-- each row is read back after those before it
abbrev pub AreRead : {A : Type 0} → (List A → Data → Result A ConfigFault) → (A → Data) → List A → List A → Type 0
AreRead read written before [] = Unit {0}
AreRead read written before (row ∷ rows) =
    (read before (written row) ≡ Ok row) × AreRead read written (before ++ row ∷ []) rows

pub walk_read : {A : Type 0} (read : List A → Data → Result A ConfigFault) (written : A → Data) (before rows : List A)
    → AreRead read written before rows → walk read before (items_of (map written rows)) ≡ Ok (before ++ rows)
walk_read read written before [] are = ap Ok (sym (append-nil before))
walk_read read written before (row ∷ rows) are =
    ap (λ r. r >>= (λ a. walk read (before ++ a ∷ []) (items_of (map written rows)))) are.0
    ∙ walk_read read written (before ++ row ∷ []) rows are.1
    ∙ ap Ok (append_assoc before (row ∷ []) rows)

item_count_of : {A : Type 0} (written : A → Data) (rows : List A) → item_count (items_of (map written rows)) ≡ length rows
item_count_of written [] = refl
item_count_of written (row ∷ rows) = ap (λ n. suc n) (item_count_of written rows)

-- a list of as many elements as its limits allow
pub list_read : {A : Type 0} (limits : Limits) (written : A → Data) (rows : List A) → is_in limits (length rows) ≡ true
    → a_list limits (list_of written rows) ≡ Ok (items_of (map written rows))
list_read limits written rows counted = rw (item_count_of written rows, counted)

pub service_keys_read : (before rows : List ServiceRow) → list_all service_key_fits rows ≡ true → list_all is_typed_service_key rows ≡ true
    → none_again is_same_service_key before rows ≡ true → AreRead service_row service_key_of before rows
service_keys_read before [] fit typed none = tt
service_keys_read before (row ∷ rows) fit typed none =
    let (fits, more_fit) = and_parts (service_key_fits row) (list_all service_key_fits rows) fit in
    let (here, more_typed) = and_parts (is_typed_service_key row) (list_all is_typed_service_key rows) typed in
    let (new, more_new) = and_parts (not (list_any (is_same_service_key row) before)) (none_again is_same_service_key (before ++ row ∷ []) rows) none in (
      service_key_read before row fits here (not-true (list_any (is_same_service_key row) before) new),
      service_keys_read (before ++ row ∷ []) rows more_fit more_typed more_new,
    )

pub rules_read : (before rules : List Rule) → list_all rule_fits rules ≡ true → list_all is_writable_rule rules ≡ true
    → AreRead rule_row rule_of before rules
rules_read before [] fit writable = tt
rules_read before (rule ∷ rules) fit writable =
    let (fits, more_fit) = and_parts (rule_fits rule) (list_all rule_fits rules) fit in
    let (here, more_writable) = and_parts (is_writable_rule rule) (list_all is_writable_rule rules) writable in
    (rule_read before rule fits here, rules_read (before ++ rule ∷ []) rules more_fit more_writable)

-- a version number is held against the last key's
comes_after_end : (before : List KeyBytes) (newer : KeyBytes) (kvno : ℕ)
    → comes_after (before ++ newer ∷ []) kvno ≡ nat_lt kvno newer.kvno
comes_after_end [] newer kvno = refl
comes_after_end (_ ∷ []) newer kvno = refl
comes_after_end (_ ∷ next ∷ before) newer kvno = comes_after_end (next ∷ before) newer kvno

keys_read_after : (at : Location) (before : List KeyBytes) (newer : KeyBytes) (keys : List KeyBytes)
    → list_all key_fits keys ≡ true → list_all is_typed_key keys ≡ true → descend_from newer.kvno keys ≡ true
    → AreRead (key_row at) key_of (before ++ newer ∷ []) keys
keys_read_after at before newer [] fit typed down = tt
keys_read_after at before newer (key ∷ keys) fit typed down =
    let (fits, more_fit) = and_parts (key_fits key) (list_all key_fits keys) fit in
    let (here, more_typed) = and_parts (is_typed_key key) (list_all is_typed_key keys) typed in
    let (step, more_down) = and_parts (nat_lt key.kvno newer.kvno) (descend_from key.kvno keys) down in (
      key_read at (before ++ newer ∷ []) key fits here (comes_after_end before newer key.kvno ∙ step),
      keys_read_after at (before ++ newer ∷ []) key keys more_fit more_typed more_down,
    )

pub keys_read : (at : Location) (keys : List KeyBytes) → list_all key_fits keys ≡ true → list_all is_typed_key keys ≡ true
    → kvnos_descend keys ≡ true → AreRead (key_row at) key_of [] keys
keys_read at [] fit typed down = tt
keys_read at (key ∷ keys) fit typed down =
    let (fits, more_fit) = and_parts (key_fits key) (list_all key_fits keys) fit in
    let (here, more_typed) = and_parts (is_typed_key key) (list_all is_typed_key keys) typed in
    (key_read at [] key fits here refl, keys_read_after at [] key keys more_fit more_typed down)

-- no row before has the name
named_anew : (row : PrincipalRow) (before : List PrincipalRow)
    → list_any (is_same_name row.name) (names_of before) ≡ list_any (is_same_principal row) before
named_anew row [] = refl
named_anew row (other ∷ before) = rw (named_anew row before)

principal_read : (before : List PrincipalRow) (row : PrincipalRow) → principal_fits row ≡ true → is_writable_principal row ≡ true
    → is_typed_principal row ≡ true → list_any (is_same_principal row) before ≡ false → principal_row before (principal_of row) ≡ Ok row
unfolding principal_row
principal_read before row fits writable typed new =
    let at = location PrincipalKey (length before) in
    let (front, down) = and_parts (is_name row.name && is_in key_counts (length row.keys) && list_all key_fits row.keys) (kvnos_descend row.keys) fits in
    let (named, fit) = and_parts (is_name row.name && is_in key_counts (length row.keys)) (list_all key_fits row.keys) front in
    let (name_fits, counted) = and_parts (is_name row.name) (is_in key_counts (length row.keys)) named in
    let none : list_any (is_same_name row.name) (names_of before) ≡ false = named_anew row before ∙ new in
    rw (
      name_spelled row.name name_fits writable,
      none,
      list_read key_counts key_of row.keys counted,
      walk_read (key_row at) key_of [] row.keys (keys_read at row.keys fit typed down),
    )

pub principals_read : (before rows : List PrincipalRow) → list_all principal_fits rows ≡ true → list_all is_writable_principal rows ≡ true
    → list_all is_typed_principal rows ≡ true → none_again is_same_principal before rows ≡ true
    → AreRead principal_row principal_of before rows
principals_read before [] fit writable typed none = tt
principals_read before (row ∷ rows) fit writable typed none =
    let (fits, more_fit) = and_parts (principal_fits row) (list_all principal_fits rows) fit in
    let (named, more_writable) = and_parts (is_writable_principal row) (list_all is_writable_principal rows) writable in
    let (here, more_typed) = and_parts (is_typed_principal row) (list_all is_typed_principal rows) typed in
    let (new, more_new) = and_parts (not (list_any (is_same_principal row) before)) (none_again is_same_principal (before ++ row ∷ []) rows) none in (
      principal_read before row fits named here (not-true (list_any (is_same_principal row) before) new),
      principals_read (before ++ row ∷ []) rows more_fit more_writable more_typed more_new,
    )
