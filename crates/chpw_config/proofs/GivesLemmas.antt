-- What a step gives where it has no fault.
use Rattle.std.proofs.Common.{◌≡◌, ℕ, ◌+◌, ℤ, pos, negsuc, Bool, true, false, List, [], ◌∷◌, ◌++◌, length, Option, Some}
use Rattle.std.proofs.Common.{None, Result, Ok, Err, if◌then◌else◌, refl, arith, length-append, ◌==◌, codes, inl, inr}
use Rattle.std.specs.List.{list_any}
use Rattle.std.specs.Option.{ok_or}
use Rattle.std.specs.Str.{bytes_eq}
use Rattle.std.proofs.lemmas.Bool.{cases_Bool}
use Rattle.hex.specs.Hex.{decode_of}
use Rattle.toml.specs.Data.{Data, Items, no_items, item, Members, get_member, as_integer, as_str, as_array}
use Rattle.chpw_config.specs.declared.fault.ConfigFaultKind.{ConfigFaultKind}
use Rattle.chpw_config.specs.declared.fault.ConfigFaultKind.TheVariants.{MissingKey, OutOfRange}
use Rattle.chpw_config.specs.declared.fault.ConfigFault.{ConfigFault}
use Rattle.chpw_config.specs.declared.fault.Location.{Location}
use Rattle.chpw_rules.specs.declared.limits.Limits.{Limits}
use Rattle.chpw_config.specs.Faults.{◌>>=◌, fault_at, placed}
use Rattle.chpw_config.specs.Kinds.{of_kind, within, whole_number, a_number, a_text, a_list}
use Rattle.chpw_config.specs.Kinds.{a_name, a_target, a_hex_key, spelled_name, spelled_target}
use Rattle.chpw_config.specs.Kinds.{decoded, if_present, required, optional, item_count}
use Rattle.chpw_rules.specs.Limits.{is_in}
use Rattle.chpw_rules.specs.Fitting.{target_fits}
use Rattle.chpw_rules.specs.Names.{is_name, name_from, parts_of}
use Rattle.chpw_config.specs.Rows.{once, walk}

-- a value that the step gives has the property
pub record Gives {A E : Type 0} (r : Result A E) (P : A → Type 0) : Type 0 where
  pub at : (a : A) → r ≡ Ok a → P a

pub gives_ok : {A E : Type 0} (P : A → Type 0) (a : A) → P a → Gives {E = E} (Ok a) P
gives_ok P a p = record { at = λ b same. let e : a ≡ b = cc in rw (← e) p }

pub gives_err : {A E : Type 0} (P : A → Type 0) (e : E) → Gives {A = A} (Err e) P
gives_err P e = record { at = λ b same. cc }

-- a step, and the steps after it
pub gives_then : {A B E : Type 0} {Q : A → Type 0} {P : B → Type 0} (r : Result A E) (f : A → Result B E)
    → Gives r Q → ((a : A) → Q a → Gives (f a) P) → Gives (r >>= f) P
gives_then (Ok a) f q next = next a (q.at a refl)
gives_then (Err e) f q next = gives_err _ e

pub gives_any : {A E : Type 0} (r : Result A E) → Gives r (λ _. Unit {0})
gives_any r = record { at = λ _ _. tt }

pub gives_placed : {A : Type 0} {P : A → Type 0} (at : Location) (r : Result A ConfigFaultKind) → Gives r P → Gives (placed at r) P
gives_placed {P = P} at (Ok a) p = gives_ok P a (p.at a refl)
gives_placed {P = P} at (Err kind) p = gives_err P _

-- a key that has to be there
pub gives_required : {A : Type 0} {P : A → Type 0} (at : Location) (key : List ℕ) (kind : Data → Result A ConfigFaultKind) (members : Members)
    → ((value : Data) → Gives (kind value) P) → Gives (required at key kind members) P
gives_required {P = P} at key kind members each =
    elim (get_member key members) as (λ found. Gives (ok_or found (fault_at at MissingKey) >>= (λ v. placed at (kind v))) P) [
      | None ↦ gives_err P _
      | Some v ↦ gives_placed at (kind v) (each v)
    ]

-- a key that has to be there, and the steps after it
pub gives_key : {A B : Type 0} {Q : A → Type 0} {P : B → Type 0} (at : Location) (key : List ℕ) (kind : Data → Result A ConfigFaultKind)
    (members : Members) (next : A → Result B ConfigFault) → ((value : Data) → Gives (kind value) Q)
    → ((a : A) → Q a → Gives (next a) P) → Gives (required at key kind members >>= next) P
gives_key at key kind members next each after =
    gives_then (required at key kind members) next (gives_required at key kind members each) after

-- a key that may be left out
pub gives_optional : {A : Type 0} {P : A → Type 0} (at : Location) (key : List ℕ) (kind : Data → Result A ConfigFaultKind) (default : A) (members : Members)
    → P default → ((value : Data) → Gives (kind value) P) → Gives (optional at key kind default members) P
gives_optional {P = P} at key kind default members d each =
    elim (get_member key members) as (λ found. Gives (if_present at kind default found) P) [
      | None ↦ gives_ok P default d
      | Some v ↦ gives_placed at (kind v) (each v)
    ]

pub gives_of_kind : {B A : Type 0} {P : A → Type 0} (o : Option B) (read : B → Result A ConfigFaultKind)
    → ((b : B) → Gives (read b) P) → Gives (of_kind o read) P
gives_of_kind {P = P} None read each = gives_err P _
gives_of_kind (Some b) read each = each b

-- a value, where a test holds
pub gives_tested : {A E : Type 0} {P : A → Type 0} (test : Bool) (a : A) (e : E) → (test ≡ true → P a)
    → Gives (if test then Ok a else Err e) P
gives_tested {P = P} true a e p = gives_ok P a (p refl)
gives_tested {P = P} false a e p = gives_err P e

-- ---- the kinds

gives_whole : (limits : Limits) (z : ℤ) → Gives (whole_number limits z) (λ n. is_in limits n ≡ true)
gives_whole limits (pos n) = gives_tested (is_in limits n) n OutOfRange (λ h. h)
gives_whole limits (negsuc n) = gives_err _ _

pub gives_number : (limits : Limits) (value : Data) → Gives (a_number limits value) (λ n. is_in limits n ≡ true)
gives_number limits value = gives_of_kind (as_integer value) (whole_number limits) (gives_whole limits)

pub gives_text : (limits : Limits) (value : Data) → Gives (a_text limits value) (λ text. is_in limits (length text) ≡ true)
gives_text limits value =
    gives_of_kind (as_str value) (λ text. within limits (length text) text) (λ text. gives_tested (is_in limits (length text)) text OutOfRange (λ h. h))

pub gives_list : (limits : Limits) (value : Data) → Gives (a_list limits value) (λ items. is_in limits (item_count items) ≡ true)
gives_list limits value =
    gives_of_kind (as_array value) (λ items. within limits (item_count items) items)
    (λ items. gives_tested (is_in limits (item_count items)) items OutOfRange (λ h. h))

gives_spelled : (text : List ℕ) → Gives (spelled_name text) (λ name. is_name name ≡ true)
gives_spelled text =
    elim (cases_Bool (is_name (name_from (parts_of text)))) [
      | inl fits ↦ rw fits (gives_ok (λ name. is_name name ≡ true) (name_from (parts_of text)) fits)
      | inr other ↦ rw other (gives_err (λ name. is_name name ≡ true) OutOfRange)
    ]

pub gives_name : (value : Data) → Gives (a_name value) (λ name. is_name name ≡ true)
gives_name value = gives_of_kind (as_str value) spelled_name gives_spelled

pub gives_target : (value : Data) → Gives (a_target value) (λ target. target_fits target ≡ true)
gives_target value =
    gives_of_kind (as_str value) spelled_target (λ text.
    elim (bytes_eq text (codes "*")) as (λ star. Gives (if star
    then Ok None else (spelled_name text >>= (λ name. Ok (Some name)))) (λ target. target_fits target ≡ true)) [
      | true ↦ gives_ok (λ target. target_fits target ≡ true) None refl
      | false ↦ gives_then (spelled_name text) (λ name. Ok (Some name))
          (gives_spelled text) (λ name fits. gives_ok (λ target. target_fits target ≡ true) (Some name) fits)
    ])

gives_decoded : {E : Type 0} (size : ℕ) (r : Result (List ℕ) E) → Gives (decoded size r) (λ key. (length key == size) ≡ true)
gives_decoded size (Ok bytes) = gives_tested (length bytes == size) bytes OutOfRange (λ h. h)
gives_decoded size (Err _) = gives_err _ _

pub gives_hex_key : (size : ℕ) (value : Data) → Gives (a_hex_key size value) (λ key. (length key == size) ≡ true)
gives_hex_key size value = gives_of_kind (as_str value) (λ text. decoded size (decode_of text)) (λ text. gives_decoded size (decode_of text))

-- ---- lists

-- an element that is the same as none before it
pub gives_once : {A : Type 0} {P : A → Type 0} (at : Location) (same : A → A → Bool) (before : List A) (a : A)
    → (list_any (same a) before ≡ false → P a) → Gives (once at same before a) P
gives_once {P = P} at same before a new =
    elim (cases_Bool (list_any (same a) before)) [
      | inl again ↦ rw again (gives_err P _)
      | inr first ↦ rw first (gives_ok P a (new first))
    ]

-- what each element adds to, and the first ones have
pub gives_walk : {A : Type 0} {P : List A → Type 0} (read : List A → Data → Result A ConfigFault) (before : List A) (items : Items)
    → ((rows : List A) (value : Data) → P rows → Gives (read rows value) (λ a. P (rows ++ a ∷ [])))
    → P before → Gives (walk read before items) P
gives_walk {P = P} read before no_items each first = gives_ok P before first
gives_walk {P = P} read before (item value items) each first =
    gives_then (read before value) (λ a. walk read (before ++ a ∷ []) items) (each before value first)
    (λ a more. gives_walk read (before ++ a ∷ []) items each more)

-- as many rows as elements
pub gives_walk_length : {A : Type 0} (read : List A → Data → Result A ConfigFault) (before : List A) (items : Items)
    → Gives (walk read before items) (λ rows. length rows ≡ length before + item_count items)
gives_walk_length read before no_items = gives_ok (λ rows. length rows ≡ length before + 0) before (omega arith)
gives_walk_length read before (item value items) =
    gives_then (read before value) (λ a. walk read (before ++ a ∷ []) items) (gives_any (read before value))
    (λ a _. record { at = λ rows same. omega (arith, (gives_walk_length read (before ++ a ∷ []) items).at rows same, length-append before (a ∷ [])) })
