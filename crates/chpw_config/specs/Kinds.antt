-- What a key of the configuration may hold: for each kind of value, which data are of it (else WrongKind), which texts
-- are hexadecimal (else BadHex), and which values are within the limits (else OutOfRange).
use Rattle.std.specs.Prelude.{ℕ, suc, ℤ, pos, negsuc, Bool, ◌==◌, List, length, codes, bytes_eq, Option, Some, None, Result, Ok, Err, if◌then◌else◌}
use Rattle.std.specs.Option.{ok_or}
use Rattle.hex.specs.Hex.{decode_of}
use Rattle.toml.specs.Data.{Data, Items, no_items, item, Members, get_member, as_integer, as_bool, as_str, as_array, as_table}
use Rattle.chpw_rules.specs.declared.name.Name.{Name}
use Rattle.chpw_config.specs.declared.fault.ConfigFaultKind.{ConfigFaultKind}
use Rattle.chpw_config.specs.declared.fault.ConfigFaultKind.TheVariants.{MissingKey, WrongKind, OutOfRange, BadHex}
use Rattle.chpw_config.specs.declared.fault.ConfigFault.{ConfigFault}
use Rattle.chpw_config.specs.declared.fault.Location.{Location}
use Rattle.chpw_rules.specs.declared.limits.Limits.{Limits}
use Rattle.chpw_config.specs.Faults.{fault_at, placed, ◌>>=◌}
use Rattle.chpw_rules.specs.Limits.{is_in}
use Rattle.chpw_rules.specs.Names.{name_of}

-- a value of this kind, which is then read; otherwise the fault
abbrev pub of_kind : {B A : Type 0} → Option B → (B → Result A ConfigFaultKind) → Result A ConfigFaultKind
of_kind None read = Err WrongKind
of_kind (Some b) read = read b

-- a value, if its number is within the limits
abbrev pub within : {A : Type 0} → Limits → ℕ → A → Result A ConfigFaultKind
within limits number a = if is_in limits number then Ok a else Err OutOfRange

-- a whole number within the limits
abbrev pub whole_number : Limits → ℤ → Result ℕ ConfigFaultKind
whole_number limits (pos number) = within limits number number
whole_number limits (negsuc _) = Err OutOfRange

abbrev pub a_number : Limits → Data → Result ℕ ConfigFaultKind
a_number limits value = of_kind (as_integer value) (whole_number limits)

-- true or false
abbrev pub a_flag : Data → Result Bool ConfigFaultKind
a_flag value = of_kind (as_bool value) Ok

-- a text
abbrev pub any_text : Data → Result (List ℕ) ConfigFaultKind
any_text value = of_kind (as_str value) Ok

-- a text whose number of bytes is within the limits
abbrev pub a_text : Limits → Data → Result (List ℕ) ConfigFaultKind
a_text limits value = of_kind (as_str value) (λ text. within limits (length text) text)

-- a name
abbrev pub spelled_name : List ℕ → Result Name ConfigFaultKind
spelled_name text = ok_or (name_of text) OutOfRange

abbrev pub a_name : Data → Result Name ConfigFaultKind
a_name value = of_kind (as_str value) spelled_name

-- a name, or `*` for every name
abbrev pub spelled_target : List ℕ → Result (Option Name) ConfigFaultKind
spelled_target text =
    if bytes_eq text (codes "*") then Ok None
    else spelled_name text >>= (λ name. Ok (Some name))

abbrev pub a_target : Data → Result (Option Name) ConfigFaultKind
a_target value = of_kind (as_str value) spelled_target

-- this many bytes, two hexadecimal digits for each
abbrev pub decoded : {E : Type 0} → ℕ → Result (List ℕ) E → Result (List ℕ) ConfigFaultKind
decoded size (Err _) = Err BadHex
decoded size (Ok bytes) = if length bytes == size then Ok bytes else Err OutOfRange

abbrev pub a_hex_key : ℕ → Data → Result (List ℕ) ConfigFaultKind
a_hex_key size value = of_kind (as_str value) (λ text. decoded size (decode_of text))

-- a table
abbrev pub a_table : Data → Result Members ConfigFaultKind
a_table value = of_kind (as_table value) Ok

-- how many elements a list has
abbrev pub item_count : Items → ℕ
item_count no_items = 0
item_count (item _ items) = suc (item_count items)

abbrev pub a_list : Limits → Data → Result Items ConfigFaultKind
a_list limits value = of_kind (as_array value) (λ items. within limits (item_count items) items)

-- the value of a required key
abbrev pub present : Location → List ℕ → Members → Result Data ConfigFault
present at key members = ok_or (get_member key members) (fault_at at MissingKey)

-- a required key of this kind
abbrev pub required : {A : Type 0} → Location → List ℕ → (Data → Result A ConfigFaultKind) → Members
    → Result A ConfigFault
required at key kind members = present at key members >>= (λ value. placed at (kind value))

-- an optional key of this kind
abbrev pub if_present : {A : Type 0} → Location → (Data → Result A ConfigFaultKind) → A → Option Data
    → Result A ConfigFault
if_present at kind default None = Ok default
if_present at kind default (Some value) = placed at (kind value)

abbrev pub optional : {A : Type 0} → Location → List ℕ → (Data → Result A ConfigFaultKind) → A → Members
    → Result A ConfigFault
optional at key kind default members = if_present at kind default (get_member key members)
