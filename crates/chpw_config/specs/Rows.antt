-- What the parts of a configuration's file set, each with its first fault: within a table the keys
-- are read in the order of these lines.
use Rattle.std.specs.Prelude.{ℕ, pos, Bool, true, nat_lt, List, [], ◌∷◌, ◌++◌, length, map, codes, Result, Ok, Err, if◌then◌else◌}
use Rattle.std.specs.List.{list_any}
use Rattle.toml.specs.Data.{Data, Items, no_items, item, Members}
use Rattle.chpw_rules.specs.declared.name.Name.{Name}
use Rattle.chpw_rules.specs.declared.policy.Policy.{Policy}
use Rattle.chpw_rules.specs.declared.rules.Rule.{Rule}
use Rattle.chpw_rules.specs.declared.config.KeyBytes.{KeyBytes}
use Rattle.chpw_rules.specs.declared.config.PrincipalRow.{PrincipalRow}
use Rattle.chpw_rules.specs.declared.config.ServiceRow.{ServiceRow}
use Rattle.chpw_config.specs.declared.fault.ConfigFaultKind.TheVariants.{OutOfRange, Duplicate}
use Rattle.chpw_config.specs.declared.fault.Part.TheVariants.{ServiceKey, Policy as PolicyPart, Rule as RulePart, Principal, PrincipalKey}
use Rattle.chpw_config.specs.declared.fault.ConfigFault.{ConfigFault}
use Rattle.chpw_config.specs.declared.fault.Location.{Location}
use Rattle.chpw_config.specs.Faults.{location, fault_at, placed, ◌>>=◌}
use Rattle.chpw_rules.specs.Fitting.{is_same_service_key}
use Rattle.chpw_rules.specs.Names.{is_same_name}
use Rattle.chpw_config.specs.Kinds.{a_number, a_flag, a_name, a_target, a_hex_key, a_table, a_list, required}
use Rattle.chpw_rules.specs.Limits.{kvnos, iteration_counts, min_lengths, min_class_counts, depths}
use Rattle.chpw_rules.specs.Limits.{etypes, key_length, key_counts, aes128_length, aes256_length}

-- a list's elements one after the other, each read with those before it known
abbrev pub walk : {A : Type 0} → (List A → Data → Result A ConfigFault) → List A → Items
    → Result (List A) ConfigFault
walk read before no_items = Ok before
walk read before (item value items) =
    read before value >>= (λ a. walk read (before ++ a ∷ []) items)

-- an element that repeats none before it
abbrev pub once : {A : Type 0} → Location → (A → A → Bool) → List A → A → Result A ConfigFault
once at same before a = if list_any (same a) before then Err (fault_at at Duplicate) else Ok a

-- [[service.key]]: a service key
unfoldable pub service_row : List ServiceRow → Data → Result ServiceRow ConfigFault
service_row before value = do
  let at = location ServiceKey (length before)
  members ← placed at (a_table value)
  kvno ← required at (codes "kvno") (a_number kvnos) members
  etype ← required at (codes "etype") (a_number etypes) members
  key ← required at (codes "key") (a_hex_key (key_length etype)) members
  once at is_same_service_key before (record { kvno = kvno; etype = pos etype; key = key })

-- [policy]
unfoldable pub policy_of : Members → Result Policy ConfigFault
policy_of members = do
  let at = location PolicyPart 0
  min_length ← required at (codes "min_length") (a_number min_lengths) members
  min_classes ← required at (codes "min_classes") (a_number min_class_counts) members
  depth ← required at (codes "depth") (a_number depths) members
  iterations ← required at (codes "iterations") (a_number iteration_counts) members
  set_needs_initial ← required at (codes "set_needs_initial") a_flag members
  Ok (record {
    min_length = min_length;
    min_classes = min_classes;
    depth = depth;
    iterations = iterations;
    set_needs_initial = set_needs_initial;
  })

-- [[rule]]
unfoldable pub rule_row : List Rule → Data → Result Rule ConfigFault
rule_row before value = do
  let at = location RulePart (length before)
  members ← placed at (a_table value)
  actor ← required at (codes "actor") a_name members
  target ← required at (codes "target") a_target members
  Ok (record { actor = actor; target = target })

-- a version number is less than that of the key before it
abbrev pub comes_after : List KeyBytes → ℕ → Bool
comes_after [] kvno = true
comes_after (newer ∷ []) kvno = nat_lt kvno newer.kvno
comes_after (_ ∷ newer ∷ keys) kvno = comes_after (newer ∷ keys) kvno

abbrev pub step_down : Location → List KeyBytes → ℕ → Result ℕ ConfigFault
step_down at before kvno =
    if comes_after before kvno then Ok kvno else Err (fault_at at OutOfRange)

-- [[principal.key]]: a key of the principal at this place
unfoldable pub key_row : Location → List KeyBytes → Data → Result KeyBytes ConfigFault
key_row at before value = do
  members ← placed at (a_table value)
  kvno ← required at (codes "kvno") (a_number kvnos) members
  _ ← step_down at before kvno
  iterations ← required at (codes "iterations") (a_number iteration_counts) members
  aes128 ← required at (codes "aes128") (a_hex_key aes128_length) members
  aes256 ← required at (codes "aes256") (a_hex_key aes256_length) members
  Ok (record { kvno = kvno; iterations = iterations; aes128 = aes128; aes256 = aes256 })

-- [[principal]]: the principal's name, which is none of these
abbrev pub new_name : Location → List Name → Members → Result Name ConfigFault
new_name at names principal = do
  name ← required at (codes "name") a_name principal
  once at is_same_name names name

abbrev pub names_of : List PrincipalRow → List Name
names_of rows = map (λ row. row.name) rows

-- [[principal]]: a principal, its name that of none before it, followed by its keys
unfoldable pub principal_row : List PrincipalRow → Data → Result PrincipalRow ConfigFault
principal_row before value = do
  let at = location Principal (length before)
  let keys_at = location PrincipalKey (length before)
  members ← placed at (a_table value)
  name ← new_name at (names_of before) members
  items ← required keys_at (codes "key") (a_list key_counts) members
  keys ← walk (key_row keys_at) [] items
  Ok (record { name = name; keys = keys })
