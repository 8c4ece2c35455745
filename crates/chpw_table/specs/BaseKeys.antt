-- Restoring the key that a compact journal begins a principal with, its base.
use Rattle.std.specs.Prelude.{◌≡◌, IsSome, None, map}
use Rattle.chpw_rules.specs.declared.name.Name.{Name}
use Rattle.chpw_record.specs.declared.key.KeyRow.{KeyRow}
use Rattle.chpw_table.specs.declared.table.restoring.KeyFault.{KeyFault}
use Rattle.chpw_table.specs.declared.table.restoring.KeyFault.TheVariants.{UnknownPrincipal, WrongVersion, TooMany, Memory}
use Rattle.chpw_table.specs.State.{State, keys_held}
use Rattle.chpw_table.specs.Step.{with_key}

-- the name has this key alone, whatever it had: it comes before the others, and one is kept
abbrev pub with_base_key : Name → KeyRow → State → State
with_base_key name key s = record s { principals = map (with_key 1 name key) s.principals }

-- the one fault; memory is refused only for a key that would be replayed
abbrev pub IsBaseRefused : State → Name → KeyFault → Type 0
IsBaseRefused s name UnknownPrincipal = keys_held s name ≡ None
IsBaseRefused s name WrongVersion = ⊥
IsBaseRefused s name TooMany = ⊥
IsBaseRefused s name Memory = IsSome (keys_held s name)
