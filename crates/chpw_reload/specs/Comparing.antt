-- Whether a next table may be made from a closed one and a renewed one.
use Rattle.std.specs.Prelude.{◌≡◌, ℕ, max, take, length, List, true, Some}
use Rattle.chpw_rules.specs.declared.name.Name.{Name}
use Rattle.chpw_rules.specs.declared.config.Config.{Config}
use Rattle.chpw_rules.specs.Fitting.{config_fits}
use Rattle.chpw_record.specs.declared.key.KeyRow.{KeyRow}
use Rattle.chpw_table.specs.State.{State, keys_held, kept_count}
use Rattle.chpw_reload.specs.Next.{next_config}

-- these keys are the newest of the others, after which older ones may follow; there is one, unless the others have none
abbrev pub AreNewest : List KeyRow → List KeyRow → Type 0
AreNewest keys others = keys ≡ take (max (length keys) 1) others

-- if both have the name, the keys of the first, as many as the second keeps, are the newest of the second
abbrev pub HoldAlike : State → State → Name → Type 0
HoldAlike s t name = (keys others : List KeyRow) → keys_held s name ≡ Some keys → keys_held t name ≡ Some others →
    AreNewest (take (kept_count t) keys) others

-- both have the name, and these keys aren't the newest of the second
pub record HoldApart (s t : State) (name : Name) : Type 0 where
  pub keys : List KeyRow
  pub others : List KeyRow
  pub held : keys_held s name ≡ Some keys
  pub other : keys_held t name ≡ Some others
  pub differ : ¬ (AreNewest (take (kept_count t) keys) others)

-- one realm, each principal of both with the closed one's keys, and a configuration within the limits
pub record MayFollow (settings : Config) (closed renewed : State) : Type 0 where
  pub realm : closed.fixed.realm ≡ settings.realm
  pub keys : (name : Name) → HoldAlike closed renewed name
  pub fits : config_fits (next_config settings closed renewed) ≡ true
