-- For the proofs of an update: what becomes of a table's principals where the keys of a name go to their place.
use Rattle.std.specs.Prelude.{◌≡◌, ℕ, ◌+◌, ◌<◌, ◌≤◌, List, Option, true, length, if◌then◌else◌}
use Rattle.std.specs.List.{insert, remove}
use Rattle.chpw_rules.specs.declared.name.Name.{Name}
use Rattle.chpw_rules.specs.Names.{is_same_name}
use Rattle.chpw_rules.specs.Limits.{principal_counts}
use Rattle.chpw_record.specs.declared.key.KeyRow.{KeyRow}
use Rattle.chpw_table.specs.declared.table.Principal.{Principal}
use Rattle.chpw_table.specs.declared.table.placing.Placement.{Placement}
use Rattle.chpw_table.specs.declared.table.placing.Placement.TheVariants.{Replace, Insert, Remove}
use Rattle.chpw_table.specs.State.{State, keys_held}
use Rattle.chpw_table.specs.Agreement.{Held}
use Rattle.chpw_table.specs.Holding.{are_holders}
use Rattle.chpw_table.specs.Entering.{with_keys_at}

-- the principals then
abbrev pub placed : Placement → List Principal → List Principal
placed (Replace place keys) ps = with_keys_at place keys ps
placed (Insert place p) ps = insert ps place p
placed (Remove place) ps = remove ps place

-- among so many principals there is this place, and room for one more that joins them
abbrev pub IsPlace : Placement → ℕ → Type 0
IsPlace (Replace place keys) many = place < many
IsPlace (Insert place p) many = (place ≤ many) × (many < principal_counts.high)
IsPlace (Remove place) many = place < many

-- the name has these keys then, or none, and what is held of other names stays
pub record IsPlaced (s : State) (name : Name) (keys : Option (List KeyRow)) (p : Placement) : Type 0 where
  pub place : IsPlace p (length s.principals)
  pub holders : are_holders (placed p s.principals) ≡ true
  pub keys_then : (other : Name) → keys_held (record s { principals = placed p s.principals }) other ≡ (if is_same_name name other then keys
      else keys_held s other)

-- what a table holds then
abbrev pub with_placed : Placement → Held → Held
with_placed p t = record t { state = record t.state { principals = placed p t.state.principals } }

-- that, and one more change
abbrev pub with_update : Placement → Held → Held
with_update p t = record (with_placed p t) { seen = t.seen + 1 }
