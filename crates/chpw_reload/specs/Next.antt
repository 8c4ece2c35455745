-- The table that the next desk opens with after a reload. It is made from two: the closed table, which the last desk
-- left, and the renewed one, which is the new file's table with the whole journal replayed.
use Rattle.std.specs.Prelude.{ℕ, max, List, [], ◌++◌, map, filter, Bool, is_none}
use Rattle.chpw_rules.specs.declared.name.Name.{Name}
use Rattle.chpw_rules.specs.declared.config.Config.{Config}
use Rattle.chpw_table.specs.State.{State, keys_held, new_count, opening_of}
use Rattle.chpw_report.specs.Configurations.{names_of, row_of}

-- what a file sets beside its principals; the service's own keys are no part of a table
abbrev pub settings_of : Config → Config
settings_of file = record file { service = []; principals = [] }

-- the state has no such principal
abbrev pub is_unknown : State → Name → Bool
is_unknown s name = is_none (keys_held s name)

-- the closed table's principals that the renewed one lacks, in their order
abbrev pub lacked : State → State → List Name
lacked closed renewed = filter (is_unknown renewed) (names_of closed)

-- the greater of the two counts of new keys
abbrev pub next_count : State → State → ℕ
next_count closed renewed = max (new_count closed) (new_count renewed)

-- the new settings, the renewed table's principals with their keys, followed by those that it lacks
abbrev pub next_config : Config → State → State → Config
next_config settings closed renewed = record settings {
  policy = record settings.policy { iterations = next_count closed renewed };
  principals = map (row_of renewed) (names_of renewed) ++ map (row_of closed) (lacked closed renewed);
}

-- what that configuration opens with, quiet as long as the closed table; the used ids, the clock and whether the
-- journal is broken are the closed table's, too
abbrev pub next_state : Config → State → State → State
next_state settings closed renewed = record (opening_of (next_config settings closed renewed) closed.fixed.quiet_until) {
  used = closed.used;
  clock = closed.clock;
  broken = closed.broken;
}
