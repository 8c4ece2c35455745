use Rattle.std.proofs.Common.{◌≡◌, ◌++◌, ◌-◌, ◌+◌, ◌≤◌, length}
use Rattle.toml.specs.View.{items_view}
use Rattle.chpw_warnings.specs.Settings.{in_list}
use Rattle.chpw_warnings.proofs.settings.put_list.Given as goal

-- the warnings of the rest come behind those so far
abbrev pub invariant-loop-others : goal.invariant-loop-others
invariant-loop-others l =
    (l.warnings.items ++ in_list l.listed (length l.list - length l.others + 1) (items_view l.others)
    ≡ l.initial.warnings.items ++ in_list l.listed 1 (items_view l.list)) × (length l.others ≤ length l.list)

abbrev pub decreases-loop-others : goal.decreases-loop-others
decreases-loop-others l = length l.others
