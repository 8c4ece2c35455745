use Rattle.std.proofs.Common.{◌≡◌, ◌++◌, ◌-◌, ◌+◌, ◌≤◌, length}
use Rattle.toml.specs.View.{items_view}
use Rattle.chpw_warnings.specs.Settings.{principals_warnings}
use Rattle.chpw_warnings.proofs.settings.put_principals.Given as goal

-- the warnings of the rest come behind those so far
abbrev pub invariant-loop-others : goal.invariant-loop-others
invariant-loop-others l =
    (l.warnings.items ++ principals_warnings (length l.principals - length l.others + 1) (items_view l.others)
    ≡ l.initial.warnings.items ++ principals_warnings 1 (items_view l.principals)) × (length l.others ≤ length l.principals)

abbrev pub decreases-loop-others : goal.decreases-loop-others
decreases-loop-others l = length l.others
