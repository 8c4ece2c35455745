use Rattle.std.proofs.Common.{◌≡◌, ◌++◌}
use Rattle.toml.specs.View.{members_view}
use Rattle.chpw_warnings.specs.Settings.{unread}
use Rattle.chpw_warnings.proofs.settings.put_unread.Given as goal

-- what isn't read of the rest comes behind the warnings so far
abbrev pub invariant-loop-key : goal.invariant-loop-key
invariant-loop-key l =
    (goal.iterator-loop-key).can_next l.key-iterator ×
    (goal.iterator-loop-key).is_finite l.key-iterator ×
    (l.warnings.items ++ unread l.place (members_view l.key-iterator)
    ≡ l.initial.warnings.items ++ unread l.place (members_view l.table.entries))
