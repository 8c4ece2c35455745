use Rattle.std.proofs.Common.{List, ◌≤◌, length, ap, subst, arith}
use mathlib.Core.List.{IsPrefix}
use Rattle.chpw_changelog.specs.declared.entry.LogEntry.{LogEntry}
use Rattle.chpw_changelog.specs.Pens.{first_pen, changes_in}
use Rattle.chpw_changelog.proofs.ListLemmas.{prefix_shorter, prefix_written}
use Rattle.chpw_changelog.proofs.front.Front.longer.Goals as goal

pub returns-then-self-other-clause-this : goal.returns-then-self-other-clause-this
returns-then-self-other-clause-this g c =
    let k = first_pen g.D.LogName.root in
    let both = c.learn.new.self.log in
    let this : IsPrefix c.self.inside.seen.log both = subst (λ (l : List LogEntry). IsPrefix l both) (ap (λ s. s.log) c.again-both.ensures) c.learn.ensures.2 in
    let less : length (changes_in g.D.LogName.root c.self.inside.seen.log)
    ≤ length (changes_in g.D.LogName.root c.other.inside.seen.log) =
    omega (arith, c.self.invariant.0, c.other.invariant.0) in
    rw (c.again.ensures.value, ← c.self.view_is, ← c.other.view_is)
    (prefix_shorter _ _ _ (prefix_written k _ both this) (prefix_written k _ both c.learn.ensures.3) less)

pub returns-clause-that : goal.returns-clause-that
returns-clause-that g c =
    let k = first_pen g.D.LogName.root in
    let both = c.learn.new.self.log in
    let this : IsPrefix c.self.inside.seen.log both = subst (λ (l : List LogEntry). IsPrefix l both) (ap (λ s. s.log) c.again-both.ensures) c.learn.ensures.2 in
    let less : length (changes_in g.D.LogName.root c.other.inside.seen.log)
    ≤ length (changes_in g.D.LogName.root c.self.inside.seen.log) =
    omega (arith, c.self.invariant.0, c.other.invariant.0) in
    rw (c.again-else-self-other.ensures.value, ← c.self.view_is, ← c.other.view_is)
    (prefix_shorter _ _ _ (prefix_written k _ both c.learn.ensures.3) (prefix_written k _ both this) less)
