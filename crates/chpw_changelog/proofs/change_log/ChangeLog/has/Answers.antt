use Rattle.std.proofs.Common.{List, sym, ap, subst}
use mathlib.Core.List.{IsPrefix}
use Rattle.chpw_table.specs.declared.change.AcceptedChange.{AcceptedChange}
use Rattle.chpw_changelog.specs.declared.entry.LogEntry.{LogEntry}
use Rattle.chpw_changelog.specs.Pens.{first_pen, changes_in}
use Rattle.chpw_changelog.proofs.ListLemmas.{whole, prefix_trans, prefix_written}
use Rattle.chpw_changelog.proofs.change_log.ChangeLog.has.Goals as goal

pub returns-clause-begins : goal.returns-clause-begins
returns-clause-begins g c =
    let k = first_pen g.D.LogName.root in
    let both = c.learn.new.self.log in
    let u = c.check_pen.ensures.unspent in
    let mine : IsPrefix c.self.inside.seen.log both = subst (λ (l : List LogEntry). IsPrefix l both) (ap (λ s. s.log) c.again-both.ensures) c.learn.ensures.2 in
    let w = whole k _ c.self.inside.seen.log c.check_pen.new.seen.log (sym c.self.invariant.5) (prefix_trans _ both _ mine u.0) u.1 in
    let theirs = prefix_written k c.mark-theirs.result.log c.check_pen.new.seen.log (prefix_trans _ both _ c.learn.ensures.3 u.0) in
    subst (λ (l : List AcceptedChange). IsPrefix l
    (changes_in g.D.LogName.root c.self.inside.seen.log)) c.mark-theirs.ensures.value.1
    (subst (λ (l : List AcceptedChange). IsPrefix (changes_in g.D.LogName.root c.mark-theirs.result.log) l) w.0 theirs)
