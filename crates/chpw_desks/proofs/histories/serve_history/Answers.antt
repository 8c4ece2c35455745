use Rattle.std.proofs.Common.{sym, ◌∙◌}
use Rattle.chpw_desks.proofs.StaffLemmas.{in_order_length}
use Rattle.chpw_desks.proofs.histories.serve_history.Goals as goal

pub attend_desk-requires-clause-passes : goal.attend_desk-requires-clause-passes
attend_desk-requires-clause-passes g c κs within =
    let opened = c.in-Ok.opened in
    in_order_length g.D.DeskName.workers opened.passes.items opened.in_order
    ∙ (sym c.requires.name.workers_are ∙ c.requires.opening)
