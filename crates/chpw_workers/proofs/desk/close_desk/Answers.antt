use Rattle.chpw_book.specs.Newest.{AreHeldAfter}
use Rattle.std.proofs.Common.{rules}
use Rattle.chpw_book.specs.Closing.{is_full, IsRefusal}
use Rattle.chpw_book.specs.Recorded.{IsLinearized}
use Rattle.chpw_changelog.specs.Pens.{opening_state}
use Rattle.chpw_workers.proofs.DeskLemmas.{served_if_closed, if_given_back}
use Rattle.chpw_workers.proofs.ShiftLemmas.{shifts_none}
use Rattle.chpw_workers.proofs.desk.close_desk.Goals as goal

pub returns-clause-served : goal.returns-clause-served
returns-clause-served g c =
    let service = c.args.context.now.service.now in
    let staff = c.args.staff in
    let close = c.close-closed.ensures in
    served_if_closed g.C.Clock.gives g.X.Words.gives g.I.Inbox.turns (g.M.Messages.error_frame service) (g.M.Messages.private_frame service)
    (g.M.Messages.opens service) (AreHeldAfter (opening_state g.D.LogName.root)) c.args.context.now.has_kdc g.D.DeskName.workers c.close-closed.result
    (λ a. a.history.items) (λ a. a.table) (λ a. g.S.JournalSink.told a.sink) g.D.DeskName.prior (opening_state g.D.LogName.root)
    staff.passes.items staff.workers.items staff.passes.items staff.workers.items c.requires.passes
    (shifts_none g.C.Clock.gives g.X.Words.gives g.I.Inbox.turns (g.M.Messages.error_frame service) (g.M.Messages.private_frame service)
    (g.M.Messages.opens service) (AreHeldAfter (opening_state g.D.LogName.root)) c.args.context.now.has_kdc staff.passes.items
    staff.workers.items (search (rules, staff.paired)))
    close.whole close.legal close.brings close.numbered close.told

pub returns-clause-refusal : goal.returns-clause-refusal
returns-clause-refusal g c =
    if_given_back c.close-closed.result (λ r. r.passes.items) c.args.staff.passes.items
    (λ r qs. (b : _) × IsLinearized (opening_state g.D.LogName.root) g.D.DeskName.workers g.D.DeskName.prior b
    × IsRefusal b.history (is_full b.table) g.D.DeskName.workers qs r.fault) c.close-closed.ensures.refusal c.close-closed.ensures.back
