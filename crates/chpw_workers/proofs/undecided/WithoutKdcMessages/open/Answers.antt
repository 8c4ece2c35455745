use Rattle.std.proofs.Common.{subst}
use Rattle.chpw_serve.specs.Requests.{Opens}
use Rattle.chpw_serve.specs.Holding.{IsOpenResult}
use Rattle.chpw_serve.specs.declared.messages.OpenResult.{OpenResult}
use Rattle.chpw_workers.proofs.UndecidedLemmas.{of_opened, of_refused}
use Rattle.chpw_workers.proofs.undecided.WithoutKdcMessages.open.Goals as goal
use Rattle.chpw_workers.proofs.undecided.WithoutKdcMessages.open.Goals.{in-Opened, in-Refused}

pub returns-clause-opening : goal.returns-clause-opening
returns-clause-opening g c =
    let opens = g.M.Messages.opens c.args.self.now.messages.now c.args.ends c.args.message.now in
    let found = c.in_ok-refusal.ensures.opening in
    elim c.match-branch-2.branch [
      | in-Opened w ↦ rw w.result-is (of_opened opens w.in-Opened.field-0 w.kdc_out_of_reach.result w.kdc_out_of_reach.ensures.value
          (subst (λ (f : OpenResult). (o : Opens) × opens o × IsOpenResult o f) w.in-Opened.is found))
      | in-Refused w ↦ rw w.result-is (of_refused opens w.in-Refused.refusal
          (subst (λ (f : OpenResult). (o : Opens) × opens o × IsOpenResult o f) w.in-Refused.is found))
    ]
