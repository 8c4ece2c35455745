use Rattle.std.proofs.Common.{inl, inr, subst, sym}
use Rattle.std.proofs.lemmas.Result.{err_from_is_err_and}
use Rattle.chpw_host.specs.Faults.{IsOfService}
use Rattle.chpw_service.proofs.FaultLemmas.{resumption_of_service}
use Rattle.chpw_service.proofs.opening.open_journal.Goals as goal

-- what a clean end left can't be taken over
pub returns-in_err-resumption : goal.returns-in_err-resumption
returns-in_err-resumption g c =
    let p = err_from_is_err_and c.from_residual-in_err-resumption.result c.from_residual-in_err-resumption.ensures.1 in
    let fault = resumption_of_service c.args.options.now _ c.in_err-resumption.ensures.fault in
    record { opened = rw p.1 tt; fresh = rw p.1 tt; fault = rw p.1 (subst (IsOfService c.args.options.now) (sym p.2) fault) }

-- the table is restored, and has taken over what was left
pub returns-clause-opened : goal.returns-clause-opened
returns-clause-opened g c = record {
  started = c.open_table.new.clock;
  given = c.in_ok-table.ensures.opened.0;
  found = c.in_ok-table.field-0;
  opening = c.in_ok-table.ensures.opened.1;
  start = c.now-start.result;
  left = c.in_ok-resumption.ensures.taken.0;
  taken = c.in_ok-resumption.ensures.taken.1;
}

-- memory may be refused for the journal's marks
pub returns-in_default-clause-fault : goal.returns-in_default-clause-fault
returns-in_default-clause-fault g c = inl (inl tt)
