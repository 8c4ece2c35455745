use Rattle.std.proofs.Common.{inl, inr, refl, subst, sym}
use Rattle.std.proofs.lemmas.Result.{IfErr-weaker, err_from_is_err_and, on_ok_weaker}
use Rattle.chpw_start.specs.Faults.{IsLate}
use Rattle.chpw_host.specs.Faults.{IsOfService}
use Rattle.chpw_service.proofs.FaultLemmas.{late_of_service}
use Rattle.chpw_service.proofs.WholeRunLemmas.{whole_run}
use Rattle.chpw_service.proofs.serving.serve_with.Goals as goal

-- an address can't be had
pub returns-in_err-sockets : goal.returns-in_err-sockets
returns-in_err-sockets g c =
    let p = err_from_is_err_and c.from_residual.result c.from_residual.ensures.1 in
    let fault = late_of_service c.args.options.now _ c.in_err-sockets.ensures.fault in
    record { run = rw p.1 tt; fault = rw p.1 (subst (IsOfService c.args.options.now) (sym p.2) fault) }

-- the sink is dropped here, in more ways than a search goes through
pub returns-in_err-control : goal.returns-in_err-control
returns-in_err-control g c =
    let p = err_from_is_err_and c.from_residual-in_err-control.result c.from_residual-in_err-control.ensures.1 in
    let fault = inr (inr (inr (inr (inr (inr (inl c.in_err-control.ensures.fault)))))) in
    record { run = rw p.1 tt; fault = rw p.1 (subst (IsOfService c.args.options.now) (sym p.2) fault) }

-- what the files say, and what was served from there on
pub returns-clause-run : goal.returns-clause-run
returns-clause-run g c =
    on_ok_weaker c.serve_ready.result
    (λ served. whole_run c.args.options.now c.args.settings.config c.args.settings.rules c.new-clock.result served.0
    c.in_ok-journal.journal.table c.args.settings.seed c.in_ok-journal.journal.table c.requires.rules
    c.new-clock.ensures.start c.in_ok-journal.ensures.opened refl served.1)
    c.serve_ready.ensures.served

-- what ends the service later
pub returns-clause-fault : goal.returns-clause-fault
returns-clause-fault g c =
    IfErr-weaker c.serve_ready.result IsLate (IsOfService c.args.options.now) (late_of_service c.args.options.now) c.serve_ready.ensures.fault
