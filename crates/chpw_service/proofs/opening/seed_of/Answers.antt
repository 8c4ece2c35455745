use Rattle.std.proofs.Common.{subst, sym}
use Rattle.std.proofs.lemmas.Result.{err_from_is_err_and}
use Rattle.chpw_host.specs.Faults.{IsOfService}
use Rattle.chpw_service.proofs.FaultLemmas.{missing_of_service}
use Rattle.chpw_service.proofs.opening.seed_of.Goals as goal

-- a journal that must exist is missing
pub returns-in_err-refuse_missing : goal.returns-in_err-refuse_missing
returns-in_err-refuse_missing g c =
    let p = err_from_is_err_and c.from_residual-in_err-refuse_missing.result c.from_residual-in_err-refuse_missing.ensures.1 in
    let fault = missing_of_service c.args.options.now _ c.in_err-refuse_missing.ensures.fault in
    record { fault = rw p.1 (subst (IsOfService c.args.options.now) (sym p.2) fault) }
