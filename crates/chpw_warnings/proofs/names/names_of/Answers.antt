use Rattle.chpw_warnings.proofs.NameLemmas.{names_more}
use Rattle.chpw_warnings.proofs.names.names_of.Goals as goal

pub loop-principal-preserved : goal.loop-principal-preserved
loop-principal-preserved c = names_more c.loop-principal.names c.insert.new.self c.args.principals.now c.loop-principal.principal-index
    c.principal-item.result c.in_ok-clone.field-0 c.loop-principal-test.true c.principal-item.is c.in_ok-clone.ensures.value
    c.loop-principal.invariant c.in_ok-insert.ensures.updates.0
