use Rattle.chpw_import.proofs.TableLemmas.{goes_on}
use Rattle.chpw_import.proofs.table.table_of.Goals as goal

pub loop-rest-preserved : goal.loop-rest-preserved
loop-rest-preserved c = goes_on c.args.realm.now c.loop-rest.rest.now c.args.entries.now c.entry-item.result c.loop-rest.table c.take.new.self
    c.loop-rest.invariant c.in-len1-up.len_at_least c.entry-item.is c.in_ok-take.ensures.step c.in_ok-take.ensures.kvno
