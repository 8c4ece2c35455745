use Rattle.chpw_journal.proofs.HeadingLemmas.{unnamed_refused}
use Rattle.chpw_journal.proofs.whole.restore_unnamed.Goals as goal

pub returns-in-Err-clause-first : goal.returns-in-Err-clause-first
returns-in-Err-clause-first g c = λ before d none.
    unnamed_refused c.args.table before (g.R.Read.remaining c.args.reader.now) _ _ c.args.head.now c.in-Err.fault
    c.chain-whole.ensures.bytes d none c.in-Err.ensures.first
