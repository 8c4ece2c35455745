use Rattle.chpw_journal.specs.JournalFile.{given_by}
use Rattle.chpw_start.proofs.OpeningLemmas.{opens}
use Rattle.chpw_start.proofs.starting.table_from.Goals as goal

pub returns-in-Ok-clause-opened : goal.returns-in-Ok-clause-opened
returns-in-Ok-clause-opened g c =
    opens g.C.Clock.gives c.args.config (given_by g.F.Read.remaining c.args.file) c.args.clock.now c.now-start.new.self c.now-start.result
    c.args.file.found c.in_ok-table.table c.in-Ok.journal
    c.now-start.ensures.given c.in_ok-table.ensures.opening c.in_ok-table.ensures.counts c.in-Ok.ensures.found c.in-Ok.ensures.opened
