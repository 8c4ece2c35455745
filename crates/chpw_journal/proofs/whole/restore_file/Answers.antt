use Rattle.std.proofs.Common.{List, ℕ, Option, subst}
use Rattle.chpw_journal.specs.Headings.{IsWholeRefused}
use Rattle.chpw_journal.proofs.FileLemmas.{unread}
use Rattle.chpw_journal.proofs.whole.restore_file.Goals as goal

pub returns-in-Err-clause-first : goal.returns-in-Err-clause-first
returns-in-Err-clause-first g c =
    let same = unread g.F.Read.remaining c.in-Ok.reader c.args.file c.in-Ok.ensures.inner c.in-Ok.ensures.empty c.in-Ok.ensures.capacity in
    subst (λ (old : Option (List ℕ)). IsWholeRefused c.args.table old c.in-Err.fault) same c.in-Err.ensures.first
