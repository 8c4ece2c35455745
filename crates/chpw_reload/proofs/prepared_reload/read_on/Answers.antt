use Rattle.std.proofs.Common.{List, ℕ, Option, subst}
use Rattle.std.specs.Io.Buffered.{reader_remaining}
use Rattle.chpw_journal.specs.Restoring.{IsRefused, IsRestored}
use Rattle.chpw_journal.proofs.FileLemmas.{unread}
use Rattle.chpw_reload.proofs.prepared_reload.read_on.Goals as goal

pub returns-in-Ok-restore-clause-restored : goal.returns-in-Ok-restore-clause-restored
returns-in-Ok-restore-clause-restored g c =
    let left = reader_remaining g.F.Read.remaining c.restore.new.reader in
    let same = unread g.F.Read.remaining c.in-Ok.reader c.args.journal c.in-Ok.ensures.inner c.in-Ok.ensures.empty c.in-Ok.ensures.capacity in
    (left, subst (λ (old : Option (List ℕ)). IsRestored c.args.table old left c.in-Ok-restore.restored) same c.in-Ok-restore.ensures.restored)

pub returns-clause-first : goal.returns-clause-first
returns-clause-first g c =
    let left = reader_remaining g.F.Read.remaining c.restore.new.reader in
    let same = unread g.F.Read.remaining c.in-Ok.reader c.args.journal c.in-Ok.ensures.inner c.in-Ok.ensures.empty c.in-Ok.ensures.capacity in
    (left, subst (λ (old : Option (List ℕ)). IsRefused c.args.table old left c.in-Err.fault) same c.in-Err.ensures.first)
