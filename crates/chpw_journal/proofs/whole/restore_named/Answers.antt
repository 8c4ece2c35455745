use Rattle.std.proofs.Common.{◌≡◌, refl, rules}
use Rattle.chpw_journal.proofs.HeadingLemmas.{named_refused, named_restored}
use Rattle.chpw_journal.proofs.whole.restore_named.Goals as goal

pub returns-in-Err-clause-first : goal.returns-in-Err-clause-first
returns-in-Err-clause-first g c = λ before d.
    let same : c.args.realm.now ≡ c.args.table.state.fixed.realm = search rules in
    named_refused c.args.table before (g.R.Read.remaining c.args.reader.now) _ c.args.realm.now c.in-Err.fault same d c.in-Err.ensures.first

pub returns-in-Ok-clause-restored : goal.returns-in-Ok-clause-restored
returns-in-Ok-clause-restored g c = λ before d.
    let same : c.args.realm.now ≡ c.args.table.state.fixed.realm = search rules in
    named_restored c.args.table before (g.R.Read.remaining c.args.reader.now) _ c.args.realm.now c.in-Ok.restored _ same d c.in-Ok.ensures.restored refl
