use Rattle.std.proofs.Common.{◌≡◌, ◌++◌, Option, OnOk, subst, sym, true}
use Rattle.chpw_printing.specs.Quoting.{are_printed}
use Rattle.chpw_table.specs.declared.times.Moment.{Moment}
use Rattle.chpw_log.specs.Events.{quiet_words}
use Rattle.chpw_log.proofs.event.put_quiet.Goals as goal

pub put_until-requires : goal.put_until-requires
put_until-requires c = record { until = c.requires.quiet c.in-Some.until c.in-Some.is }

pub returns-in-Some-clause-value : goal.returns-in-Some-clause-value
returns-in-Some-clause-value c =
    subst (λ (o : Option Moment). OnOk c.put_until.result (c.put_until.new.text.items ≡ c.args.text.now.items ++ quiet_words o))
    (sym c.in-Some.is) c.put_until.ensures.value

pub returns-in-Some-clause-printed : goal.returns-in-Some-clause-printed
returns-in-Some-clause-printed c =
    subst (λ (o : Option Moment). OnOk c.put_until.result (are_printed (quiet_words o) ≡ true))
    (sym c.in-Some.is) c.put_until.ensures.printed
