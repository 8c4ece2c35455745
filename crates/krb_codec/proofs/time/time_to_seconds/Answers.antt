use Rattle.std.proofs.Common.{sym, ◌∙◌}
use Rattle.krb_codec.proofs.TimeLemmas.{seconds_of-exact}
use Rattle.krb_codec.proofs.time.time_to_seconds.Goals as goal

pub returns-clause-exact : goal.returns-clause-exact
returns-clause-exact c = λ seconds.
    let both = seconds_of-exact c.args.text.now seconds in
    (λ e. both.0 (sym c.seconds_of.ensures ∙ e), λ h. c.seconds_of.ensures ∙ both.1 h)
