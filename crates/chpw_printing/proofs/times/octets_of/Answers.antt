use Rattle.std.proofs.Common.{◌≡◌, sym, ◌∙◌, rules}
use Rattle.krb_codec.specs.Times as times
use Rattle.chpw_printing.proofs.TimeLemmas.{time_is, time_some}
use Rattle.chpw_printing.proofs.times.octets_of.Goals as goal

pub unwrap-requires : goal.unwrap-requires
unwrap-requires c =
    let found : c.seconds_to_time.result ≡ times.time_of c.args.seconds = search rules in
    time_some c.args.seconds c.seconds_to_time.result c.requires found

pub returns : goal.returns
returns c =
    let found : c.seconds_to_time.result ≡ times.time_of c.args.seconds = search rules in
    record { value = time_is c.args.seconds c.unwrap.result c.requires (sym found ∙ c.unwrap.ensures) }
