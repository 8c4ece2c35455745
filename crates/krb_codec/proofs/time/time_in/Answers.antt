use Rattle.std.proofs.Common.{sym, rules, w64, FitsSigned}
use Rattle.std.proofs.lemmas.Int.{to_z-of_z}
use Rattle.krb_codec.proofs.TimeLemmas.{seconds_of-exact, time_complete, time_in_none}
use Rattle.krb_codec.proofs.time.time_in.Goals as goal

pub returns-in-Some : goal.returns-in-Some
returns-in-Some c =
    let f : FitsSigned w64 c.in-Some.seconds = search rules in
    rw (to_z-of_z w64 c.in-Some.seconds f) (sym (time_complete c.args.place c.args.content.now c.in-Some.seconds
    ((seconds_of-exact c.args.content.now c.in-Some.seconds).0 (sym c.in-Some.ensures))))

pub returns-in-None : goal.returns-in-None
returns-in-None c = sym (time_in_none c.args.place c.args.content.now (sym c.in-None.ensures))
