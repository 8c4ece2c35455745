use Rattle.clap.specs.Words.{found_of, rows_of}
use Rattle.chpw_invocation.specs.Listening.{listened}
use Rattle.chpw_invocation.proofs.OwnLemmas.{flag_suits, lacking, udp_suits, unlimited, unlistened}
use Rattle.chpw_invocation.proofs.refusing.refusal_of_serve.Goals as goal

pub returns-then-lacks_kdc : goal.returns-then-lacks_kdc
returns-then-lacks_kdc c = record {
  why = λ whole refusal r. lacking (rows_of (found_of c.args.options.now)) (c.lacks_kdc.ensures.lacks c.if-lacks_kdc.true);
}

pub returns-in-Err : goal.returns-in-Err
returns-in-Err c = record {
  why = λ whole r why. unlistened (rows_of (found_of c.args.options.now))
      (c.lacks_kdc.ensures.own (flag_suits (rows_of (found_of c.args.options.now)) whole) c.if-lacks_kdc.false)
      c.in-Err.refusal c.in-Err.ensures.refused;
}

pub returns-in-Ok : goal.returns-in-Ok
returns-in-Ok c = record {
  why = λ whole. unlimited (rows_of (found_of c.args.options.now)) (udp_suits (rows_of (found_of c.args.options.now)) whole)
      (c.lacks_kdc.ensures.own (flag_suits (rows_of (found_of c.args.options.now)) whole) c.if-lacks_kdc.false)
      (listened c.in-Ok.field-0, c.in-Ok.ensures.listen);
}
