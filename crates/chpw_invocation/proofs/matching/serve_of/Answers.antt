use Rattle.std.proofs.Common.{refl, inl, inr}
use Rattle.clap.specs.Words.{found_of, rows_of}
use Rattle.chpw_invocation.specs.Listening.{listened}
use Rattle.chpw_invocation.specs.declared.refusing.Refusal.TheVariants.{NoKdc, NoLimit}
use Rattle.chpw_invocation.proofs.OwnLemmas.{flag_suits}
use Rattle.chpw_invocation.proofs.matching.serve_of.Goals as goal

pub returns-then-lacks_kdc-clause-none : goal.returns-then-lacks_kdc-clause-none
returns-then-lacks_kdc-clause-none c = λ whole none. (NoKdc, inl (refl, c.lacks_kdc.ensures.lacks c.if-lacks_kdc.true))

pub returns-in-Err-clause-none : goal.returns-in-Err-clause-none
returns-in-Err-clause-none c = λ whole none. (
  c.in-Err.field-0,
  inr (inl (
    c.in-Err.ensures.refused,
    c.lacks_kdc.ensures.own (flag_suits (rows_of (found_of c.args.options.now)) whole) c.if-lacks_kdc.false,
  )),
)

pub returns-in-Ok-clause-none : goal.returns-in-Ok-clause-none
returns-in-Ok-clause-none c = λ whole none. (
  NoLimit,
  inr (inr (
    refl,
    c.service_of.ensures.none whole none,
    c.lacks_kdc.ensures.own (flag_suits (rows_of (found_of c.args.options.now)) whole) c.if-lacks_kdc.false,
    (listened c.in-Ok.listen, c.in-Ok.ensures.listen),
  )),
)
