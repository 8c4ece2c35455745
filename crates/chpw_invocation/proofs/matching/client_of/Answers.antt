use Rattle.std.proofs.Common.{◌∙◌, refl, sym}
use Rattle.clap.specs.Words.{found_of, rows_of}
use Rattle.chpw_invocation.proofs.OwnLemmas.{aimed, is_no_old, unpassed, untargeted}
use Rattle.chpw_invocation.proofs.matching.client_of.Goals as goal
use Rattle.chpw_invocation.proofs.matching.client_of.Goals.{else-old-via-then-old+else-is_some, else-old-via-else-old}

pub returns-then-is_some-clause-none : goal.returns-then-is_some-clause-none
returns-then-is_some-clause-none c = λ whole none.
    aimed (rows_of (found_of c.args.options.now)) c.is_given-old.result c.text_of-target.result c.is_given-old.ensures.given c.if-old.true
    c.text_of-target.ensures.value (sym c.is_some.ensures ∙ c.if-is_some.true)

pub returns-in_err-password_of-clause-none : goal.returns-in_err-password_of-clause-none
returns-in_err-password_of-clause-none c = λ whole none.
    unpassed (rows_of (found_of c.args.options.now))
    (elim c.else-old.branch [
      | else-old-via-then-old+else-is_some w ↦
          untargeted (rows_of (found_of c.args.options.now)) c.text_of-target.result c.text_of-target.ensures.value
          (sym w.is_some.ensures ∙ w.if-is_some.false)
      | else-old-via-else-old w ↦
          is_no_old (rows_of (found_of c.args.options.now)) c.is_given-old.result whole c.is_given-old.ensures.given w.if-old.false
    ]) (c.in_err-password_of.ensures.none refl)

-- each option that has to be there is
pub returns-in_err-text_of-clause-none : goal.returns-in_err-text_of-clause-none
returns-in_err-text_of-clause-none c = λ whole none. absurd (whole.0.there refl (sym c.in_err-text_of.ensures.value))

pub returns-in_err-text_of-2-clause-none : goal.returns-in_err-text_of-2-clause-none
returns-in_err-text_of-2-clause-none c = λ whole none. absurd (whole.1.0.there refl (sym c.in_err-text_of-2.ensures.value))

pub returns-in_err-port_of-clause-none : goal.returns-in_err-port_of-clause-none
returns-in_err-port_of-clause-none c = λ whole none. absurd (c.in_err-port_of.ensures.taken whole.1.1.0 refl)

pub returns-in_err-text_of-3-clause-none : goal.returns-in_err-text_of-3-clause-none
returns-in_err-text_of-3-clause-none c = λ whole none. absurd (whole.1.1.1.0.there refl (sym c.in_err-text_of-3.ensures.value))
