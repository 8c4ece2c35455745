use Rattle.std.proofs.Common.{refl, sym}
use Rattle.chpw_invocation.proofs.matching.key_of.Goals as goal

pub returns-clause-asked : goal.returns-clause-asked
returns-clause-asked c = (
  refl,
  record {
    realm = c.in_ok-realm_of.ensures.realm;
    name = sym c.in_ok-text_of.ensures.value;
    password_file = sym c.in_ok-text_of-2.ensures.value;
    iterations = c.in_ok-iterations_of.ensures.iterations;
    kvno = c.in_ok-kvno_of.ensures.kvno;
  },
)

-- each option that has to be there is, and each number is one within its limits
pub returns-in_err-realm_of-clause-none : goal.returns-in_err-realm_of-clause-none
returns-in_err-realm_of-clause-none c = λ whole none. c.in_err-realm_of.ensures.none whole.0 refl

pub returns-in_err-text_of-clause-none : goal.returns-in_err-text_of-clause-none
returns-in_err-text_of-clause-none c = λ whole none. absurd (whole.1.0.there refl (sym c.in_err-text_of.ensures.value))

pub returns-in_err-text_of-2-clause-none : goal.returns-in_err-text_of-2-clause-none
returns-in_err-text_of-2-clause-none c = λ whole none. absurd (whole.1.1.0.there refl (sym c.in_err-text_of-2.ensures.value))

pub returns-in_err-iterations_of-clause-none : goal.returns-in_err-iterations_of-clause-none
returns-in_err-iterations_of-clause-none c = λ whole none. absurd (c.in_err-iterations_of.ensures.taken whole.1.1.1.0 refl)

pub returns-in_err-kvno_of-clause-none : goal.returns-in_err-kvno_of-clause-none
returns-in_err-kvno_of-clause-none c = λ whole none. absurd (c.in_err-kvno_of.ensures.taken whole.1.1.1.1.0 refl)
