use Rattle.clap.specs.Words.{found_of, rows_of}
use Rattle.chpw_invocation.proofs.NeedLemmas.{not_required}
use Rattle.chpw_invocation.proofs.refusing.lacks_kdc.Goals as goal

pub returns-else-is_given-clause-own : goal.returns-else-is_given-clause-own
returns-else-is_given-clause-own c = λ suits none lacks.
    not_required (rows_of (found_of c.args.options.now)) c.is_given.result suits c.is_given.ensures.given none lacks
