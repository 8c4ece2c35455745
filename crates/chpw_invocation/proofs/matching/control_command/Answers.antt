use Rattle.clap.specs.Words.{found_of, rows_of}
use Rattle.chpw_invocation.proofs.OwnLemmas.{wants_none, wants_other}
use Rattle.chpw_invocation.proofs.matching.control_command.Goals as goal

pub returns-in-None-clause-none : goal.returns-in-None-clause-none
returns-in-None-clause-none c = λ suits none.
    wants_other (rows_of (found_of c.args.options.now))
    c.in_ok-word.word.now c.in_ok-word.ensures.value c.in-None.ensures.value (c.without_file.ensures.none none)

pub returns-in-Some-clause-none : goal.returns-in-Some-clause-none
returns-in-Some-clause-none c = λ suits none.
    wants_none (rows_of (found_of c.args.options.now)) c.in_ok-word.word.now c.in-Some.file.now c.in_ok-word.ensures.value c.in-Some.ensures.value
    (c.with_file.ensures.none none)
