use Rattle.chpw_printing.specs.Quoting.{words_text}
use Rattle.chpw_control.proofs.EndingLemmas.{on_ok, printed_line}
use Rattle.chpw_control.proofs.telling.put_words_or_none.Goals as goal

pub returns-in-Some-clause-plain : goal.returns-in-Some-clause-plain
returns-in-Some-clause-plain c =
    rw c.in-Some.is (on_ok c.put_words.result c.put_words.ensures.printed (printed_line (words_text c.in-Some.words.now)))
