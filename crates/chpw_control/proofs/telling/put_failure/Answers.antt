use Rattle.std.proofs.Common.{◌≡◌, List, ℕ, subst, true}
use Rattle.chpw_printing.specs.Quoting.{are_printed, words_text}
use Rattle.chpw_control.proofs.EndingLemmas.{on_ok, printed_line}
use Rattle.chpw_control.proofs.telling.put_failure.Goals as goal

pub returns-clause-plain : goal.returns-clause-plain
returns-clause-plain c =
    on_ok c.put_words.result c.put_words.ensures.printed (λ (printed : are_printed (words_text c.as_bytes.result.now) ≡ true).
    printed_line (words_text c.args.why.now)
    (subst (λ (bytes : List ℕ). are_printed (words_text bytes) ≡ true) c.as_bytes.ensures.value printed))
