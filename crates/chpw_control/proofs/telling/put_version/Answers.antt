use Rattle.std.proofs.Common.{◌≡◌, List, ℕ, subst, true}
use Rattle.chpw_printing.specs.Quoting.{are_printed, words_text}
use Rattle.chpw_control.proofs.EndingLemmas.{printed_line}
use Rattle.chpw_control.proofs.telling.put_version.Goals as goal

pub returns-clause-plain : goal.returns-clause-plain
returns-clause-plain c =
    printed_line (words_text c.args.version.now)
    (subst (λ (bytes : List ℕ). are_printed (words_text bytes) ≡ true) c.as_bytes.ensures.value c.in_ok-put_words.ensures.printed)
