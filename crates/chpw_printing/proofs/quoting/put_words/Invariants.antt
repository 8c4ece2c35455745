use Rattle.std.proofs.Common.{◌≡◌, ◌++◌, length}
use Rattle.chpw_printing.specs.Quoting.{are_printed, words_text}
use Rattle.chpw_printing.proofs.quoting.put_words.Given as goal

abbrev pub invariant-loop-others : goal.invariant-loop-others
invariant-loop-others l = record {
  value : l.text.items ++ words_text l.others ≡ l.fn.text.items ++ words_text l.words;
  printed : are_printed (words_text l.words) ≡ are_printed (words_text l.others);
}

abbrev pub decreases-loop-others : goal.decreases-loop-others
decreases-loop-others l = length l.others
