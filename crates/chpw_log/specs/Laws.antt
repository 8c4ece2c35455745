-- Laws of the lines alone.
use Rattle.std.specs.Prelude.{◌≡◌}
use Rattle.chpw_table.specs.declared.verdict.Verdict.{Verdict}
use Rattle.chpw_table.specs.Replies.{answer_of}
use Rattle.chpw_printing.specs.Quoting.{words_text}

-- a verdict's words are in a line unchanged
abbrev pub StandAsTheyAre : Verdict → Type 0
StandAsTheyAre verdict = words_text (answer_of verdict).text ≡ (answer_of verdict).text
