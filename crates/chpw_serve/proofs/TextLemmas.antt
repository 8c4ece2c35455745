-- The texts of replies are short.
use Rattle.std.proofs.Common.{◌≤◌, length, lit≤}
use Rattle.chpw_table.specs.declared.verdict.Verdict.{Verdict}
use Rattle.chpw_table.specs.declared.verdict.Verdict.TheVariants.{Done}
use Rattle.chpw_table.specs.Replies.{answer_of}

-- each by itself
pub short_text : (v : Verdict) → length (answer_of v).text ≤ 100
short_text Done = lit≤ tt
short_text v = lit≤ tt
