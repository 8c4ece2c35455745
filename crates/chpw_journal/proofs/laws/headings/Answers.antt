use Rattle.chpw_journal.proofs.HeadingLawLemmas.{headings_are_apart, headings_are_no_records, whole_may_open}
use Rattle.chpw_journal.proofs.laws.headings.Goals as goal

pub returns : goal.returns
returns c = record { apart = headings_are_apart; none = headings_are_no_records; opens = whole_may_open }
