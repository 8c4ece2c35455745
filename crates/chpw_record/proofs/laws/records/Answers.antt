use Rattle.chpw_record.proofs.LengthLemmas.{text_range}
use Rattle.chpw_record.proofs.RecordLemmas.{reads_back, same_record}
use Rattle.chpw_record.proofs.laws.records.Goals as goal

pub returns : goal.returns
returns c = record {
  back = reads_back;
  only = same_record;
  lengths = text_range;
}
