use Rattle.chpw_journal.proofs.CountLemmas.{restores_count}
use Rattle.chpw_journal.proofs.OpeningLemmas.{openings_are_sound}
use Rattle.chpw_journal.proofs.RunLemmas.{reads_journals, records_are_journals, restores_keys}
use Rattle.chpw_journal.proofs.StopLemmas.{fronts_are_cut_off}
use Rattle.chpw_journal.proofs.laws.restoring.Goals as goal

pub returns : goal.returns
returns c = record {
  read = reads_journals;
  records = records_are_journals;
  keys = restores_keys;
  count = restores_count;
  torn = fronts_are_cut_off;
  sound = openings_are_sound;
}
