use Rattle.chpw_journal.proofs.CompactLemmas.{compact_gives, compact_is_next, compact_reads, compact_is_found_again, compact_may_open}
use Rattle.chpw_journal.proofs.RowLemmas.{openings_hold_in_row, restored_hold_in_row, runs_hold_in_row, agree_hold_in_row, runs_may_compact}
use Rattle.chpw_journal.proofs.laws.compact.Goals as goal

pub returns : goal.returns
returns c = record {
  gives = compact_gives;
  next = compact_is_next;
  read = compact_reads;
  found = compact_is_found_again;
  opens = compact_may_open;
  opening = openings_hold_in_row;
  restored = restored_hold_in_row;
  runs = runs_hold_in_row;
  agree = agree_hold_in_row;
  may = runs_may_compact;
}
