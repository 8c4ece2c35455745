use Rattle.chpw_journal.proofs.JoinedLemmas.{events_stay_sound, histories_stay_sound, runs_go_on, runs_are_last}
use Rattle.chpw_journal.proofs.JoinedLemmas.{tables_may_open, restored_may_open, read_may_open, two_runs_follow_on}
use Rattle.chpw_journal.proofs.laws.runs.Goals as goal

pub returns : goal.returns
returns c =
    record {
      event = events_stay_sound;
      history = histories_stay_sound;
      goes_on = runs_go_on;
      last = runs_are_last;
      left = tables_may_open;
      restored = restored_may_open;
      read = read_may_open;
      two = two_runs_follow_on;
    }
