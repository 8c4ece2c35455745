-- Runs that follow each other, as the histories of one service do and the runs that wrote one journal: the first opens
-- with a state within the limits, each further one with what the one before it left.
use Rattle.std.specs.Prelude.{◌≡◌, List}
use Rattle.chpw_table.specs.State.{State, new_count}
use Rattle.chpw_journal.specs.Runs.{SameKeys, IsSound, Run, AreRuns, KeepCount, last_state}

-- the same principals with the same keys, and the same iteration count of new keys
pub record IsAlike (s t : State) : Type 0 where
  pub keys : SameKeys s t
  pub count : new_count s ≡ new_count t

-- these runs follow each other, the first on this state
pub record FollowOn (s : State) (runs : List Run) : Type 0 where
  pub sound : IsSound s
  pub each : AreRuns s runs
  pub counts : KeepCount s runs

-- a further run may open with this state: it is within the limits, and is what the last of these left, or, if there is
-- none, what the first was to open with
pub record MayOpen (s : State) (runs : List Run) (t : State) : Type 0 where
  pub sound : IsSound t
  pub left : IsAlike (last_state s runs) t
