-- How many connections are in which stage.
use Rattle.std.specs.Prelude.{◌≡◌, ℕ, ◌+◌, sum_by}
use Rattle.slab.specs.Slab.{Slab, slab_len}
use Rattle.chpw_connection.specs.declared.connection.Connection.{Connection}
use Rattle.chpw_connection.specs.declared.counting.CountedStage.{CountedStage}
use Rattle.chpw_connection.specs.declared.counting.CountedStage.TheVariants as counted
use Rattle.chpw_connection.specs.Counting.{one_at}

-- those of one stage
abbrev pub count_in : CountedStage → Slab Connection → ℕ
count_in which slots = sum_by (one_at which) slots.slots

-- those of all stages together
abbrev pub count_all : Slab Connection → ℕ
count_all slots = count_in counted.Reading slots + count_in counted.Waiting slots + count_in counted.Answering slots
    + count_in counted.Confirming slots + count_in counted.Writing slots + count_in counted.Ending slots

-- each connection is counted in one stage, and in no other
abbrev pub CountedOnce : Type 0
CountedOnce = (slots : Slab Connection) → count_all slots ≡ slab_len slots
