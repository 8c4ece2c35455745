-- In which stage a connection is counted.
use Rattle.std.specs.Prelude.{ℕ, Bool, true, false, Option, Some, None, if◌then◌else◌}
use Rattle.chpw_connection.specs.Stages.{Stage, stage, reading, queued, answering, confirming, writing, lingering, abandoned, ended}
use Rattle.chpw_connection.specs.declared.connection.Connection.{Connection}
use Rattle.chpw_connection.specs.declared.counting.CountedStage.{CountedStage}
use Rattle.chpw_connection.specs.declared.counting.CountedStage.TheVariants as counted

-- those whose message a worker answers, gone or not, are counted together, and so are those that end
abbrev pub is_counted : CountedStage → Stage → Bool
is_counted counted.Reading (reading bytes) = true
is_counted counted.Waiting (queued message) = true
is_counted counted.Answering (answering message) = true
is_counted counted.Answering abandoned = true
is_counted counted.Confirming (confirming reply last ticket) = true
is_counted counted.Writing (writing left last) = true
is_counted counted.Ending lingering = true
is_counted counted.Ending ended = true
is_counted which other = false

abbrev pub one_at : CountedStage → Option Connection → ℕ
one_at which None = 0
one_at which (Some c) = if is_counted which (stage c) then 1 else 0
