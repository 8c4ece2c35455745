-- What reactor and workers share, and a worker's place there.
use Rattle.std.specs.Prelude.{ℕ, List, vec_len}
use Rattle.chpw_workers.specs.declared.inbox.WorkerTurn.{WorkerTurn}
use Rattle.chpw_reactor.specs.declared.engine.Engine.{Engine}
use Rattle.chpw_reactor.specs.declared.seat.Seat.{Seat}

-- how many workers it has queues for
abbrev pub workers_at : Engine → ℕ
workers_at engine = vec_len engine.came

-- the worker whose place it is, and the turns that were taken there
abbrev pub seat_number : {R : Type 0} → Seat R → ℕ
seat_number seat = seat.number

abbrev pub seat_turns : {R : Type 0} → Seat R → List WorkerTurn
seat_turns seat = seat.turns
