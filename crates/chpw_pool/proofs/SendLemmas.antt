-- What a worker's thread is given may go there.
use denote.RattleType.{RattleType}
use mir.Syntax.{Sym, Ty}
use denote.Exit.{no}
use denote.Param.{param, arg}
use denote.Ref.{NamedLft}
use denote.Struct.Tuple.{TupleAt}
use Rattle.std.specs.Prelude.{[], ◌∷◌}
use denote.Param.Send.{IsSend, IsSync, sendable}
use Rattle.std.proofs.alloc.Global.TheSendSync as global
use Rattle.chpw_serve.specs.contracts.gate.NoGate as NoGate
use Rattle.chpw_serve.proofs.gate.NoGate.TheSendSync as gate
use Rattle.chpw_serve.specs.contracts.worker_words.WorkerWords as WorkerWords
use Rattle.chpw_serve.proofs.worker_words.WorkerWords.TheSendSync as words
use Rattle.chpw_workers.specs.contracts.clock.MachineClock as MachineClock
use Rattle.chpw_workers.specs.contracts.context.Context as Context
use Rattle.chpw_workers.specs.contracts.worker.Worker as Worker
use Rattle.chpw_workers.proofs.clock.MachineClock.TheSendSync as clock
use Rattle.chpw_workers.proofs.worker.Worker.TheSendSync as worker
use Rattle.chpw_reactor.specs.contracts.seat.Seat as Seat
use Rattle.chpw_reactor.specs.contracts.seat.EngineCrew as EngineCrew
use Rattle.chpw_reactor.proofs.seat.Seat.TheSendSync as seat
use Rattle.chpw_reactor.proofs.seat.EngineCrew.TheSendSync as crew

crew_sync : (a : NamedLft) (R : RattleType) → IsSync R → IsSync (EngineCrew.the_row a R)
crew_sync a R r = search (crew.the_sync, sendable) depth 20

-- all threads may look at what the workers of a pool answer with
pub context_sync : (a b : NamedLft) (R M : RattleType) → IsSync R → IsSync M
    → IsSync (Context.the_row a M (EngineCrew.the_row b R))
context_sync a b R M r m = search (crew_sync, global.the_field_sync, sendable) depth 20

pub seat_send : (a : NamedLft) (R : RattleType) → IsSync R → IsSend (Seat.the_row a R)
seat_send a R r = search (seat.the_send, sendable) depth 20

pub worker_send : (a b : NamedLft) (R : RattleType) → IsSync R
    → IsSend (Worker.the_row (Seat.the_row a R) NoGate.the_row (MachineClock.the_row b R) WorkerWords.the_row)
worker_send a b R r = search (worker.the_send, seat_send, gate.the_send, clock.the_send, words.the_send, sendable) depth 20

-- the runtime, what all share, the desk, the pass and the worker
pub start_send : (δ : Ty) (ν : Sym) (A B C D E : RattleType) → IsSend A
    → IsSend B → IsSend C → IsSend D → IsSend E → IsSend (param 1 (arg δ no (TupleAt ν (A ∷ B ∷ C ∷ D ∷ E ∷ []))))
start_send δ ν A B C D E a b c d e = search sendable depth 20
