-- The workers of a service before its first desk.
use Rattle.std.specs.Prelude.{◌≡◌, ℕ, ◌+◌, List, [], ◌∷◌}
use Rattle.chpw_table.specs.declared.times.Moment.{Moment}
use Rattle.chpw_serve.specs.WordStreams.{WordStream, stream_start}
use Rattle.chpw_reactor.specs.Engines.{seat_number, seat_turns}
use Rattle.chpw_reactor.specs.declared.seat.Seat.{Seat}
use Rattle.chpw_workers.specs.Clocks.{moment_after}
use Rattle.chpw_workers.specs.declared.worker.Worker.{Worker}
use Rattle.chpw_logging.specs.declared.observers.Logging.{Logging}

-- a worker: where its messages come from, who hears what came of them, the last moment that its clock gave, and where in its
-- stream its next word is
abbrev pub ServiceWorker : Type 0 → Type 0 → Type 0
ServiceWorker R L = Worker (Seat R) (Logging L) Moment WordStream

-- the worker of this number: it has its seat, of which no turn was taken, its lines in the log have its number, its clock has
-- given no moment yet, and its words are its own stream's, from the first one on
pub record IsNewWorker {R L : Type 0} (key : List ℕ) (number : ℕ) (w : ServiceWorker R L) : Type 0 where
  pub seat : seat_number w.inbox ≡ number
  pub none : seat_turns w.inbox ≡ []
  pub observer : w.gate.worker ≡ number
  pub clock : w.clock ≡ moment_after 0
  pub words : w.words ≡ stream_start key number

-- workers with the numbers from this one on
abbrev pub AreStaff : {R L : Type 0} → List ℕ → ℕ → List (ServiceWorker R L) → Type 0
AreStaff key number [] = Unit {0}
AreStaff key number (w ∷ ws) = IsNewWorker key number w × AreStaff key (number + 1) ws
