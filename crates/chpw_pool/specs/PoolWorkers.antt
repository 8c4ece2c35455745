-- The workers of a pool's passes.
use Rattle.std.specs.Prelude.{◌≡◌, ℕ, ◌+◌, List, [], ◌∷◌, length, IsSomeAnd, slice_get}
use Rattle.chpw_table.specs.declared.times.Moment.{Moment}
use Rattle.chpw_serve.specs.WordStreams.{WordStream, stream_start}
use Rattle.chpw_book.specs.Passes.{PassView}
use Rattle.chpw_workers.specs.Clocks.{moment_after}
use Rattle.chpw_workers.specs.declared.worker.Worker.{Worker}
use Rattle.chpw_reactor.specs.declared.seat.Seat.{Seat}
use Rattle.chpw_reactor.specs.Engines.{seat_number, seat_turns}

module _ {R G : Type 0} (key : List ℕ) where
  -- it has the queue of this number, at which it took no turn yet, the words of its pass's stream from their first on, and a
  -- clock that has given nothing
  pub record IsWorkerOf (number : ℕ) (w : Worker (Seat R) G Moment WordStream) (pass : PassView) : Type 0 where
    pub number_is : seat_number w.inbox ≡ number
    pub turns_are : seat_turns w.inbox ≡ []
    pub clock_is : w.clock ≡ moment_after 0
    pub words_are : w.words ≡ stream_start key pass.worker

  -- from this number on, which is that of a worker's queue, and the place of its pass
  abbrev pub AreWorkersFrom : ℕ → List PassView → List (Worker (Seat R) G Moment WordStream) → Type 0
  AreWorkersFrom number passes [] = Unit {0}
  AreWorkersFrom number passes (w ∷ ws) =
      IsSomeAnd (slice_get passes number) (IsWorkerOf number w) × AreWorkersFrom (number + 1) passes ws

  -- one for each pass
  abbrev pub AreWorkersOf : List PassView → List (Worker (Seat R) G Moment WordStream) → Type 0
  AreWorkersOf passes ws = (length ws ≡ length passes) × AreWorkersFrom 0 passes ws
