-- Workers of a pool, one after the other.
use Rattle.std.proofs.Common.{◌≡◌, ℕ, ◌+◌, List, [], ◌∷◌, ◌++◌, IsSomeAnd, slice_get, length, Some, sym, subst, arith}
use Rattle.chpw_table.specs.declared.times.Moment.{Moment}
use Rattle.chpw_serve.specs.WordStreams.{WordStream}
use Rattle.chpw_book.specs.Passes.{PassView}
use Rattle.chpw_workers.specs.declared.worker.Worker.{Worker}
use Rattle.chpw_reactor.specs.declared.seat.Seat.{Seat}
use Rattle.chpw_pool.specs.PoolWorkers.{IsWorkerOf, AreWorkersFrom}

module _ {R G : Type 0} (key : List ℕ) (passes : List PassView) where
  abbrev One : Worker (Seat R) G Moment WordStream → ℕ → Type 0
  One w number = IsSomeAnd (slice_get passes number) (IsWorkerOf key number w)

  workers_more : (number : ℕ) (ws : List (Worker (Seat R) G Moment WordStream)) (w : Worker (Seat R) G Moment WordStream)
      → AreWorkersFrom key number passes ws → One w (number + length ws) → AreWorkersFrom key number passes (ws ++ w ∷ [])
  workers_more number [] w h x = (subst (One w) (omega arith) x, tt)
  workers_more number (w' ∷ ws) w h x = (h.0, workers_more (number + 1) ws w h.1 (subst (One w) (omega arith) x))

  -- one more behind those from the first number on
  pub one_more : (ws : List (Worker (Seat R) G Moment WordStream)) (w : Worker (Seat R) G Moment WordStream)
      (number : ℕ) (p : PassView) → number ≡ length ws → slice_get passes number ≡ Some p → IsWorkerOf key number w p
      → AreWorkersFrom key 0 passes ws → AreWorkersFrom key 0 passes (ws ++ w ∷ [])
  one_more ws w number p n_is at is h =
      workers_more 0 ws w h (subst (One w) (omega (arith, n_is)) (subst (λ o. IsSomeAnd o (IsWorkerOf key number w)) (sym at) is))
