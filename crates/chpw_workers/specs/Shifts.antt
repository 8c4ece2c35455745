-- What workers did at a desk, and what a desk that closed has of it.
use Rattle.std.specs.Prelude.{◌≡◌, ℕ, Bool, List, [], ◌∷◌, ◌++◌, Option, true}
use Rattle.chpw_endpoints.specs.declared.endpoints.Endpoints.{Endpoints}
use Rattle.chpw_rules.specs.declared.name.Name.{Name}
use Rattle.chpw_record.specs.declared.key.KeyRow.{KeyRow}
use Rattle.chpw_table.specs.declared.times.Moment.{Moment}
use Rattle.chpw_table.specs.declared.history.Receipt.{Receipt}
use Rattle.chpw_table.specs.Replies.{Answer}
use Rattle.chpw_serve.specs.declared.messages.Seal.{Seal}
use Rattle.chpw_serve.specs.Requests.{Opens}
use Rattle.chpw_book.specs.Passes.{PassView, IsLaterPass}
use Rattle.chpw_workers.specs.declared.inbox.WorkerTurn.{WorkerTurn}
use Rattle.chpw_workers.specs.declared.worker.Worker.{Worker}
use Rattle.chpw_workers.specs.Turns.{At, at, AreTurns}

module _ {I G C X : Type 0} (moments : C → Moment → C → Type 0) (random : X → ℕ → X → Type 0) (turns_at : I → List WorkerTurn)
    (error_frame : Answer → Moment → List ℕ) (private_frame : Seal → Answer → List ℕ → List ℕ)
    (opens : Endpoints → List ℕ → Opens → Type 0) (holds : Name → Option (List KeyRow) → Type 0) (has_kdc : Bool) where
  -- where a worker is, with these receipts
  abbrev pub at_worker : List Receipt → Worker I G C X → At C X
  at_worker receipts w = at receipts w.clock w.words

  -- The turns that its inbox gained, one after the other, took a worker from where it was to where it is. If one was told
  -- that the history is full, its pass has noted that.
  pub record IsShift (mine : PassView) (old : Worker I G C X) (more : PassView) (new : Worker I G C X) : Type 0 where
    pub turns : List WorkerTurn
    pub gained : turns_at new.inbox ≡ turns_at old.inbox ++ turns
    pub are : AreTurns moments random error_frame private_frame opens (λ receipts. more.was_full ≡ true) holds has_kdc
        (at_worker mine.receipts old) turns (at_worker more.receipts new)
    pub later : IsLaterPass mine more

  -- for each worker, in order
  abbrev pub AreShifts : List PassView → List (Worker I G C X) → List PassView → List (Worker I G C X) → Type 0
  AreShifts [] [] [] [] = Unit {0}
  AreShifts (p ∷ ps) (o ∷ os) (q ∷ qs) (n ∷ ns) = IsShift p o q n × AreShifts ps os qs ns
  AreShifts _ _ _ _ = ⊥
