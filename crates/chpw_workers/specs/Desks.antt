-- What a desk that was closed had served: the whole, from each message to the history.
use Rattle.std.specs.Prelude.{◌≡◌, ℕ, Bool, ◌+◌, List, [], ◌∷◌, ◌++◌, Option, IfSome, true, map}
use Rattle.std.specs.List.{range_with_len}
use Rattle.chpw_endpoints.specs.declared.endpoints.Endpoints.{Endpoints}
use Rattle.chpw_rules.specs.declared.name.Name.{Name}
use Rattle.chpw_record.specs.declared.key.KeyRow.{KeyRow}
use Rattle.chpw_table.specs.declared.times.Moment.{Moment}
use Rattle.chpw_table.specs.declared.history.Entry.{Entry}
use Rattle.chpw_table.specs.Agreement.{Held, Agrees}
use Rattle.chpw_table.specs.History.{IsLegal, outcome, calls}
use Rattle.chpw_table.specs.Journal.{journal}
use Rattle.chpw_table.specs.Replies.{Answer}
use Rattle.chpw_table.specs.State.{State}
use Rattle.chpw_serve.specs.declared.messages.Seal.{Seal}
use Rattle.chpw_serve.specs.Requests.{Opens}
use Rattle.chpw_journal.specs.Runs.{AreWhole}
use Rattle.chpw_book.specs.Passes.{PassView}
use Rattle.chpw_book.specs.Closing.{is_full}
use Rattle.chpw_book.specs.Receipts.{IsNumbered, AreOfWorkers}
use Rattle.chpw_workers.specs.declared.inbox.WorkerTurn.{WorkerTurn}
use Rattle.chpw_workers.specs.declared.worker.Worker.{Worker}
use Rattle.chpw_workers.specs.Turns.{at, AreTurns}

-- the passes of all workers of a desk, in order
abbrev pub AreInOrder : ℕ → List PassView → Type 0
AreInOrder workers passes = map (λ (p : PassView). p.worker) passes ≡ range_with_len 0 workers

module _ {I G C X : Type 0} (moments : C → Moment → C → Type 0) (random : X → ℕ → X → Type 0) (turns_at : I → List WorkerTurn)
    (error_frame : Answer → Moment → List ℕ) (private_frame : Seal → Answer → List ℕ → List ℕ)
    (opens : Endpoints → List ℕ → Opens → Type 0) (holds : Name → Option (List KeyRow) → Type 0) (has_kdc : Bool) where
  -- The turns that a worker's inbox gained, one after the other, took it from the receipts that it had to its calls in the
  -- history: so each reply is the answer to its own message, each entry of the worker's came of one turn, is of the request
  -- that the turn's message opened to, and has the verdict that its reply carries, if memory sufficed for one; and they stand in
  -- the order of the turns. A turn was told that the history is full only if it is.
  pub record IsServedBy (w : ℕ) (pass : PassView) (old new : Worker I G C X) (history : List Entry) (table : Held) : Type 0 where
    pub turns : List WorkerTurn
    pub gained : turns_at new.inbox ≡ turns_at old.inbox ++ turns
    pub are : AreTurns moments random error_frame private_frame opens (λ receipts. is_full table ≡ true) holds has_kdc
        (at pass.receipts old.clock old.words) turns (at (calls history w) new.clock new.words)

  -- for each worker, from this number on
  abbrev pub AreServedBy : ℕ → List PassView → List (Worker I G C X) → List (Worker I G C X) → List Entry → Held → Type 0
  AreServedBy w [] [] [] history table = Unit {0}
  AreServedBy w (p ∷ ps) (o ∷ os) (n ∷ ns) history table =
      IsServedBy w p o n history table × AreServedBy (w + 1) ps os ns history table
  AreServedBy w _ _ _ history table = ⊥

  -- THE WHOLE: the one-thread machine replays the history, entry by entry from the opening, with each verdict stored, to the
  -- table that was held at the end; what the sink has is what it had before and then the history's journal; each worker's entries are
  -- numbered in their order; and each worker's turns are those that made its entries.
  pub record ServedDesk (opening : State) (workers : ℕ) (passes : List PassView) (olds news : List (Worker I G C X))
      (history : List Entry) (table : Held) (prior : List ℕ) (told : Option (List ℕ)) : Type 0 where
    pub legal : IsLegal opening history
    pub agrees : Agrees table.state (outcome opening history)
    pub whole : AreWhole opening history
    pub journal : IfSome told (λ bytes. bytes ≡ prior ++ journal opening history)
    pub numbered : IsNumbered history
    pub workers_are : AreOfWorkers workers history
    pub each : AreServedBy 0 passes olds news history table
