-- Workers that are made one after the other, and how many they stay.
use Rattle.std.proofs.Common.{◌≡◌, ℕ, Bool, suc, ◌+◌, List, [], ◌∷◌, ◌++◌, Option, length, refl, sym, ◌∙◌, ap, subst, arith}
use Rattle.std.proofs.lemmas.List.{length-map}
use Rattle.std.proofs.lemmas.List.FromFn.{length-range_with_len}
use Rattle.chpw_endpoints.specs.declared.endpoints.Endpoints.{Endpoints}
use Rattle.chpw_table.specs.declared.times.Moment.{Moment}
use Rattle.chpw_table.specs.declared.history.Entry.{Entry}
use Rattle.chpw_table.specs.Agreement.{Held}
use Rattle.chpw_table.specs.Replies.{Answer}
use Rattle.chpw_serve.specs.declared.messages.Seal.{Seal}
use Rattle.chpw_serve.specs.Requests.{Opens}
use Rattle.chpw_book.specs.Passes.{PassView}
use Rattle.chpw_rules.specs.declared.name.Name.{Name}
use Rattle.chpw_record.specs.declared.key.KeyRow.{KeyRow}
use Rattle.chpw_workers.specs.declared.inbox.WorkerTurn.{WorkerTurn}
use Rattle.chpw_workers.specs.Desks.{AreInOrder, AreServedBy}
use Rattle.chpw_workers.specs.declared.worker.Worker.{Worker}
use Rattle.chpw_desks.specs.Staff.{AreStaff, IsNewWorker, ServiceWorker}

-- behind workers from this number on, the next one
staff_from : {R L : Type 0} (key : List ℕ) (number : ℕ) (ws : List (ServiceWorker R L)) (w : ServiceWorker R L) → AreStaff key number ws
    → IsNewWorker key (number + length ws) w → AreStaff key number (ws ++ w ∷ [])
staff_from key number [] w are is = (subst (λ (n : ℕ). IsNewWorker key n w) (omega arith) is, tt)
staff_from key number (x ∷ xs) w are is =
    (are.0, staff_from key (number + 1) xs w are.1 (subst (λ (n : ℕ). IsNewWorker key n w) (omega arith) is))

pub staff_more : {R L : Type 0} (key : List ℕ) (ws : List (ServiceWorker R L)) (w : ServiceWorker R L) (count : ℕ) → length ws ≡ count
    → AreStaff key 0 ws → IsNewWorker key count w → AreStaff key 0 (ws ++ w ∷ [])
staff_more key ws w count long are is = staff_from key 0 ws w are (subst (λ (n : ℕ). IsNewWorker key n w) (omega (arith, long)) is)

-- as many passes as workers
pub in_order_length : (workers : ℕ) (passes : List PassView) → AreInOrder workers passes → length passes ≡ workers
in_order_length workers passes order =
    sym (length-map passes (λ (p : PassView). p.worker)) ∙ (ap length order ∙ length-range_with_len 0 workers)

module _ {I G C X : Type 0} (moments : C → Moment → C → Type 0) (random : X → ℕ → X → Type 0) (turns_at : I → List WorkerTurn)
    (error_frame : Answer → Moment → List ℕ) (private_frame : Seal → Answer → List ℕ → List ℕ)
    (opens : Endpoints → List ℕ → Opens → Type 0) (holds : Name → Option (List KeyRow) → Type 0) (has_kdc : Bool) where
  -- a desk has as many workers after its turns as before
  pub served_count : (w : ℕ) (ps : List PassView) (os ns : List (Worker I G C X)) (history : List Entry) (table : Held)
      → AreServedBy moments random turns_at error_frame private_frame opens holds has_kdc w ps os ns history table → length ns ≡ length os
  served_count w [] [] [] history table h = refl
  served_count w (p ∷ ps) (o ∷ os) (n ∷ ns) history table h = ap suc (served_count (w + 1) ps os ns history table h.1)
  served_count w [] [] (n ∷ ns) history table h = absurd h
  served_count w [] (o ∷ os) ns history table h = absurd h
  served_count w (p ∷ ps) [] ns history table h = absurd h
  served_count w (p ∷ ps) (o ∷ os) [] history table h = absurd h
