-- Workers at a desk, one after the other.
use Rattle.std.proofs.Common.{◌≡◌, ℕ, Bool, List, [], ◌∷◌, ◌++◌, Option, length, refl, sym, arith}
use Rattle.std.proofs.lemmas.List.{append-nil}
use Rattle.chpw_endpoints.specs.declared.endpoints.Endpoints.{Endpoints}
use Rattle.chpw_rules.specs.declared.name.Name.{Name}
use Rattle.chpw_record.specs.declared.key.KeyRow.{KeyRow}
use Rattle.chpw_table.specs.declared.times.Moment.{Moment}
use Rattle.chpw_table.specs.Replies.{Answer}
use Rattle.chpw_serve.specs.declared.messages.Seal.{Seal}
use Rattle.chpw_serve.specs.Requests.{Opens}
use Rattle.chpw_book.specs.Passes.{PassView}
use Rattle.chpw_workers.specs.declared.inbox.WorkerTurn.{WorkerTurn}
use Rattle.chpw_workers.specs.declared.worker.Worker.{Worker}
use Rattle.chpw_workers.specs.Shifts.{IsShift, AreShifts}

module _ {I G C X : Type 0} (moments : C → Moment → C → Type 0) (random : X → ℕ → X → Type 0) (turns_at : I → List WorkerTurn)
    (error_frame : Answer → Moment → List ℕ) (private_frame : Seal → Answer → List ℕ → List ℕ)
    (opens : Endpoints → List ℕ → Opens → Type 0) (holds : Name → Option (List KeyRow) → Type 0) (has_kdc : Bool) where
  abbrev One : PassView → Worker I G C X → PassView → Worker I G C X → Type 0
  One = IsShift moments random turns_at error_frame private_frame opens holds has_kdc

  abbrev Each : List PassView → List (Worker I G C X) → List PassView → List (Worker I G C X) → Type 0
  Each = AreShifts moments random turns_at error_frame private_frame opens holds has_kdc

  -- one that took no turn
  idle : (p : PassView) (o : Worker I G C X) → One p o p o
  idle p o = record { turns = []; gained = sym (append-nil (turns_at o.inbox)); are = refl; later = (refl, λ h. h) }

  -- none took a turn
  pub shifts_none : (ps : List PassView) (os : List (Worker I G C X)) → length ps ≡ length os → Each ps os ps os
  shifts_none [] [] h = tt
  shifts_none [] (o ∷ os) h = absurd (omega (arith, h))
  shifts_none (p ∷ ps) [] h = absurd (omega (arith, h))
  shifts_none (p ∷ ps) (o ∷ os) h = (idle p o, shifts_none ps os (omega (arith, h)))

  -- one worker more
  pub shifts_more : (ps : List PassView) (os : List (Worker I G C X)) (qs : List PassView) (ns : List (Worker I G C X))
      (p : PassView) (o : Worker I G C X) (q : PassView) (n : Worker I G C X)
      → Each ps os qs ns → One p o q n → Each (ps ++ p ∷ []) (os ++ o ∷ []) (qs ++ q ∷ []) (ns ++ n ∷ [])
  shifts_more [] [] [] [] p o q n h g = (g, tt)
  shifts_more (p' ∷ ps) (o' ∷ os) (q' ∷ qs) (n' ∷ ns) p o q n h g = (h.0, shifts_more ps os qs ns p o q n h.1 g)
  shifts_more [] [] [] (n' ∷ ns) p o q n h g = absurd h
  shifts_more [] [] (q' ∷ qs) ns p o q n h g = absurd h
  shifts_more [] (o' ∷ os) qs ns p o q n h g = absurd h
  shifts_more (p' ∷ ps) [] qs ns p o q n h g = absurd h
  shifts_more (p' ∷ ps) (o' ∷ os) [] ns p o q n h g = absurd h
  shifts_more (p' ∷ ps) (o' ∷ os) (q' ∷ qs) [] p o q n h g = absurd h

  -- each has been given back
  pub shifts_lengths : (ps : List PassView) (os : List (Worker I G C X)) (qs : List PassView) (ns : List (Worker I G C X))
      → Each ps os qs ns → (length qs ≡ length ps) × (length ns ≡ length os)
  shifts_lengths [] [] [] [] h = (refl, refl)
  shifts_lengths (p ∷ ps) (o ∷ os) (q ∷ qs) (n ∷ ns) h =
      let rest = shifts_lengths ps os qs ns h.1 in (omega (arith, rest.0), omega (arith, rest.1))
  shifts_lengths [] [] [] (n ∷ ns) h = absurd h
  shifts_lengths [] [] (q ∷ qs) ns h = absurd h
  shifts_lengths [] (o ∷ os) qs ns h = absurd h
  shifts_lengths (p ∷ ps) [] qs ns h = absurd h
  shifts_lengths (p ∷ ps) (o ∷ os) [] ns h = absurd h
  shifts_lengths (p ∷ ps) (o ∷ os) (q ∷ qs) [] h = absurd h
