-- What a closed desk has of its workers' turns.
use Rattle.std.proofs.Common.{◌≡◌, ℕ, zero, suc, ◌+◌, ◌<◌, List, [], ◌∷◌, ◌++◌, Bool, true, false, Option, map, refl, sym, ◌∙◌, ap, subst, arith}
use Rattle.std.specs.Prelude.{IfSome, Result, Ok, Err, IfOk, IfErr}
use Rattle.std.specs.List.{range_with_len}
use Rattle.chpw_endpoints.specs.declared.endpoints.Endpoints.{Endpoints}
use Rattle.chpw_rules.specs.declared.name.Name.{Name}
use Rattle.chpw_record.specs.declared.key.KeyRow.{KeyRow}
use Rattle.chpw_table.specs.declared.times.Moment.{Moment}
use Rattle.chpw_table.specs.declared.history.Entry.{Entry}
use Rattle.chpw_table.specs.declared.history.Receipt.{Receipt}
use Rattle.chpw_table.specs.Agreement.{Held, Agrees}
use Rattle.chpw_table.specs.History.{calls, outcome, IsLegal}
use Rattle.chpw_table.specs.Journal.{journal as journal_of}
use Rattle.chpw_table.specs.State.{State}
use Rattle.chpw_journal.specs.Runs.{AreWhole}
use Rattle.chpw_book.specs.Receipts.{IsNumbered, AreOfWorkers}
use Rattle.chpw_table.specs.Replies.{Answer}
use Rattle.chpw_serve.specs.declared.messages.Seal.{Seal}
use Rattle.chpw_serve.specs.Requests.{Opens}
use Rattle.chpw_book.specs.Passes.{PassView, new_pass}
use Rattle.chpw_book.specs.Closing.{HasCalls, IsWhole, is_full, was_any_full}
use Rattle.chpw_workers.specs.declared.inbox.WorkerTurn.{WorkerTurn}
use Rattle.chpw_workers.specs.declared.worker.Worker.{Worker}
use Rattle.chpw_workers.specs.Turns.{at, AreTurns}
use Rattle.chpw_workers.specs.Shifts.{IsShift, AreShifts}
use Rattle.chpw_workers.specs.Desks.{AreInOrder, IsServedBy, AreServedBy, ServedDesk}
use Rattle.chpw_workers.proofs.ChainLemmas.{turns_lift}

abbrev workers_of : List PassView → List ℕ
workers_of ps = map (λ (p : PassView). p.worker) ps

new_from : (a n : ℕ) → workers_of (map new_pass (range_with_len a n)) ≡ range_with_len a n
new_from a zero = refl
new_from a (suc n) = ap (λ (ws : List ℕ). a ∷ ws) (new_from (a + 1) n)

-- the passes of a desk that starts
pub new_in_order : (workers : ℕ) (passes : List PassView) → passes ≡ map new_pass (range_with_len 0 workers) → AreInOrder workers passes
new_in_order workers passes h = ap workers_of h ∙ new_from 0 workers

first_is : (a b : ℕ) (xs ys : List ℕ) → a ∷ xs ≡ b ∷ ys → a ≡ b
first_is a b xs ys h = cc

rest_is : (a b : ℕ) (xs ys : List ℕ) → a ∷ xs ≡ b ∷ ys → xs ≡ ys
rest_is a b xs ys h = cc

-- one of these was told that the history is full
any_here : (p : PassView) (ps : List PassView) → p.was_full ≡ true → was_any_full (p ∷ ps) ≡ true
any_here p ps h = rw h refl

any_there_if : (p : PassView) (ps : List PassView) (b : Bool) → p.was_full ≡ b → was_any_full ps ≡ true → was_any_full (p ∷ ps) ≡ true
any_there_if p ps true e h = rw e refl
any_there_if p ps false e h = rw e h

any_there : (p : PassView) (ps : List PassView) → was_any_full ps ≡ true → was_any_full (p ∷ ps) ≡ true
any_there p ps h = any_there_if p ps p.was_full refl h

-- what is said of the passes that were given to it is said of those that it gives back
pub if_given_back : {A E : Type 0} (r : Result A E) (passes_of : E → List PassView) (qs : List PassView) (P : E → List PassView → Type 0)
    → IfErr r (λ e. P e qs) → IfErr r (λ e. passes_of e ≡ qs) → IfErr r (λ e. P e (passes_of e))
if_given_back (Ok a) passes_of qs P h back = tt
if_given_back (Err e) passes_of qs P h back = subst (P e) (sym back) h

module _ {I G C X : Type 0} (moments : C → Moment → C → Type 0) (random : X → ℕ → X → Type 0) (turns_at : I → List WorkerTurn)
    (error_frame : Answer → Moment → List ℕ) (private_frame : Seal → Answer → List ℕ → List ℕ)
    (opens : Endpoints → List ℕ → Opens → Type 0) (holds : Name → Option (List KeyRow) → Type 0) (has_kdc : Bool) (workers : ℕ) where
  abbrev One : PassView → Worker I G C X → PassView → Worker I G C X → Type 0
  One = IsShift moments random turns_at error_frame private_frame opens holds has_kdc

  abbrev Each : List PassView → List (Worker I G C X) → List PassView → List (Worker I G C X) → Type 0
  Each = AreShifts moments random turns_at error_frame private_frame opens holds has_kdc

  module _ (history : List Entry) (table : Held) where
    abbrev Served : ℕ → PassView → Worker I G C X → Worker I G C X → Type 0
    Served w p o n = IsServedBy moments random turns_at error_frame private_frame opens holds has_kdc w p o n history table

    abbrev AllServed : ℕ → List PassView → List (Worker I G C X) → List (Worker I G C X) → Type 0
    AllServed w ps os ns = AreServedBy moments random turns_at error_frame private_frame opens holds has_kdc w ps os ns history table

    one_served : (w : ℕ) (p : PassView) (o : Worker I G C X) (q : PassView) (n : Worker I G C X) → One p o q n
        → q.receipts ≡ calls history w → (q.was_full ≡ true → is_full table ≡ true) → Served w p o n
    one_served w p o q n h has full = record {
      turns = h.turns;
      gained = h.gained;
      are = subst (λ (rs : List Receipt). AreTurns moments random error_frame private_frame opens
          (λ (ts : List Receipt). is_full table ≡ true) holds has_kdc (at p.receipts o.clock o.words) h.turns (at rs n.clock n.words)) has
          (turns_lift moments random error_frame private_frame opens (λ (rs : List Receipt). q.was_full ≡ true)
          (λ (rs : List Receipt). is_full table ≡ true) (λ rs g. full g) holds holds (λ name key g. g) has_kdc (at p.receipts o.clock
          o.words) h.turns (at q.receipts n.clock n.words) h.are);
    }

    -- Each worker's turns took it to its calls, from this worker on: its pass has them, and 'full' was told only if the table is full.
    pub served_from : (w k : ℕ) (ps : List PassView) (os : List (Worker I G C X)) (qs : List PassView) (ns : List (Worker I G C X))
        → workers_of ps ≡ range_with_len w k → w + k ≡ workers → Each ps os qs ns
        → ((v : ℕ) → v < workers → HasCalls history qs v) → (was_any_full qs ≡ true → is_full table ≡ true) → AllServed w ps os ns
    served_from w k [] [] [] [] order count h has full = tt
    served_from w zero (p ∷ ps) (o ∷ os) (q ∷ qs) (n ∷ ns) order count h has full = absurd cc
    served_from w (suc k) (p ∷ ps) (o ∷ os) (q ∷ qs) (n ∷ ns) order count h has full =
        let same : q.worker ≡ w = h.0.later.0 ∙ first_is p.worker w (workers_of ps) (range_with_len (w + 1) k) order in (
          one_served w p o q n h.0 ((has w (omega (arith, count))).0 same) (λ g. full (any_here q qs g)),
          served_from (w + 1) k ps os qs ns (rest_is p.worker w (workers_of ps) (range_with_len (w + 1) k) order) (omega (arith, count)) h.1
              (λ v less. (has v less).1) (λ g. full (any_there q qs g)),
        )
    served_from w k [] [] [] (n ∷ ns) order count h has full = absurd h
    served_from w k [] [] (q ∷ qs) ns order count h has full = absurd h
    served_from w k [] (o ∷ os) qs ns order count h has full = absurd h
    served_from w k (p ∷ ps) [] qs ns order count h has full = absurd h
    served_from w k (p ∷ ps) (o ∷ os) [] ns order count h has full = absurd h
    served_from w k (p ∷ ps) (o ∷ os) (q ∷ qs) [] order count h has full = absurd h

    -- of all workers
    pub served_each : (ps : List PassView) (os : List (Worker I G C X)) (qs : List PassView) (ns : List (Worker I G C X))
        → AreInOrder workers ps → Each ps os qs ns
        → ((v : ℕ) → v < workers → HasCalls history qs v) → (was_any_full qs ≡ true → is_full table ≡ true) → AllServed 0 ps os ns
    served_each ps os qs ns order h has full = served_from 0 workers ps os qs ns order (omega arith) h has full

  -- what a closed desk's contract says, with the turns that led to its passes
  pub served_desk : (opening : State) (ps : List PassView) (os : List (Worker I G C X)) (qs : List PassView) (ns : List (Worker I G C X))
      (history : List Entry) (table : Held) (prior : List ℕ) (told : Option (List ℕ)) → AreInOrder workers ps → Each ps os qs ns
      → IsWhole history (is_full table) workers qs → IsLegal opening history × Agrees table.state (outcome opening history)
      → AreWhole opening history → IsNumbered history × AreOfWorkers workers history → IfSome told (λ bytes. bytes ≡ prior ++ journal_of opening history)
      → ServedDesk moments random turns_at error_frame private_frame opens holds has_kdc opening workers ps os ns history table prior told
  served_desk opening ps os qs ns history table prior told order h whole legal brings numbered is_told = record {
    legal = legal.0;
    agrees = legal.1;
    whole = brings;
    journal = is_told;
    numbered = numbered.0;
    workers_are = numbered.1;
    each = served_each history table ps os qs ns order h whole.calls_are whole.full_is;
  }

  -- where a desk closes
  pub served_if_closed : {A E : Type 0} (r : Result A E) (history_of : A → List Entry) (table_of : A → Held) (told_of : A → Option (List ℕ)) (prior : List ℕ)
      (opening : State) (ps : List PassView) (os : List (Worker I G C X)) (qs : List PassView) (ns : List (Worker I G C X))
      → AreInOrder workers ps → Each ps os qs ns
      → IfOk r (λ a. IsWhole (history_of a) (is_full (table_of a)) workers qs)
      → IfOk r (λ a. IsLegal opening (history_of a) × Agrees (table_of a).state (outcome opening (history_of a)))
      → IfOk r (λ a. AreWhole opening (history_of a)) → IfOk r (λ a. IsNumbered (history_of a) × AreOfWorkers workers (history_of a))
      → IfOk r (λ a. IfSome (told_of a) (λ bytes. bytes ≡ prior ++ journal_of opening (history_of a)))
      → IfOk r (λ a. ServedDesk moments random turns_at error_frame private_frame opens holds has_kdc opening workers ps os ns
      (history_of a) (table_of a) prior (told_of a))
  served_if_closed (Ok a) history_of table_of told_of prior opening ps os qs ns order h whole legal brings numbered is_told =
      served_desk opening ps os qs ns (history_of a) (table_of a) prior (told_of a) order h whole legal brings numbered is_told
  served_if_closed (Err e) history_of table_of told_of prior opening ps os qs ns order h whole legal brings numbered is_told = tt

  -- and where it refuses to
  pub stands_if_refused : {A E : Type 0} (r : Result A E) (passes_of : E → List PassView)
      (ps : List PassView) (os : List (Worker I G C X)) (qs : List PassView) (ns : List (Worker I G C X))
      → Each ps os qs ns → IfErr r (λ e. passes_of e ≡ qs) → IfErr r (λ e. Each ps os (passes_of e) ns)
  stands_if_refused (Ok a) passes_of ps os qs ns h back = tt
  stands_if_refused (Err e) passes_of ps os qs ns h back = subst (λ (rs : List PassView). Each ps os rs ns) (sym back) h
