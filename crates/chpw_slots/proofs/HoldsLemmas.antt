-- Whatever happens to a connection, its slot stands in its worker's queue while its message waits.
use Rattle.std.proofs.Common.{◌≡◌, ◌≢◌, ℕ, zero, suc, ◌+◌, ◌<◌, ◌≤◌, ◌%◌, List, [], ◌∷◌, ◌++◌, length, drop, refl, sym, ◌∙◌, ap, ap₂, subst, arith, Bool, true}
use Rattle.std.proofs.Common.{false, ◌&&◌, not, cond, ◌==◌, nat_lt, Option, Some, None, is_some, option_map, get_or, IfSome, IfNone, MatchOption}
use Rattle.std.proofs.Math.Logic.{⊎_elim}
use Rattle.std.proofs.lemmas.Bool.{cases_eq, cases_lt}
use Rattle.std.proofs.lemmas.List.{get_or_past}
use Rattle.std.proofs.lemmas.List.Sums.{sum_by-cons}
use Rattle.std.specs.List.{count_by}
use Rattle.std.proofs.lemmas.Bool.Decides.{nat_tests}
use Rattle.slab.specs.Slab.{Slab, get, slab_len, Updates}
use Rattle.chpw_connection.specs.Stages.{Stage, reading, queued, answering, confirming, writing, lingering, abandoned, ended, Event, came, taken}
use Rattle.chpw_connection.specs.Stages.{failed, stage}
use Rattle.chpw_connection.specs.Holding.{held_by, begun_of}
use Rattle.chpw_connection.specs.Slot.{queued_by, queued_at, Comes, waits, waits_since, is_ended, is_ended_in, is_newly_queued}
use Rattle.chpw_slots.specs.Slots.{Happens}
use Rattle.chpw_slots.specs.Longest.{IsLongest, IsLongestBesides, IsLongestOf}
use Rattle.chpw_endpoints.specs.declared.peer.Peer.{Peer}
use Rattle.chpw_connection.specs.Shares.{is_of_peer, waits_of_peer}
use Rattle.chpw_connection.specs.Eviction.{gives_way_since, is_held_back, is_among}
use Rattle.chpw_slots.specs.Waiting.{queue_in, waits_for, times, times_for, Holds, Becomes, Leaves, without}
use Rattle.chpw_connection.specs.declared.connection.Connection.{Connection}
use Rattle.chpw_connection.specs.declared.eviction.EvictionRule.{EvictionRule}
use Rattle.chpw_slots.proofs.QueueLemmas.{number, times_head, times_after, times_push_same, times_push_other, times_without, times_without_other, without_none}
use Rattle.chpw_slots.proofs.QueueLemmas.{without_head}
use Rattle.chpw_slots.proofs.QuietLemmas.{is_quiet, quiet_kept, failed_none, taken_none, came_kept}

-- a connection waits for a worker while its message is queued
module _ (workers : ℕ) where
  same_for : (c d : Connection) → d.number ≡ c.number → queued_by (stage d) ≡ queued_by (stage c)
      → waits_for workers (Some d) ≡ waits_for workers (Some c)
  same_for c d number same =
      ap₂ (λ (n : ℕ) (o : Option (List ℕ)). option_map (λ (m : List ℕ). n % workers) o) number same

  none_for : (o : Option Connection) → queued_at o ≡ None → waits_for workers o ≡ None
  none_for None none = refl
  none_for (Some c) none = ap (λ (o : Option (List ℕ)). option_map (λ (m : List ℕ). c.number % workers) o) none

  some_for : (c : Connection) → is_some (queued_by (stage c)) ≡ true → waits_for workers (Some c) ≡ Some (c.number % workers)
  some_for c is = by_message (queued_by (stage c)) is
    where
      by_message : (o : Option (List ℕ)) → is_some o ≡ true → option_map (λ (m : List ℕ). c.number % workers) o ≡ Some (c.number % workers)
      by_message None e = absurd cc
      by_message (Some m) e = refl

  quiet_for : (now : ℕ) (e : Event) (old new : Option Connection) → is_quiet e ≡ true → Comes now e old new
      → waits_for workers new ≡ waits_for workers old
  quiet_for now e None new is comes = ap (waits_for workers) comes
  quiet_for now e (Some c) None is comes = absurd comes
  quiet_for now e (Some c) (Some d) is comes =
      same_for c d comes.number (ap queued_by comes.stage_is ∙ quiet_kept c.answered (stage c) e is)

  failed_for : (now : ℕ) (old new : Option Connection) → Comes now failed old new → waits_for workers new ≡ None
  failed_for now None new comes = ap (waits_for workers) comes
  failed_for now (Some c) None comes = refl
  failed_for now (Some c) (Some d) comes = none_for (Some d) (ap queued_by comes.stage_is ∙ failed_none c.answered (stage c))

  taken_for : (now : ℕ) (old new : Option Connection) → Comes now taken old new → waits_for workers new ≡ None
  taken_for now None new comes = ap (waits_for workers) comes
  taken_for now (Some c) None comes = refl
  taken_for now (Some c) (Some d) comes = none_for (Some d) (ap queued_by comes.stage_is ∙ taken_none c.answered (stage c))

-- each slot counts in each queue as before
pub holds_same : (queues : List (List ℕ)) (old new : Slab Connection)
    → ((slot : ℕ) → waits_for (length queues) (get new slot) ≡ waits_for (length queues) (get old slot)) → Holds queues old → Holds queues new
holds_same queues old new same h = λ worker slot. h worker slot ∙ ap (times_for worker) (sym (same slot))

-- one slot changes, and what is said of it
pub holds_at : (queues : List (List ℕ)) (old new : Slab Connection) (slot : ℕ)
    → ((other : ℕ) → other ≢ slot → get new other ≡ get old other)
    → waits_for (length queues) (get new slot) ≡ waits_for (length queues) (get old slot) → Holds queues old → Holds queues new
holds_at queues old new slot others here h =
    holds_same queues old new (λ s.
    ⊎_elim
    (λ (same : s ≡ slot). subst (λ (j : ℕ). waits_for (length queues) (get new j) ≡ waits_for (length queues) (get old j)) (sym same) here)
    (λ (differs : s ≢ slot). ap (waits_for (length queues)) (others s differs))
    (cases_eq s slot)) h

pub holds_quiet : (queues : List (List ℕ)) (now : ℕ) (old new : Slab Connection) (slot : ℕ) (e : Event) → is_quiet e ≡ true
    → Happens now old new slot e → Holds queues old → Holds queues new
holds_quiet queues now old new slot e is happens h =
    holds_at queues old new slot happens.others (quiet_for (length queues) now e (get old slot) (get new slot) is happens.here) h

-- a connection that doesn't wait comes to a slot, or goes out of it
pub holds_updates : (queues : List (List ℕ)) (old new : Slab Connection) (slot : ℕ) (o : Option Connection)
    → queued_at (get old slot) ≡ None → queued_at o ≡ None → Updates old new slot o → Holds queues old → Holds queues new
holds_updates queues old new slot o was is updates h =
    holds_at queues old new slot updates.others
    (none_for (length queues) (get new slot) (ap queued_at updates.changed ∙ is) ∙ sym (none_for (length queues) (get old slot) was)) h

-- who ends didn't wait
pub holds_failed_quietly : (queues : List (List ℕ)) (now : ℕ) (old new : Slab Connection) (slot : ℕ) → queued_at (get old slot) ≡ None
    → Happens now old new slot failed → Holds queues old → Holds queues new
holds_failed_quietly queues now old new slot was happens h =
    holds_at queues old new slot happens.others
    (failed_for (length queues) now (get old slot) (get new slot) happens.here ∙ sym (none_for (length queues) (get old slot) was)) h

-- the slots and the queues change
module _ (queues after_queues : List (List ℕ)) (old new : Slab Connection) (slot : ℕ) (len : length after_queues ≡ length queues)
    (others : (other : ℕ) → other ≢ slot → get new other ≡ get old other)
    (apart : (worker other : ℕ) → other ≢ slot → times other (queue_in after_queues worker) ≡ times other (queue_in queues worker))
    (here : (worker : ℕ) → times slot (queue_in after_queues worker) ≡ times_for worker (waits_for (length queues) (get new slot)))
    (h : Holds queues old) where
  holds_both : Holds after_queues new
  holds_both = λ worker s.
      subst (λ (n : ℕ). times s (queue_in after_queues worker) ≡ times_for worker (waits_for n (get new s))) (sym len) (
      ⊎_elim
      (λ (same : s ≡ slot). subst (λ (j : ℕ). times j (queue_in after_queues worker)
      ≡ times_for worker (waits_for (length queues) (get new j))) (sym same) (here worker))
      (λ (differs : s ≢ slot). apart worker s differs ∙ h worker s
      ∙ ap (λ (o : Option Connection). times_for worker (waits_for (length queues) o)) (sym (others s differs)))
      (cases_eq s slot)
      )

-- a connection ends, and its slot leaves the queues
pub holds_failed : (queues after_queues : List (List ℕ)) (now : ℕ) (old new : Slab Connection) (slot : ℕ) → Leaves queues after_queues slot
    → Happens now old new slot failed → Holds queues old → Holds after_queues new
holds_failed queues after_queues now old new slot leaves happens h =
    holds_both queues after_queues old new slot leaves.len happens.others
    (λ worker other differs. ap (times other) (leaves.queues worker) ∙ times_without_other slot other (queue_in queues worker) differs)
    (λ worker. ap (times slot) (leaves.queues worker) ∙ times_without slot (queue_in queues worker)
    ∙ ap (times_for worker) (sym (failed_for (length queues) now (get old slot) (get new slot) happens.here)))
    h

-- none yet
pub holds_none : (queues : List (List ℕ)) (slots : Slab Connection) → slab_len slots ≡ 0 → ((worker : ℕ) → queue_in queues worker ≡ []) → Holds queues slots
holds_none queues slots none empty worker slot =
    ap (times slot) (empty worker) ∙ ap (times_for worker) (sym (none_for (length queues) (get slots slot) (ap queued_at (empty_slot slots.slots slot none))))
  where
    empty_slot : (l : List (Option Connection)) (k : ℕ) → count_by is_some l ≡ 0 → get_or l k None ≡ None
    empty_slot [] k n = refl
    empty_slot (None ∷ l) zero n = refl
    empty_slot (None ∷ l) (suc k) n = empty_slot l k (omega (arith, sum_by-cons (λ (o : Option Connection). cond (is_some o) 1 0) None l))
    empty_slot (Some c ∷ l) k n = absurd (omega (arith, sum_by-cons (λ (o : Option Connection). cond (is_some o) 1 0) (Some c) l))

-- one that was accepted just now doesn't wait
pub holds_accepted : (queues : List (List ℕ)) (old new : Slab Connection) (slot : ℕ) (c : Connection) → get old slot ≡ None → stage c ≡ reading []
    → Updates old new slot (Some c) → Holds queues old → Holds queues new
holds_accepted queues old new slot c free reads updates h =
    holds_updates queues old new slot (Some c) (ap queued_at free) (ap queued_by reads) updates h

-- nor one that has ended
ended_none : (o : Option Connection) → is_ended_in o ≡ true → queued_at o ≡ None
ended_none None is = absurd cc
ended_none (Some c) is = by_stage (stage c) is
  where
    by_stage : (s : Stage) → is_ended s ≡ true → queued_by s ≡ None
    by_stage (reading b) e = absurd cc
    by_stage (queued m) e = absurd cc
    by_stage (answering m) e = absurd cc
    by_stage (confirming w l m) e = absurd cc
    by_stage (writing w l) e = absurd cc
    by_stage lingering e = absurd cc
    by_stage abandoned e = absurd cc
    by_stage ended e = refl

pub holds_removed : (queues : List (List ℕ)) (old new : Slab Connection) (slot : ℕ) → is_ended_in (get old slot) ≡ true
    → Updates old new slot None → Holds queues old → Holds queues new
holds_removed queues old new slot is updates h = holds_updates queues old new slot None (ended_none (get old slot) is) refl updates h

-- nor one that waits for its client
client_none : (o : Option Connection) (since : ℕ) → waits_since o ≡ Some since → queued_at o ≡ None
client_none None since is = refl
client_none (Some c) since is = by_stage (stage c) is
  where
    by_stage : (s : Stage) → cond (waits s) (Some c.since) None ≡ Some since → queued_by s ≡ None
    by_stage (reading b) e = refl
    by_stage (queued m) e = absurd cc
    by_stage (answering m) e = refl
    by_stage (confirming w l m) e = absurd cc
    by_stage (writing w l) e = refl
    by_stage lingering e = refl
    by_stage abandoned e = refl
    by_stage ended e = refl

pub longest_not_queued : (slots : Slab Connection) (slot : ℕ) → IsLongest slots slot → queued_at (get slots slot) ≡ None
longest_not_queued slots slot is = client_none (get slots slot) is.0 is.1

-- nor one of a peer's that waits for its client
waits_of_waits : (peer : Peer) (o : Option Connection) (since : ℕ) → waits_of_peer peer o ≡ Some since → (s : ℕ) × (waits_since o ≡ Some s)
waits_of_waits peer None since is = absurd cc
waits_of_waits peer (Some c) since is = (c.since, by_tests (is_of_peer peer c) (waits (stage c)) is)
  where
    by_tests : (a b : Bool) → cond (a && b) (Some c.since) None ≡ Some since → cond b (Some c.since) None ≡ Some c.since
    by_tests true true e = refl
    by_tests true false e = absurd cc
    by_tests false b e = absurd cc

pub longest_of_not_queued : (peer : Peer) (slots : Slab Connection) (slot : ℕ) → IsLongestOf peer slots slot → queued_at (get slots slot) ≡ None
longest_of_not_queued peer slots slot is =
    let waiting = waits_of_waits peer (get slots slot) is.0 is.1 in client_none (get slots slot) waiting.0 waiting.1

-- who gives way waits for its client
gives_waits : (who : EvictionRule) (o : Option Connection) (since : ℕ) → gives_way_since who o ≡ Some since → (s : ℕ) × (waits_since o ≡ Some s)
gives_waits who None since is = absurd cc
gives_waits who (Some c) since is =
    (c.since, by_tests (waits (stage c)) (nat_lt 0 (held_by c.phase) && (not (is_held_back c) && is_among who c)) is)
  where
    by_tests : (a b : Bool) → cond (a && b) (Some (begun_of c)) None ≡ Some since → cond a (Some c.since) None ≡ Some c.since
    by_tests true b e = refl
    by_tests false b e = absurd cc

pub longest_besides_not_queued : (slots : Slab Connection) (besides : ℕ) (who : EvictionRule) (slot : ℕ) → IsLongestBesides slots (Some besides) who slot
    → queued_at (get slots slot) ≡ None
longest_besides_not_queued slots besides who slot is = by_test (slot == besides) is.1
  where
    by_test : (t : Bool) → cond t None (gives_way_since who (get slots slot)) ≡ Some is.0 → queued_at (get slots slot) ≡ None
    by_test true e = absurd cc
    by_test false e = let waiting = gives_waits who (get slots slot) is.0 e in client_none (get slots slot) waiting.0 waiting.1

-- bytes that made no message whole
came_for : (workers now : ℕ) (more : List ℕ) (old new : Option Connection) → Comes now (came more) old new
    → is_newly_queued (queued_at old) (queued_at new) ≡ false → waits_for workers new ≡ waits_for workers old
came_for workers now more None new comes is = ap (waits_for workers) comes
came_for workers now more (Some c) None comes is = absurd comes
came_for workers now more (Some c) (Some d) comes is =
    let e = ap queued_by comes.stage_is in
    let kept = came_kept c.answered (stage c) more (ap (is_newly_queued (queued_by (stage c))) (sym e) ∙ is) in
    same_for workers c d comes.number (e ∙ kept)

pub holds_came : (queues : List (List ℕ)) (now : ℕ) (old new : Slab Connection) (slot : ℕ) (more : List ℕ) → Happens now old new slot (came more)
    → is_newly_queued (queued_at (get old slot)) (queued_at (get new slot)) ≡ false → Holds queues old → Holds queues new
holds_came queues now old new slot more happens is h =
    holds_at queues old new slot happens.others (came_for (length queues) now more (get old slot) (get new slot) happens.here is) h

-- and bytes that made one whole
newly : (old new : Option (List ℕ)) → is_newly_queued old new ≡ true → (old ≡ None) × (is_some new ≡ true)
newly None None is = absurd cc
newly None (Some m) is = (refl, refl)
newly (Some m) None is = absurd cc
newly (Some m) (Some n) is = absurd cc

whole_for : (workers now number : ℕ) (more : List ℕ) (old new : Option Connection) → Comes now (came more) old new
    → option_map (λ (c : Connection). c.number) old ≡ Some number
    → is_newly_queued (queued_at old) (queued_at new) ≡ true → waits_for workers new ≡ Some (number % workers)
whole_for workers now number more None new comes at is = absurd cc
whole_for workers now number more (Some c) None comes at is = absurd comes
whole_for workers now number more (Some c) (Some d) comes at is =
    let same : c.number ≡ number = cc in
    some_for workers d (newly (queued_by (stage c)) (queued_by (stage d)) is).1 ∙ ap (λ (n : ℕ). Some (n % workers)) (comes.number ∙ same)

-- how often a slot stands in the queue of its worker, and of another
times_own : (worker : ℕ) → times_for worker (Some worker) ≡ 1
times_own worker =
    let e : (worker == worker) ≡ true = grind (arith, nat_tests) in
    ap number e

times_apart : (worker other : ℕ) → other ≢ worker → times_for other (Some worker) ≡ 0
times_apart worker other differs =
    let e : (worker == other) ≡ false = grind (arith, nat_tests) in
    ap number e

stands_for : (worker k : ℕ) (o : Option ℕ) → 1 + k ≡ times_for worker o → (o ≡ Some worker) × (k ≡ 0)
stands_for worker k None is = absurd (omega arith)
stands_for worker k (Some w) is =
    ⊎_elim
    (λ (same : w ≡ worker). (ap (λ (n : ℕ). Some n) same, omega (arith, ap (λ (n : ℕ). times_for worker (Some n)) same, times_own worker)))
    (λ (differs : w ≢ worker). absurd (omega (arith, times_apart w worker (λ e. differs (sym e)))))
    (cases_eq w worker)

-- the slot at the front of a worker's queue waits for that worker, and stands nowhere else in it
module _ (queues : List (List ℕ)) (slots : Slab Connection) (worker slot : ℕ) (rest : List ℕ) (front : queue_in queues worker ≡ slot ∷ rest)
    (h : Holds queues slots) where
  front_both : (waits_for (length queues) (get slots slot) ≡ Some worker) × (times slot rest ≡ 0)
  front_both =
      stands_for worker (times slot rest) (waits_for (length queues) (get slots slot))
      (sym (times_head slot rest) ∙ ap (times slot) (sym front) ∙ h worker slot)

  pub front_waits : waits_for (length queues) (get slots slot) ≡ Some worker
  front_waits = front_both.0

  pub front_once : times slot rest ≡ 0
  front_once = front_both.1

  pub front_queued : queued_at (get slots slot) ≢ None
  front_queued = λ none. absurd (let not = none_for (length queues) (get slots slot) none in let yes = front_waits in cc)

  pub front_within : worker < length queues
  front_within =
      ⊎_elim
      (λ (lt : worker < length queues). lt)
      (λ (past : length queues ≤ worker). absurd (let empty : queue_in queues worker ≡ [] = get_or_past queues worker [] past in cc))
      (cases_lt worker (length queues))

-- a slot whose message waits for a worker stands in no other queue
not_elsewhere : (queues : List (List ℕ)) (slots : Slab Connection) (worker slot other : ℕ) → waits_for (length queues) (get slots slot) ≡ Some worker
    → other ≢ worker → Holds queues slots → times slot (queue_in queues other) ≡ 0
not_elsewhere queues slots worker slot other is differs h = h other slot ∙ ap (times_for other) is ∙ times_apart worker other differs

-- and one whose message doesn't wait in none
not_anywhere : (queues : List (List ℕ)) (slots : Slab Connection) (slot other : ℕ) → queued_at (get slots slot) ≡ None
    → Holds queues slots → times slot (queue_in queues other) ≡ 0
not_anywhere queues slots slot other none h = h other slot ∙ ap (times_for other) (none_for (length queues) (get slots slot) none)

-- a message that came joins its worker's queue
pub holds_joined : (queues after_queues : List (List ℕ)) (now number : ℕ) (old new : Slab Connection) (slot : ℕ) (more : List ℕ)
    → Becomes queues after_queues (number % length queues) (queue_in queues (number % length queues) ++ slot ∷ [])
    → Happens now old new slot (came more) → option_map (λ (c : Connection). c.number) (get old slot) ≡ Some number
    → is_newly_queued (queued_at (get old slot)) (queued_at (get new slot)) ≡ true → Holds queues old → Holds after_queues new
holds_joined queues after_queues now number old new slot more becomes happens at is h =
    holds_both queues after_queues old new slot becomes.len happens.others
    (λ w other differs.
    ⊎_elim
    (λ (same : w ≡ worker).
    subst (λ (j : ℕ). times other (queue_in after_queues j) ≡ times other (queue_in queues j)) (sym same)
    (ap (times other) becomes.here ∙ times_push_other other slot (queue_in queues worker) (λ e. differs (sym e))))
    (λ (apart : w ≢ worker). ap (times other) (becomes.others w apart))
    (cases_eq w worker))
    (λ w. here w ∙ ap (times_for w) (sym waits))
    h
  where
    worker : ℕ
    worker = number % length queues

    waits : waits_for (length queues) (get new slot) ≡ Some worker
    waits = whole_for (length queues) now number more (get old slot) (get new slot) happens.here at is

    was : queued_at (get old slot) ≡ None
    was = (newly (queued_at (get old slot)) (queued_at (get new slot)) is).0

    here : (w : ℕ) → times slot (queue_in after_queues w) ≡ times_for w (Some worker)
    here w =
        ⊎_elim
        (λ (same : w ≡ worker).
        subst (λ (j : ℕ). times slot (queue_in after_queues j) ≡ times_for j (Some worker)) (sym same)
        (ap (times slot) becomes.here ∙ times_push_same slot (queue_in queues worker)
        ∙ ap (λ (n : ℕ). n + 1) (not_anywhere queues old slot worker was h) ∙ sym (times_own worker)))
        (λ (apart : w ≢ worker).
        ap (times slot) (becomes.others w apart) ∙ not_anywhere queues old slot w was h ∙ sym (times_apart worker w apart))
        (cases_eq w worker)

pub joined_waits : (workers now number : ℕ) (old new : Slab Connection) (slot : ℕ) (more : List ℕ) → Happens now old new slot (came more)
    → option_map (λ (c : Connection). c.number) (get old slot) ≡ Some number
    → is_newly_queued (queued_at (get old slot)) (queued_at (get new slot)) ≡ true → waits_for workers (get new slot) ≡ Some (number % workers)
joined_waits workers now number old new slot more happens at is =
    whole_for workers now number more (get old slot) (get new slot) happens.here at is

-- the message in front goes to its worker
pub holds_taken : (queues after_queues : List (List ℕ)) (now : ℕ) (old new : Slab Connection) (worker slot : ℕ)
    → queue_in queues worker ≡ slot ∷ drop 1 (queue_in queues worker) → Becomes queues after_queues worker (drop 1 (queue_in queues worker))
    → Happens now old new slot taken → Holds queues old → Holds after_queues new
holds_taken queues after_queues now old new worker slot front becomes happens h =
    holds_both queues after_queues old new slot becomes.len happens.others
    (λ w other differs.
    ⊎_elim
    (λ (same : w ≡ worker).
    subst (λ (j : ℕ). times other (queue_in after_queues j) ≡ times other (queue_in queues j)) (sym same)
    (ap (times other) becomes.here ∙ sym (times_after other slot rest (λ e. differs (sym e))) ∙ ap (times other) (sym front)))
    (λ (apart : w ≢ worker). ap (times other) (becomes.others w apart))
    (cases_eq w worker))
    (λ w. here w ∙ ap (times_for w) (sym (taken_for (length queues) now (get old slot) (get new slot) happens.here)))
    h
  where
    rest : List ℕ
    rest = drop 1 (queue_in queues worker)

    here : (w : ℕ) → times slot (queue_in after_queues w) ≡ 0
    here w =
        ⊎_elim
        (λ (same : w ≡ worker).
        subst (λ (j : ℕ). times slot (queue_in after_queues j) ≡ 0) (sym same)
        (ap (times slot) becomes.here ∙ front_once queues old worker slot rest front h))
        (λ (apart : w ≢ worker).
        ap (times slot) (becomes.others w apart) ∙ not_elsewhere queues old worker slot w (front_waits queues old worker slot rest front h) apart h)
        (cases_eq w worker)

-- where its slot stood in no queue, nothing leaves
pub leaves_none : (queues : List (List ℕ)) (slots : Slab Connection) (slot : ℕ) → queued_at (get slots slot) ≡ None → Holds queues slots
    → Leaves queues queues slot
leaves_none queues slots slot none h = record {
  len = refl;
  queues = λ worker. sym (without_none slot (queue_in queues worker) (not_anywhere queues slots slot worker none h));
}

-- taken out of its own queue it has left all
leaves_own : (queues after_queues : List (List ℕ)) (slots : Slab Connection) (worker slot : ℕ) → waits_for (length queues) (get slots slot) ≡ Some worker
    → Becomes queues after_queues worker (without slot (queue_in queues worker)) → Holds queues slots → Leaves queues after_queues slot
leaves_own queues after_queues slots worker slot is becomes h = record {
  len = becomes.len;
  queues = λ w.
      ⊎_elim
      (λ (same : w ≡ worker).
      subst (λ (j : ℕ). queue_in after_queues j ≡ without slot (queue_in queues j)) (sym same) becomes.here)
      (λ (apart : w ≢ worker).
      becomes.others w apart ∙ sym (without_none slot (queue_in queues w) (not_elsewhere queues slots worker slot w is apart h)))
      (cases_eq w worker);
}

pub leaves_by : (queues after_queues : List (List ℕ)) (slots : Slab Connection) (number : Option ℕ) (slot : ℕ)
    → IfSome number (λ n. (workers : ℕ) → waits_for workers (get slots slot) ≡ Some (n % workers))
    → IfNone number (queued_at (get slots slot) ≡ None)
    → MatchOption number (after_queues ≡ queues) (λ n. Becomes queues after_queues (n % length queues) (without slot (queue_in queues (n % length queues))))
    → Holds queues slots → Leaves queues after_queues slot
leaves_by queues after_queues slots None slot waits none changes h =
    subst (λ (q : List (List ℕ)). Leaves queues q slot) (sym changes) (leaves_none queues slots slot none h)
leaves_by queues after_queues slots (Some n) slot waits none changes h =
    leaves_own queues after_queues slots (n % length queues) slot (waits (length queues)) changes h

-- without a message that waits the queues are as they were
pub same_by : (queues after_queues : List (List ℕ)) (slots : Slab Connection) (number : Option ℕ) (slot : ℕ)
    → IfSome number (λ n. (workers : ℕ) → waits_for workers (get slots slot) ≡ Some (n % workers))
    → MatchOption number (after_queues ≡ queues) (λ n. Becomes queues after_queues (n % length queues) (without slot (queue_in queues (n % length queues))))
    → queued_at (get slots slot) ≡ None → after_queues ≡ queues
same_by queues after_queues slots None slot waits changes none = changes
same_by queues after_queues slots (Some n) slot waits changes none =
    absurd (let not = none_for (length queues) (get slots slot) none in let yes = waits (length queues) in cc)

-- the slot in front leaves, and nothing else
pub front_leaves : (queues after_queues : List (List ℕ)) (slots : Slab Connection) (worker slot : ℕ)
    → queue_in queues worker ≡ slot ∷ drop 1 (queue_in queues worker) → Leaves queues after_queues slot → Holds queues slots
    → queue_in queues worker ≡ slot ∷ queue_in after_queues worker
front_leaves queues after_queues slots worker slot front leaves h =
    let rest = drop 1 (queue_in queues worker) in
    front ∙ ap (λ (l : List ℕ). slot ∷ l)
    (sym (leaves.queues worker ∙ ap (without slot) front ∙ without_head slot rest (front_once queues slots worker slot rest front h)))

pub others_stay : (queues after_queues : List (List ℕ)) (slots : Slab Connection) (worker slot other : ℕ)
    → queue_in queues worker ≡ slot ∷ drop 1 (queue_in queues worker) → Leaves queues after_queues slot → Holds queues slots → other ≢ worker
    → queue_in after_queues other ≡ queue_in queues other
others_stay queues after_queues slots worker slot other front leaves h apart =
    leaves.queues other ∙ without_none slot (queue_in queues other)
    (not_elsewhere queues slots worker slot other (front_waits queues slots worker slot (drop 1 (queue_in queues worker)) front h) apart h)
