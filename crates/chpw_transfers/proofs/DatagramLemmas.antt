-- A datagram as a connection of one message.
use Rattle.std.proofs.Common.{◌≡◌, ◌≢◌, ℕ, ◌<◌, ◌≤◌, ◌^◌, ◌%◌, ◌==◌, refl, sym, ◌∙◌, ap, subst, arith}
use Rattle.std.proofs.Common.{Bool, true, false, ◌&&◌, not, nat_lt, cond, List, [], ◌++◌, length}
use Rattle.std.proofs.Common.{take, Option, Some, None, is_some, option_map, inl, inr, IsSomeAnd}
use Rattle.std.proofs.Math.Logic.{⊎_elim}
use Rattle.std.proofs.lemmas.Bool.{cases_lt, cases_eq}
use Rattle.std.proofs.lemmas.List.{take_all}
use Rattle.std.proofs.lemmas.Nat.{from_be_bytes-to_be_bytes_4}
use Rattle.slab.specs.Slab.{Slab, get, Updates}
use Rattle.chpw_endpoints.specs.declared.endpoints.Endpoints.{Endpoints}
use Rattle.chpw_frame.specs.Stream.{sent, longest, stated_length}
use Rattle.chpw_connection.proofs.PieceLemmas.{wanted_long, wanted_whole}
use Rattle.chpw_connection.proofs.EvictionLemmas.{and_left, ends_waiting}
use Rattle.chpw_connection.specs.Holding.{held_by}
use Rattle.chpw_connection.specs.Messages.{wanted_after}
use Rattle.chpw_connections.specs.Room.{PutsOut, HappensWithRoom, for_message, has_room_to_read}
use Rattle.chpw_connection.specs.Eviction.{gives_way_at, is_held_back, is_among}
use Rattle.chpw_connection.specs.Slot.{Comes, wanted_at, is_ended, is_ended_in, queued_at, queued_by, waits}
use Rattle.chpw_slots.specs.Slots.{Happens, IsNew}
use Rattle.chpw_connection.specs.Stages.{Stage, reading, queued, answering, confirming, writing, lingering}
use Rattle.chpw_connection.specs.Stages.{abandoned, ended, came, failed, after, stage, read_to, received, wanted_by}
use Rattle.chpw_slots.specs.Waiting.{waits_for}
use Rattle.chpw_connection.specs.declared.connection.Connection.{Connection}
use Rattle.chpw_connection.specs.declared.limits.ConnectionLimits.{ConnectionLimits}
use Rattle.chpw_transfers.specs.Datagrams.{TakesDatagram, length_before, GaveWay, StaysOrGivesWay, DropsDatagram, BeginsAndDrops}
use Rattle.chpw_transfers.specs.Datagrams.{EndsNoMore, CameOrFailed, CameIfRead}

-- who gave way gives way no more
gave_way : (b d : ConnectionLimits) (now then : ℕ) (o p old mid : Option Connection)
    → gives_way_at (for_message b now o) old ≡ true → Comes 0 failed old mid → gives_way_at (for_message d then p) mid ≡ false
gave_way b d now then o p None mid is comes = absurd cc
gave_way b d now then o p (Some c) None is comes = absurd comes
gave_way b d now then o p (Some c) (Some e) is comes =
    let waited : waits (stage c) ≡ true = and_left (waits (stage c))
    (nat_lt 0 (held_by c.phase) && (not (is_held_back c) && is_among (for_message b now o) c)) is in
    let over : waits (stage e) ≡ false = ap waits (comes.stage_is ∙ ends_waiting c.answered (stage c) waited) in
    ap (λ (t : Bool). t && (nat_lt 0 (held_by e.phase) && (not (is_held_back e) && is_among (for_message d then p) e))) over

stays : (b : ConnectionLimits) (now : ℕ) (o : Option Connection) (old new : Option Connection)
    → PutsOut (for_message b now o) old new → StaysOrGivesWay old new
stays b now o old new (inl same) = inl same
stays b now o old new (inr out) = inr (b, now, o, out.0, out.1)

then_stays : (old mid new : Option Connection) → StaysOrGivesWay old mid → StaysOrGivesWay mid new → StaysOrGivesWay old new
then_stays old mid new (inl same) (inl again) = inl (again ∙ same)
then_stays old mid new (inr gave) (inl again) = inr (subst (λ (o : Option Connection). GaveWay old o) (sym again) gave)
then_stays old mid new (inl same) (inr gives) = inr (subst (λ (o : Option Connection). GaveWay o new) same gives)
then_stays old mid new (inr gave) (inr gives) =
    absurd (let no = gave_way gave.0 gives.0 gave.1 gives.1 gave.2 gives.2 old mid gave.3 gave.4 in let yes = gives.3 in cc)

-- it ends at once where it can't go on
abbrev EndsAtOnce : Option Connection → Type 0
EndsAtOnce o = IsSomeAnd o (λ c. after c.answered (stage c) failed ≡ ended)

read_ends : (count : ℕ) (bytes : List ℕ) (t : Bool) → after count (cond t (queued bytes) (reading bytes)) failed ≡ ended
read_ends count bytes true = refl
read_ends count bytes false = refl

ends_after_came : (k l : ℕ) (s : Stage) (bytes : List ℕ) → after k s failed ≡ ended → after l (after k s (came bytes)) failed ≡ ended
ends_after_came k l (reading had) bytes is = read_ends l (had ++ received had bytes) (wanted_after (had ++ received had bytes) == 0)
ends_after_came k l (queued message) bytes is = refl
ends_after_came k l (answering m) bytes is = absurd cc
ends_after_came k l (confirming reply last ticket) bytes is = refl
ends_after_came k l (writing left last) bytes is = refl
ends_after_came k l lingering bytes is = refl
ends_after_came k l abandoned bytes is = absurd cc
ends_after_came k l ended bytes is = refl

came_ends : (now : ℕ) (bytes : List ℕ) (old new : Option Connection) → EndsAtOnce old → Comes now (came bytes) old new → EndsAtOnce new
came_ends now bytes None new is comes = absurd is
came_ends now bytes (Some c) None is comes = absurd comes
came_ends now bytes (Some c) (Some d) is comes =
    subst (λ (s : Stage). after d.answered s failed ≡ ended) (sym comes.stage_is) (ends_after_came c.answered d.answered (stage c) bytes is)

failed_ends : (now : ℕ) (old new : Option Connection) → EndsAtOnce old → Comes now failed old new → EndsAtOnce new
failed_ends now None new is comes = absurd is
failed_ends now (Some c) None is comes = absurd comes
failed_ends now (Some c) (Some d) is comes = subst (λ (s : Stage). after d.answered s failed ≡ ended) (sym (comes.stage_is ∙ is)) refl

failed_is_ended : (now : ℕ) (old new : Option Connection) → EndsAtOnce old → Comes now failed old new → is_ended_in new ≡ true
failed_is_ended now None new is comes = absurd is
failed_is_ended now (Some c) None is comes = absurd comes
failed_is_ended now (Some c) (Some d) is comes = ap is_ended (comes.stage_is ∙ is)

new_ends : (between : Endpoints) (now number : ℕ) (old new : Slab Connection) (slot : ℕ) → IsNew between None now number old new slot
    → EndsAtOnce (get new slot)
new_ends between now number old new slot is = by_place (get new slot) is.here
  where
    by_place : (o : Option Connection) → IsSomeAnd o (λ c. (stage c ≡ reading [])
        × (c.ends ≡ between) × (c.number ≡ number) × (c.since ≡ now) × (c.answered ≡ 0) × (c.share ≡ None)) → EndsAtOnce o
    by_place None here = absurd here
    by_place (Some c) here = subst (λ (s : Stage). after c.answered s failed ≡ ended) (sym here.0) refl

came_others : (b : ConnectionLimits) (now : ℕ) (old new : Slab Connection) (slot : ℕ) (bytes : List ℕ) → CameOrFailed b now old new slot bytes
    → (other : ℕ) → other ≢ slot → StaysOrGivesWay (get old other) (get new other)
came_others b now old new slot bytes (inl happens) other differs = stays b now (get old slot) (get old other) (get new other) (happens.others other differs)
came_others b now old new slot bytes (inr happens) other differs = stays b now (get old slot) (get old other) (get new other) (happens.others other differs)

came_here : (b : ConnectionLimits) (now : ℕ) (old new : Slab Connection) (slot : ℕ) (bytes : List ℕ) → CameOrFailed b now old new slot bytes
    → EndsAtOnce (get old slot) → EndsAtOnce (get new slot)
came_here b now old new slot bytes (inl happens) is = came_ends now bytes (get old slot) (get new slot) is happens.here
came_here b now old new slot bytes (inr happens) is = failed_ends 0 (get old slot) (get new slot) is happens.here

read_others : (b : ConnectionLimits) (now : ℕ) (old new : Slab Connection) (slot : ℕ) (bytes : List ℕ) → CameIfRead b now old new slot bytes
    → (other : ℕ) → other ≢ slot → StaysOrGivesWay (get old other) (get new other)
read_others b now old new slot bytes (inl same) other differs = inl (ap (λ (s : Slab Connection). get s other) same)
read_others b now old new slot bytes (inr comes) other differs = came_others b now old new slot bytes comes other differs

read_here : (b : ConnectionLimits) (now : ℕ) (old new : Slab Connection) (slot : ℕ) (bytes : List ℕ) → CameIfRead b now old new slot bytes
    → EndsAtOnce (get old slot) → EndsAtOnce (get new slot)
read_here b now old new slot bytes (inl same) is = subst (λ (s : Slab Connection). EndsAtOnce (get s slot)) (sym same) is
read_here b now old new slot bytes (inr comes) is = came_here b now old new slot bytes comes is

-- what was begun and is dropped leaves no connection
module _ (first second : ConnectionLimits) (now number slot : ℕ) (between : Endpoints) (len bytes : List ℕ)
    (old accepted begun whole over new : Slab Connection)
    (is_new : IsNew between None now number old accepted slot) (length_came : CameOrFailed first now accepted begun slot len)
    (bytes_came : CameIfRead second now begun whole slot bytes) (ends : Happens 0 whole over slot failed)
    (removed : is_ended_in (get over slot) ≡ true → Updates over new slot None) where
  gone : Updates over new slot None
  gone =
      removed (failed_is_ended 0 (get whole slot) (get over slot)
      (read_here second now begun whole slot bytes bytes_came
      (came_here first now accepted begun slot len length_came (new_ends between now number old accepted slot is_new))) ends.here)

  others : (other : ℕ) → other ≢ slot → StaysOrGivesWay (get old other) (get new other)
  others other differs =
      then_stays (get old other) (get accepted other) (get new other) (inl (is_new.others other differs))
      (then_stays (get accepted other) (get begun other) (get new other) (came_others first now accepted begun slot len length_came other differs)
      (then_stays (get begun other) (get whole other) (get new other) (read_others second now begun whole slot bytes bytes_came other differs)
      (inl (gone.others other differs ∙ ends.others other differs))))

  pub begins : (b : ConnectionLimits) → first ≡ b → second ≡ b
      → (has_room_to_read first now accepted slot ≡ false → (other : ℕ) → other ≢ slot → get begun other ≡ get accepted other)
      → (has_room_to_read second now begun slot ≡ false → whole ≡ begun)
      → EndsNoMore first now accepted begun slot → EndsNoMore second now begun whole slot
      → len ≡ length_before bytes → BeginsAndDrops b now between number bytes old new
  begins b is_first is_second length_full message_full length_needed message_needed len_is = record {
    slot = slot;
    accepted = accepted;
    begun = begun;
    whole = whole;
    is_new = is_new;
    length_came = subst (λ (l : List ℕ). CameOrFailed b now accepted begun slot l) len_is
        (subst (λ (x : ConnectionLimits). CameOrFailed x now accepted begun slot len) is_first length_came);
    length_full = subst (λ (x : ConnectionLimits). has_room_to_read x now accepted slot ≡ false
        → (other : ℕ) → other ≢ slot → get begun other ≡ get accepted other) is_first length_full;
    message_came = subst (λ (x : ConnectionLimits). CameIfRead x now begun whole slot bytes) is_second bytes_came;
    message_full = subst (λ (x : ConnectionLimits). has_room_to_read x now begun slot ≡ false → whole ≡ begun) is_second message_full;
    length_needed = subst (λ (x : ConnectionLimits). EndsNoMore x now accepted begun slot) is_first length_needed;
    message_needed = subst (λ (x : ConnectionLimits). EndsNoMore x now begun whole slot) is_second message_needed;
    gone = gone.changed;
    others = λ other differs. gone.others other differs ∙ ends.others other differs;
  }

  pub drops : DropsDatagram old new
  drops other = ⊎_elim
      (λ (same : other ≡ slot). subst (λ (k : ℕ). StaysOrGivesWay (get old k) (get new k)) (sym same) (inl (gone.changed ∙ sym is_new.free)))
      (λ (differs : other ≢ slot). others other differs)
      (cases_eq other slot)

-- the stated length of a message's length is the message's
stated : (message : List ℕ) → length message < 2 ^ 32 → stated_length (length_before message) ≡ length message
stated message fits = from_be_bytes-to_be_bytes_4 (length message) fits

-- bytes that make a message whole make it wait
queued_of : (bytes whole : List ℕ) (t : Bool) → whole ≡ bytes → is_some (queued_by (cond t (queued bytes) (reading bytes))) ≡ true
    → queued_by (cond t (queued bytes) (reading bytes)) ≡ Some whole
queued_of bytes whole true same is = ap Some (sym same)
queued_of bytes whole false same is = absurd cc

-- of one that waits with its message for as many bytes as that has
module _ (message : List ℕ) (fits : length message < 2 ^ 32) (some : wanted_after (length_before message) ≢ 0) where
  wants : wanted_after (length_before message) ≡ length message
  wants = ⊎_elim
      (λ (long : longest < stated_length (length_before message)). absurd (some (wanted_long (length_before message) (omega arith) long)))
      (λ (short : stated_length (length_before message) ≤ longest).
      grind (arith, wanted_whole (length_before message) (omega arith) short, stated message fits))
      (cases_lt longest (stated_length (length_before message)))

  comes_whole : received (length_before message) message ≡ message
  comes_whole = ap (λ (n : ℕ). take n message) wants ∙ take_all (length message) message (omega arith)

-- behind its length, it reads on or waits
read_on : (message : List ℕ) (t : Bool) → wanted_by (cond t (queued (length_before message)) (reading (length_before message))) ≢ 0
    → (cond t (queued (length_before message)) (reading (length_before message)) ≡ reading (length_before message)) × (wanted_after (length_before message) ≢ 0)
read_on message true some = absurd (some refl)
read_on message false some = (refl, some)

pub waits_whole : (message : List ℕ) (k l : ℕ) (s t : Stage) → length message < 2 ^ 32
    → s ≡ after k (reading []) (came (length_before message)) → wanted_by s ≢ 0
    → t ≡ after l s (came message) → is_some (queued_by t) ≡ true → queued_by t ≡ Some (sent message)
waits_whole message k l s t fits s_is some t_is waits =
    let on = read_on message (wanted_after (length_before message) == 0) (subst (λ (x : Stage). wanted_by x ≢ 0) s_is some) in
    let s_reads : s ≡ reading (length_before message) = s_is ∙ on.0 in
    let t_of : t ≡ read_to (length_before message ++ received (length_before message) message) = t_is ∙ ap (λ (x : Stage). after l x (came message)) s_reads in
    let same : sent message ≡ length_before message ++ received (length_before message) message =
    ap (λ (x : List ℕ). length_before message ++ x) (sym (comes_whole message fits on.1)) in
    ap queued_by t_of ∙ queued_of (length_before message ++ received (length_before message) message) (sent message)
    (wanted_after (length_before message ++ received (length_before message) message) == 0) same (ap is_some (sym (ap queued_by t_of)) ∙ waits)

mapped : (o : Option (List ℕ)) (n w : ℕ) → option_map (λ (m : List ℕ). n) o ≡ Some w → is_some o ≡ true
mapped None n w is = absurd cc
mapped (Some m) n w is = refl

failed_wants : (now : ℕ) (old new : Option Connection) → EndsAtOnce old → Comes now failed old new → wanted_at new ≡ 0
failed_wants now None new is comes = absurd is
failed_wants now (Some c) None is comes = absurd comes
failed_wants now (Some c) (Some d) is comes = ap wanted_by (comes.stage_is ∙ is)

-- a new connection of which the length came and then the message, which waits now
waits_here : (message : List ℕ) (between : Endpoints) (now number workers worker : ℕ) (a d e : Option Connection) → length message < 2 ^ 32
    → IsSomeAnd a (λ c. (stage c ≡ reading []) × (c.ends ≡ between) × (c.number ≡ number) × (c.since ≡ now) × (c.answered ≡ 0) × (c.share ≡ None))
    → Comes now (came (length_before message)) a d → wanted_at d ≢ 0 → Comes now (came message) d e → waits_for workers e ≡ Some worker
    → queued_at e ≡ Some (sent message)
waits_here message between now number workers worker None d e fits here first some second waits = absurd here
waits_here message between now number workers worker (Some c) None e fits here first some second waits = absurd first
waits_here message between now number workers worker (Some c) (Some d) None fits here first some second waits = absurd second
waits_here message between now number workers worker (Some c) (Some d) (Some e) fits here first some second waits =
    waits_whole message c.answered d.answered (stage d) (stage e) fits
    (first.stage_is ∙ ap (λ (s : Stage). after c.answered s (came (length_before message))) here.0) some second.stage_is
    (mapped (queued_by (stage e)) (e.number % workers) worker waits)

module _ (b c d : ConnectionLimits) (now number slot worker workers : ℕ)
    (between : Endpoints) (message : List ℕ) (old accepted begun new : Slab Connection) (fits : length message < 2 ^ 32)
    (bounds : b ≡ d) (same : d ≡ c)
    (is_new : IsNew between None now number old accepted slot) (length_came : CameOrFailed c now accepted begun slot (length_before message))
    (some : wanted_at (get begun slot) ≢ 0)
    (message_came : HappensWithRoom (for_message d now (get begun slot)) now begun new slot (came message))
    (is_for : waits_for workers (get new slot) ≡ Some worker)
    (length_needed : EndsNoMore c now accepted begun slot) (message_needed : EndsNoMore d now begun new slot) where
  length_is : HappensWithRoom (for_message c now (get accepted slot)) now accepted begun slot (came (length_before message))
  length_is = ⊎_elim
      (λ (happens : HappensWithRoom (for_message c now (get accepted slot)) now accepted begun slot (came (length_before message))). happens)
      (λ (failed_is : HappensWithRoom (for_message c now (get accepted slot)) 0 accepted begun slot failed).
      absurd (some (failed_wants 0 (get accepted slot) (get begun slot) (new_ends between now number old accepted slot is_new) failed_is.here)))
      length_came

  pub takes : TakesDatagram b now between number message old new slot worker workers
  takes = record {
    accepted = accepted;
    begun = begun;
    is_new = is_new;
    length_came =
        subst (λ (x : ConnectionLimits). HappensWithRoom (for_message x now (get accepted slot)) now accepted begun slot
        (came (length_before message))) (sym (bounds ∙ same)) length_is;
    message_came =
        subst (λ (x : ConnectionLimits). HappensWithRoom (for_message x now (get begun slot)) now begun new slot
        (came message)) (sym bounds) message_came;
    length_needed = subst (λ (x : ConnectionLimits). EndsNoMore x now accepted begun slot) (sym (bounds ∙ same)) length_needed;
    message_needed = subst (λ (x : ConnectionLimits). EndsNoMore x now begun new slot) (sym bounds) message_needed;
    waits = waits_here message between now number workers worker (get accepted slot)
        (get begun slot) (get new slot) fits is_new.here length_is.here some message_came.here is_for;
    is_for = is_for;
  }
