-- The stage of a connection, and what happens to it. Moments are milliseconds.
use Rattle.std.specs.Prelude.{◌≡◌, ℕ, ◌+◌, ◌==◌, List, [], ◌++◌, length, take, drop, Bool, nat_le, ◌||◌, if◌then◌else◌}
use Rattle.chpw_connection.specs.Messages.{wanted_after, whole_after}
use Rattle.chpw_connection.specs.declared.connection.Incoming.{Incoming}
use Rattle.chpw_connection.specs.declared.connection.Phase.{Phase}
use Rattle.chpw_connection.specs.declared.connection.Phase.TheVariants as phase
use Rattle.chpw_connection.specs.declared.connection.Connection.{Connection}

-- It reads these bytes of its next message; this message waits for a worker; a worker answers this message; this reply,
-- after which the connection ends or not, waits until the change with this ticket is confirmed; these bytes of its reply
-- are left to write, after which the connection ends or not; its last reply is out; it is gone while a worker still answers;
-- it has ended
pub data Stage : Type 0 where
  reading : List ℕ → Stage
  queued : List ℕ → Stage
  answering : List ℕ → Stage
  confirming : List ℕ → Bool → ℕ → Stage
  writing : List ℕ → Bool → Stage
  lingering : Stage
  abandoned : Stage
  ended : Stage

-- bytes came; its message went to a worker; the worker's reply, possibly the last, is to be written; it is to be
-- written once the change with this ticket is confirmed; the worker has none; its change is confirmed, or no longer waited
-- for; this many bytes were written; the client closed its side, and all was read; it can't go on
pub data Event : Type 0 where
  came : List ℕ → Event
  taken : Event
  replied : List ℕ → Bool → Event
  deferred : List ℕ → Bool → ℕ → Event
  unanswered : Event
  released : Event
  wrote : ℕ → Event
  closed : Event
  failed : Event

-- of the bytes that come, no more are read than are wanted
abbrev pub received : List ℕ → List ℕ → List ℕ
received bytes more = take (wanted_after bytes) more

-- a complete message waits for a worker
abbrev pub read_to : List ℕ → Stage
read_to bytes = if wanted_after bytes == 0 then queued bytes else reading bytes

abbrev pub is_over : List ℕ → Bool
is_over bytes = length bytes == 0

-- after a whole reply the next message is read; after the last one nothing
abbrev pub written_to : List ℕ → Bool → Stage
written_to left last =
    if is_over left then (if last then lingering else reading []) else writing left last

-- the 65,536th reply is the last
abbrev pub is_last_reply : ℕ → Bool → Bool
is_last_reply count last = last || nat_le 65535 count

-- the stage after an event, when there were this many replies
abbrev pub after : ℕ → Stage → Event → Stage
after count (reading bytes) (came more) = read_to (bytes ++ received bytes more)
after count (reading bytes) closed = ended
after count (reading bytes) failed = ended
after count (queued message) taken = answering message
after count (queued message) failed = ended
after count (answering message) (replied reply last) = writing reply (is_last_reply count last)
after count (answering message) (deferred reply last ticket) = confirming reply (is_last_reply count last) ticket
after count (answering message) unanswered = lingering
after count (answering message) failed = abandoned
after count (confirming reply last ticket) released = writing reply last
after count (confirming reply last ticket) failed = ended
after count (writing left last) (wrote n) = written_to (drop n left) last
after count (writing left last) failed = ended
after count lingering closed = ended
after count lingering failed = ended
after count abandoned (replied reply last) = ended
after count abandoned (deferred reply last ticket) = ended
after count abandoned unanswered = ended
after count stage event = stage

-- how many bytes may be read
abbrev pub wanted_by : Stage → ℕ
wanted_by (reading bytes) = wanted_after bytes
wanted_by stage = 0

-- what is left to write
abbrev pub left_of : Stage → List ℕ
left_of (writing left last) = left
left_of stage = []

-- the replies after which it goes on
abbrev pub count_after : ℕ → Stage → Event → ℕ
count_after count (answering message) (replied reply last) = if is_last_reply count last then count else count + 1
count_after count (answering message) (deferred reply last ticket) = if is_last_reply count last then count else count + 1
count_after count stage event = count

-- since when it waits: a message for its worker from its last byte on, a reply for its confirmation from when it was
-- made, and for its client from its first byte on, the next message from the reply's last byte on
abbrev pub since_after : ℕ → ℕ → Stage → Event → ℕ
since_after now since (reading bytes) (came more) =
    if wanted_after (bytes ++ received bytes more) == 0 then now else since
since_after now since (answering message) (replied reply last) = now
since_after now since (answering message) (deferred reply last ticket) = now
since_after now since (answering message) unanswered = now
since_after now since (confirming reply last ticket) released = now
since_after now since (writing left last) (wrote n) = if is_over (drop n left) then now else since
since_after now since stage event = since

abbrev pub stage_of : Phase → Stage
stage_of (phase.Reading incoming) = reading incoming.received.items
stage_of (phase.Queued message) = queued message.bytes.items
stage_of (phase.Answering message) = answering message.value.items
stage_of (phase.Confirming waiting) = confirming waiting.reply.items waiting.is_last waiting.ticket
stage_of (phase.Writing outgoing) = writing (drop outgoing.written outgoing.reply.items) outgoing.is_last
stage_of phase.Lingering = lingering
stage_of phase.Abandoned = abandoned
stage_of phase.Ended = ended

abbrev pub stage : Connection → Stage
stage c = stage_of c.phase

-- How much room there is for a message that is read, and since when: none before something has come; then for all that
-- its length says, as far as that had come before. If that is more than before, it counts from now on.
abbrev pub IsRoomFor : ℕ → Event → Phase → Incoming → Type 0
IsRoomFor now (came more) (phase.Reading i) j = (j.room ≡ whole_after i.received.items) × (j.begun ≡ (if j.room == i.room then i.begun else now))
IsRoomFor now event (phase.Reading i) j = j ≡ i
IsRoomFor now event old j = j.room ≡ 0

abbrev pub IsRoomBehind : ℕ → Event → Phase → Phase → Type 0
IsRoomBehind now event old (phase.Reading j) = IsRoomFor now event old j
IsRoomBehind now event old new = Unit {0}

-- the connection after an event at this moment
pub record Goes (now : ℕ) (old new : Connection) (event : Event) : Type 0 where
  pub stage_is : stage new ≡ after old.answered (stage old) event
  pub count_is : new.answered ≡ count_after old.answered (stage old) event
  pub since_is : new.since ≡ since_after now old.since (stage old) event
  pub room_is : IsRoomBehind now event old.phase new.phase
  pub number : new.number ≡ old.number
  pub ends : new.ends ≡ old.ends
  pub share : new.share ≡ old.share
