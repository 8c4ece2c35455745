-- What a slot holds: a connection in some stage, or none; and an event that comes to it.
use Rattle.std.specs.Prelude.{◌≡◌, ℕ, List, Option, Some, None, Bool, true, false, IsSomeAnd, MatchOption, if◌then◌else◌, [], take, is_some, not, ◌&&◌, ◌||◌}
use Rattle.chpw_connection.specs.Stages.{Stage, reading, queued, answering, writing, lingering, ended, Event, stage, Goes, wanted_by, left_of, abandoned}
use Rattle.chpw_connection.specs.declared.connection.Connection.{Connection}

-- it waits for its client: for a whole message, for its reply to be read, or for its end
abbrev pub waits : Stage → Bool
waits (reading bytes) = true
waits (writing left last) = true
waits lingering = true
waits s = false

-- since when it waits for its client, if it does
abbrev pub waits_since : Option Connection → Option ℕ
waits_since None = None
waits_since (Some c) = if waits (stage c) then Some c.since else None

-- the event happened to the connection in this slot, if there is one
abbrev pub Comes : ℕ → Event → Option Connection → Option Connection → Type 0
Comes now event old new = MatchOption old (new ≡ None) (λ c. IsSomeAnd new (λ d. Goes now c d event))

-- how many bytes may be read
abbrev pub wanted_at : Option Connection → ℕ
wanted_at None = 0
wanted_at (Some c) = wanted_by (stage c)

-- what is left to write
abbrev pub left_at : Option Connection → List ℕ
left_at None = []
left_at (Some c) = left_of (stage c)

abbrev pub queued_by : Stage → Option (List ℕ)
queued_by (queued message) = Some message
queued_by s = None

-- the message that waits for a worker
abbrev pub queued_at : Option Connection → Option (List ℕ)
queued_at None = None
queued_at (Some c) = queued_by (stage c)

abbrev pub is_lingering : Stage → Bool
is_lingering lingering = true
is_lingering s = false

abbrev pub is_lingering_in : Option Connection → Bool
is_lingering_in None = false
is_lingering_in (Some c) = is_lingering (stage c)

abbrev pub is_ended : Stage → Bool
is_ended ended = true
is_ended s = false

abbrev pub is_ended_in : Option Connection → Bool
is_ended_in None = false
is_ended_in (Some c) = is_ended (stage c)

abbrev pub is_reading : Stage → Bool
is_reading (reading bytes) = true
is_reading s = false

abbrev pub is_reading_in : Option Connection → Bool
is_reading_in None = false
is_reading_in (Some c) = is_reading (stage c)

-- a worker answers its message, and it isn't gone
abbrev pub is_answering : Stage → Bool
is_answering (answering message) = true
is_answering s = false

abbrev pub is_answering_in : Option Connection → Bool
is_answering_in None = false
is_answering_in (Some c) = is_answering (stage c)

-- of the bytes that come, those that are wanted
abbrev pub wanted_of : Option Connection → List ℕ → List ℕ
wanted_of o bytes = take (wanted_at o) bytes

-- a worker has its message, gone or not
abbrev pub is_with_worker : Stage → Bool
is_with_worker (answering message) = true
is_with_worker abandoned = true
is_with_worker s = false

abbrev pub is_with_worker_in : Option Connection → Bool
is_with_worker_in None = false
is_with_worker_in (Some c) = is_with_worker (stage c)

-- a message waits now, and none did before
abbrev pub is_newly_queued : Option (List ℕ) → Option (List ℕ) → Bool
is_newly_queued old new = is_some new && not (is_some old)

-- there is no connection, or one that has ended or is gone: it can't fail any more
abbrev pub is_gone : Stage → Bool
is_gone abandoned = true
is_gone ended = true
is_gone s = false

abbrev pub is_gone_in : Option Connection → Bool
is_gone_in None = true
is_gone_in (Some c) = is_gone (stage c)

-- it ends where its client closes its side
abbrev pub ends_closed_in : Option Connection → Bool
ends_closed_in o = is_reading_in o || is_lingering_in o
