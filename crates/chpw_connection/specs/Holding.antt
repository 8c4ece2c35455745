-- How many bytes a connection holds, and how many its message or its reply has.
use Rattle.std.specs.Prelude.{ℕ, ◌-◌, length, Option, Some, None}
use Rattle.chpw_connection.specs.declared.connection.Phase.{Phase}
use Rattle.chpw_connection.specs.declared.connection.Phase.TheVariants as phase
use Rattle.chpw_connection.specs.declared.connection.Connection.{Connection}
use Rattle.chpw_connection.specs.Messages.{whole_after}

-- of a message that it reads, the bytes that there is room for; those of its waiting message, or of its whole reply,
-- which is dropped once all of it is out
abbrev pub held_by : Phase → ℕ
held_by (phase.Reading incoming) = incoming.room
held_by (phase.Queued message) = length message.bytes.items
held_by (phase.Answering message) = 0
held_by (phase.Confirming waiting) = length waiting.reply.items
held_by (phase.Writing outgoing) = length outgoing.reply.items
held_by phase.Lingering = 0
held_by phase.Abandoned = 0
held_by phase.Ended = 0

abbrev pub held_at : Option Connection → ℕ
held_at None = 0
held_at (Some c) = held_by c.phase

-- how many bytes its message has, as far as its length has come, or its reply
abbrev pub size_by : Phase → ℕ
size_by (phase.Reading incoming) = whole_after incoming.received.items
size_by (phase.Queued message) = length message.bytes.items
size_by (phase.Answering message) = 0
size_by (phase.Confirming waiting) = length waiting.reply.items
size_by (phase.Writing outgoing) = length outgoing.reply.items
size_by phase.Lingering = 0
size_by phase.Abandoned = 0
size_by phase.Ended = 0

-- how many more bytes it holds once the next ones of its message are read: of its length there is room for four bytes,
-- and from its next byte on for the whole message
abbrev pub growth_by : Phase → ℕ
growth_by p = size_by p - held_by p

abbrev pub growth_at : Option Connection → ℕ
growth_at None = 0
growth_at (Some c) = growth_by c.phase

-- since when it has been under way: a message since there has been as much room for it as now
abbrev pub begun_by : Phase → ℕ → ℕ
begun_by (phase.Reading incoming) since = incoming.begun
begun_by p since = since

abbrev pub begun_of : Connection → ℕ
begun_of c = begun_by c.phase c.since
