-- A connection that reads a message wants some bytes.
use Rattle.std.specs.Prelude.{Bool, true, nat_lt, nat_le, length}
use Rattle.chpw_connection.specs.Messages.{wanted_after}
use Rattle.chpw_connection.specs.declared.connection.Phase.{Phase}
use Rattle.chpw_connection.specs.declared.connection.Phase.TheVariants as phase

-- the message that it reads isn't whole
abbrev pub is_unfinished : Phase → Bool
is_unfinished (phase.Reading incoming) = nat_lt 0 (wanted_after incoming.received.items)
is_unfinished (phase.Queued message) = true
is_unfinished (phase.Answering message) = true
is_unfinished (phase.Confirming waiting) = true
is_unfinished (phase.Writing outgoing) = true
is_unfinished phase.Lingering = true
is_unfinished phase.Abandoned = true
is_unfinished phase.Ended = true

-- what has come of the message that it reads fits into its room
abbrev pub is_covered : Phase → Bool
is_covered (phase.Reading incoming) = nat_le (length incoming.received.items) incoming.room
is_covered (phase.Queued message) = true
is_covered (phase.Answering message) = true
is_covered (phase.Confirming waiting) = true
is_covered (phase.Writing outgoing) = true
is_covered phase.Lingering = true
is_covered phase.Abandoned = true
is_covered phase.Ended = true
