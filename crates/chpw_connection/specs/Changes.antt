-- What a change is as an event, and how many bytes it adds.
use Rattle.std.specs.Prelude.{ℕ, length}
use Rattle.chpw_connection.specs.Stages.{Event, replied, deferred, unanswered, released, wrote, closed, failed}
use Rattle.chpw_connection.specs.declared.event.ConnectionEvent.{ConnectionEvent}
use Rattle.chpw_connection.specs.declared.event.ConnectionEvent.TheVariants as change

abbrev pub event_of : ConnectionEvent → Event
event_of (change.Answered reply last) = replied reply.items last
event_of (change.Deferred reply last ticket) = deferred reply.items last ticket
event_of change.Released = released
event_of change.Unanswered = unanswered
event_of (change.Wrote count) = wrote count
event_of change.Closed = closed
event_of change.Failed = failed

-- a reply is held until it is out; nothing else adds any
abbrev pub added_by : ConnectionEvent → ℕ
added_by (change.Answered reply last) = length reply.items
added_by (change.Deferred reply last ticket) = length reply.items
added_by other = 0
