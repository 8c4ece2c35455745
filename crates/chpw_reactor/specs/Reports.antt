-- What the reactor notes of what was reported.
use Rattle.std.specs.Prelude.{ℕ, Bool, true, false}
use Rattle.mio.specs.Event.{event_token}
use Rattle.mio.specs.declared.event.event.Event.{Event}
use Rattle.chpw_transfers.specs.Accepting.{reported}
use Rattle.chpw_transfers.specs.Tokens.{reported_by}
use Rattle.chpw_transfers.specs.declared.entrance.Entrance.{Entrance}
use Rattle.chpw_transfers.specs.declared.tokens.EventSource.{EventSource}
use Rattle.chpw_transfers.specs.declared.tokens.EventSource.TheVariants as source

-- what an event is about, where connections have the tokens below this number
abbrev pub source_of : Event → ℕ → EventSource
source_of event connections = reported_by (event_token event).0 connections

-- the entrance after a report
abbrev pub reported_at : EventSource → Entrance → Entrance
reported_at source.Listener e = record e { accepting = reported e.accepting }
reported_at source.Kdc e = e
reported_at source.Datagrams e = e
reported_at (source.Connection slot) e = e
reported_at source.Control e = e

-- what else was reported
abbrev pub is_kdc : EventSource → Bool
is_kdc source.Kdc = true
is_kdc s = false

abbrev pub is_datagrams : EventSource → Bool
is_datagrams source.Datagrams = true
is_datagrams s = false

abbrev pub is_control : EventSource → Bool
is_control source.Control = true
is_control s = false
