-- In whose share of the connections one counts.
use Rattle.std.specs.Prelude.{ℕ, Option, Some, None, Bool, false, ◌&&◌, if◌then◌else◌}
use Rattle.chpw_endpoints.specs.Peers.{is_peer}
use Rattle.chpw_endpoints.specs.declared.peer.Peer.{Peer}
use Rattle.chpw_connection.specs.Slot.{waits}
use Rattle.chpw_connection.specs.Stages.{stage}
use Rattle.chpw_connection.specs.declared.connection.Connection.{Connection}

-- a share is this peer's
abbrev pub is_share_of : Peer → Option Peer → Bool
is_share_of peer None = false
is_share_of peer (Some own) = is_peer own peer

-- the connection counts in this peer's share
abbrev pub is_of_peer : Peer → Connection → Bool
is_of_peer peer c = is_share_of peer c.share

-- one if so
abbrev pub one_of_share : Peer → Option Peer → ℕ
one_of_share peer share = if is_share_of peer share then 1 else 0

abbrev pub one_of_peer : Peer → Option Connection → ℕ
one_of_peer peer None = 0
one_of_peer peer (Some c) = one_of_share peer c.share

-- since when a connection in this peer's share waits for its client, if it does
abbrev pub waits_of_peer : Peer → Option Connection → Option ℕ
waits_of_peer peer None = None
waits_of_peer peer (Some c) = if is_of_peer peer c && waits (stage c) then Some c.since else None
