-- How many connections count in a peer's share.
use Rattle.std.specs.Prelude.{ℕ, ◌≤◌, Option, Some, None, Bool, false, not, nat_lt, sum_by}
use Rattle.slab.specs.Slab.{Slab}
use Rattle.chpw_endpoints.specs.declared.peer.Peer.{Peer}
use Rattle.chpw_connection.specs.declared.connection.Connection.{Connection}
use Rattle.chpw_connection.specs.Shares.{one_of_peer}

-- those in this peer's share
unfoldable pub count_of : Peer → Slab Connection → ℕ
count_of peer slots = sum_by (one_of_peer peer) slots.slots

-- no peer has more than so many
abbrev pub IsShared : ℕ → Slab Connection → Type 0
IsShared most slots = (peer : Peer) → count_of peer slots ≤ most

-- a peer has as many as it may; what counts in no share may always come
abbrev pub is_share_full : ℕ → Slab Connection → Option Peer → Bool
is_share_full most slots None = false
is_share_full most slots (Some peer) = not (nat_lt (count_of peer slots) most)
