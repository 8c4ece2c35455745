-- The connections of a pool at its start, and how one more comes.
use Rattle.std.specs.Prelude.{◌≡◌, ◌⊎◌, ℕ, Option, MatchOption, false}
use Rattle.slab.specs.Slab.{Slab, slab_len}
use Rattle.chpw_endpoints.specs.declared.endpoints.Endpoints.{Endpoints}
use Rattle.chpw_endpoints.specs.declared.peer.Peer.{Peer}
use Rattle.chpw_connections.specs.Held.{slots_of}
use Rattle.chpw_slots.specs.Slots.{Happens, IsNew}
use Rattle.chpw_slots.specs.Longest.{IsLongestOf, NobodyWaitsOf}
use Rattle.chpw_connection.specs.Stages.{failed}
use Rattle.chpw_connection.specs.declared.connection.Connection.{Connection}
use Rattle.chpw_transfers.specs.Kdc.{dialog_in, names_in, reach_in}
use Rattle.chpw_transfers.specs.declared.kdc.KdcSide.{KdcSide}
use Rattle.chpw_transfers.specs.declared.state.State.{State}

-- no connections, this side of a KDC, and workers take messages
pub record IsBegun (side : Option KdcSide) (s : State) : Type 0 where
  pub none : slab_len (slots_of s.connections) ≡ 0
  pub is : s ≡ record {
    connections = s.connections;
    is_stopped = false;
    is_over = false;
    is_deserted = false;
    has_newcomer = false;
    shortage = record { of_large = false; of_small = false };
    kdc = dialog_in side;
    names = names_in side;
    is_message_next = false;
    reach = reach_in side;
  }

-- a new connection in this share, which has ended if its socket can't be watched
pub record IsAdmitted (ends : Endpoints) (share : Option Peer) (now number : ℕ) (old new : Slab Connection) (slot : ℕ) : Type 0 where
  pub accepted : Slab Connection
  pub is_new : IsNew ends share now number old accepted slot
  pub goes_on : Happens 0 accepted new slot failed ⊎ (new ≡ accepted)

-- the connection of this peer that has waited longest for its client ended, if one waits, and nothing else changed
abbrev pub EndsLongestOf : Peer → Slab Connection → Slab Connection → Option ℕ → Type 0
EndsLongestOf peer old new ended =
    MatchOption ended (NobodyWaitsOf peer old × (new ≡ old)) (λ slot. IsLongestOf peer old slot × Happens 0 old new slot failed)
