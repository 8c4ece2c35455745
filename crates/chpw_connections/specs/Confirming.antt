-- The first reply that has waited too long for its confirmation.
use Rattle.std.specs.Prelude.{◌≡◌, ℕ, ◌<◌, Some, None, IfSome}
use Rattle.std.specs.declared.net.ip_addr.IpAddr.{IpAddr}
use Rattle.slab.specs.Slab.{Slab, get}
use Rattle.chpw_connection.specs.Stages.{Event}
use Rattle.chpw_slots.specs.Slots.{Happens}
use Rattle.chpw_connection.specs.declared.connection.Connection.{Connection}
use Rattle.chpw_connection.specs.Confirming.{overdue_in}

-- this happens at a moment to the first one that has waited for this long, which has this peer and ticket
pub record EndsOverdue (wait now : ℕ) (event : Event) (moment : ℕ) (old new : Slab Connection) (peer : IpAddr) (ticket : ℕ) : Type 0 where
  pub slot : ℕ
  pub overdue : overdue_in wait now (get old slot) ≡ Some ticket
  pub of_peer : IfSome (get old slot) (λ c. peer ≡ c.ends.peer)
  pub first : (other : ℕ) → other < slot → overdue_in wait now (get old other) ≡ None
  pub happens : Happens moment old new slot event

-- none has waited for this long
abbrev pub NoneIsOverdue : ℕ → ℕ → Slab Connection → Type 0
NoneIsOverdue wait now slots = (slot : ℕ) → overdue_in wait now (get slots slot) ≡ None
