-- A message that a worker took: the slot of its connection, its two addresses, and its bytes with their length before them.
use Rattle.std.specs.Prelude.{ℕ, List}
use Rattle.chpw_endpoints.specs.declared.endpoints.Endpoints.{Endpoints}
use Rattle.chpw_connections.specs.declared.taking.TakenMessage.{TakenMessage}

abbrev pub slot_of : TakenMessage → ℕ
slot_of t = t.slot

abbrev pub ends_of : TakenMessage → Endpoints
ends_of t = t.ends

abbrev pub message_of : TakenMessage → List ℕ
message_of t = t.message.bytes.items
