-- A reply that is written or waits for the KDC, or for which there is no room.
use Rattle.std.proofs.Common.{◌≡◌, ℕ, length, refl, sym, subst, Bool, true, false, ◌&&◌, MatchBool, Option, Some}
use Rattle.slab.specs.Slab.{Slab, get}
use Rattle.chpw_connections.specs.Room.{HappensWithRoom, for_reply}
use Rattle.chpw_slots.specs.Longest.{has_room_besides}
use Rattle.chpw_slots.specs.Slots.{Happens}
use Rattle.chpw_connection.specs.Slot.{is_answering_in}
use Rattle.chpw_connection.specs.Stages.{unanswered}
use Rattle.chpw_connection.specs.declared.connection.Connection.{Connection}
use Rattle.chpw_connection.specs.declared.limits.ConnectionLimits.{ConnectionLimits}
use Rattle.chpw_transfers.specs.Steps.{IsAnswered, reply_event}
use Rattle.chpw_connections.specs.declared.taking.Reply.{Reply}

by_tests : (t u : Bool) (A B : Type 0) → (t ≡ true → u ≡ true → A) → (t ≡ false → B) → (u ≡ false → B) → MatchBool (t && u) A B
by_tests true true A B both left right = both refl refl
by_tests true false A B both left right = right refl
by_tests false u A B both left right = left refl

pub answers : (b : ConnectionLimits) (now slot : ℕ) (old new : Slab Connection) (awaits : Option ℕ) (reply : Option Reply) (r : Reply)
    → reply ≡ Some r
    → (has_room_besides b.bytes (for_reply now) old slot (length r.bytes.items) ≡ true → is_answering_in (get old slot) ≡ true
    → HappensWithRoom (for_reply now) now old new slot (reply_event awaits r))
    → (has_room_besides b.bytes (for_reply now) old slot (length r.bytes.items) ≡ false → Happens now old new slot unanswered)
    → (is_answering_in (get old slot) ≡ false → Happens now old new slot unanswered)
    → IsAnswered b now awaits reply old new slot
answers b now slot old new awaits reply r is_reply sent much unwanted =
    subst (λ (o : Option Reply). IsAnswered b now awaits o old new slot) (sym is_reply)
    (by_tests (has_room_besides b.bytes (for_reply now) old slot (length r.bytes.items)) (is_answering_in (get old slot))
    (HappensWithRoom (for_reply now) now old new slot (reply_event awaits r)) (Happens now old new slot unanswered)
    sent much unwanted)
