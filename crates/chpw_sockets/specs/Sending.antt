-- What goes through the sockets for datagrams, if that is known. A sender has the address of the service's that it sent to, and a
-- datagram to it goes from there.
use Rattle.std.specs.Prelude.{◌≡◌, ℕ, List, [], ◌∷◌, ◌++◌, take, Option, Some, None, ⊤}
use Rattle.chpw_connections.specs.declared.sender.Sender.{Sender}

-- datagrams, the first first, each with whom it comes from or goes to
abbrev pub Mail : Type 0
Mail = Option (List (Sender × List ℕ))

-- one more goes to this sender, behind the others
abbrev pub Sends : Sender → List ℕ → Mail → Mail → Type 0
Sends to bytes None after = ⊤
Sends to bytes (Some before) after = after ≡ Some (before ++ (to, bytes) ∷ [])

-- the first comes, from this sender, as much of it as there is room for; the others are left
abbrev pub Brings : Sender → List ℕ → ℕ → Mail → Mail → Type 0
Brings sender bytes room None after = ⊤
Brings sender bytes room (Some []) after = ⊥
Brings sender bytes room (Some (first ∷ others)) after = (first.0 ≡ sender) × ((take room first.1 ≡ bytes) × (after ≡ Some others))
