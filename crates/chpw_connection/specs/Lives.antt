-- The whole life of a connection: what came, what went to workers, what they replied to which message, what was written.
use Rattle.std.specs.Prelude.{◌≡◌, ℕ, ◌≤◌, List, [], ◌∷◌, ◌++◌, length, map, take, All}
use Rattle.chpw_connection.specs.Messages.{IsPiece}
use Rattle.chpw_connection.specs.Stages.{Stage, reading, queued, answering, confirming, writing, lingering, abandoned, ended, Event, came, taken, replied}
use Rattle.chpw_connection.specs.Stages.{deferred, wrote, received, count_after, after}

pub record Life : Type 0 where
  pub came : List ℕ
  pub handed : List (List ℕ)
  -- each message that was replied to, and the reply
  pub turns : List (List ℕ × List ℕ)
  pub written : List ℕ
  -- the replies after which it goes on
  pub count : ℕ
  pub stage : Stage

-- one that was accepted at this moment
abbrev pub accepted : Life
accepted = record { came = []; handed = []; turns = []; written = []; count = 0; stage = reading [] }

-- the bytes that an event brings
abbrev pub came_by : Stage → Event → List ℕ
came_by (reading bytes) (came more) = received bytes more
came_by stage event = []

-- the message that it hands to a worker
abbrev pub handed_by : Stage → Event → List (List ℕ)
handed_by (queued message) taken = message ∷ []
handed_by stage event = []

-- the message that is being answered, with the reply that it brings
abbrev pub turns_by : Stage → Event → List (List ℕ × List ℕ)
turns_by (answering message) (replied reply last) = (message, reply) ∷ []
turns_by (answering message) (deferred reply last ticket) = (message, reply) ∷ []
turns_by stage event = []

-- the bytes that go out
abbrev pub written_by : Stage → Event → List ℕ
written_by (writing left last) (wrote n) = take n left
written_by stage event = []

-- the life after an event
abbrev pub behind : Life → Event → Life
behind l e = record {
  came = l.came ++ came_by l.stage e;
  handed = l.handed ++ handed_by l.stage e;
  turns = l.turns ++ turns_by l.stage e;
  written = l.written ++ written_by l.stage e;
  count = count_after l.count l.stage e;
  stage = after l.count l.stage e;
}

abbrev pub life : Life → List Event → Life
life l [] = l
life l (e ∷ es) = life (behind l e) es

abbrev pub joined : List (List ℕ) → List ℕ
joined [] = []
joined (x ∷ xs) = x ++ joined xs

-- what came and wasn't handed on: if the connection goes on, what it reads or what waits
abbrev pub IsHeld : Stage → List ℕ → Type 0
IsHeld (reading bytes) rest = rest ≡ bytes
IsHeld (queued message) rest = rest ≡ message
IsHeld abandoned rest = Unit {0}
IsHeld ended rest = Unit {0}
IsHeld stage rest = rest ≡ []

-- what was replied and isn't written: if the connection goes on, what it writes, and a reply that isn't confirmed
abbrev pub IsLeft : Stage → List ℕ → Type 0
IsLeft (confirming reply last ticket) rest = rest ≡ reply
IsLeft (writing left last) rest = rest ≡ left
IsLeft abandoned rest = Unit {0}
IsLeft ended rest = Unit {0}
IsLeft stage rest = rest ≡ []

-- the messages that were replied to, and the replies
abbrev pub messages_of : List (List ℕ × List ℕ) → List (List ℕ)
messages_of turns = map (λ t. t.0) turns

abbrev pub replies_of : List (List ℕ × List ℕ) → List (List ℕ)
replies_of turns = map (λ t. t.1) turns

-- what was handed on and wasn't replied to: the message that is being answered, or was when the connection ended
abbrev pub IsUnreplied : Stage → List (List ℕ) → Type 0
IsUnreplied (answering message) messages = messages ≡ message ∷ []
IsUnreplied abandoned messages = length messages ≡ 1
IsUnreplied lingering messages = length messages ≤ 1
IsUnreplied ended messages = length messages ≤ 1
IsUnreplied stage messages = messages ≡ []

-- whatever happened, in whatever order
pub record IsOrderly (l : Life) : Type 0 where
  pub rest : List ℕ
  pub messages : l.came ≡ joined l.handed ++ rest
  pub held : IsHeld l.stage rest
  pub pieces : All IsPiece l.handed
  pub unreplied : List (List ℕ)
  pub turns : l.handed ≡ messages_of l.turns ++ unreplied
  pub answered : IsUnreplied l.stage unreplied
  pub left : List ℕ
  pub replies : joined (replies_of l.turns) ≡ l.written ++ left
  pub unwritten : IsLeft l.stage left
  pub few : length l.handed ≤ 65536

-- what goes to workers are the messages that came, in order, each once; what is written are the replies to them, each
-- to its own message, in order, each once
abbrev pub Orderly : Type 0
Orderly = (events : List Event) → IsOrderly (life accepted events)

-- after its end nothing is handed on and nothing written
abbrev pub Final : Type 0
Final = (l : Life) (events : List Event) → l.stage ≡ ended → life l events ≡ l
