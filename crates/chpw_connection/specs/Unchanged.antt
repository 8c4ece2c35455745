-- Waiting for a confirmation changes no answer.
use Rattle.std.specs.Prelude.{◌≡◌, List, [], ◌∷◌, ◌++◌, Bool, true, false, All}
use Rattle.chpw_connection.specs.Stages.{Stage, confirming, writing, Event, replied, deferred, released, failed}
use Rattle.chpw_connection.specs.Lives.{Life, accepted, behind, life}

-- the stage it would have if its reply waited for nothing but its client
abbrev pub settled : Stage → Stage
settled (confirming reply last ticket) = writing reply last
settled s = s

abbrev pub settle : Life → Life
settle l = record { came = l.came; handed = l.handed; turns = l.turns; written = l.written; count = l.count; stage = settled l.stage }

-- no deferred reply, and no release
abbrev pub is_ordinary : Event → Bool
is_ordinary (deferred reply last ticket) = false
is_ordinary released = false
is_ordinary event = true

-- what a service that waits for no confirmation has instead of an event: of a deferred reply the same reply, to be
-- written now
abbrev pub ordinary : Event → List Event
ordinary (deferred reply last ticket) = replied reply last ∷ []
ordinary released = []
ordinary event = event ∷ []

-- what it sees of an event: while a reply waits, nothing of its connection is read or written, and only its end is seen
abbrev pub seen : Stage → Event → List Event
seen (confirming reply last ticket) failed = failed ∷ []
seen (confirming reply last ticket) event = []
seen s event = ordinary event

abbrev pub seen_all : Life → List Event → List Event
seen_all l [] = []
seen_all l (e ∷ es) = seen l.stage e ++ seen_all (behind l e) es

-- whatever happens: what came, was handed on, replied and written, and the stage, is as it would be there
abbrev pub ChangesNoAnswer : Type 0
ChangesNoAnswer = (events : List Event) → settle (life accepted events) ≡ life accepted (seen_all accepted events)

-- there no reply is deferred
abbrev pub SeesOrdinary : Type 0
SeesOrdinary = (events : List Event) → All (λ event. is_ordinary event ≡ true) (seen_all accepted events)
