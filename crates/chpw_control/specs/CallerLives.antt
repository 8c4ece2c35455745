-- The whole life of a caller at the control socket: what came of its line, the commands that were carried out for it,
-- its answers, and what was written of them.
use Rattle.std.specs.Prelude.{◌≡◌, ℕ, List, [], ◌∷◌, ◌++◌, take, ◌⊎◌, Option, Some, None, Result, Ok}
use Rattle.chpw_control.specs.Commands.{Command}
use Rattle.chpw_control.specs.declared.fault.ControlFault.{ControlFault}
use Rattle.chpw_control.specs.Dialogs.{at_start, told_of}
use Rattle.chpw_control.specs.Callers.{Stage, asking, waiting, answered, Event, came, taken, wrote, after, error_line}

pub record Life : Type 0 where
  pub came : List ℕ
  pub taken : List Command
  pub answers : List (List ℕ)
  pub written : List ℕ
  pub stage : Stage

-- one that was accepted at this moment
abbrev pub accepted : Life
accepted = record { came = []; taken = []; answers = []; written = []; stage = asking at_start }

-- bytes count while its line is being read
abbrev pub came_after : Stage → Event → List ℕ → List ℕ
came_after (asking s) (came bytes) before = before ++ bytes
came_after stage e before = before

abbrev pub taken_after : Stage → Event → List Command → List Command
taken_after (waiting command) taken before = before ++ command ∷ []
taken_after stage e before = before

-- an answer counts from when it is given
abbrev pub answers_after : Stage → Stage → List (List ℕ) → List (List ℕ)
answers_after (answered left) new before = before
answers_after old (answered left) before = before ++ left ∷ []
answers_after old new before = before

abbrev pub written_after : Stage → Event → List ℕ → List ℕ
written_after (answered left) (wrote n) before = before ++ take n left
written_after stage e before = before

abbrev pub behind : Life → Event → Life
behind l e = record {
  came = came_after l.stage e l.came;
  taken = taken_after l.stage e l.taken;
  answers = answers_after l.stage (after l.stage e) l.answers;
  written = written_after l.stage e l.written;
  stage = after l.stage e;
}

abbrev pub life : Life → List Event → Life
life l [] = l
life l (e ∷ es) = life (behind l e) es

-- no command is carried out for it but the one of its own whole line, once
abbrev pub IsOnce : Life → Type 0
IsOnce l = (l.taken ≡ []) ⊎ ((command : Command) × (l.taken ≡ command ∷ []) × (told_of l.came ≡ Some (Ok command)))

-- it has one answer, of which what was written is the beginning
abbrev pub IsToldOnce : Life → Type 0
IsToldOnce l = ((l.answers ≡ []) × (l.written ≡ []))
    ⊎ ((answer left : List ℕ) × (l.answers ≡ answer ∷ []) × (l.written ++ left ≡ answer))

-- whatever happened, in whatever order
abbrev pub Served : Type 0
Served = (events : List Event) → IsOnce (life accepted events) × IsToldOnce (life accepted events)
