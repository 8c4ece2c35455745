-- No connection stays that nothing can end. Moments are numbers here, of which there is no last.
use Rattle.std.specs.Prelude.{◌≡◌, ℕ, ◌+◌, ◌≤◌, ◌⊎◌, List, Option, Some, Bool, true, false, IsSomeAnd}
use Rattle.chpw_connection.specs.Stages.{Stage, answering, confirming, abandoned, ended, replied, deferred, unanswered, released, after, stage}
use Rattle.chpw_connection.specs.Late.{time_of, is_late, Passes}
use Rattle.chpw_connection.specs.Confirming.{is_confirming}
use Rattle.chpw_connection.specs.declared.limits.ConnectionLimits.{ConnectionLimits}
use Rattle.chpw_connection.specs.declared.connection.Connection.{Connection}
use Rattle.chpw_connection.specs.Slot.{is_with_worker}

-- the stage is timed: no worker has its message, its reply waits for no confirmation, and it hasn't ended
abbrev pub is_timed : Stage → Bool
is_timed (answering message) = false
is_timed (confirming reply last ticket) = false
is_timed abandoned = false
is_timed ended = false
is_timed s = true

-- from some time after the moment since which it waits, its time is up, and stays so, and `pass` then ends it
pub record EndsInTime (b : ConnectionLimits) (c : Connection) : Type 0 where
  pub most : ℕ
  pub time : time_of b (stage c) ≡ Some most
  pub late : (now : ℕ) → c.since + most ≤ now → is_late b now c ≡ true
  pub ends : (now : ℕ) (new : Option Connection) → c.since + most ≤ now → Passes b now (Some c) new → IsSomeAnd new (λ d. stage d ≡ ended)

-- each connection that waits for no worker's reply and for no confirmation ends in time
abbrev pub AllEndInTime : Type 0
AllEndInTime = (b : ConnectionLimits) (c : Connection) → is_timed (stage c) ≡ true → EndsInTime b c

-- it is timed from then on, or its reply waits for a confirmation, or it has ended
abbrev pub GoesOn : Stage → Type 0
GoesOn s = (is_timed s ≡ true) ⊎ (is_confirming s ≡ true) ⊎ (s ≡ ended)

-- one that a worker has goes on by the worker's reply, deferred or not, and by the word that there is none
abbrev pub AllGoOnByTheirWorker : Type 0
AllGoOnByTheirWorker = (count : ℕ) (s : Stage) → is_with_worker s ≡ true
    → ((reply : List ℕ) (last : Bool) → GoesOn (after count s (replied reply last)))
    × ((reply : List ℕ) (last : Bool) (ticket : ℕ) → GoesOn (after count s (deferred reply last ticket)))
    × GoesOn (after count s unanswered)

-- one whose reply waits for a confirmation is timed once it is released
abbrev pub AllGoOnReleased : Type 0
AllGoOnReleased = (count : ℕ) (s : Stage) → is_confirming s ≡ true → is_timed (after count s released) ≡ true

-- there is no other one, except those that have ended
abbrev pub NoneStays : Type 0
NoneStays = (s : Stage) → (is_timed s ≡ true) ⊎ (is_with_worker s ≡ true) ⊎ (is_confirming s ≡ true) ⊎ (s ≡ ended)
