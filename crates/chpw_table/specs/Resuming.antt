-- What a run leaves to the next one beside its keys, which the journal has: the used ids, the clock, and until when it is quiet.
use Rattle.std.specs.Prelude.{◌≡◌, List, Bool, true, ◌||◌, int_le, if◌then◌else◌}
use Rattle.chpw_rules.specs.declared.name.Name.{Name}
use Rattle.chpw_table.specs.declared.times.Moment.{Moment}
use Rattle.chpw_table.specs.declared.request.Opened.{Opened}
use Rattle.chpw_table.specs.declared.verdict.Verdict.TheVariants.{Skew, Replay}
use Rattle.chpw_table.specs.declared.history.Entry.{Entry}
use Rattle.chpw_table.specs.declared.table.resuming.ResumeState.{ResumeState}
use Rattle.chpw_table.specs.Requests.{id_of}
use Rattle.chpw_table.specs.State.{State, keys_held}
use Rattle.chpw_table.specs.Times.{clock_at, is_far, is_later}
use Rattle.chpw_table.specs.Verdicts.{adds_id}
use Rattle.chpw_table.specs.Decision.{verdict}
use Rattle.chpw_table.specs.Step.{step}
use Rattle.chpw_table.specs.History.{outcome}
use Rattle.chpw_table.specs.Agreement.{Agrees}

-- what a state leaves
abbrev pub carried_of : State → ResumeState
carried_of s = record { ids = s.used; clock = s.clock; quiet_until = s.fixed.quiet_until }

-- a state that takes it over
abbrev pub resumed : ResumeState → State → State
resumed c s = record s { fixed = record s.fixed { quiet_until = c.quiet_until }; used = c.ids; clock = c.clock }

-- ---- laws

-- a start gives the keys, the count of new keys and the standing rules that were left, whatever its ids, its clock and its quiet
-- time are
pub record IsRestartOf (left start : State) : Type 0 where
  pub fixed : record start.fixed { quiet_until = left.fixed.quiet_until } ≡ left.fixed
  pub keys : (name : Name) → keys_held start name ≡ keys_held left name
  pub count : start.count ≡ left.count
  pub broken : start.broken ≡ left.broken

-- such a start that takes over what was left is what was left
abbrev pub ResumedIsLeft : Type 0
ResumedIsLeft = (held left start : State) → Agrees held left → IsRestartOf left start → Agrees (resumed (carried_of held) start) left

-- A run judged a request and used its id, and went on to its end. What its table held then, without the ids too old to be judged,
-- was taken over by this opening of a next run
pub record IsResumedAfter (s : State) (before : Moment) (used : Opened) (failed : Bool) (es : List Entry) (next : State) : Type 0 where
  pub adds : adds_id (verdict s before used failed) ≡ true
  pub left : State
  pub agrees : Agrees left (outcome (step s before used failed) es)
  pub start : State
  pub takes : Agrees next (resumed (carried_of left) start)

-- in the next run, whenever it comes again, it is Skew where its time is too far from the clock or quiet, and else a replay
abbrev pub ReplayOverResume : Type 0
ReplayOverResume = (s : State) (before : Moment) (used : Opened) (failed : Bool) (es : List Entry) (next : State) →
    IsResumedAfter s before used failed es next →
    (later : List Entry) (now : Moment) (o : Opened) (io : Bool) → id_of o ≡ id_of used →
    let t : State = outcome next later in
    verdict t now o io ≡ (if is_far (clock_at t now) o.ctime || int_le o.ctime t.fixed.quiet_until then Skew else Replay)

-- and a request that is too old for the clock that was taken over is Skew
abbrev pub OlderIsSkew : Type 0
OlderIsSkew = (c : ResumeState) (start next : State) → Agrees next (resumed c start) →
    (later : List Entry) (now : Moment) (o : Opened) (io : Bool) → is_later c.clock o.ctime ≡ true →
    verdict (outcome next later) now o io ≡ Skew
