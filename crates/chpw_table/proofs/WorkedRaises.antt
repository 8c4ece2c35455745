-- The worked script with raises, and a history of both kinds of event, computed.
use Rattle.std.proofs.Common.{◌≡◌, ℕ, List, [], ◌∷◌, ◌++◌, Bool, true, false, Some, None, refl}
use Rattle.std.specs.Prelude.{negsuc}
use Rattle.chpw_table.specs.declared.verdict.Verdict.TheVariants.{Done, Broken}
use Rattle.chpw_table.specs.declared.raising.RaiseVerdict.{RaiseVerdict}
use Rattle.chpw_table.specs.declared.raising.RaiseVerdict.TheVariants as raise
use Rattle.chpw_table.specs.declared.change.AcceptedChange.TheVariants.{Key, Count}
use Rattle.chpw_table.specs.declared.history.Event.{Event}
use Rattle.chpw_table.specs.declared.history.Event.TheVariants.{Ask, Raise}
use Rattle.chpw_table.specs.declared.history.Entry.{Entry}
use Rattle.chpw_table.specs.State.{State, opening_of, keys_held}
use Rattle.chpw_table.specs.Decision.{verdict}
use Rattle.chpw_table.specs.Step.{step}
use Rattle.chpw_table.specs.Raising.{raise_verdict, step_raise}
use Rattle.chpw_table.specs.History.{missing, IsLegal, calls}
use Rattle.chpw_record.specs.Records.{record_bytes}
use Rattle.chpw_table.specs.Journal.{journal}
use Rattle.chpw_table.specs.Versions.{accepted, shown, shown_count}
use Rattle.chpw_table.proofs.Worked.{alice, under, key_bytes, key_row, configured, password, Line, ask, moment}

abbrev opening : State
opening = opening_of
    (configured (record { min_length = 6; min_classes = 2; depth = 2; iterations = 4; set_needs_initial = false })
    [] (record { name = alice; keys = key_bytes 1 4 0xa1 ∷ [] } ∷ []))
    (negsuc 0)

pub not_higher : raise_verdict opening 4 false ≡ raise.NotHigher
not_higher = refl

pub raised : raise_verdict opening 8 false ≡ raise.Raised
raised = refl

-- after both
abbrev at_eight : State
at_eight = step_raise (step_raise opening (moment 1000) 4 false) (moment 1000) 8 false

abbrev short : Line
short = ask 1000 alice 1000 0 900 2000 true false (password None 8 3 (under 4 0xa2 ∷ []))

abbrev whole : Line
whole = ask 1000 alice 1000 0 900 2000 true false (password None 8 3 (under 4 0xa2 ∷ under 8 0xa3 ∷ []))

pub needs_eight : missing at_eight (moment 1000) short.opened ≡ 8 ∷ []
needs_eight = refl

pub changed : verdict at_eight (moment 1000) whole.opened false ≡ Done
changed = refl

abbrev after_change : State
after_change = step at_eight (moment 1000) whole.opened false

pub failed : raise_verdict after_change 16 true ≡ raise.Broken
failed = refl

abbrev failed_once : State
failed_once = step_raise after_change (moment 1000) 16 true

pub failed_again : raise_verdict failed_once 16 false ≡ raise.Broken
failed_again = refl

abbrev failed_twice : State
failed_twice = step_raise failed_once (moment 1000) 16 false

abbrev late : Line
late = ask 1000 alice 1000 2 900 2000 true false (password None 8 3 (under 4 0xa5 ∷ under 8 0xa6 ∷ []))

pub asked_late : verdict failed_twice (moment 1000) late.opened false ≡ Broken
asked_late = refl

pub shown_alice : keys_held (step failed_twice (moment 1000) late.opened false) alice ≡ Some (key_row 2 8 0xa3 ∷ key_row 1 4 0xa1 ∷ [])
shown_alice = refl

-- ---- a raise by one worker, and then a change by another

abbrev entry : ℕ → ℕ → Event → Entry
entry worker number event = record { worker = worker; number = number; now = moment 1000; io_failed = false; event = event }

abbrev served : List Entry
served = entry 1 1 (Raise 8 raise.Raised) ∷ entry 0 1 (Ask whole.opened Done) ∷ []

pub served_legal : IsLegal opening served
served_legal = (record { verdict_is = refl; append = λ h. cc }, (record { verdict_is = refl; derived = refl; append = λ h. cc }, tt))

-- the raise counts as accepted
pub served_calls : calls served 0 ≡ record { worker = 0; number = 1; position = 1; basis = 1; entry = entry 0 1 (Ask whole.opened Done) } ∷ []
served_calls = refl

pub served_changes : accepted opening served ≡ Count 8 ∷ Key (record { name = alice; kvno = 2; count = 8 }) ∷ []
served_changes = refl

pub served_shown : shown opening (accepted opening served) alice ≡ Some (record { kvno = 2; counts = 8 ∷ 4 ∷ [] })
served_shown = refl

pub served_count : shown_count opening (accepted opening served) ≡ 8
served_count = refl

pub served_journal : journal opening served ≡ (0 ∷ 5 ∷ 2 ∷ 0 ∷ 0 ∷ 0 ∷ 8 ∷ []) ++ record_bytes alice (key_row 2 8 0xa3)
served_journal = refl
