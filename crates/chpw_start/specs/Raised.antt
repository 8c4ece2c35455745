-- What `serve --raise COUNT` does before it listens, and what it tells.
use Rattle.std.specs.Prelude.{◌≡◌, ℕ, List, [], ◌∷◌, ◌++◌, codes, Option, Some, None, Result, Ok, Err, IfOk, IfErr, IsSome}
use Rattle.std.specs.Fmt.{decimal}
use Rattle.chpw_table.specs.State.{State}
use Rattle.chpw_table.specs.declared.times.Moment.{Moment}
use Rattle.chpw_table.specs.declared.history.Event.TheVariants.{Raise}
use Rattle.chpw_book.specs.Calls.{Notes}
use Rattle.chpw_book.specs.Passes.{PassView, raise_refused_with}
use Rattle.chpw_table.specs.declared.raising.RaiseVerdict.{RaiseVerdict}
use Rattle.chpw_table.specs.declared.raising.RaiseVerdict.TheVariants as verdict
use Rattle.chpw_book.specs.declared.raising.RaiseFault.{RaiseFault}
use Rattle.chpw_book.specs.declared.raising.RaiseFault.TheVariants as fault
use Rattle.chpw_start.specs.declared.raising.RaiseReport.{RaiseReport}
use Rattle.chpw_start.specs.declared.raising.RaiseReport.TheVariants.{Raised, NotHigher, Broken, Full}

-- the result of a raise to this count; want of memory ends the service with a fault
abbrev pub told_as : ℕ → Result RaiseVerdict RaiseFault → Option RaiseReport
told_as count (Ok verdict.Raised) = Some (Raised count)
told_as count (Ok verdict.NotHigher) = Some NotHigher
told_as count (Ok verdict.Broken) = Some Broken
told_as count (Err fault.Full) = Some Full
told_as count (Err fault.Memory) = None

abbrev pub raised_line : RaiseReport → List ℕ
raised_line (Raised count) = codes "raised " ++ decimal count
raised_line NotHigher = codes "count not higher"
raised_line Broken = codes "journal failed"
raised_line Full = codes "history full"

-- a raise to this count was asked of a desk, by a pass and at a moment that the clock gave, with this result, and the
-- pass has its receipt, or was refused
pub record IsRaise {C : Type 0} (gives : C → Moment → C → Type 0) (opening : State) (before after : C) (mine more : PassView)
    (count : ℕ) (told : Option RaiseReport) : Type 0 where
  pub now : Moment
  pub given : gives before now after
  pub raised : Result RaiseVerdict RaiseFault
  pub told_is : told ≡ told_as count raised
  pub noted : IfOk raised (λ verdict. Notes opening mine more now (Raise count verdict))
  pub refused : IfErr raised (λ fault. more ≡ raise_refused_with fault mine)

-- it was asked by the first of these passes, and the others are unchanged; the result is what is told. Without passes
-- nothing is asked
abbrev pub IsRaiseOfFirst : {C : Type 0} → (C → Moment → C → Type 0) → State → C → C → List PassView → List PassView → ℕ
    → Option RaiseReport → Type 0
IsRaiseOfFirst gives opening before after [] new count told = (new ≡ []) × (after ≡ before) × (told ≡ None)
IsRaiseOfFirst gives opening before after (mine ∷ others) new count told =
    (more : PassView) × (new ≡ more ∷ others) × IsRaise gives opening before after mine more count told × IsSome told

-- if it is asked for
abbrev pub IsRaisedWhereAsked : {C : Type 0} → (C → Moment → C → Type 0) → State → C → C → List PassView → List PassView → Option ℕ
    → Option RaiseReport → Type 0
IsRaisedWhereAsked gives opening before after old new None told = (new ≡ old) × (after ≡ before) × (told ≡ None)
IsRaisedWhereAsked gives opening before after old new (Some count) told = IsRaiseOfFirst gives opening before after old new count told
