-- The passes after a raise.
use Rattle.std.proofs.Common.{◌≡◌, ℕ, List, [], ◌∷◌, Option, Some, None, Result, Ok, Err, IfOk, IfErr, refl, sym, ◌∙◌, ap, subst, map}
use Rattle.chpw_table.specs.State.{State}
use Rattle.chpw_table.specs.declared.times.Moment.{Moment}
use Rattle.chpw_table.specs.declared.history.Event.TheVariants.{Raise}
use Rattle.chpw_table.specs.declared.raising.RaiseVerdict.{RaiseVerdict}
use Rattle.chpw_book.specs.Calls.{Notes}
use Rattle.chpw_book.specs.Passes.{PassView, raise_refused_with}
use Rattle.chpw_book.specs.declared.raising.RaiseFault.{RaiseFault}
use Rattle.chpw_book.specs.declared.raising.RaiseFault.TheVariants.{Full, Memory}
use Rattle.chpw_workers.specs.Desks.{AreInOrder}
use Rattle.chpw_start.specs.Raised.{IsRaisedWhereAsked}
use Rattle.chpw_start.specs.declared.raising.RaiseReport.{RaiseReport}

refused_same : (fault : RaiseFault) (mine : PassView) → (raise_refused_with fault mine).worker ≡ mine.worker
refused_same Full mine = refl
refused_same Memory mine = refl

-- a raise leaves a pass to its worker
same_worker : (opening : State) (mine more : PassView) (now : Moment) (count : ℕ) (raised : Result RaiseVerdict RaiseFault)
    → IfOk raised (λ verdict. Notes opening mine more now (Raise count verdict))
    → IfErr raised (λ fault. more ≡ raise_refused_with fault mine) → more.worker ≡ mine.worker
same_worker opening mine more now count (Ok verdict) noted refused = noted.happens.enters.same.0
same_worker opening mine more now count (Err fault) noted refused = ap (λ (p : PassView). p.worker) refused ∙ refused_same fault mine

-- so the passes are those of all workers, in order, as before
pub raised_in_order : {C : Type 0} (gives : C → Moment → C → Type 0) (opening : State) (before after : C) (old new : List PassView)
    (asked : Option ℕ) (told : Option RaiseReport) (workers : ℕ) → IsRaisedWhereAsked gives opening before after old new asked told
    → AreInOrder workers old → AreInOrder workers new
raised_in_order gives opening before after old new None told workers h order = subst (AreInOrder workers) (sym h.0) order
raised_in_order gives opening before after [] new (Some count) told workers h order = subst (AreInOrder workers) (sym h.0) order
raised_in_order gives opening before after (mine ∷ others) new (Some count) told workers h order =
    let same : h.0.worker ≡ mine.worker = same_worker opening mine h.0 h.2.now count h.2.raised h.2.noted h.2.refused in
    ap (map (λ (p : PassView). p.worker)) h.1 ∙ (ap (λ (w : ℕ). w ∷ map (λ (p : PassView). p.worker) others) same ∙ order)
