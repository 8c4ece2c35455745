-- What is shown of a table's own state holds of each state that it agrees with.
use Rattle.std.proofs.Common.{◌≡◌, ℕ, List, [], ◌++◌, Bool, if◌then◌else◌, Option, sym, ◌∙◌, ap, subst}
use Rattle.std.specs.Prelude.{option_map}
use Rattle.chpw_table.specs.declared.times.Moment.{Moment}
use Rattle.chpw_table.specs.declared.request.Opened.{Opened}
use Rattle.chpw_table.specs.declared.outcome.Refused.{Refused}
use Rattle.chpw_table.specs.declared.verdict.Verdict.{Verdict}
use Rattle.chpw_table.specs.declared.raising.RaiseVerdict.{RaiseVerdict}
use Rattle.chpw_record.specs.declared.key.KeyRow.{KeyRow}
use Rattle.chpw_table.specs.Requests.{target_of}
use Rattle.chpw_table.specs.State.{State}
use Rattle.chpw_table.specs.Verdicts.{is_done}
use Rattle.chpw_table.specs.Step.{step}
use Rattle.chpw_table.specs.Raising.{step_raise, IsRaise}
use Rattle.chpw_table.specs.History.{IsDecided, missing}
use Rattle.chpw_record.specs.Records.{record_bytes}
use Rattle.chpw_table.specs.Journal.{appended}
use Rattle.chpw_table.specs.Agreement.{Held, Agrees}
use Rattle.chpw_table.specs.Refusals.{IsFirst, AsksPositive, IsRefused}
use Rattle.chpw_table.proofs.AgreementLemmas.{same_verdict, same_missing, same_new_key, agrees_step, same_raise_verdict, agrees_raise, agrees_onward}

-- the verdict
pub decided_for_all : (t s : State) (now : Moment) (o : Opened) (io : Bool) (v : Verdict) → IsDecided t now o io v → Agrees t s → IsDecided s now o io v
decided_for_all t s now o io v d a = record {
  verdict_is = d.verdict_is ∙ same_verdict t s now o io a;
  derived = sym (same_missing t s now o a) ∙ d.derived;
  append = λ h. ((d.append h).0, sym a.broken ∙ (d.append h).1);
}

-- the state after
pub stepped_for_all : (t u s : State) (now : Moment) (o : Opened) (io : Bool) → Agrees u (step t now o io) → Agrees t s → Agrees u (step s now o io)
stepped_for_all t u s now o io e a = agrees_onward u (step t now o io) (step s now o io) e (agrees_step t s now o io a)

-- what is appended
pub same_appended : (t s : State) (o : Opened) (v : Verdict) → Agrees t s → appended t o v ≡ appended s o v
same_appended t s o v a = ap (λ (k : KeyRow). if is_done v then record_bytes (target_of o).name k else [])
    (same_new_key t s o a.count (a.principals (target_of o).name))

-- what the sink tells
pub told_for_all : (t s : State) (o : Opened) (v : Verdict) (before after : Option (List ℕ))
    → after ≡ option_map (λ xs. xs ++ appended t o v) before
    → Agrees t s → after ≡ option_map (λ xs. xs ++ appended s o v) before
told_for_all t s o v before after h a = h ∙ ap (λ (ys : List ℕ). option_map (λ (xs : List ℕ). xs ++ ys) before) (same_appended t s o v a)

-- the first refusal
pub refused_for_all : (t : Held) (now : Moment) (o : Opened) (r : Refused)
    → IsFirst t (missing t.state now o) r.fault → AsksPositive r.fault → r.opened ≡ o → IsRefused t now o r
refused_for_all t now o r first positive same = record {
  first = λ s a. subst (λ (counts : List ℕ). IsFirst t counts r.fault) (same_missing t.state s now o a) first;
  positive = positive;
  opened = same;
}

-- the verdict on a raise
pub raise_for_all : (t s : State) (count : ℕ) (io : Bool) (v : RaiseVerdict) → IsRaise t count io v → Agrees t s → IsRaise s count io v
raise_for_all t s count io v r a = record {
  verdict_is = r.verdict_is ∙ same_raise_verdict t s count io a;
  append = λ h. ((r.append h).0, sym a.broken ∙ (r.append h).1);
}

-- the state after it
pub raised_for_all : (t u s : State) (now : Moment) (count : ℕ) (io : Bool)
    → Agrees u (step_raise t now count io) → Agrees t s → Agrees u (step_raise s now count io)
raised_for_all t u s now count io e a = agrees_onward u (step_raise t now count io) (step_raise s now count io) e (agrees_raise t s now count io a)
