use Rattle.std.proofs.Common.{◌≡◌, ◌∙◌, ℕ, List, IfOk, ap, subst}
use Rattle.chpw_resume.specs.ResumeText.{resume_text}
use Rattle.chpw_resume.specs.declared.mark.JournalMark.{JournalMark}
use Rattle.chpw_resume.specs.declared.resume.Resume.{Resume}
use Rattle.chpw_table.specs.State.{State}
use Rattle.chpw_table.specs.Resuming.{carried_of}
use Rattle.chpw_table.specs.declared.table.resuming.ResumeState.{ResumeState}
use Rattle.chpw_desks.specs.Keeping.{left_of}
use Rattle.chpw_desks.proofs.keeping.text_left.Goals as goal

left_by : (s : State) (journal : JournalMark) (realm : List ℕ) (carried : ResumeState) → realm ≡ s.fixed.realm → carried ≡ carried_of s
    → record { realm = realm; journal = journal; carried = carried } ≡ left_of s journal
left_by s journal realm carried same left =
    ap (λ (r : List ℕ). record { realm = r; journal = journal; carried = carried }) same
    ∙ ap (λ (c : ResumeState). record { realm = s.fixed.realm; journal = journal; carried = c }) left

pub returns-clause-value : goal.returns-clause-value
returns-clause-value c =
    let realm = c.of.ensures.value ∙ (c.in_ok-from_slice.ensures.items ∙ c.realm.ensures.value) in
    subst (λ (r : Resume). IfOk c.write_resume.result (λ text. text.items ≡ resume_text r))
    (left_by c.args.table.now.state c.args.journal c.of.result c.in_ok-carried.field-0 realm c.in_ok-carried.ensures.value)
    c.write_resume.ensures.value
