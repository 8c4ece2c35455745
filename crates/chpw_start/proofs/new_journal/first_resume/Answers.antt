use Rattle.std.proofs.Common.{◌≡◌, ◌∙◌, List, ℕ, [], ap, length}
use Rattle.std.proofs.lemmas.Result.{IfOk-weaker}
use Rattle.chpw_resume.specs.ResumeText.{mark_of}
use Rattle.chpw_start.specs.FirstResume.{new_mark}
use Rattle.chpw_start.proofs.NewJournalLemmas.{same_left}
use Rattle.chpw_start.proofs.new_journal.first_resume.Goals as goal

pub returns-clause-value : goal.returns-clause-value
returns-clause-value c =
    let mark : c.mark_of.result ≡ new_mark c.args.realm.now =
    c.mark_of.ensures.value ∙ ap (λ (journal : List ℕ). mark_of (length journal) journal) c.requires.journal in
    IfOk-weaker c.write_resume.result _ _
    (λ text is.
    is
    ∙ same_left c.of.result c.args.realm.now c.mark_of.result (new_mark c.args.realm.now) c.of-2.result []
    (c.of.ensures.value ∙ c.in_ok-from_slice.ensures.items) mark (c.of-2.ensures.value ∙ c.new.ensures.items))
    c.write_resume.ensures.value
