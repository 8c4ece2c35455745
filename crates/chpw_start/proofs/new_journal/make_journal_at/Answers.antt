use Rattle.std.proofs.Common.{◌≡◌, ◌∙◌, List, ℕ, ap}
use Rattle.std.proofs.lemmas.Result.{IfOk-at_ok, on_ok_weaker}
use Rattle.chpw_journal.specs.Headings.{realm_record}
use Rattle.chpw_resume.specs.ResumeText.{resume_text}
use Rattle.chpw_start.specs.FirstResume.{first_resume}
use Rattle.chpw_start.proofs.NewJournalLemmas.{made_alike}
use Rattle.chpw_start.proofs.new_journal.make_journal_at.Goals as goal

pub returns-in-Ok-first_resume-clause-made : goal.returns-in-Ok-first_resume-clause-made
returns-in-Ok-first_resume-clause-made g c =
    let realm : c.as_slice-realm.result.now ≡ c.in_ok-config.config.realm = c.as_slice-realm.ensures.value in
    on_ok_weaker c.ending-in-Ok-first_resume.result
    (λ was. (
      c.in_ok-config.config,
      c.in_ok-config.ensures.value.0,
      c.in_ok-config.ensures.value.1,
      made_alike g.P.JournalMaker.makes c.args.place.now c.make-in-Ok-first_resume.new.self c.deref-in-Ok-first_resume.result.now
          (realm_record c.in_ok-config.config.realm) c.deref-in-Ok-first_resume-2.result.now (resume_text (first_resume c.in_ok-config.config.realm))
          c.args.options.resume c.in-Some.path
          (c.deref-in-Ok-first_resume.ensures.value ∙ c.in-Ok.ensures.value ∙ ap (λ (r : List ℕ). realm_record r) realm)
          (c.deref-in-Ok-first_resume-2.ensures.value ∙ c.in-Ok-first_resume.ensures.value ∙ ap (λ (r : List ℕ). resume_text (first_resume r)) realm)
          c.in-Some.is (IfOk-at_ok _ was c.make-in-Ok-first_resume.ensures.made),
    ))
    c.ending-in-Ok-first_resume.ensures.made
