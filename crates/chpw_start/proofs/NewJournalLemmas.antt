-- What is made of a journal and its resume file, by texts that are alike.
use Rattle.std.proofs.Common.{◌≡◌, ◌∙◌, List, Option, Some, option_map, ℕ, ap, sym, subst}
use Rattle.std.specs.Prelude.{pos, negsuc}
use Rattle.std.specs.Borrow.{Bor}
use Rattle.chpw_resume.specs.ResumeText.{resume_text}
use Rattle.chpw_resume.specs.declared.mark.JournalMark.{JournalMark}
use Rattle.chpw_resume.specs.declared.resume.Resume.{Resume}
use Rattle.chpw_table.specs.declared.request.RequestId.{RequestId}

-- what a run leaves with these used ids, and nothing else
abbrev pub left_with : List ℕ → JournalMark → List RequestId → Resume
left_with realm mark ids = record { realm = realm; journal = mark; carried = record { ids = ids; clock = pos 0; quiet_until = negsuc 0 } }

pub same_left : (realm r : List ℕ) (mark m : JournalMark) (ids i : List RequestId) → realm ≡ r → mark ≡ m → ids ≡ i
    → resume_text (left_with realm mark ids) ≡ resume_text (left_with r m i)
same_left realm r mark m ids i same_realm same_mark same_ids = λ k. resume_text (left_with (same_realm k) (same_mark k) (same_ids k))

pub made_alike : {S : Type 0} (makes : S → List ℕ → Option (List ℕ) → S → Type 0) (old new : S) (journal j resume r : List ℕ)
    (asked : Option (Bor (List ℕ))) (path : Bor (List ℕ)) → journal ≡ j → resume ≡ r → asked ≡ Some path → makes old journal (Some resume) new
    → makes old j (option_map (λ file. r) asked) new
made_alike makes old new journal j resume r asked path same_journal same_resume is made =
    let same : Some resume ≡ option_map (λ file. r) asked =
    ap (λ (text : List ℕ). Some text) same_resume ∙ sym (ap (λ (o : Option (Bor (List ℕ))). option_map (λ file. r) o) is) in
    subst (λ (text : List ℕ). makes old text (option_map (λ file. r) asked) new) same_journal
    (subst (λ (texts : Option (List ℕ)). makes old journal texts new) same made)
