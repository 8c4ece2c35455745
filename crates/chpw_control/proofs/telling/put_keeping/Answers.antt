use Rattle.std.proofs.Common.{◌≡◌, ◌++◌, ◌∷◌, [], ◌∙◌, List, ℕ, OnOk, ap, codes, false, refl, subst}
use Rattle.std.specs.Fmt.{decimal}
use Rattle.chpw_control.specs.Answers.{lines_text}
use Rattle.chpw_control.specs.Statuses.{journal_text, name_word, row}
use Rattle.chpw_control.proofs.AnswerLemmas.{further, at_last}
use Rattle.chpw_control.proofs.EndingLemmas.{always, and_line, name_plain}
use Rattle.chpw_control.proofs.telling.put_keeping.Goals as goal

pub returns-clause-value : goal.returns-clause-value
returns-clause-value c =
    let s = c.args.status.now in
    let old = c.args.text.now.items in
    let one = c.put_count.new.text.items in
    let two = c.put_journal.new.text.items in
    let three = c.put_word.new.text.items in
    let four = c.put_count-2.new.text.items in
    let five = c.put_word-2.new.text.items in
    let a = row (codes "journal-bytes") (decimal s.journal_bytes) in
    let b = row (codes "journal") (journal_text s.journal) in
    let d = row (codes "journal-name") (name_word s.journal_name) in
    let e = row (codes "log-lost") (decimal s.log_lost) in
    let f = row (codes "log-name") (name_word s.log_name) in
    let named = c.in_ok-put_word.ensures.value ∙ ap (λ (word : List ℕ). two ++ lines_text (row (codes "journal-name") word ∷ [])) c.word.ensures.value in
    let last = subst (λ (word : List ℕ). OnOk c.put_word-2.result (five ≡ four ++ lines_text (row (codes "log-name") word ∷ [])))
    c.word-2.ensures.value c.put_word-2.ensures.value in
    let until_two = further old one two (a ∷ []) (b ∷ []) c.in_ok-put_count.ensures.value c.in_ok-put_journal.ensures.value in
    let until_three = further old two three (a ∷ b ∷ []) (d ∷ []) until_two named in
    let until_four = further old three four (a ∷ b ∷ d ∷ []) (e ∷ []) until_three c.in_ok-put_count-2.ensures.value in
    at_last c.put_word-2.result old four five (a ∷ b ∷ d ∷ e ∷ []) (f ∷ []) until_four last

pub returns-clause-lines : goal.returns-clause-lines
returns-clause-lines c =
    let s = c.args.status.now in
    let log = row (codes "log-name") (name_word s.log_name) ∷ [] in
    let lost = row (codes "log-lost") (decimal s.log_lost) ∷ log in
    let named = row (codes "journal-name") (name_word s.journal_name) ∷ lost in
    let journal = row (codes "journal") (journal_text s.journal) ∷ named in
    always c.put_word-2.result
    (and_line (codes "journal-bytes") (decimal s.journal_bytes) journal refl c.in_ok-put_count.ensures.plain
    (and_line (codes "journal") (journal_text s.journal) named refl c.in_ok-put_journal.ensures.plain
    (and_line (codes "journal-name") (name_word s.journal_name) lost refl (name_plain s.journal_name)
    (and_line (codes "log-lost") (decimal s.log_lost) log refl c.in_ok-put_count-2.ensures.plain
    (and_line (codes "log-name") (name_word s.log_name) ([]) refl (name_plain s.log_name) refl)))))
