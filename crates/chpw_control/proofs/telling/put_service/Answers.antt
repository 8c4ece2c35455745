use Rattle.std.proofs.Common.{◌++◌, ◌∷◌, [], ◌∙◌, List, ℕ, ap, codes, ◌≡◌, false, refl}
use Rattle.std.specs.Fmt.{decimal}
use Rattle.std.specs.Option.{option_map_or}
use Rattle.chpw_printing.specs.Quoting.{words_text}
use Rattle.chpw_control.specs.Answers.{lines_text}
use Rattle.chpw_control.specs.Statuses.{quiet_words, row, text_of}
use Rattle.chpw_control.proofs.AnswerLemmas.{further, at_last}
use Rattle.chpw_control.specs.Dialogs.{is_whole}
use Rattle.chpw_control.proofs.EndingLemmas.{and_line, on_ok, quiet_plain}
use Rattle.chpw_control.proofs.telling.put_service.Goals as goal

pub returns-clause-value : goal.returns-clause-value
returns-clause-value c =
    let s = c.args.status.now in
    let old = c.args.text.now.items in
    let a = row (codes "version") (words_text s.version.now) in
    let b = row (codes "since") (text_of s.since) in
    let d = row (codes "quiet-until") (option_map_or text_of s.quiet_until (codes "-")) in
    let q = row (codes "quiet-reason") (quiet_words s.quiet_until) in
    let e = row (codes "principals") (decimal s.principals) in
    let f = row (codes "iterations") (decimal s.iterations) in
    let until_b = further old c.put_version.new.text.items c.put_since.new.text.items (a ∷ [])
    (b ∷ []) c.in_ok-put_version.ensures.value c.in_ok-put_since.ensures.value in
    let until_d = further old c.put_since.new.text.items c.put_moment.new.text.items (a ∷ b ∷ []) (d ∷ []) until_b c.in_ok-put_moment.ensures.value in
    let quiet = c.in_ok-put_word.ensures.value ∙ ap (λ (word : List ℕ). c.put_moment.new.text.items ++ lines_text (row (codes "quiet-reason") word ∷ []))
    c.quiet_words.ensures.value in
    let until_q = further old c.put_moment.new.text.items c.put_word.new.text.items (a ∷ b ∷ d ∷ []) (q ∷ []) until_d quiet in
    let until_e =
    further old c.put_word.new.text.items c.put_count.new.text.items (a ∷ b ∷ d ∷ q ∷ []) (e ∷ []) until_q c.in_ok-put_count.ensures.value in
    at_last c.put_count-2.result old c.put_count.new.text.items c.put_count-2.new.text.items (a ∷ b ∷ d ∷ q ∷ e ∷ []) (f ∷ []) until_e
    c.put_count-2.ensures.value

pub returns-clause-lines : goal.returns-clause-lines
returns-clause-lines c =
    let s = c.args.status.now in
    let until = option_map_or text_of s.quiet_until (codes "-") in
    let iterations = row (codes "iterations") (decimal s.iterations) ∷ [] in
    let principals = row (codes "principals") (decimal s.principals) ∷ iterations in
    let quiet = row (codes "quiet-reason") (quiet_words s.quiet_until) ∷ principals in
    let moment = row (codes "quiet-until") until ∷ quiet in
    let since = row (codes "since") (text_of s.since) ∷ moment in
    on_ok c.put_count-2.result c.put_count-2.ensures.plain
    (λ (last : is_whole (decimal s.iterations) ≡ false).
    and_line (codes "version") (words_text s.version.now) since refl c.in_ok-put_version.ensures.plain
    (and_line (codes "since") (text_of s.since) moment refl c.in_ok-put_since.ensures.plain
    (and_line (codes "quiet-until") until quiet refl c.in_ok-put_moment.ensures.plain
    (and_line (codes "quiet-reason") (quiet_words s.quiet_until) principals refl (quiet_plain s.quiet_until)
    (and_line (codes "principals") (decimal s.principals) iterations refl c.in_ok-put_count.ensures.plain
    (and_line (codes "iterations") (decimal s.iterations) ([]) refl last refl))))))
