use Rattle.std.proofs.Common.{◌≡◌, ◌++◌, ◌∷◌, [], ◌∙◌, List, ℕ, ap, codes, false, refl}
use Rattle.std.specs.Prelude.{option_map}
use Rattle.std.specs.Fmt.{decimal}
use Rattle.std.specs.Option.{option_map_or}
use Rattle.chpw_control.specs.Answers.{lines_text}
use Rattle.chpw_control.specs.Dialogs.{is_whole}
use Rattle.chpw_control.specs.Statuses.{kdc_word, refused_text, row, text_of}
use Rattle.chpw_control.proofs.AnswerLemmas.{further, at_last}
use Rattle.chpw_control.proofs.EndingLemmas.{and_line, kdc_plain, on_ok}
use Rattle.chpw_control.proofs.telling.put_kdc.Goals as goal

pub returns-clause-value : goal.returns-clause-value
returns-clause-value c =
    let s = c.args.status.now in
    let old = c.args.text.now.items in
    let one = c.put_word.new.text.items in
    let two = c.put_moment.new.text.items in
    let three = c.put_count.new.text.items in
    let a = row (codes "kdc") (kdc_word s.kdc) in
    let b = row (codes "kdc-since") (option_map_or text_of s.kdc_since (codes "-")) in
    let d = row (codes "kdc-behind") (decimal s.kdc_behind) in
    let e = row (codes "kdc-refused") (refused_text (option_map (λ text. text.now) s.kdc_refused)) in
    let kdc = c.in_ok-put_word.ensures.value ∙ ap (λ (word : List ℕ). old ++ lines_text (row (codes "kdc") word ∷ [])) c.word.ensures.value in
    let until_two = further old one two (a ∷ []) (b ∷ []) kdc c.in_ok-put_moment.ensures.value in
    let until_three = further old two three (a ∷ b ∷ []) (d ∷ []) until_two c.in_ok-put_count.ensures.value in
    at_last c.put_refused.result old three c.put_refused.new.text.items (a ∷ b ∷ d ∷ []) (e ∷ []) until_three c.put_refused.ensures.value

pub returns-clause-lines : goal.returns-clause-lines
returns-clause-lines c =
    let s = c.args.status.now in
    let since = option_map_or text_of s.kdc_since (codes "-") in
    on_ok c.put_refused.result c.put_refused.ensures.plain
    (λ (last : is_whole (refused_text (option_map (λ text. text.now) s.kdc_refused)) ≡ false).
    and_line (codes "kdc") (kdc_word s.kdc)
    (row (codes "kdc-since") since ∷ row (codes "kdc-behind") (decimal s.kdc_behind) ∷ row (codes "kdc-refused") (refused_text (option_map
    (λ text. text.now) s.kdc_refused)) ∷ [])
    refl (kdc_plain s.kdc)
    (and_line (codes "kdc-since") since
    (row (codes "kdc-behind") (decimal s.kdc_behind) ∷ row (codes "kdc-refused") (refused_text (option_map (λ text. text.now)
    s.kdc_refused)) ∷ []) refl c.in_ok-put_moment.ensures.plain
    (and_line (codes "kdc-behind") (decimal s.kdc_behind) (row (codes "kdc-refused") (refused_text (option_map (λ text. text.now)
    s.kdc_refused)) ∷ []) refl c.in_ok-put_count.ensures.plain
    (and_line (codes "kdc-refused") (refused_text (option_map (λ text. text.now) s.kdc_refused)) ([]) refl last refl))))
