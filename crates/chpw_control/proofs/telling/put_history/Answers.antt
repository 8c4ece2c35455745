use Rattle.std.proofs.Common.{◌∷◌, [], codes, ◌≡◌, false, refl}
use Rattle.std.specs.Fmt.{decimal}
use Rattle.chpw_control.specs.Statuses.{row}
use Rattle.chpw_control.proofs.AnswerLemmas.{further, at_last}
use Rattle.chpw_control.specs.Dialogs.{is_whole}
use Rattle.chpw_control.proofs.EndingLemmas.{and_line, on_ok}
use Rattle.chpw_control.proofs.telling.put_history.Goals as goal

pub returns-clause-value : goal.returns-clause-value
returns-clause-value c =
    let s = c.args.status.now in
    let old = c.args.text.now.items in
    let a = row (codes "entries") (decimal s.entries) in
    let b = row (codes "changes") (decimal s.changes) in
    let d = row (codes "all-entries") (decimal s.all_entries) in
    let e = row (codes "all-changes") (decimal s.all_changes) in
    let until_b = further old c.put_count.new.text.items c.put_count-2.new.text.items (a ∷ [])
    (b ∷ []) c.in_ok-put_count.ensures.value c.in_ok-put_count-2.ensures.value in
    let until_d = further old c.put_count-2.new.text.items c.put_count-3.new.text.items (a ∷ b ∷ []) (d ∷ []) until_b c.in_ok-put_count-3.ensures.value in
    at_last c.put_count-4.result old c.put_count-3.new.text.items c.put_count-4.new.text.items (a ∷ b ∷ d ∷ []) (e ∷ []) until_d c.put_count-4.ensures.value

pub returns-clause-lines : goal.returns-clause-lines
returns-clause-lines c =
    let s = c.args.status.now in
    on_ok c.put_count-4.result c.put_count-4.ensures.plain
    (λ (last : is_whole (decimal s.all_changes) ≡ false).
    and_line (codes "entries") (decimal s.entries)
    (row (codes "changes") (decimal s.changes) ∷ row (codes "all-entries") (decimal s.all_entries)
    ∷ row (codes "all-changes") (decimal s.all_changes) ∷ []) refl c.in_ok-put_count.ensures.plain
    (and_line (codes "changes") (decimal s.changes)
    (row (codes "all-entries") (decimal s.all_entries) ∷ row (codes "all-changes") (decimal s.all_changes)
    ∷ []) refl c.in_ok-put_count-2.ensures.plain (and_line (codes "all-entries") (decimal s.all_entries)
    (row (codes "all-changes") (decimal s.all_changes) ∷ []) refl c.in_ok-put_count-3.ensures.plain
    (and_line (codes "all-changes") (decimal s.all_changes) ([]) refl last refl))))
