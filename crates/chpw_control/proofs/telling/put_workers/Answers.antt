use Rattle.std.proofs.Common.{◌∷◌, [], codes, ◌≡◌, false, refl}
use Rattle.std.specs.Fmt.{decimal}
use Rattle.chpw_control.specs.Statuses.{row}
use Rattle.chpw_control.proofs.AnswerLemmas.{further, at_last}
use Rattle.chpw_control.specs.Dialogs.{is_whole}
use Rattle.chpw_control.proofs.EndingLemmas.{and_line, on_ok}
use Rattle.chpw_control.proofs.telling.put_workers.Goals as goal

pub returns-clause-value : goal.returns-clause-value
returns-clause-value c =
    let s = c.args.status.now in
    let old = c.args.text.now.items in
    let a = row (codes "workers") (decimal s.workers) in
    let b = row (codes "busy") (decimal s.busy) in
    let d = row (codes "queue") (decimal s.queue) in
    let until_b = further old c.put_count.new.text.items c.put_count-2.new.text.items (a ∷ [])
    (b ∷ []) c.in_ok-put_count.ensures.value c.in_ok-put_count-2.ensures.value in
    at_last c.put_count-3.result old c.put_count-2.new.text.items c.put_count-3.new.text.items (a ∷ b ∷ []) (d ∷ []) until_b c.put_count-3.ensures.value

pub returns-clause-lines : goal.returns-clause-lines
returns-clause-lines c =
    let s = c.args.status.now in
    on_ok c.put_count-3.result c.put_count-3.ensures.plain
    (λ (last : is_whole (decimal s.queue) ≡ false).
    and_line (codes "workers") (decimal s.workers) (row (codes "busy") (decimal s.busy)
    ∷ row (codes "queue") (decimal s.queue) ∷ []) refl c.in_ok-put_count.ensures.plain
    (and_line (codes "busy") (decimal s.busy) (row (codes "queue") (decimal s.queue)
    ∷ []) refl c.in_ok-put_count-2.ensures.plain (and_line (codes "queue") (decimal s.queue) ([]) refl last refl)))
