use Rattle.std.proofs.Common.{◌∷◌, [], codes, ◌≡◌, false, refl}
use Rattle.std.specs.Fmt.{decimal}
use Rattle.chpw_control.specs.Statuses.{row}
use Rattle.chpw_control.proofs.AnswerLemmas.{further, at_last}
use Rattle.chpw_control.specs.Dialogs.{is_whole}
use Rattle.chpw_control.proofs.EndingLemmas.{and_line, on_ok}
use Rattle.chpw_control.proofs.telling.put_connections.Goals as goal

pub returns-clause-value : goal.returns-clause-value
returns-clause-value c =
    let s = c.args.status.now in
    let old = c.args.text.now.items in
    let a = row (codes "connections") (decimal s.connections) in
    let b = row (codes "reading") (decimal s.reading) in
    let d = row (codes "waiting") (decimal s.waiting) in
    let e = row (codes "answering") (decimal s.answering) in
    let f = row (codes "confirming") (decimal s.confirming) in
    let g = row (codes "writing") (decimal s.writing) in
    let h = row (codes "ending") (decimal s.ending) in
    let until_b = further old c.put_count.new.text.items c.put_count-2.new.text.items (a ∷ [])
    (b ∷ []) c.in_ok-put_count.ensures.value c.in_ok-put_count-2.ensures.value in
    let until_d = further old c.put_count-2.new.text.items c.put_count-3.new.text.items (a ∷ b ∷ []) (d ∷ []) until_b c.in_ok-put_count-3.ensures.value in
    let until_e = further old c.put_count-3.new.text.items c.put_count-4.new.text.items (a ∷ b ∷ d ∷ []) (e ∷ []) until_d c.in_ok-put_count-4.ensures.value in
    let until_f = further old c.put_count-4.new.text.items c.put_count-5.new.text.items (a ∷ b ∷ d ∷ e ∷ [])
    (f ∷ []) until_e c.in_ok-put_count-5.ensures.value in
    let until_g = further old c.put_count-5.new.text.items c.put_count-6.new.text.items (a ∷ b ∷ d ∷ e ∷ f ∷ [])
    (g ∷ []) until_f c.in_ok-put_count-6.ensures.value in
    at_last c.put_count-7.result old c.put_count-6.new.text.items c.put_count-7.new.text.items (a
    ∷ b ∷ d ∷ e ∷ f ∷ g ∷ []) (h ∷ []) until_g c.put_count-7.ensures.value

pub returns-clause-lines : goal.returns-clause-lines
returns-clause-lines c =
    let s = c.args.status.now in
    on_ok c.put_count-7.result c.put_count-7.ensures.plain
    (λ (last : is_whole (decimal s.ending) ≡ false).
    and_line (codes "connections") (decimal s.connections) (row (codes "reading") (decimal s.reading)
    ∷ row (codes "waiting") (decimal s.waiting) ∷ row (codes "answering") (decimal s.answering)
    ∷ row (codes "confirming") (decimal s.confirming) ∷ row (codes "writing") (decimal s.writing)
    ∷ row (codes "ending") (decimal s.ending) ∷ []) refl c.in_ok-put_count.ensures.plain
    (and_line (codes "reading") (decimal s.reading) (row (codes "waiting") (decimal s.waiting) ∷ row (codes "answering")
    (decimal s.answering) ∷ row (codes "confirming") (decimal s.confirming) ∷ row (codes "writing")
    (decimal s.writing) ∷ row (codes "ending") (decimal s.ending) ∷ []) refl c.in_ok-put_count-2.ensures.plain
    (and_line (codes "waiting") (decimal s.waiting) (row (codes "answering") (decimal s.answering)
    ∷ row (codes "confirming") (decimal s.confirming) ∷ row (codes "writing") (decimal s.writing)
    ∷ row (codes "ending") (decimal s.ending) ∷ []) refl c.in_ok-put_count-3.ensures.plain
    (and_line (codes "answering") (decimal s.answering) (row (codes "confirming") (decimal s.confirming)
    ∷ row (codes "writing") (decimal s.writing) ∷ row (codes "ending") (decimal s.ending) ∷ []) refl
    c.in_ok-put_count-4.ensures.plain (and_line (codes "confirming") (decimal s.confirming) (row (codes "writing")
    (decimal s.writing) ∷ row (codes "ending") (decimal s.ending) ∷ []) refl c.in_ok-put_count-5.ensures.plain
    (and_line (codes "writing") (decimal s.writing) (row (codes "ending") (decimal s.ending) ∷ [])
    refl c.in_ok-put_count-6.ensures.plain (and_line (codes "ending") (decimal s.ending) ([]) refl last refl)))))))
