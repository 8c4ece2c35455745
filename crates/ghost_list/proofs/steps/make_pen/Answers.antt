use Rattle.std.proofs.Common.{sym, ◌∙◌, ap}
use Rattle.ghost_list.proofs.StepLemmas.{makes}
use Rattle.ghost_list.proofs.steps.make_pen.Goals as goal

pub compare_exchange-requires : goal.compare_exchange-requires
compare_exchange-requires g c =
    let h = c.requires.head in
    let offer = c.plain-offer.ensures in
    let pen = c.no_pen-pen.ensures in
    let book = sym (ap (λ w. w.book) h) in
    (ap (λ w. w.tracked) h, book, pen.0 ∙ book, offer.0, rw (ap (λ w. w.key) h, pen.1, offer.3) (makes _ c.plain-offer.result.ask))
