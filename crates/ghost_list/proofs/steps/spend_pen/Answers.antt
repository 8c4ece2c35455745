use Rattle.std.proofs.Common.{sym, ◌∙◌, ap}
use Rattle.ghost_list.proofs.StepLemmas.{appends}
use Rattle.ghost_list.proofs.steps.spend_pen.Goals as goal

pub compare_exchange-requires : goal.compare_exchange-requires
compare_exchange-requires g c =
    let h = c.requires.book.0 in
    let offer = c.plain-offer.ensures in
    let book = sym (ap (λ w. w.book) h) in (
      ap (λ w. w.tracked) h,
      book,
      c.requires.book.1 ∙ book,
      offer.0,
      rw (ap (λ w. w.key) h, offer.3) (appends _ _ c.plain-offer.result.ask c.requires.pen (ap (λ l. l.by) offer.1)),
    )
