use Rattle.std.proofs.Common.{refl, sym, ◌∙◌, ap}
use Rattle.ghost_list.specs.Pens.{written_by, pen_after}
use Rattle.ghost_list.proofs.ListLemmas.{unspent_written, unspent_pen}
use Rattle.ghost_list.proofs.list.GhostList.new.Goals as goal

pub invariant_of-result : goal.invariant_of-result
invariant_of-result g c =
    let opened = c.open-seen.ensures in
    let made = c.make_pen-first.ensures in
    let log = c.make_pen-first.new.seen.log in (
      rw (c.tracked-head.ensures.0, opened.4, opened.2, made.book.0) refl,
      made.book.1 ∙ sym made.book.0,
      made.pen.0,
      sym (ap (λ k. pen_after k log) made.pen.1 ∙ unspent_pen _ log made.unspent.1),
    )

pub returns : goal.returns
returns g c =
    let made = c.make_pen-first.ensures in
    let log = c.make_pen-first.new.seen.log in
    record { value = ap (λ k. written_by k log) made.pen.1 ∙ unspent_written _ log made.unspent.1 }
