use Rattle.std.proofs.Common.{◌≡◌, ◌++◌, ◌∷◌, [], sym, ◌∙◌, ap}
use Rattle.ghost_list.specs.Pens.{pen_after}
use Rattle.ghost_list.specs.Rules.{head_of}
use Rattle.ghost_list.proofs.ListLemmas.{added, added_later}
use Rattle.ghost_list.proofs.list.GhostList.append.Goals as goal

pub invariant_of-self : goal.invariant_of-self
invariant_of-self g c =
    let i = c.self.invariant in
    let made = c.make_pen-word.ensures in
    let old = c.replace-pen.ensures in
    let same = c.spend_pen.ensures.book ∙ made.book.0 in
    let is : pen_after c.self.inside.first.key c.self.inside.seen.log ≡ c.replace-pen.result.nib.key = sym i.3 ∙ sym (ap (λ p. p.nib.key) old.value) in
    let line = added_later _ c.self.inside.seen.log _ _ made.unspent.0 c.spend_pen.ensures.added in
    let a = added c.self.inside.first.key c.args.entry.now _ _ c.self.inside.seen.log c.spend_pen.new.seen.log is line in (
      i.0 ∙ ap head_of (sym same),
      ap (λ p. p.book) old.after ∙ (made.book.1 ∙ sym same),
      ap (λ p. p.nib.right) old.after ∙ made.pen.0,
      sym a.1,
    )

pub returns : goal.returns
returns g c =
    let made = c.make_pen-word.ensures in
    let old = c.replace-pen.ensures in
    let is : pen_after c.self.inside.first.key c.self.inside.seen.log ≡ c.replace-pen.result.nib.key =
    sym c.self.invariant.3 ∙ sym (ap (λ p. p.nib.key) old.value) in
    let line = added_later _ c.self.inside.seen.log _ _ made.unspent.0 c.spend_pen.ensures.added in
    let a = added c.self.inside.first.key c.args.entry.now _ _ c.self.inside.seen.log c.spend_pen.new.seen.log is line in
    record { value = a.0 ∙ ap (λ w. w ++ c.args.entry.now ∷ []) c.self.view_is }
