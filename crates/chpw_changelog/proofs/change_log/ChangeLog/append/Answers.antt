use Rattle.std.proofs.Common.{◌≡◌, ◌++◌, ◌∷◌, [], length, sym, ◌∙◌, ap, arith, length-append}
use Rattle.chpw_changelog.specs.Changes.{named}
use Rattle.chpw_changelog.specs.Pens.{first_pen, opening_state, changes_in, pen_after}
use Rattle.chpw_changelog.proofs.ListLemmas.{added}
use Rattle.chpw_changelog.proofs.change_log.ChangeLog.append.Goals as goal

pub invariant_of-self : goal.invariant_of-self
invariant_of-self g c =
    let i = c.self.invariant in
    let l = c.spend_pen.ensures.added in
    let is : pen_after (first_pen g.D.LogName.root) c.self.inside.seen.log ≡ c.replace-pen.result.nib.key =
    sym i.5 ∙ sym (ap (λ p. p.nib.key) c.replace-pen.ensures.value) in
    let a = added (first_pen g.D.LogName.root) c.self.inside.seen.log l.0 c.spend_pen.new.seen.log _ is l.1 l.2 l.3 in
    let long = ap length a.0 ∙ length-append (changes_in g.D.LogName.root c.self.inside.seen.log)
    (named (opening_state g.D.LogName.root) c.args.change ∷ []) in (
      omega (arith, i.0, long),
      c.spend_pen.ensures.book ∙ i.1,
      i.2,
      ap (λ p. p.book) c.replace-pen.ensures.after
          ∙ (c.make_pen-fresh.ensures.pen.0 ∙ i.1),
      ap (λ p. p.nib.right) c.replace-pen.ensures.after
          ∙ c.make_pen-fresh.ensures.pen.1,
      sym a.1,
      λ h. (changes_in g.D.LogName.root c.self.inside.seen.log, a.0),
    )

pub returns : goal.returns
returns g c =
    let i = c.self.invariant in
    let l = c.spend_pen.ensures.added in
    let is : pen_after (first_pen g.D.LogName.root) c.self.inside.seen.log ≡ c.replace-pen.result.nib.key =
    sym i.5 ∙ sym (ap (λ p. p.nib.key) c.replace-pen.ensures.value) in
    let a = added (first_pen g.D.LogName.root) c.self.inside.seen.log l.0 c.spend_pen.new.seen.log _ is l.1 l.2 l.3 in
    record { value = a.0 ∙ ap (λ w. w ++ named (opening_state g.D.LogName.root) c.args.change ∷ []) c.self.view_is }
