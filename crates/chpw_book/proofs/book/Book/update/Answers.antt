use Rattle.std.proofs.Common.{rules, sym, ◌∙◌}
use mathlib.Core.List.{IsPrefix}
use Rattle.chpw_changelog.specs.Pens.{opening_state}
use Rattle.chpw_book.proofs.PublishLemmas.{published_next, accepted_next, list_room, adds_next}
use Rattle.chpw_book.proofs.book.Book.update.Goals as goal

pub tell-requires-clause-room : goal.tell-requires-clause-room
tell-requires-clause-room g c =
    list_room (opening_state g.D.LogName.root) g.D.DeskName.workers g.D.DeskName.prior c.self.inside.recorded c.update.new.self _
    _ c.has.new.self _ _ _ (rw c.has.ensures.same c.self.invariant) c.in_ok-verdict.ensures.recorded

pub tell-requires-clause-accepted : goal.tell-requires-clause-accepted
tell-requires-clause-accepted g c done =
    accepted_next (opening_state g.D.LogName.root) g.D.DeskName.workers g.D.DeskName.prior c.self.inside.recorded c.update.new.self _
    _ c.has.new.self _ _ _ (rw c.has.ensures.same c.self.invariant) c.in_ok-verdict.ensures.recorded (sym c.is_taken.ensures.value ∙ done)

pub invariant_of-self-2 : goal.invariant_of-self-2
invariant_of-self-2 g c =
    rw (c.tell.ensures.snapshots, c.is_taken.ensures.value) (published_next (opening_state g.D.LogName.root)
    g.D.DeskName.workers g.D.DeskName.prior c.self.inside.recorded c.update.new.self _ _ c.has.new.self _ _ _
    (rw c.has.ensures.same c.self.invariant) c.in_ok-verdict.ensures.recorded)

pub returns-clause-adds : goal.returns-clause-adds
unfolding invariant_of-self-2
returns-clause-adds g c =
    let begins : IsPrefix c.args.pass.now.place.told c.has.new.self.list = search rules in
    rw (← c.self.view_is)
    (adds_next (opening_state g.D.LogName.root) g.D.DeskName.workers g.D.DeskName.prior c.self.inside.recorded c.update.new.self _
    _ c.tell.new.pass c.has.new.self _ c.tell.new.snapshots _ _ (rw c.has.ensures.same c.self.invariant)
    c.in_ok-verdict.ensures.recorded (invariant_of-self-2 g c) begins (rw c.is_taken.ensures.value at c.tell.ensures.pass))
