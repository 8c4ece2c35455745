use Rattle.std.proofs.Common.{◌∙◌, subst, sym}
use Rattle.chpw_slots.specs.Waiting.{lists_of, Leaves}
use Rattle.chpw_slots.proofs.HoldsLemmas.{leaves_by, same_by, holds_failed}
use Rattle.chpw_connections.proofs.set.Connections.fail.Goals as goal

pub invariant_of-self-clause-waiting : goal.invariant_of-self-clause-waiting
invariant_of-self-clause-waiting c =
    let queues = lists_of c.args.self.now.queues in
    let left = lists_of c.leave.new.self in
    let slots = c.args.self.now.slots.connections in
    let n = c.waiting_number-number.result in
    holds_failed queues left 0 slots c.change.new.self.connections c.args.slot
    (leaves_by queues left slots n c.args.slot c.waiting_number-number.ensures.waits
    c.waiting_number-number.ensures.none c.leave.ensures.leaves c.args.self.now.waiting)
    c.change.ensures.happens c.args.self.now.waiting

pub returns-clause-leaves : goal.returns-clause-leaves
returns-clause-leaves c =
    let queues = lists_of c.args.self.now.queues in
    let left = lists_of c.leave.new.self in
    let slots = c.args.self.now.slots.connections in
    subst (λ q. Leaves queues q c.args.slot) (sym c.note_where.ensures.queues)
    (leaves_by queues left slots c.waiting_number-number.result c.args.slot c.waiting_number-number.ensures.waits
    c.waiting_number-number.ensures.none c.leave.ensures.leaves c.args.self.now.waiting)

pub returns-clause-same : goal.returns-clause-same
returns-clause-same c none =
    c.note_where.ensures.queues ∙ same_by (lists_of c.args.self.now.queues) (lists_of c.leave.new.self) c.args.self.now.slots.connections
    c.waiting_number-number.result c.args.slot c.waiting_number-number.ensures.waits c.leave.ensures.leaves none
