use Rattle.std.proofs.Common.{◌≡◌, ap, slice_get, Some, rules, arith}
use Rattle.std.proofs.lemmas.Option.{slice_get_read}
use Rattle.slab.specs.Slab.{get}
use Rattle.chpw_connections.specs.Held.{slots_of}
use Rattle.chpw_connection.specs.Todos.{todo_in}
use Rattle.chpw_connection.specs.declared.todo.Todo.TheVariants as todo
use Rattle.chpw_sockets.specs.Replying.{post_at}
use Rattle.chpw_sockets.proofs.PostLemmas.{unposted, removed, posted}
use Rattle.chpw_sockets.proofs.places.Sockets.step.Goals as goal

pub returns-then-eq-clause-posted : goal.returns-then-eq-clause-posted
returns-then-eq-clause-posted g c =
    let is : todo_in (get (slots_of c.args.state.now.connections) c.args.slot) ≡ todo.Close = search rules in
    removed _ _ _ _ _ _ _ _ is (ap (post_at g.D.DatagramChannel.left g.D.DatagramChannel.sent) c.close.ensures.unposted)

pub returns-then-slot-len-clause-posted : goal.returns-then-slot-len-clause-posted
returns-then-slot-len-clause-posted g c = unposted _ _ _ _ _ _

pub returns-in-Some-clause-posted : goal.returns-in-Some-clause-posted
returns-in-Some-clause-posted g c =
    let at : slice_get c.args.self.now.by_slot.items c.args.slot ≡ Some (Some c.in-Some.transport) = search (rules, slice_get_read, arith) in
    posted _ c.in-Some.transport _ _ _ _ _ _ _ _ at c.todo-todo.ensures.value c.step.ensures.posted

pub returns-in-None-clause-posted : goal.returns-in-None-clause-posted
returns-in-None-clause-posted g c = unposted _ _ _ _ _ _
