-- What is due after a desk.
use Rattle.std.proofs.Common.{◌≡◌, ℕ, List, refl, ap, sym}
use Rattle.chpw_control.specs.Commands.{Command}
use Rattle.chpw_control.specs.declared.command.Command.TheVariants as command
use Rattle.chpw_invocation.specs.declared.invocation.ServeOptions.{ServeOptions}
use Rattle.chpw_control.specs.TakenOrders.{command_in}
use Rattle.chpw_desks.specs.Orders.{DueByItsOrder, IsCarriedOut}
use Rattle.chpw_orders.specs.Rereading.{IsBase, IsReadAnew}
use Rattle.chpw_orders.specs.declared.compacting.Compaction.{Compaction}
use Rattle.chpw_desks.specs.declared.orders.AfterClose.TheVariants as due
use Rattle.chpw_desks.specs.declared.orders.Carried.TheVariants.{Reload, Compact}
use Rattle.chpw_orders.specs.declared.rereading.PendingReload.{PendingReload}

-- a reload is begun by an order to reload alone
pub reload_by : (o : ServeOptions) (in_force : List ℕ) (order : Command) (anew : PendingReload)
    → IsCarriedOut o in_force order (Reload anew) → (order ≡ command.Reload) × IsReadAnew o anew
reload_by o in_force command.Reload anew h = (refl, h)
reload_by o in_force command.ReopenLog anew h = absurd h
reload_by o in_force (command.Compact copy) anew h = absurd h
reload_by o in_force command.Status anew h = absurd h
reload_by o in_force command.Stop anew h = absurd h

-- and a compact journal by the order of one with that copy
pub compact_by : (o : ServeOptions) (in_force : List ℕ) (order : Command) (compaction : Compaction)
    → IsCarriedOut o in_force order (Compact compaction) → (order ≡ command.Compact compaction.copy) × IsBase in_force compaction.base
compact_by o in_force command.Reload compaction h = absurd h
compact_by o in_force command.ReopenLog compaction h = absurd h
compact_by o in_force (command.Compact copy) compaction h = (ap (λ (name : List ℕ). command.Compact name) (sym h.1), h.0)
compact_by o in_force command.Status compaction h = absurd h
compact_by o in_force command.Stop compaction h = absurd h

pub due_by_its_order : DueByItsOrder
due_by_its_order o in_force (due.Reload order anew) h = (reload_by o in_force (command_in order) anew h).0
due_by_its_order o in_force (due.Compact order compaction) h = (compact_by o in_force (command_in order) compaction h).0
