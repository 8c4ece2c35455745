-- How an order of a caller is carried out: at once, with an answer, which is empty if memory was refused; or what is due
-- once the desk is closed.
use Rattle.std.specs.Prelude.{◌≡◌, ◌⊎◌, ℕ, List, [], Option, Some, None, true}
use Rattle.std.specs.Borrow.{Bor}
use Rattle.chpw_control.specs.Answers.{lines_text}
use Rattle.chpw_control.specs.Commands.{Command}
use Rattle.chpw_control.specs.declared.command.Command.TheVariants as command
use Rattle.chpw_control.specs.TakenOrders.{command_in}
use Rattle.chpw_invocation.specs.declared.invocation.ServeOptions.{ServeOptions}
use Rattle.chpw_orders.specs.Answers.{compact_words, done_lines, exposed_words, prepare_words, refused_lines}
use Rattle.chpw_start.specs.Faults.{IsOfClash, line_of}
use Rattle.chpw_orders.specs.Rereading.{IsBase, IsNotBegun, IsNotReadAnew, IsReadAnew}
use Rattle.chpw_orders.specs.declared.compacting.CompactFault.{CompactFault}
use Rattle.chpw_start.specs.declared.fault.ServeFault.{ServeFault}
use Rattle.chpw_start.specs.declared.ownership.Exposure.{Exposure}
use Rattle.chpw_desks.specs.declared.orders.AfterClose.{AfterClose}
use Rattle.chpw_desks.specs.declared.orders.AfterClose.TheVariants as due
use Rattle.chpw_desks.specs.declared.orders.Carried.{Carried}
use Rattle.chpw_desks.specs.declared.orders.Carried.TheVariants.{Answered, Reload, Compact}
use Rattle.chpw_orders.specs.declared.rereading.PrepareFault.{PrepareFault}

-- this reason
abbrev pub Refuses : List ℕ → List ℕ → Type 0
Refuses words text = (text ≡ []) ⊎ (text ≡ lines_text (refused_lines words))

-- what others can do to the file at a path, with strict modes
abbrev pub IsExposed : ServeOptions → List ℕ → List ℕ → Type 0
IsExposed o path text = (o.strict_modes ≡ true) × ((why : Exposure) × Refuses (exposed_words path why) text)

-- a configuration that was read anew is due; or the reason why it can't be reloaded is told, or isn't
abbrev pub BeginsReload : ServeOptions → Carried → Type 0
BeginsReload o (Reload anew) = IsReadAnew o anew
BeginsReload o (Compact compaction) = ⊥
BeginsReload o (Answered text) = IsExposed o o.config.now text.items
    ⊎ ((fault : PrepareFault) × IsNotReadAnew o fault × Refuses (prepare_words fault) text.items)

-- a compact journal is due, over what the configuration in force opens with, with a copy of this name; or the reason why
-- it isn't begun is told
abbrev pub BeginsCompaction : ServeOptions → List ℕ → List ℕ → Carried → Type 0
BeginsCompaction o in_force copy (Reload anew) = ⊥
BeginsCompaction o in_force copy (Compact compaction) = IsBase in_force compaction.base × (compaction.copy ≡ copy)
BeginsCompaction o in_force copy (Answered text) =
    (fault : CompactFault) × IsNotBegun o in_force copy fault × Refuses (compact_words fault) text.items

-- what others can do to the log, with strict modes; there is one
abbrev pub IsExposedLog : ServeOptions → Option (Bor (List ℕ)) → List ℕ → Type 0
IsExposedLog o None text = ⊥
IsExposedLog o (Some log) text = IsExposed o log.now text

-- the log was reopened, or can't be, or isn't
abbrev pub ReopensLog : ServeOptions → Carried → Type 0
ReopensLog o (Reload anew) = ⊥
ReopensLog o (Compact compaction) = ⊥
ReopensLog o (Answered text) = IsExposedLog o o.log text.items ⊎ ((text.items ≡ []) ⊎ ((text.items ≡ lines_text done_lines)
    ⊎ ((fault : ServeFault) × IsOfClash o fault × (text.items ≡ lines_text (refused_lines (line_of fault))))))

-- a file that strict modes refuse
abbrev pub TellsExposed : List ℕ → Exposure → Carried → Type 0
TellsExposed path why (Reload anew) = ⊥
TellsExposed path why (Compact compaction) = ⊥
TellsExposed path why (Answered text) = Refuses (exposed_words path why) text.items

abbrev pub RefusesAtOnce : Carried → Type 0
RefusesAtOnce (Reload anew) = ⊥
RefusesAtOnce (Compact compaction) = ⊥
RefusesAtOnce (Answered text) = (words : List ℕ) × Refuses words text.items

-- a command, while the configuration with this text is in force
abbrev pub IsCarriedOut : ServeOptions → List ℕ → Command → Carried → Type 0
IsCarriedOut o in_force command.Reload carried = BeginsReload o carried
IsCarriedOut o in_force command.ReopenLog carried = ReopensLog o carried
IsCarriedOut o in_force (command.Compact copy) carried = BeginsCompaction o in_force copy carried
IsCarriedOut o in_force command.Status carried = RefusesAtOnce carried
IsCarriedOut o in_force command.Stop carried = RefusesAtOnce carried

-- What is due after a desk is what its own order has begun: a configuration that was read anew by an order to reload, a compact
-- journal by the order of one, with the copy that this names.
abbrev pub IsDueBy : ServeOptions → List ℕ → AfterClose → Type 0
IsDueBy o in_force (due.Reload order anew) = IsCarriedOut o in_force (command_in order) (Reload anew)
IsDueBy o in_force (due.Compact order compaction) = IsCarriedOut o in_force (command_in order) (Compact compaction)

-- so a reload is due by an order to reload alone, and a compact journal by the order of one with that copy
abbrev pub IsOfItsOrder : AfterClose → Type 0
IsOfItsOrder (due.Reload order anew) = command_in order ≡ command.Reload
IsOfItsOrder (due.Compact order compaction) = command_in order ≡ command.Compact compaction.copy

abbrev pub DueByItsOrder : Type 0
DueByItsOrder = (o : ServeOptions) (in_force : List ℕ) (after : AfterClose) → IsDueBy o in_force after → IsOfItsOrder after
