-- The table with which the next history opens, and the rules by which it is served.
use Rattle.std.specs.Prelude.{◌≡◌, ◌⊎◌, ℕ, List, Option, Some, None}
use Rattle.chpw_reload.specs.Reloading.{IsReloaded}
use Rattle.chpw_reload.specs.declared.reloading.NextTable.{NextTable}
use Rattle.chpw_desks.specs.declared.orders.AfterClose.{AfterClose}
use Rattle.chpw_desks.specs.declared.orders.AfterClose.TheVariants.{Reload, Compact}
use Rattle.chpw_orders.specs.declared.rereading.PendingReload.{PendingReload}
use Rattle.chpw_start.specs.declared.rules.Rules.{Rules}
use Rattle.chpw_table.specs.Agreement.{Held}

-- the table with its used ids, its events and changes counted from 0
abbrev pub reopened : Held → Held
reopened t = record t { events = 0; seen = 0 }

-- the new configuration's rules, with a reload of the closed table; or the present rules, with the closed table
abbrev pub TakesRules : PendingReload → Held → Rules → Rules → Held → Type 0
TakesRules anew closed old new next =
    ((new ≡ anew.rules) × ((bytes : Option (List ℕ)) × ((r : NextTable) × (IsReloaded anew.renewed bytes closed r × (next ≡ r.table)))))
    ⊎ ((new ≡ old) × (next ≡ reopened closed))

-- what was due after a closed desk: a reload; a compact journal, or nothing, and then the rules and the table stay
abbrev pub DoesWhatIsDue : Option AfterClose → Held → Rules → Rules → Held → Type 0
DoesWhatIsDue (Some (Reload order anew)) closed old new next = TakesRules anew closed old new next
DoesWhatIsDue (Some (Compact order compaction)) closed old new next = (new ≡ old) × (next ≡ reopened closed)
DoesWhatIsDue None closed old new next = (new ≡ old) × (next ≡ reopened closed)
