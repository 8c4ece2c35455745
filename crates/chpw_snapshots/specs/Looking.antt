-- A lookup beside the lock: what it shows, and what its place knows afterwards.
use Rattle.std.specs.Prelude.{◌≡◌, ◌≤◌, List, ◌++◌, false, Option, IfSome, IsSomeAnd, All}
use mathlib.Core.List.{IsPrefix}
use Rattle.chpw_rules.specs.declared.name.Name.{Name}
use Rattle.chpw_table.specs.declared.table.Lookup.{Lookup}
use Rattle.chpw_table.specs.Agreement.{Held}
use Rattle.chpw_table.specs.declared.change.AcceptedChange.{AcceptedChange}
use Rattle.chpw_snapshots.specs.Known.{Known}
use Rattle.chpw_snapshots.specs.Rows.{lookup_after}
use Rattle.chpw_snapshots.specs.Rising.{is_removed}
use Rattle.chpw_snapshots.specs.Histories.{AreAccepted}

-- A lookup of this name at a place that knew `mine`, and then knows `more`.
pub record LooksUp (opening : Held) (mine more : Known) (name : Name) (found : Option Lookup) : Type 0 where
  -- the list that it shows begins with the one that the lookup before showed
  pub later : IsPrefix mine.seen more.seen
  -- and with all that the place has learnt
  pub after : IsPrefix mine.told more.seen
  -- that list is the accepted changes of a legal history from the opening, already when it is shown
  pub accepted : AreAccepted opening.state more.seen
  -- it shows what the opening and that list show of the name
  pub shown : found ≡ lookup_after opening more.seen name
  -- Whatever version a beginning of that list shows of the name, it shows that one or a later one, unless the name was removed
  -- since. So no lookup shows an older version than one before it, until its name is removed.
  pub rises : (before since : List AcceptedChange) → before ++ since ≡ more.seen → is_removed name since ≡ false →
      IfSome (lookup_after opening before name) (λ earlier. IsSomeAnd found (λ now. earlier.kvno ≤ now.kvno))
  -- its iteration counts are at least 1
  pub positive : IfSome found (λ l. (1 ≤ l.policy) × All (λ n. 1 ≤ n) l.held)
  -- what the place has learnt stays
  pub told : (more.told ≡ mine.told) × (more.own ≡ mine.own)
