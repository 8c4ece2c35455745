-- Why the service ends early: beside a start's faults, those of its control socket and its pool.
use Rattle.std.specs.Prelude.{◌≡◌, ◌⊎◌, ℕ, List, Option, Some, None}
use Rattle.std.specs.Borrow.{Bor}
use Rattle.chpw_sockets.specs.declared.pool_fault.PoolFault.{PoolFault}
use Rattle.chpw_sockets.specs.declared.pool_fault.PoolFault.TheVariants as pool
use Rattle.chpw_invocation.specs.declared.invocation.ServeOptions.{ServeOptions}
use Rattle.chpw_start.specs.declared.fault.ServeFault.{ServeFault}
use Rattle.chpw_start.specs.declared.fault.ServeFault.TheVariants.{CannotListen, CannotListenAt}
use Rattle.chpw_start.specs.declared.fault.ServeFault.TheVariants.{CannotPrint, Memory, CannotClose}
use Rattle.chpw_host.specs.declared.late_fault.LateFault.{LateFault}
use Rattle.chpw_host.specs.declared.late_fault.LateFault.TheVariants as late
use Rattle.chpw_start.specs.Resuming.{IsOfResume}
use Rattle.chpw_start.specs.Faults.{IsLate, IsOfJournal, IsOfLog, IsOfModes, IsOfNames, IsOfSettings, IsUnread}

-- the fault of the control socket, if there is one: the service can't listen at it
abbrev pub IsOfControl : Option (Bor (List ℕ)) → ServeFault → Type 0
IsOfControl None fault = ⊥
IsOfControl (Some path) (CannotListenAt socket) = socket.now ≡ path.now
IsOfControl (Some path) fault = ⊥

-- the late fault as one of the service's
abbrev pub late_fault : LateFault → ServeFault
late_fault late.CannotListen = CannotListen
late_fault late.CannotPrint = CannotPrint
late_fault late.Memory = Memory
late_fault late.CannotClose = CannotClose

-- a fault of a service with these files
abbrev pub IsOfService : ServeOptions → ServeFault → Type 0
IsOfService o fault = (IsOfSettings o.config.now fault ⊎ ((bytes : List ℕ) × IsOfNames bytes fault)) ⊎ (IsUnread o.seed.now fault ⊎ (IsOfModes o fault
    ⊎ (IsOfLog o.log fault ⊎ (IsOfJournal o.journal.now fault ⊎ (IsOfResume o.resume fault ⊎ (IsOfControl o.control fault ⊎ IsLate fault))))))

-- the fault of the service for a pool that ended early
abbrev pub told_as : PoolFault → ServeFault
told_as pool.Accept = CannotListen
told_as pool.Start = Memory
told_as pool.Memory = Memory
