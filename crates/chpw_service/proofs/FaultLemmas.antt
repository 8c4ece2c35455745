-- Faults of a start as faults of the service.
use Rattle.std.proofs.Common.{ℕ, List, inl, inr}
use Rattle.chpw_invocation.specs.declared.invocation.ServeOptions.{ServeOptions}
use Rattle.chpw_start.specs.Faults.{IsLate, IsOfJournal, IsUnread}
use Rattle.chpw_start.specs.Resuming.{IsOfResumption}
use Rattle.chpw_start.specs.declared.fault.ServeFault.{ServeFault}
use Rattle.chpw_start.specs.declared.fault.ServeFault.TheVariants.{CannotRead, Config, Exposed, CannotWrite, Present}
use Rattle.chpw_start.specs.declared.fault.ServeFault.TheVariants.{Journal, CannotListen, CannotListenAt}
use Rattle.chpw_start.specs.declared.fault.ServeFault.TheVariants.{CannotPrint, Memory, CannotClose}
use Rattle.chpw_host.specs.Faults.{IsOfService}

-- a journal that can't be read
unread_journal : (path : List ℕ) (fault : ServeFault) → IsUnread path fault → IsOfJournal path fault
unread_journal path (CannotRead file) h = h
unread_journal path (Config fault) h = absurd h
unread_journal path (Exposed e) h = absurd h
unread_journal path (CannotWrite file) h = absurd h
unread_journal path (Present file) h = absurd h
unread_journal path (Journal fault) h = absurd h
unread_journal path CannotListen h = absurd h
unread_journal path (CannotListenAt socket) h = absurd h
unread_journal path CannotPrint h = absurd h
unread_journal path Memory h = h
unread_journal path CannotClose h = absurd h

-- a journal that must exist and is missing
pub missing_of_service : (o : ServeOptions) (fault : ServeFault) → IsUnread o.journal.now fault → IsOfService o fault
missing_of_service o fault h = inr (inr (inr (inr (inl (unread_journal o.journal.now fault h)))))

-- what a clean end left can't be taken over
pub resumption_of_service : (o : ServeOptions) (fault : ServeFault) → IsOfResumption o fault → IsOfService o fault
resumption_of_service o fault (inl resume) = inr (inr (inr (inr (inr (inl resume)))))
resumption_of_service o fault (inr journal) = inr (inr (inr (inr (inl journal))))

-- the service can't listen
pub late_of_service : (o : ServeOptions) (fault : ServeFault) → IsLate fault → IsOfService o fault
late_of_service o fault h = inr (inr (inr (inr (inr (inr (inr h))))))
