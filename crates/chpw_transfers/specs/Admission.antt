-- What becomes of a connection that has come.
use Rattle.std.specs.Prelude.{ℕ, Bool, true, false}
use Rattle.chpw_transfers.specs.declared.entrance.Newcomer.{Newcomer}
use Rattle.chpw_transfers.specs.declared.entrance.Admission.{Admission}
use Rattle.chpw_transfers.specs.declared.entrance.Admission.TheVariants.{Admitted, Refused, Waits}

-- a fact for its slot, if it is admitted
abbrev pub IfAdmitted : Admission → (ℕ → Type 0) → Type 0
IfAdmitted (Admitted slot) P = P slot
IfAdmitted Refused P = Unit {0}
IfAdmitted (Waits newcomer) P = Unit {0}

-- a fact for it, if it waits
abbrev pub IfWaits : Admission → (Newcomer → Type 0) → Type 0
IfWaits (Admitted slot) P = Unit {0}
IfWaits Refused P = Unit {0}
IfWaits (Waits newcomer) P = P newcomer

abbrev pub is_admitted : Admission → Bool
is_admitted (Admitted slot) = true
is_admitted Refused = false
is_admitted (Waits newcomer) = false

abbrev pub is_refused : Admission → Bool
is_refused (Admitted slot) = false
is_refused Refused = true
is_refused (Waits newcomer) = false

abbrev pub waits : Admission → Bool
waits (Admitted slot) = false
waits Refused = false
waits (Waits newcomer) = true
