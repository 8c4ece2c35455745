-- The answer of a call that may run out of memory.
use Rattle.std.specs.Prelude.{Result, Ok, Err}
use Rattle.krb_msgs.specs.declared.fault.OpenError.{OpenError}
use Rattle.krb_msgs.specs.declared.fault.OpenError.TheVariants as errors

-- a fact about an answer holds, unless memory ran out
abbrev pub Answers : {X F : Type 0} → (Result X F → Type 0) → Result X (OpenError F) → Type 0
Answers said (Ok x) = said (Ok x)
Answers said (Err (errors.Fault f)) = said (Err f)
Answers said (Err errors.Memory) = Unit {0}
