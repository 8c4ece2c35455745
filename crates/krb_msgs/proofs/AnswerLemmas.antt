-- What an answer tells of the checks that gave it.
use Rattle.std.proofs.Common.{◌≡◌, rules, sym, subst, Result, Ok, Err}
use Rattle.std.specs.Result.{IsErrAnd}
use Rattle.krb_msgs.specs.declared.fault.OpenError.{OpenError}
use Rattle.krb_msgs.specs.declared.fault.OpenError.TheVariants as errors
use Rattle.krb_msgs.specs.Answers.{Answers}

-- ---- answers that are the same

abbrev good : {A : Type 0} (F : Type 0) → A → Result A F
good F v = Ok v

abbrev bad : {F : Type 0} (A : Type 0) → F → Result A F
bad A e = Err e

pub ok_is : {A F : Type 0} (v w : A) → good F v ≡ good F w → v ≡ w
ok_is v w e = cc

pub err_is : {A F : Type 0} (e f : F) → bad A e ≡ bad A f → e ≡ f
err_is e f same = cc

pub ok_err : {A F : Type 0} {v : A} {e : F} → Ok v ≡ Err e → ⊥
ok_err h = search rules

-- ---- answers that are passed on

-- a fault of the first checks, or want of memory, is passed on
passes_err : {A X F : Type 0} (first : Result A F → Type 0) (whole : Result X F → Type 0)
    → ((f : F) → first (Err f) → whole (Err f))
    → (e : OpenError F) → Answers first (Err e) → Answers whole (Err e)
passes_err first whole step (errors.Fault f) h = step f h
passes_err first whole step errors.Memory h = tt

-- what a `?` returns
pub passes_on : {A X F : Type 0} (first : Result A F → Type 0) (whole : Result X F → Type 0)
    → ((f : F) → first (Err f) → whole (Err f))
    → (e : OpenError F) (answer : Result X (OpenError F)) → IsErrAnd answer (λ y. y ≡ e)
    → Answers first (Err e) → Answers whole answer
passes_on first whole step e (Ok x) same h = absurd same
passes_on first whole step e (Err y) same h =
    subst (λ z. Answers whole (Err z)) (sym same) (passes_err first whole step e h)

-- checks that say less of the same answer
pub says : {X F : Type 0} (first whole : Result X F → Type 0)
    → ((r : Result X F) → first r → whole r)
    → (answer : Result X (OpenError F)) → Answers first answer → Answers whole answer
says first whole step (Ok x) h = step (Ok x) h
says first whole step (Err (errors.Fault f)) h = step (Err f) h
says first whole step (Err errors.Memory) h = tt
