-- Checks in a row leave one answer, where each leaves one value.
use Rattle.std.proofs.Common.{◌≡◌, sym, subst, ap, ◌∙◌, Result, Ok, Err, Option, Some}
use Rattle.krb_msgs.specs.Checks.{Held, met, unmet, Found, of_one, of_none, Then, goes_on, stops, Passed}
use Rattle.krb_msgs.specs.OneAnswer.{IsOne}
use Rattle.krb_msgs.proofs.AnswerLemmas.{err_is, ok_err, ok_is}

pub some_is : {A : Type 0} (v w : A) → Some v ≡ Some w → v ≡ w
some_is v w e = cc

-- what an equation says of a value
pub one_some : {A : Type 0} (o : Option A) → IsOne (λ (v : A). o ≡ Some v)
one_some o v w h k = some_is v w (sym h ∙ k)

pub one_passed : {X F : Type 0} (x : X) → IsOne (Passed {F = F} x)
one_passed x r s h k = h ∙ sym k

pub one_held : {X F : Type 0} (fact : Type 0) (fault : F) (next : Result X F → Type 0)
    → IsOne next → IsOne (Held fact fault next)
one_held fact fault next one r s (met h rest) (met k other) = one r s rest other
one_held fact fault next one r s (met h rest) (unmet k e) = absurd (k h)
one_held fact fault next one r s (unmet h e) (met k rest) = absurd (h k)
one_held fact fault next one r s (unmet h e) (unmet k f) = e ∙ sym f

pub one_found : {A X F : Type 0} (fact : A → Type 0) (fault : F) (next : A → Result X F → Type 0)
    → IsOne fact → ((v : A) → fact v → IsOne (next v)) → IsOne (Found fact fault next)
one_found fact fault next one rest r s (of_one v h m) (of_one w k n) =
    rest v h r s m (subst (λ x. next x s) (one w v k h) n)
one_found fact fault next one rest r s (of_one v h m) (of_none k e) = absurd (k v h)
one_found fact fault next one rest r s (of_none h e) (of_one v k m) = absurd (h v k)
one_found fact fault next one rest r s (of_none h e) (of_none k f) = e ∙ sym f

pub one_then : {A X F : Type 0} (first : Result A F → Type 0) (next : A → Result X F → Type 0)
    → IsOne first → ((v : A) → first (Ok v) → IsOne (next v)) → IsOne (Then first next)
one_then first next one rest r s (goes_on v h m) (goes_on w k n) =
    rest v h r s m (subst (λ x. next x s) (ok_is w v (one (Ok w) (Ok v) k h)) n)
one_then first next one rest r s (goes_on v h m) (stops f k e) = absurd (ok_err (one (Ok v) (Err f) h k))
one_then first next one rest r s (stops f h e) (goes_on v k m) = absurd (ok_err (one (Ok v) (Err f) k h))
one_then first next one rest r s (stops f h e) (stops g k d) =
    e ∙ ap (λ x. Err x) (err_is f g (one (Err f) (Err g) h k)) ∙ sym d
