-- Whoever has given an order stays until it is answered.
use Rattle.std.proofs.Common.{◌≡◌, List, [], ◌∷◌, true, false, not, refl}
use Rattle.std.specs.List.{list_all}
use Rattle.chpw_control.specs.Callers.{Event, came, lacked, closed, expired, taken, told, wrote, failed, served, deserted, is_over}
use Rattle.chpw_control.specs.TakenOrders.{is_answer, after_all, StaysForItsAnswer}

abbrev AreNoAnswers : List Event → Type 0
AreNoAnswers events = list_all (λ e. not (is_answer e)) events ≡ true

deserted_stays : (events : List Event) → AreNoAnswers events → is_over (after_all deserted events) ≡ false
deserted_stays [] h = refl
deserted_stays (told answer ∷ es) h = absurd cc
deserted_stays (came bytes ∷ es) h = deserted_stays es h
deserted_stays (lacked ∷ es) h = deserted_stays es h
deserted_stays (closed ∷ es) h = deserted_stays es h
deserted_stays (expired ∷ es) h = deserted_stays es h
deserted_stays (taken ∷ es) h = deserted_stays es h
deserted_stays (wrote n ∷ es) h = deserted_stays es h
deserted_stays (failed ∷ es) h = deserted_stays es h

pub stays : StaysForItsAnswer
stays [] h = refl
stays (told answer ∷ es) h = absurd cc
stays (came bytes ∷ es) h = stays es h
stays (lacked ∷ es) h = stays es h
stays (closed ∷ es) h = stays es h
stays (expired ∷ es) h = stays es h
stays (taken ∷ es) h = stays es h
stays (wrote n ∷ es) h = stays es h
stays (failed ∷ es) h = deserted_stays es h
