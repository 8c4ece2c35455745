-- That nothing is left that nothing can end.
use Rattle.std.proofs.Common.{◌≡◌, ℕ, ◌+◌, ◌-◌, ◌≤◌, refl, ap, ◌∙◌, subst, arith, Bool, true, nat_le, Option, Some, None, IsSomeAnd, inl, inr, MatchBool}
use Rattle.std.proofs.lemmas.Bool.Decides.{nat_tests}
use Rattle.chpw_connection.specs.Stages.{Stage, reading, queued, answering, confirming, writing, lingering, abandoned, ended, failed, after, stage}
use Rattle.chpw_connection.specs.Late.{time_of, is_late, is_late_at, Passes}
use Rattle.chpw_connection.specs.Slot.{Comes}
use Rattle.chpw_connection.specs.Times.{is_timed, EndsInTime, AllEndInTime, AllGoOnByTheirWorker, AllGoOnReleased, NoneStays}
use Rattle.chpw_connection.specs.declared.limits.ConnectionLimits.{ConnectionLimits}
use Rattle.chpw_connection.specs.declared.connection.Connection.{Connection}

has_time : (b : ConnectionLimits) (s : Stage) → is_timed s ≡ true → (most : ℕ) × (time_of b s ≡ Some most)
has_time b (reading bytes) is = (b.idle, refl)
has_time b (queued message) is = (b.wait, refl)
has_time b (answering m) is = absurd cc
has_time b (confirming reply last ticket) is = absurd cc
has_time b (writing left last) is = (b.idle, refl)
has_time b lingering is = (b.linger, refl)
has_time b abandoned is = absurd cc
has_time b ended is = absurd cc

timed_ends : (count : ℕ) (s : Stage) → is_timed s ≡ true → after count s failed ≡ ended
timed_ends count (reading bytes) is = refl
timed_ends count (queued message) is = refl
timed_ends count (answering m) is = absurd cc
timed_ends count (confirming reply last ticket) is = absurd cc
timed_ends count (writing left last) is = refl
timed_ends count lingering is = refl
timed_ends count abandoned is = absurd cc
timed_ends count ended is = absurd cc

module _ (b : ConnectionLimits) (c : Connection) (is : is_timed (stage c) ≡ true) (most : ℕ) (time : time_of b (stage c) ≡ Some most) where
  late_then : (now : ℕ) → c.since + most ≤ now → is_late b now c ≡ true
  late_then now then =
      let enough : most ≤ now - c.since = omega arith in
      let e : nat_le most (now - c.since) ≡ true = grind (arith, nat_tests) in
      ap (λ (t : Option ℕ). is_late_at t (now - c.since)) time ∙ e

  failed_ends : (new : Option Connection) → Comes 0 failed (Some c) new → IsSomeAnd new (λ d. stage d ≡ ended)
  failed_ends None comes = comes
  failed_ends (Some d) comes = comes.stage_is ∙ timed_ends c.answered (stage c) is

  ends_then : (now : ℕ) (new : Option Connection) → c.since + most ≤ now → Passes b now (Some c) new → IsSomeAnd new (λ d. stage d ≡ ended)
  ends_then now new then passes =
      failed_ends new (subst (λ (t : Bool). MatchBool t (Comes 0 failed (Some c) new) (new ≡ Some c)) (late_then now then) passes)

  ends_in_time : EndsInTime b c
  ends_in_time = record { most = most; time = time; late = late_then; ends = ends_then }

pub all_end_in_time : AllEndInTime
all_end_in_time b c is = ends_in_time b c is (has_time b (stage c) is).0 (has_time b (stage c) is).1

pub all_go_on_by_their_worker : AllGoOnByTheirWorker
all_go_on_by_their_worker count (reading bytes) is = absurd cc
all_go_on_by_their_worker count (queued message) is = absurd cc
all_go_on_by_their_worker count (answering m) is = ((λ reply last. inl refl), (λ reply last ticket. inr (inl refl)), inl refl)
all_go_on_by_their_worker count (confirming reply last ticket) is = absurd cc
all_go_on_by_their_worker count (writing left last) is = absurd cc
all_go_on_by_their_worker count lingering is = absurd cc
all_go_on_by_their_worker count abandoned is = ((λ reply last. inr (inr refl)), (λ reply last ticket. inr (inr refl)), inr (inr refl))
all_go_on_by_their_worker count ended is = absurd cc

pub all_go_on_released : AllGoOnReleased
all_go_on_released count (reading bytes) is = absurd cc
all_go_on_released count (queued message) is = absurd cc
all_go_on_released count (answering m) is = absurd cc
all_go_on_released count (confirming reply last ticket) is = refl
all_go_on_released count (writing left last) is = absurd cc
all_go_on_released count lingering is = absurd cc
all_go_on_released count abandoned is = absurd cc
all_go_on_released count ended is = absurd cc

pub none_stays : NoneStays
none_stays (reading bytes) = inl refl
none_stays (queued message) = inl refl
none_stays (answering m) = inr (inl refl)
none_stays (confirming reply last ticket) = inr (inr (inl refl))
none_stays (writing left last) = inl refl
none_stays lingering = inl refl
none_stays abandoned = inr (inl refl)
none_stays ended = inr (inr (inr refl))
