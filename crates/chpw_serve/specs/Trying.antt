-- For proofs alone: the result of a request, and of one try.
use Rattle.std.specs.Prelude.{◌≡◌, ℕ, ◌-◌, List, length, slice_get, Option, Some, None}
use Rattle.std.specs.declared.net.ip_addr.IpAddr.{IpAddr}
use Rattle.chpw_table.specs.declared.times.Moment.{Moment}
use Rattle.chpw_table.specs.declared.request.Opened.{Opened}
use Rattle.chpw_table.specs.declared.history.Event.{Event}
use Rattle.chpw_table.specs.declared.history.Event.TheVariants.{Ask, Raise, Update}
use Rattle.chpw_table.specs.declared.history.Receipt.{Receipt}
use Rattle.chpw_table.specs.declared.verdict.Verdict.{Verdict}
use Rattle.chpw_decider.specs.Deciding.{AddsReceipt, AddsCompleted, IsCompletedFrom}
use Rattle.chpw_serve.specs.declared.deciding.Decision.{Decision}
use Rattle.chpw_serve.specs.declared.deciding.Decision.TheVariants as decision
use Rattle.chpw_serve.specs.declared.deciding.Try.{Try}
use Rattle.chpw_serve.specs.declared.deciding.Try.TheVariants as try
use Rattle.chpw_serve.specs.Answers.{history_full}
use Rattle.chpw_serve.specs.Hearing.{Heard, decision as decided, refusal, IsKvnoUnder}

abbrev pub IsDecision : Type 0 → Decision → List ℕ → Opened → Moment → List Receipt → List Receipt → Type 0
IsDecision full (decision.Verdict v) password before now old new = AddsCompleted old new now password before v
IsDecision full (decision.Full o) password before now old new = (new ≡ old) × full × IsCompletedFrom password before o

-- the result by the verdict alone, none if the history is full
abbrev pub IsVerdict : Type 0 → Option Verdict → List ℕ → Opened → Moment → List Receipt → List Receipt → Type 0
IsVerdict full (Some v) password before now old new = AddsCompleted old new now password before v
IsVerdict full None password before now old new = (new ≡ old) × full

abbrev pub IsTry : Type 0 → Try → List ℕ → Opened → Moment → List Receipt → List Receipt → Type 0
IsTry full (try.Verdict v) password before now old new = AddsReceipt old new now before v
IsTry full (try.Full o) password before now old new = (new ≡ old) × full × (o ≡ before)
IsTry full (try.Again o) password before now old new = (new ≡ old) × IsCompletedFrom password before o

-- the version that is heard with an event
abbrev pub IsKvnoOf : (Option ℕ → Type 0) → Event → Option ℕ → Type 0
IsKvnoOf made (Ask o v) kvno = IsKvnoUnder made v kvno
IsKvnoOf made (Raise count v) kvno = kvno ≡ None
IsKvnoOf made (Update u v) kvno = kvno ≡ None

-- what the observer hears of a verdict: the last receipt; if the history is full, the request
abbrev pub HearsLast : {G : Type 0} → (G → Heard → G → Type 0) → IpAddr → Moment → (Option ℕ → Type 0) → List Receipt → G → G → Type 0
HearsLast hears peer now made receipts observer later =
    (r : Receipt) × (kvno : Option ℕ) × (slice_get receipts (length receipts - 1) ≡ Some r) × IsKvnoOf made r.entry.event kvno
    × hears observer (decided peer now r kvno) later

abbrev pub HearsVerdict : {G : Type 0} → (G → Heard → G → Type 0)
    → IpAddr → Moment → (Option ℕ → Type 0) → List Receipt → List ℕ → Opened → Option Verdict → G → G → Type 0
HearsVerdict hears peer now made receipts password before (Some v) observer later = HearsLast hears peer now made receipts observer later
HearsVerdict hears peer now made receipts password before None observer later =
    (o : Opened) × IsCompletedFrom password before o × hears observer (refusal peer now (Some o) history_full) later

-- the last receipt is of this decision
abbrev pub EndsWithVerdict : List Receipt → Moment → Verdict → Type 0
EndsWithVerdict receipts now v = (old : List Receipt) × (o : Opened) × AddsReceipt old receipts now o v
