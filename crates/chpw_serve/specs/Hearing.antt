-- What an observer hears of messages, and where a gate holds their worker.
use Rattle.std.specs.Prelude.{◌≡◌, ℕ, List, [], ◌∷◌, Option, Some, None, ◌⊎◌}
use Rattle.std.specs.declared.net.ip_addr.IpAddr.{IpAddr}
use Rattle.chpw_table.specs.declared.times.Moment.{Moment}
use Rattle.chpw_table.specs.declared.request.Opened.{Opened}
use Rattle.chpw_table.specs.declared.history.Receipt.{Receipt}
use Rattle.chpw_table.specs.declared.verdict.Verdict.{Verdict}
use Rattle.chpw_table.specs.declared.verdict.Verdict.TheVariants.{Done}
use Rattle.chpw_table.specs.Replies.{Answer}
use Rattle.chpw_decider.specs.Deciding.{AddsReceipt}
use Rattle.chpw_serve.specs.declared.gate.Spot.{Spot}
use Rattle.chpw_serve.specs.declared.gate.Spot.TheVariants as spot
use Rattle.chpw_serve.specs.Requests.{Opens, refused, opened, opened_under}
use Rattle.chpw_serve.specs.Answers.{history_full}

-- what an observer hears: the decision of a request from a peer at a moment, by its receipt, and the version of the
-- new key after a change; or the refusal of a message, with its request where one was opened
pub data Heard : Type 0 where
  decision : IpAddr → Moment → Receipt → Option ℕ → Heard
  refusal : IpAddr → Moment → Option Opened → Answer → Heard

-- a worker's call: of its gate at a spot, or of its observer
pub data Call : Type 0 where
  passed : Spot → Call
  heard : Heard → Call

-- what a call does to one that is both gate and observer
abbrev pub Does : {G : Type 0} → (G → Spot → G → Type 0) → (G → Heard → G → Type 0) → G → Call → G → Type 0
Does passes hears before (passed s) after = passes before s after
Does passes hears before (heard h) after = hears before h after

-- a gate that holds nobody
abbrev pub HoldsNobody : {G : Type 0} → G → Spot → G → Type 0
HoldsNobody before s after = after ≡ before

-- an observer that takes no note
abbrev pub NotesNothing : {G : Type 0} → G → Heard → G → Type 0
NotesNothing before h after = after ≡ before

-- the version that is heard with a decision: after a change one that may be the new key's, and else none
abbrev pub IsKvnoUnder : (Option ℕ → Type 0) → Verdict → Option ℕ → Type 0
IsKvnoUnder made Done kvno = made kvno
IsKvnoUnder made v kvno = kvno ≡ None

-- the calls for a message that opens so, where the receipts became these: the observer hears its refusal; or the
-- gate is passed, and the observer hears that the history is full, or the decision by the receipt that was added, which
-- is of the message's request with some keys derived, judged at this moment
module _ (peer : IpAddr) (now : Moment) (made : Option ℕ → Type 0) (old new : List Receipt) where
  abbrev pub AreCallsForRequest : (List ℕ → Opened) → List Call → Type 0
  AreCallsForRequest request calls =
      ((new ≡ old) × (counts : List ℕ)
      × (calls ≡ passed spot.Opened ∷ heard (refusal peer now (Some (request counts)) history_full) ∷ []))
      ⊎ ((v : Verdict) × (counts : List ℕ) × (adds : AddsReceipt old new now (request counts) v)
      × (kvno : Option ℕ) × IsKvnoUnder made v kvno
      × (calls ≡ passed spot.Opened ∷ heard (decision peer now adds.receipt kvno) ∷ []))

  abbrev pub AreCallsFor : Opens → List Call → Type 0
  AreCallsFor (refused a) calls = (new ≡ old) × (calls ≡ heard (refusal peer now None a) ∷ [])
  AreCallsFor (opened q) calls = AreCallsForRequest (λ counts. opened_under counts q) calls

  -- for a message for whose answer memory ran out: none; or the gate was passed; or all of them
  abbrev pub AreCallsUnanswered : (Opens → Type 0) → List Call → Type 0
  AreCallsUnanswered opens calls =
      ((new ≡ old) × ((calls ≡ []) ⊎ (calls ≡ passed spot.Opened ∷ [])))
      ⊎ ((o : Opens) × opens o × AreCallsFor o calls)
