-- A message answered: the bytes of the reply, who decides, and what observer and gate are called for.
use Rattle.std.specs.Prelude.{◌≡◌, ◌≤◌, ℕ, List, length, Bool, Option}
use Rattle.std.specs.declared.net.ip_addr.IpAddr.{IpAddr}
use Rattle.chpw_table.specs.declared.times.Moment.{Moment}
use Rattle.chpw_table.specs.declared.history.Receipt.{Receipt}
use Rattle.chpw_table.specs.Replies.{Answer}
use Rattle.chpw_serve.specs.declared.gate.Spot.{Spot}
use Rattle.chpw_serve.specs.declared.messages.Seal.{Seal}
use Rattle.chpw_serve.specs.Requests.{Opens}
use Rattle.chpw_serve.specs.Answers.{IsAnswer, is_opened}
use Rattle.chpw_serve.specs.InTurn.{InTurn}
use Rattle.chpw_serve.specs.Hearing.{Heard, Call, Does, AreCallsFor, AreCallsUnanswered}

-- these bytes, which fit a frame, answer a message from this peer, which opened or not; who decides went on: its
-- receipts are these, and it may be full with them; and the gate was passed and the observer heard just what came
-- of the message, in turn
pub record Answering {D G : Type 0} (error_frame : Answer → Moment → List ℕ)
    (private_frame : Seal → Answer → List ℕ → List ℕ) (full : D → List Receipt → Type 0) (gathered : D → List Receipt)
    (follows : D → D → Type 0) (made : D → Option ℕ → Type 0) (passes : G → Spot → G → Type 0)
    (hears : G → Heard → G → Type 0) (opens : List ℕ → Opens → Type 0) (peer : IpAddr) (text words : List ℕ)
    (now : Moment) (before after : D) (gate later : G) (bytes : List ℕ) (is_open : Bool) : Type 0 where
  pub reply : IsAnswer error_frame private_frame (full after (gathered after)) (opens text) words now (gathered before) (gathered after) bytes
  pub fits : length bytes ≤ 65535
  pub goes_on : follows before after
  pub opened_is : is_open ≡ is_opened reply.0
  pub calls : List Call
  pub calls_are : AreCallsFor peer now (made after) (gathered before) (gathered after) reply.0 calls
  pub in_turn : InTurn (Does passes hears) gate calls later

-- memory ran out: who decides went on, with a receipt more at the most, which is of the request that the message opened
-- to, judged at this moment; and the observer heard of that one
pub record Unanswered {D G : Type 0}
    (gathered : D → List Receipt) (follows : D → D → Type 0) (made : D → Option ℕ → Type 0)
    (passes : G → Spot → G → Type 0) (hears : G → Heard → G → Type 0) (opens : List ℕ → Opens → Type 0)
    (peer : IpAddr) (text : List ℕ) (now : Moment) (before after : D) (gate later : G) : Type 0 where
  pub goes_on : follows before after
  pub calls : List Call
  pub calls_are : AreCallsUnanswered peer now (made after) (gathered before) (gathered after) (opens text) calls
  pub in_turn : InTurn (Does passes hears) gate calls later
