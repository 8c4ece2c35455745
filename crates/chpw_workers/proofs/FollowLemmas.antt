-- Who decides goes on, message after message.
use Rattle.std.proofs.Common.{◌≡◌, ℕ, List, [], ◌∷◌, Bool, Option, sym, subst, ap, inl, inr}
use Rattle.std.specs.declared.net.ip_addr.IpAddr.{IpAddr}
use Rattle.chpw_table.specs.declared.times.Moment.{Moment}
use Rattle.chpw_table.specs.declared.history.Receipt.{Receipt}
use Rattle.chpw_table.specs.Replies.{Answer}
use Rattle.chpw_serve.specs.declared.messages.Seal.{Seal}
use Rattle.chpw_serve.specs.declared.gate.Spot.{Spot}
use Rattle.chpw_serve.specs.declared.serving.Ended.{Ended}
use Rattle.chpw_serve.specs.declared.serving.Ended.TheVariants as end
use Rattle.chpw_serve.specs.Requests.{Opens}
use Rattle.chpw_serve.specs.Answering.{Answering, Unanswered}
use Rattle.chpw_serve.specs.Hearing.{Heard}
use Rattle.chpw_serve.specs.InTurn.{InTurn}
use Rattle.chpw_serve.specs.Serving.{StreamState, Turn, Serves, IsEnd, IsServed, message_too_long}

module _ {C X D G : Type 0} (error_frame : Answer → Moment → List ℕ) (private_frame : Seal → Answer → List ℕ → List ℕ)
    (may_be_full : D → List Receipt → Type 0) (gathered : D → List Receipt) (follows : D → D → Type 0) (made : D → Option ℕ → Type 0)
    (passes : G → Spot → G → Type 0) (hears : G → Heard → G → Type 0) (opens : List ℕ → Opens → Type 0)
    (moments : C → Moment → C → Type 0) (random : X → ℕ → X → Type 0) (peer : IpAddr)
    (stays : (d : D) → follows d d) (goes_on : (d e f : D) → follows d e → follows e f → follows d f) where
  abbrev answers : List ℕ → List ℕ → Moment → D → D → G → G → List ℕ → Bool → Type 0
  answers = Answering error_frame private_frame may_be_full gathered follows made passes hears opens peer

  abbrev adds : List ℕ → Moment → D → D → G → G → Type 0
  adds = Unanswered gathered follows made passes hears opens peer

  abbrev refusal : Moment → List ℕ
  refusal now = error_frame message_too_long now

  same : (d e : D) → e ≡ d → follows d e
  same d e h = subst (λ (k : D). follows d k) (sym h) (stays d)

  turns_follow : (start : StreamState C X D G) (turns : List Turn) (last : StreamState C X D G)
      → InTurn (Serves answers adds refusal moments random passes hears peer) start turns last → follows start.decider last.decider
  turns_follow start [] last h = same start.decider last.decider (ap (λ (s : StreamState C X D G). s.decider) (sym h))
  turns_follow start (t ∷ ts) last h = goes_on start.decider h.0.decider last.decider h.1.1.answer.goes_on (turns_follow h.0 ts last h.2)

  end_follows : (e : Ended) (n : ℕ) (last final : StreamState C X D G)
      → IsEnd answers adds refusal moments random passes hears peer e n last final → follows last.decider final.decider
  end_follows end.Input n last final (less, h) = same _ _ h.1.1
  end_follows end.CutOff n last final (less, h) = same _ _ h.1.1
  end_follows end.ReadFault n last final (less, h) = same _ _ h.1.1
  end_follows end.TooLong n last final (less, h) = same _ _ h.2
  end_follows end.WriteFault n last final (less, inl h) = h.2.answer.goes_on
  end_follows end.WriteFault n last final (less, inr h) = same _ _ h.2
  end_follows end.Memory n last final (less, inl h) = same _ _ h.1.1
  end_follows end.Memory n last final (less, inr (inl h)) = h.adds_it.goes_on
  end_follows end.Memory n last final (less, inr (inr h)) = same _ _ h.2
  end_follows end.Count n last final h = same _ _ (ap (λ (s : StreamState C X D G). s.decider) h.1)

  pub follows_on : (e : Ended) (start final : StreamState C X D G)
      → IsServed answers adds refusal moments random passes hears peer e start final → follows start.decider final.decider
  follows_on e start final h =
      goes_on start.decider h.last.decider final.decider (turns_follow start h.turns h.last h.served)
      (end_follows e _ h.last final h.end_is)
