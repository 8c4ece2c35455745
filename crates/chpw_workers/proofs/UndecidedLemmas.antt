-- A request that opens and isn't decided adds no entry.
use Rattle.std.proofs.Common.{◌≡◌, ◌⊎◌, ℕ, List, Option, refl, sym, ap, inl, inr}
use Rattle.krb_protocol.specs.declared.refusal.Refusal.{Refusal}
use Rattle.chpw_endpoints.specs.declared.endpoints.Endpoints.{Endpoints}
use Rattle.chpw_table.specs.declared.times.Moment.{Moment}
use Rattle.chpw_table.specs.declared.history.Receipt.{Receipt}
use Rattle.chpw_table.specs.Replies.{Answer}
use Rattle.chpw_serve.specs.declared.messages.Seal.{Seal}
use Rattle.chpw_serve.specs.declared.messages.OpenRequest.{OpenRequest}
use Rattle.chpw_serve.specs.declared.messages.OpenResult.TheVariants as program
use Rattle.chpw_serve.specs.Requests.{Opens, Request, refused, opened}
use Rattle.chpw_serve.specs.Holding.{IsOpenResult, answer_in}
use Rattle.chpw_serve.specs.Answers.{IsAnswer}
use Rattle.chpw_connections.specs.declared.taking.Reply.{Reply}
use Rattle.chpw_connections.specs.declared.taking.TakenMessage.{TakenMessage}
use Rattle.chpw_workers.specs.Turns.{At, AddsEntry, Comes, Draws}
use Rattle.chpw_workers.specs.Undecided.{OpensUndecided, kdc_out_of_reach, undecided}

-- what an opened message becomes, and one that was refused
pub of_opened : (opens : Opens → Type 0) (i : OpenRequest) (r : Refusal) → answer_in r ≡ kdc_out_of_reach
    → ((o : Opens) × opens o × IsOpenResult o (program.Opened i))
    → (o : Opens) × ((found : Opens) × opens found × (o ≡ undecided found)) × IsOpenResult o (program.Refused r)
of_opened opens i r said (refused a, is, h) = absurd h
of_opened opens i r said (opened q, is, h) = (refused kdc_out_of_reach, (opened q, is, refl), sym said)

pub of_refused : (opens : Opens → Type 0) (r : Refusal)
    → ((o : Opens) × opens o × IsOpenResult o (program.Refused r))
    → (o : Opens) × ((found : Opens) × opens found × (o ≡ undecided found)) × IsOpenResult o (program.Refused r)
of_refused opens r (refused a, is, h) = (refused a, (refused a, is, refl), h)
of_refused opens r (opened q, is, h) = absurd h

never_opened : (q : Request) (found : Opens) → opened q ≡ undecided found → ⊥
never_opened q (refused a) e = cc
never_opened q (opened p) e = cc

module _ {C X : Type 0} (moments : C → Moment → C → Type 0) (random : X → ℕ → X → Type 0)
    (error_frame : Answer → Moment → List ℕ) (private_frame : Seal → Answer → List ℕ → List ℕ)
    (opens : Endpoints → List ℕ → Opens → Type 0) (full : List Receipt → Type 0) where
  answer_adds_nothing : (more : Type 0) (ends : Endpoints) (text words : List ℕ) (now : Moment) (old new : List Receipt) (bytes : List ℕ)
      → IsAnswer error_frame private_frame more (OpensUndecided opens ends text) words now old new bytes → new ≡ old
  answer_adds_nothing more ends text words now old new bytes (refused a, o, h) = h.0
  answer_adds_nothing more ends text words now old new bytes (opened q, o, h) = absurd (never_opened q o.0 o.2)

  no_entry : (taken : TakenMessage) (now : Moment) (old new : List Receipt) → AddsEntry (OpensUndecided opens) taken now old new → ⊥
  no_entry taken now old new a = never_opened a.request a.opens_so.0 a.opens_so.2

  pub adds_nothing : (taken : TakenMessage) (its_reply : Option Reply) (old new : At C X)
      → Comes moments random error_frame private_frame (OpensUndecided opens) full taken its_reply old new → new.receipts ≡ old.receipts
  adds_nothing taken its_reply old new (inl h) =
      answer_adds_nothing (full new.receipts) _ h.text h.words h.moment old.receipts new.receipts h.bytes h.answer
  adds_nothing taken its_reply old new (inr (inl h)) = h.none
  adds_nothing taken its_reply old new (inr (inr h)) = of_left h.left
    where
      of_left : (new ≡ old) ⊎ ((moment : Moment) × (words : List ℕ) × Draws moments random old new moment words
          × ((new.receipts ≡ old.receipts) ⊎ AddsEntry (OpensUndecided opens) taken moment old.receipts new.receipts))
          → new.receipts ≡ old.receipts
      of_left (inl same) = ap (λ (a : At C X). a.receipts) same
      of_left (inr (moment, words, draws, inl same)) = same
      of_left (inr (moment, words, draws, inr adds)) = absurd (no_entry taken moment old.receipts new.receipts adds)
