-- What observer and gate are called for with a message.
use Rattle.std.proofs.Common.{◌≡◌, ℕ, ◌+◌, ◌-◌, List, [], ◌∷◌, ◌++◌, Bool, true, false, Option, Some}
use Rattle.std.proofs.Common.{None, refl, sym, ◌∙◌, ap, subst, inl, inr, length, arith, length-append}
use Rattle.std.specs.Prelude.{Result, Ok, Err, OnErr, slice_get}
use Rattle.std.proofs.lemmas.Option.{slice_get-get_or}
use Rattle.std.proofs.Math.ListN.{get_or}
use Rattle.std.proofs.Math.Seq.{get_or-append_seam}
use Rattle.std.specs.declared.net.ip_addr.IpAddr.{IpAddr}
use Rattle.krb_protocol.specs.declared.refusal.Refusal.{Refusal}
use Rattle.chpw_table.specs.declared.times.Moment.{Moment}
use Rattle.chpw_table.specs.declared.history.Event.{Event}
use Rattle.chpw_table.specs.declared.history.Event.TheVariants as event
use Rattle.chpw_table.specs.declared.history.Receipt.{Receipt}
use Rattle.chpw_table.specs.declared.request.Opened.{Opened}
use Rattle.chpw_table.specs.declared.verdict.Verdict.{Verdict}
use Rattle.chpw_table.specs.Replies.{Answer}
use Rattle.chpw_table.specs.Completing.{completed}
use Rattle.chpw_decider.specs.Deciding.{AddsReceipt, IsCompletedFrom}
use Rattle.chpw_serve.specs.declared.messages.Seal.{Seal}
use Rattle.chpw_serve.specs.declared.messages.OpenRequest.{OpenRequest}
use Rattle.chpw_serve.specs.declared.messages.OpenResult.{OpenResult}
use Rattle.chpw_serve.specs.declared.messages.OpenResult.TheVariants as program
use Rattle.chpw_serve.specs.declared.gate.Spot.{Spot}
use Rattle.chpw_serve.specs.declared.gate.Spot.TheVariants as spot
use Rattle.chpw_serve.specs.Requests.{Request, Opens, refused, opened, opened_under}
use Rattle.chpw_serve.specs.Holding.{IsOpenRequest, IsOpenResult, answer_in}
use Rattle.chpw_serve.specs.Answers.{history_full, AnswersRequest, IsAnswer, is_opened}
use Rattle.chpw_serve.specs.InTurn.{InTurn}
use Rattle.chpw_serve.specs.Hearing.{Heard, Call, passed, heard, decision, refusal, Does, AreCallsForRequest, AreCallsFor, IsKvnoUnder}
use Rattle.chpw_serve.specs.Trying.{IsVerdict, HearsVerdict, IsKvnoOf}
use Rattle.chpw_serve.proofs.CompletingLemmas.{under_more}

pub on_err : {T E : Type 0} {P : Type 0} (r : Result T E) → P → OnErr r P
on_err (Ok x) p = tt
on_err (Err e) p = p

-- the last of a list that ends with x
last_is : {A : Type 0} (xs ys : List A) (x r : A) → ys ≡ xs ++ x ∷ [] → slice_get ys (length ys - 1) ≡ Some r → r ≡ x
last_is {A} xs ys x r e h =
    let size : length ys ≡ length xs + 1 = ap length e ∙ length-append xs (x ∷ []) in
    let at : length ys - 1 ≡ length xs = omega (arith, size) in
    let there : slice_get ys (length xs) ≡ Some (get_or ys (length xs) x) = slice_get-get_or ys (length xs) x (omega (arith, size)) in
    let same : get_or ys (length xs) x ≡ x = ap (λ (zs : List A). get_or zs (length xs) x) e ∙ get_or-append_seam xs x [] x in
    some_is r x (sym h ∙ (ap (slice_get ys) at ∙ (there ∙ ap Some same)))
  where
    some_is : (a b : A) → Some a ≡ Some b → a ≡ b
    some_is a b k = cc

module _ {G : Type 0} (passes : G → Spot → G → Type 0) (hears : G → Heard → G → Type 0)
    (peer : IpAddr) (now : Moment) (made : Option ℕ → Type 0) (old new : List Receipt) (gate later : G) where
  -- of what was opened
  abbrev pub CallsFor : Opens → Type 0
  CallsFor o = (calls : List Call) × AreCallsFor peer now made old new o calls × InTurn (Does passes hears) gate calls later

  -- of a request that was opened
  abbrev pub CallsForRequest : Request → Type 0
  CallsForRequest q =
      (calls : List Call) × AreCallsForRequest peer now made old new (λ counts. opened_under counts q) calls
      × InTurn (Does passes hears) gate calls later

  -- a message that didn't open
  pub calls_refused : (opens : Opens → Type 0) (found : OpenResult) (r : Refusal) → found ≡ program.Refused r → ((o : Opens) × opens o × IsOpenResult o found)
      → new ≡ old → hears gate (refusal peer now None (answer_in r)) later → (o : Opens) × opens o × CallsFor o
  calls_refused opens found r e (refused a, is, h) unchanged k =
      let same : a ≡ answer_in r = subst (λ (x : OpenResult). IsOpenResult (refused a) x) e h in (
        refused a,
        is,
        (
          heard (refusal peer now None a) ∷ [],
          (unchanged, refl),
          (later, subst (λ (b : Answer). hears gate (refusal peer now None b) later) (sym same) k, refl),
        ),
      )
  calls_refused opens found r e (opened q, is, h) unchanged k = absurd (subst (λ (x : OpenResult). IsOpenResult (opened q) x) e h)

  -- one that did
  pub calls_opened : (opens : Opens → Type 0) (found : OpenResult) (i : OpenRequest) → found ≡ program.Opened i → ((o : Opens) × opens o × IsOpenResult o found)
      → ((q : Request) → IsOpenRequest q i → CallsForRequest q) → (o : Opens) × opens o × CallsFor o
  calls_opened opens found i e (refused a, is, h) f = absurd (subst (λ (x : OpenResult). IsOpenResult (refused a) x) e h)
  calls_opened opens found i e (opened q, is, h) f = (opened q, is, f q (subst (λ (x : OpenResult). IsOpenResult (opened q) x) e h))

  -- what came of its request
  pub calls_request : (full : Type 0) (i : OpenRequest)
      (password : List ℕ) (ready : Opened) (mid : List Receipt) (d : Option Verdict) (q : Request) (between : G)
      → IsOpenRequest q i → password ≡ i.password → IsCompletedFrom password i.opened ready
      → mid ≡ old → IsVerdict full d password ready now mid new → passes gate spot.Opened between
      → HearsVerdict hears peer now made new password ready d between later → CallsForRequest q
  calls_request full i password ready mid None q between holds is_password first same v by h =
      let is_made = under_more q i password ready h.0 holds is_password first h.1 in
      let counts : List ℕ = is_made.0 in (
        passed spot.Opened ∷ heard (refusal peer now (Some (opened_under counts q)) history_full) ∷ [],
        inl (v.0 ∙ same, counts, refl),
        (between, by, (later, subst (λ (o : Opened). hears between (refusal peer now (Some o) history_full) later) is_made.1 h.2, refl)),
      )
  calls_request full i password ready mid (Some v) q between holds is_password first same adds by (r, kvno, last, version, noted) =
      let is_made = under_more q i password ready (completed password adds.0 ready) holds is_password first (adds.0, refl) in
      let counts : List ℕ = is_made.0 in
      let is_last : r ≡ adds.1.receipt = last_is mid new adds.1.receipt r adds.1.added last in
      let is_event : r.entry.event ≡ event.Ask (opened_under counts q) v =
      ap (λ (x : Receipt). x.entry.event) is_last ∙ (adds.1.event_is ∙ ap (λ (o : Opened). event.Ask o v) is_made.1) in
      let added : new ≡ old ++ r ∷ [] = adds.1.added ∙ (ap (λ (x : Receipt). mid ++ x ∷ []) (sym is_last) ∙ ap (λ (rs : List Receipt). rs ++ r ∷ []) same) in
      let own : AddsReceipt old new now (opened_under counts q) v = record {
        receipt = r;
        added = added;
        now_is = ap (λ (x : Receipt). x.entry.now) is_last ∙ adds.1.now_is;
        event_is = is_event;
      } in
      let is_version : IsKvnoUnder made v kvno = subst (λ (e : Event). IsKvnoOf made e kvno) is_event version in (
        passed spot.Opened ∷ heard (decision peer now r kvno) ∷ [],
        inr (v, counts, own, kvno, is_version, refl),
        (between, by, (later, noted, refl)),
      )

  -- a message answered, and the calls for it
  pub record AnsweredWith (error_frame : Answer → Moment → List ℕ) (private_frame : Seal → Answer → List ℕ → List ℕ)
      (full : Type 0) (opens : Opens → Type 0) (words bytes : List ℕ) (is_open : Bool) : Type 0 where
    pub reply : IsAnswer error_frame private_frame full opens words now old new bytes
    pub opened_is : is_open ≡ is_opened reply.0
    pub calls_for : CallsFor reply.0

  module _ (error_frame : Answer → Moment → List ℕ) (private_frame : Seal → Answer → List ℕ → List ℕ)
      (full : Type 0) (opens : Opens → Type 0) (words bytes : List ℕ) where
    pub answered_refused : (found : OpenResult) (r : Refusal) → found ≡ program.Refused r → ((o : Opens) × opens o × IsOpenResult o found)
        → new ≡ old → bytes ≡ error_frame (answer_in r) now → hears gate (refusal peer now None (answer_in r)) later
        → AnsweredWith error_frame private_frame full opens words bytes false
    answered_refused found r e (refused a, is, h) same is_reply k =
        let answer : a ≡ answer_in r = subst (λ (x : OpenResult). IsOpenResult (refused a) x) e h in
        record {
          reply = (refused a, is, (same, is_reply ∙ ap (λ (b : Answer). error_frame b now) (sym answer)));
          opened_is = refl;
          calls_for = (
            heard (refusal peer now None a) ∷ [],
            (same, refl),
            (later, subst (λ (b : Answer). hears gate (refusal peer now None b) later) (sym answer) k, refl),
          );
        }
    answered_refused found r e (opened q, is, h) same is_reply k = absurd (subst (λ (x : OpenResult). IsOpenResult (opened q) x) e h)

    pub answered_opened : (found : OpenResult) (i : OpenRequest) → found ≡ program.Opened i → ((o : Opens) × opens o × IsOpenResult o found)
        → ((q : Request) → IsOpenRequest q i → AnswersRequest error_frame private_frame full q words now old new bytes
        × CallsForRequest q) → AnsweredWith error_frame private_frame full opens words bytes true
    answered_opened found i e (refused a, is, h) f = absurd (subst (λ (x : OpenResult). IsOpenResult (refused a) x) e h)
    answered_opened found i e (opened q, is, h) f =
        let t = f q (subst (λ (x : OpenResult). IsOpenResult (opened q) x) e h) in
        record { reply = (opened q, is, t.0); opened_is = refl; calls_for = t.1 }
