-- A worker's turn: a message that it took, or what the KDC says, and what came of it.
use Rattle.std.specs.Prelude.{◌≡◌, ℕ, List, length, Bool, true, false, Option, None, ◌⊎◌, MatchResult}
use Rattle.chpw_endpoints.specs.declared.endpoints.Endpoints.{Endpoints}
use Rattle.chpw_frame.specs.Stream.{message, too_long, next_piece, sent}
use Rattle.chpw_table.specs.declared.times.Moment.{Moment}
use Rattle.chpw_table.specs.declared.history.Receipt.{Receipt}
use Rattle.chpw_table.specs.declared.verdict.Verdict.{Verdict}
use Rattle.chpw_table.specs.Replies.{Answer}
use Rattle.chpw_table.specs.declared.updating.KdcUpdate.{KdcUpdate}
use Rattle.chpw_table.specs.declared.updating.UpdateVerdict.{UpdateVerdict}
use Rattle.chpw_table.specs.declared.history.Event.TheVariants.{Update}
use Rattle.chpw_table.specs.Updates.{name_in}
use Rattle.chpw_record.specs.declared.key.KeyRow.{KeyRow}
use Rattle.chpw_rules.specs.declared.name.Name.{Name}
use Rattle.chpw_decider.specs.Deciding.{AddsEvent, AddsReceipt}
use Rattle.chpw_book.specs.Newest.{IsNewestHeld}
use Rattle.chpw_serve.specs.declared.messages.Seal.{Seal}
use Rattle.chpw_serve.specs.Requests.{Request, Opens, opened, opened_under}
use Rattle.chpw_serve.specs.Answers.{IsAnswer}
use Rattle.chpw_serve.specs.InTurn.{InTurn}
use Rattle.chpw_serve.specs.Serving.{message_too_long}
use Rattle.chpw_connections.specs.declared.taking.Reply.{Reply}
use Rattle.chpw_connections.specs.declared.taking.TakenMessage.{TakenMessage}
use Rattle.chpw_connections.specs.declared.taking.Turn.{Turn}
use Rattle.chpw_workers.specs.declared.updates.UpdateTurn.{UpdateTurn}
use Rattle.chpw_workers.specs.declared.inbox.WorkerTurn.{WorkerTurn}
use Rattle.chpw_workers.specs.declared.inbox.WorkerTurn.TheVariants as turn
use Rattle.chpw_workers.specs.Replies.{IsReplyWith, IsKdcChange}
use Rattle.chpw_workers.specs.Undecided.{OpensUndecided}
use Rattle.chpw_connections.specs.Turns.{message_of, ends_of}

-- where a worker is between two turns: the receipts of its entries, its clock and its random words
pub record At (C X : Type 0) : Type 0 where
  pub receipts : List Receipt
  pub clock : C
  pub words : X

abbrev pub at : {C X : Type 0} → List Receipt → C → X → At C X
at receipts clock words = record { receipts = receipts; clock = clock; words = words }

-- one entry was added: of the request that the message opened to, with some keys derived, judged at this moment
pub record AddsEntry (opens : Endpoints → List ℕ → Opens → Type 0) (taken : TakenMessage) (moment : Moment) (old new : List Receipt) : Type 0 where
  pub text : List ℕ
  pub request : Request
  pub counts : List ℕ
  pub verdict : Verdict
  pub text_is : next_piece (message_of taken) ≡ message text
  pub opens_so : opens (ends_of taken) text (opened request)
  pub adds : AddsReceipt old new moment (opened_under counts request) verdict

module _ {C X : Type 0} (moments : C → Moment → C → Type 0) (holds : Name → Option (List KeyRow) → Type 0) where
  -- What the KDC says was decided at the moment that was drawn, by the entry that was added; or it was refused, and there is
  -- none. What the turn tells of its name's newest key was held.
  pub record IsUpdated (t : UpdateTurn) (old new : At C X) : Type 0 where
    pub moment : Moment
    pub moment_is : moments old.clock moment new.clock
    pub words : new.words ≡ old.words
    pub entry : MatchResult t.outcome (λ v. AddsEvent old.receipts new.receipts moment (Update t.update v)) (λ fault. new.receipts ≡ old.receipts)
    pub newest : IsNewestHeld holds (name_in t.update) t.newest

-- who hears of the worker's updates heard of this one if it was decided
abbrev pub IsToldTo : {G : Type 0} → (G → Moment → KdcUpdate → UpdateVerdict → G → Type 0) → G → UpdateTurn → G → Type 0
IsToldTo hears old t new = MatchResult t.outcome (λ v. (moment : Moment) × hears old moment t.update v new) (λ fault. new ≡ old)

module _ {C X : Type 0} (moments : C → Moment → C → Type 0) (random : X → ℕ → X → Type 0) where
  -- one moment was drawn, and nine words
  pub record Draws (old new : At C X) (moment : Moment) (words : List ℕ) : Type 0 where
    pub moment_is : moments old.clock moment new.clock
    pub words_are : InTurn random old.words words new.words
    pub nine : length words ≡ 9

  module _ (error_frame : Answer → Moment → List ℕ) (private_frame : Seal → Answer → List ℕ → List ℕ)
      (opens : Endpoints → List ℕ → Opens → Type 0) (full : List Receipt → Type 0) where
    -- The reply answers the message's text, judged at the moment that was drawn: if it opened, by the entry that was added,
    -- whose request is the one that it opened to and whose verdict the reply carries; or there is no entry, since it
    -- didn't open, or since the history is full.
    pub record IsAnswered (taken : TakenMessage) (its_reply : Option Reply) (old new : At C X) : Type 0 where
      pub text : List ℕ
      pub moment : Moment
      pub words : List ℕ
      pub bytes : List ℕ
      pub text_is : next_piece (message_of taken) ≡ message text
      pub draws : Draws old new moment words
      pub answer : IsAnswer error_frame private_frame (full new.receipts) (opens (ends_of taken) text)
          words moment old.receipts new.receipts bytes
      pub reply : IsReplyWith (sent bytes) false its_reply

    -- the message is too long: there is no entry, and it is refused
    pub record IsTooLong (taken : TakenMessage) (its_reply : Option Reply) (old new : At C X) : Type 0 where
      pub moment : Moment
      pub words : List ℕ
      pub longer : next_piece (message_of taken) ≡ too_long
      pub draws : Draws old new moment words
      pub none : new.receipts ≡ old.receipts
      pub reply : IsReplyWith (sent (error_frame message_too_long moment)) true its_reply

    -- Memory ran out: there is no reply. Nothing was drawn, and there is no entry; or a moment and words were drawn, and there
    -- is no entry, or one: of the request that the message opened to, judged at that moment.
    pub record IsUnanswered (taken : TakenMessage) (its_reply : Option Reply) (old new : At C X) : Type 0 where
      pub left : (new ≡ old) ⊎ ((moment : Moment) × (words : List ℕ) × Draws old new moment words
          × ((new.receipts ≡ old.receipts) ⊎ AddsEntry opens taken moment old.receipts new.receipts))
      pub reply : its_reply ≡ None

    abbrev pub Comes : TakenMessage → Option Reply → At C X → At C X → Type 0
    Comes taken its_reply old new = IsAnswered taken its_reply old new ⊎ (IsTooLong taken its_reply old new ⊎ IsUnanswered taken its_reply old new)

    -- a message's turn, and what it leaves to be put into the KDC's database
    pub record IsMessageTurn (holds : Name → Option (List KeyRow) → Type 0) (has_kdc : Bool) (t : Turn) (old new : At C X) : Type 0 where
      pub comes : Comes t.taken t.reply old new
      pub change : IsKdcChange holds has_kdc (length old.receipts) new.receipts t.change

  module _ (error_frame : Answer → Moment → List ℕ) (private_frame : Seal → Answer → List ℕ → List ℕ)
      (opens : Endpoints → List ℕ → Opens → Type 0) (full : List Receipt → Type 0) where
    -- in a turn whose message isn't decided there is no entry
    abbrev pub IsTurn : (Name → Option (List KeyRow) → Type 0) → Bool → At C X → WorkerTurn → At C X → Type 0
    IsTurn holds has_kdc old (turn.Message t) new = IsMessageTurn error_frame private_frame opens full holds has_kdc t old new
    IsTurn holds has_kdc old (turn.Undecided t) new =
        IsMessageTurn error_frame private_frame (OpensUndecided opens) full holds has_kdc t old new × (new.receipts ≡ old.receipts)
    IsTurn holds has_kdc old (turn.Update t) new = IsUpdated moments holds t old new

    -- one turn after the other
    abbrev pub AreTurns : (Name → Option (List KeyRow) → Type 0) → Bool → At C X → List WorkerTurn → At C X → Type 0
    AreTurns holds has_kdc old turns new = InTurn (IsTurn holds has_kdc) old turns new
