-- Turns one after the other.
use Rattle.std.proofs.Common.{◌≡◌, ℕ, List, [], ◌∷◌, ◌++◌, length, Bool, if◌then◌else◌, Option, Some, None, inl, inr}
use Rattle.std.specs.Prelude.{MatchOption}
use Rattle.chpw_endpoints.specs.declared.endpoints.Endpoints.{Endpoints}
use Rattle.chpw_rules.specs.declared.name.Name.{Name}
use Rattle.chpw_record.specs.declared.key.KeyRow.{KeyRow}
use Rattle.chpw_table.specs.declared.digest.Digest.{Digest}
use Rattle.chpw_table.specs.declared.times.Moment.{Moment}
use Rattle.chpw_table.specs.declared.history.Receipt.{Receipt}
use Rattle.chpw_table.specs.Replies.{Answer}
use Rattle.chpw_serve.specs.declared.messages.Seal.{Seal}
use Rattle.chpw_serve.specs.Requests.{Opens, refused, opened}
use Rattle.chpw_serve.specs.Answers.{IsAnswer}
use Rattle.chpw_serve.proofs.DrawLemmas.{drawn_on}
use Rattle.chpw_connections.specs.declared.kdc_change.KdcChange.{KdcChange}
use Rattle.chpw_connections.specs.declared.kdc_change.KdcChange.TheVariants as change
use Rattle.chpw_connections.specs.declared.taking.Reply.{Reply}
use Rattle.chpw_connections.specs.declared.taking.TakenMessage.{TakenMessage}
use Rattle.chpw_table.specs.Updates.{name_in}
use Rattle.chpw_workers.specs.declared.inbox.WorkerTurn.{WorkerTurn}
use Rattle.chpw_workers.specs.declared.inbox.WorkerTurn.TheVariants as turn
use Rattle.chpw_workers.specs.Replies.{IsChangeOf, IsKdcChange, change_made_after}
use Rattle.chpw_workers.specs.Turns.{At, Comes, IsTurn, AreTurns}
use Rattle.chpw_workers.specs.Undecided.{OpensUndecided}

-- what a change left to be put into the KDC's database, if what might be held before may be held still
pub change_lifts : (holds later : Name → Option (List KeyRow) → Type 0)
    → ((name : Name) (keys : Option (List KeyRow)) → holds name keys → later name keys)
    → (has_kdc : Bool) (before : ℕ) (receipts : List Receipt) (left : KdcChange)
    → IsKdcChange holds has_kdc before receipts left → IsKdcChange later has_kdc before receipts left
change_lifts holds later f has_kdc before receipts left h = at (if has_kdc then change_made_after before receipts else None) left h
  where
    of : (made : Name × Digest) (left : KdcChange) → IsChangeOf holds made left → IsChangeOf later made left
    of made change.Nothing h = h
    of made (change.Key c) h = (h.0, (h.1.0, f made.0 h.1.0 h.1.1, h.1.2))
    of made change.Lost h = h

    at : (made : Option (Name × Digest)) (left : KdcChange) → MatchOption made (left ≡ change.Nothing) (λ m. IsChangeOf holds m left)
        → MatchOption made (left ≡ change.Nothing) (λ m. IsChangeOf later m left)
    at None left h = h
    at (Some made) left h = of made left h

module _ {C X : Type 0} (moments : C → Moment → C → Type 0) (random : X → ℕ → X → Type 0)
    (error_frame : Answer → Moment → List ℕ) (private_frame : Seal → Answer → List ℕ → List ℕ) (opens : Endpoints → List ℕ → Opens → Type 0)
  where
    -- an answer that a full history follows, if the history is full then too
    answer_lifts : (full more : Type 0) → (full → more) → (os : Opens → Type 0) (words : List ℕ) (now : Moment) (old new : List Receipt) (bytes : List ℕ)
        → IsAnswer error_frame private_frame full os words now old new bytes → IsAnswer error_frame private_frame more os words now old new bytes
    answer_lifts full more f os words now old new bytes (refused a, o, h) = (refused a, o, h)
    answer_lifts full more f os words now old new bytes (opened q, o, inl h) = (opened q, o, inl (h.0, f h.1, h.2))
    answer_lifts full more f os words now old new bytes (opened q, o, inr h) = (opened q, o, inr h)

    pub comes_lifts : (full more : List Receipt → Type 0) → ((rs : List Receipt) → full rs → more rs) → (taken : TakenMessage) (its_reply : Option Reply)
        (old new : At C X) → Comes moments random error_frame private_frame opens full taken its_reply old new
        → Comes moments random error_frame private_frame opens more taken its_reply old new
    comes_lifts full more f taken its_reply old new (inl h) = inl (record {
      text = h.text;
      moment = h.moment;
      words = h.words;
      bytes = h.bytes;
      text_is = h.text_is;
      draws = h.draws;
      answer = answer_lifts (full new.receipts) (more new.receipts) (f new.receipts) _ h.words h.moment old.receipts new.receipts h.bytes h.answer;
      reply = h.reply;
    })
    comes_lifts full more f taken its_reply old new (inr (inl h)) = inr (inl (record {
      moment = h.moment;
      words = h.words;
      longer = h.longer;
      draws = h.draws;
      none = h.none;
      reply = h.reply;
    }))
    comes_lifts full more f taken its_reply old new (inr (inr h)) = inr (inr (record { left = h.left; reply = h.reply }))

module _ {C X : Type 0} (moments : C → Moment → C → Type 0) (random : X → ℕ → X → Type 0)
    (error_frame : Answer → Moment → List ℕ) (private_frame : Seal → Answer → List ℕ → List ℕ) (opens : Endpoints → List ℕ → Opens → Type 0)
  where
    abbrev One : (List Receipt → Type 0) → (Name → Option (List KeyRow) → Type 0) → Bool → At C X → WorkerTurn → At C X → Type 0
    One full holds has_kdc = IsTurn moments random error_frame private_frame opens full holds has_kdc

    abbrev All : (List Receipt → Type 0) → (Name → Option (List KeyRow) → Type 0) → Bool → At C X → List WorkerTurn → At C X → Type 0
    All full holds has_kdc = AreTurns moments random error_frame private_frame opens full holds has_kdc

    pub turn_lifts : (full more : List Receipt → Type 0) → ((rs : List Receipt) → full rs → more rs)
        → (holds later : Name → Option (List KeyRow) → Type 0) → ((name : Name) (keys : Option (List KeyRow)) → holds name keys → later name keys)
        → (has_kdc : Bool) (old : At C X) (t : WorkerTurn) (new : At C X) → One full holds has_kdc old t new → One more later has_kdc old t new
    turn_lifts full more f holds later g has_kdc old (turn.Message t) new h = record {
      comes = comes_lifts moments random error_frame private_frame opens full more f t.taken t.reply old new h.comes;
      change = change_lifts holds later g has_kdc (length old.receipts) new.receipts t.change h.change;
    }
    turn_lifts full more f holds later g has_kdc old (turn.Undecided t) new h = (
      record {
        comes = comes_lifts moments random error_frame private_frame (OpensUndecided opens) full more f t.taken t.reply old new h.0.comes;
        change = change_lifts holds later g has_kdc (length old.receipts) new.receipts t.change h.0.change;
      },
      h.1,
    )
    turn_lifts full more f holds later g has_kdc old (turn.Update t) new h = record {
      moment = h.moment;
      moment_is = h.moment_is;
      words = h.words;
      entry = h.entry;
      newest = (h.newest.0, g (name_in t.update) h.newest.0 h.newest.1, h.newest.2);
    }

    -- what may have been full may be so still, and what may have been held
    pub turns_lift : (full more : List Receipt → Type 0) → ((rs : List Receipt) → full rs → more rs)
        → (holds later : Name → Option (List KeyRow) → Type 0) → ((name : Name) (keys : Option (List KeyRow)) → holds name keys → later name keys)
        → (has_kdc : Bool) (old : At C X) (ts : List WorkerTurn) (new : At C X) → All full holds has_kdc old ts new → All more later has_kdc old ts new
    turns_lift full more f holds later g has_kdc old [] new h = h
    turns_lift full more f holds later g has_kdc old (t ∷ ts) new h =
        (h.0, turn_lifts full more f holds later g has_kdc old t h.0 h.1, turns_lift full more f holds later g has_kdc h.0 ts new h.2)

    -- one turn more
    pub turns_more : (full : List Receipt → Type 0) (holds : Name → Option (List KeyRow) → Type 0) (has_kdc : Bool) (old : At C X) (ts : List
        WorkerTurn) (mid : At C X)
        (t : WorkerTurn) (new : At C X) → All full holds has_kdc old ts mid → One full holds has_kdc mid t new → All full holds has_kdc old (ts ++ t ∷ []) new
    turns_more full holds has_kdc old ts mid t new h g = drawn_on (One full holds has_kdc) old ts mid t new h g
