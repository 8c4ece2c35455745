-- For what tests alone call (`serve_alone`): the effect of serving a stream over a table that one thread owns. The
-- bytes written are the replies to the bytes read.
use Rattle.std.specs.Prelude.{◌≡◌, ℕ, ◌+◌, ◌≤◌, List, [], ◌∷◌, ◌++◌, Bool, true, false, length, map, Option, Some}
use Rattle.std.specs.List.{flat_map}
use Rattle.std.specs.Io.KnownBytes.{Appends}
use Rattle.std.specs.declared.net.ip_addr.IpAddr.{IpAddr}
use Rattle.chpw_frame.specs.Stream.{Piece, message, ended, cut_off, too_long, next_piece, after_piece}
use Rattle.chpw_frame.specs.Receiving.{ConsumesSome, AppendsFront}
use Rattle.chpw_table.specs.declared.times.Moment.{Moment}
use Rattle.chpw_table.specs.declared.history.Event.TheVariants.{Ask}
use Rattle.chpw_table.specs.declared.history.Receipt.{Receipt}
use Rattle.chpw_table.specs.History.{outcome}
use Rattle.chpw_table.specs.Replies.{Answer}
use Rattle.chpw_decider.specs.Keeping.{Kept, IsFullAt, IsOpenedLike, entries}
use Rattle.chpw_decider.specs.Making.{Makes}
use Rattle.chpw_serve.specs.declared.messages.Seal.{Seal}
use Rattle.chpw_serve.specs.Requests.{Request, Opens, refused, opened, opened_under}
use Rattle.chpw_serve.specs.declared.gate.Spot.{Spot}
use Rattle.chpw_serve.specs.Hearing.{Heard}
use Rattle.chpw_serve.specs.Answering.{Answering, Unanswered}
use Rattle.chpw_serve.specs.declared.serving.Ended.{Ended}
use Rattle.chpw_serve.specs.declared.serving.Ended.TheVariants as end
use Rattle.chpw_serve.specs.InTurn.{InTurn}
use Rattle.chpw_serve.specs.Serving.{StreamState, TakesAtMostOne, message_too_long}
use Rattle.chpw_serve.specs.StreamReplies.{Draw, Run, verdict_of, is_full, run_after, replies}

-- the answer to a message by a table that one thread owns
abbrev pub AnsweringAlone : {G : Type 0} → (G → Spot → G → Type 0) → (G → Heard → G → Type 0)
    → (Answer → Moment → List ℕ) → (Seal → Answer → List ℕ → List ℕ) → (List ℕ → Opens → Type 0) → IpAddr
    → List ℕ → List ℕ → Moment → Kept → Kept → G → G → List ℕ → Bool → Type 0
AnsweringAlone passes hears error_frame private_frame opens peer text words now before after gate later bytes is_open =
    Answering error_frame private_frame IsFullAt (λ (k : Kept).
    k.receipts) IsOpenedLike Makes passes hears opens peer text words now before after gate later bytes is_open

-- a receipt was added, or none
abbrev pub AddsOneAlone : {G : Type 0} → (G → Spot → G → Type 0)
    → (G → Heard → G → Type 0) → (List ℕ → Opens → Type 0) → IpAddr → List ℕ → Moment → Kept → Kept → G → G → Type 0
AddsOneAlone passes hears opens peer text now before after gate later =
    Unanswered (λ (k : Kept). k.receipts) IsOpenedLike Makes passes hears opens peer text now before after gate later

-- the machine after the history so far
abbrev pub run_of : Kept → Run
run_of k = record {
  state = outcome k.opening.state (entries k.receipts);
  events = k.opening.events + length k.receipts;
}

-- this was drawn for the next piece: for a message, which opens so, or for one that is too long, the last
abbrev pub IsDrawnFor : (List ℕ → Opens → Type 0) → Piece → Draw → List Draw → Type 0
IsDrawnFor opens (message text) d rest = (opens text d.opens) × (length d.words ≡ 9)
IsDrawnFor opens too_long d rest = (d.opens ≡ refused message_too_long) × (length d.words ≡ 9) × (rest ≡ [])
IsDrawnFor opens ended d rest = ⊥
IsDrawnFor opens cut_off d rest = ⊥

-- these were drawn for the messages of the stream, from its first
abbrev pub AreDrawnFor : (List ℕ → Opens → Type 0) → List ℕ → List Draw → Type 0
AreDrawnFor opens stream [] = Unit {0}
AreDrawnFor opens stream (d ∷ ds) =
    IsDrawnFor opens (next_piece stream) d ds
    × AreDrawnFor opens (after_piece (next_piece stream) stream) ds

-- what is left of the stream after them
abbrev pub left_after : List ℕ → List Draw → List ℕ
left_after stream [] = stream
left_after stream (d ∷ ds) = left_after (after_piece (next_piece stream) stream) ds

-- the last was drawn for a message that is too long
abbrev pub EndsTooLong : List ℕ → List Draw → Type 0
EndsTooLong stream draws =
    (before : List Draw) × (last : Draw) × (draws ≡ before ++ last ∷ [])
    × (next_piece (left_after stream before) ≡ too_long)

-- how the stream ended: what comes next in it, or how many messages were answered
abbrev pub IsEndOf : Ended → List ℕ → List Draw → Type 0
IsEndOf end.Input stream draws = next_piece (left_after stream draws) ≡ ended
IsEndOf end.CutOff stream draws = next_piece (left_after stream draws) ≡ cut_off
IsEndOf end.TooLong stream draws = EndsTooLong stream draws
IsEndOf end.Count stream draws = length draws ≡ 65536
IsEndOf _ stream draws = Unit {0}

-- what is left to read, of these bytes after the messages answered
abbrev pub Leaves : Ended → List ℕ → Option (List ℕ) → Type 0
Leaves end.Input rest left = left ≡ Some []
Leaves end.CutOff rest left = left ≡ Some []
Leaves end.ReadFault rest left = ConsumesSome (Some rest) left
Leaves end.Memory rest left = TakesAtMostOne (Some rest) left
Leaves _ rest left = left ≡ Some rest

-- the bytes written grew by these; after a failed write by some of them, from the front
abbrev pub Writes : Ended → Option (List ℕ) → Option (List ℕ) → List ℕ → Type 0
Writes end.WriteFault old new bytes = AppendsFront old new bytes
Writes _ old new bytes = Appends old new bytes

-- the source gave these and no more; for want of memory it may have given more
abbrev pub HasDrawn : {S A : Type 0} → (S → A → S → Type 0) → Ended → S → List A → S → Type 0
HasDrawn {S} gives end.Memory before xs after = (m : S) × InTurn gives before xs m
HasDrawn gives _ before xs after = InTurn gives before xs after

-- the receipt of a request: of this moment, this append, and the machine's verdict
pub record IsReceiptOf (run : Run) (d : Draw) (q : Request) (r : Receipt) : Type 0 where
  pub counts : List ℕ
  pub event_is : r.entry.event ≡ Ask (opened_under counts q) (verdict_of run d q)
  pub now_is : r.entry.now ≡ d.moment
  pub io_is : r.entry.io_failed ≡ d.io

-- one for a request that was decided, and none if the machine was full
abbrev pub IsOwnOf : Bool → Run → Draw → Request → List Receipt → Type 0
IsOwnOf true run d q own = own ≡ []
IsOwnOf false run d q own = (r : Receipt) × (own ≡ r ∷ []) × IsReceiptOf run d q r

-- the receipts of a message that opened so
abbrev pub AreOwnOf : ℕ → Run → Draw → Opens → List Receipt → Type 0
AreOwnOf limit run d (refused a) own = own ≡ []
AreOwnOf limit run d (opened q) own = IsOwnOf (is_full limit run) run d q own

-- the receipts of the messages, in their order
abbrev pub AreReceipts : ℕ → Run → List Draw → List Receipt → Type 0
AreReceipts limit run [] receipts = receipts ≡ []
AreReceipts limit run (d ∷ ds) receipts =
    (own rest : List Receipt) × (receipts ≡ own ++ rest) × AreOwnOf limit run d d.opens own
    × AreReceipts limit (run_after limit run d d.opens) ds rest

-- no more receipts; for want of memory at most one
abbrev pub AreMore : Ended → List Receipt → Type 0
AreMore end.Memory more = length more ≤ 1
AreMore _ more = more ≡ []

-- the receipts grew by those of the messages
abbrev pub AddsReceipts : Ended → ℕ → Run → List Draw → List Receipt → List Receipt → Type 0
AddsReceipts e limit run draws old new =
    (added more : List Receipt) × (new ≡ old ++ added ++ more)
    × AreReceipts limit run draws added × AreMore e more

-- the whole: with these frames, for messages that open so, and such clock and words
pub record IsServedAlone
    {C X G : Type 0} (error_frame : Answer → Moment → List ℕ) (private_frame : Seal → Answer → List ℕ → List ℕ)
    (opens : List ℕ → Opens → Type 0) (moments : C → Moment → C → Type 0)
    (random : X → ℕ → X → Type 0) (e : Ended) (stream : List ℕ) (start final : StreamState C X Kept G) : Type 0 where
  pub draws : List Draw
  pub drawn_for : AreDrawnFor opens stream draws
  pub few : length draws ≤ 65536
  pub end_is : IsEndOf e stream draws
  pub left : Leaves e (left_after stream draws) final.left
  pub moments_are : HasDrawn moments e start.around.clock (map (λ (d : Draw). d.moment) draws) final.around.clock
  pub words_are : HasDrawn random e start.around.words (flat_map (λ (d : Draw). d.words) draws) final.around.words
  pub written : Writes e start.around.out final.around.out
      (replies start.decider.opening.max_entries error_frame private_frame stream (run_of start.decider) draws)
  pub receipts : AddsReceipts e start.decider.opening.max_entries (run_of start.decider) draws
      start.decider.receipts final.decider.receipts
  pub opening : final.decider.opening ≡ start.decider.opening
