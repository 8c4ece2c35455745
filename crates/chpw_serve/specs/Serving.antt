-- Serving a stream: message after message is taken, answered and written.
use Rattle.std.specs.Prelude.{◌≡◌, ℕ, ◌<◌, List, length, Bool, true, false, ◌&&◌, Option, None, ◌⊎◌, codes}
use Rattle.std.specs.Io.KnownBytes.{Appends}
use Rattle.std.specs.declared.net.ip_addr.IpAddr.{IpAddr}
use Rattle.krb_protocol.specs.declared.codes.TheConstants.{KRB5_KPASSWD_MALFORMED, KRB_ERR_FIELD_TOOLONG}
use Rattle.chpw_frame.specs.Stream.{Piece, message, ended, cut_off, too_long, sent}
use Rattle.chpw_frame.specs.Receiving.{TakesPiece, TakesLength, ConsumesSome, AppendsFront}
use Rattle.chpw_table.specs.declared.times.Moment.{Moment}
use Rattle.chpw_table.specs.Replies.{Answer, by_error}
use Rattle.chpw_serve.specs.declared.gate.Spot.{Spot}
use Rattle.chpw_serve.specs.declared.gate.Spot.TheVariants as spot
use Rattle.chpw_serve.specs.Hearing.{Heard, refusal as heard_refusal}
use Rattle.chpw_serve.specs.declared.serving.Ended.{Ended}
use Rattle.chpw_serve.specs.declared.serving.Ended.TheVariants as end
use Rattle.chpw_serve.specs.InTurn.{InTurn}

-- the reply to a message above 65,535 bytes, of which none is read
abbrev pub message_too_long : Answer
message_too_long = by_error KRB5_KPASSWD_MALFORMED KRB_ERR_FIELD_TOOLONG (codes "message too long")

-- the bytes written, if they are known, the clock, the words, and what is gate and observer
pub record Around (C X G : Type 0) : Type 0 where
  pub out : Option (List ℕ)
  pub clock : C
  pub words : X
  pub gate : G

-- those, the bytes left to read, if they are known, and the decider
pub record StreamState (C X D G : Type 0) : Type 0 where
  pub left : Option (List ℕ)
  pub decider : D
  pub around : Around C X G

abbrev pub stream_state : {C X D G : Type 0} → Option (List ℕ) → D → Option (List ℕ) → C → X → G → StreamState C X D G
stream_state left decider out clock words gate =
    record { left = left; decider = decider; around = record { out = out; clock = clock; words = words; gate = gate } }

-- a message with the moment and words drawn for it, whether it opened, and its reply
pub record Turn : Type 0 where
  pub text : List ℕ
  pub moment : Moment
  pub words : List ℕ
  pub opened : Bool
  pub reply : List ℕ

-- if memory ran out, known bytes lose the length of a message, or a whole piece
abbrev pub TakesAtMostOne : Option (List ℕ) → Option (List ℕ) → Type 0
TakesAtMostOne old new = TakesLength old new ⊎ ((p : Piece) × TakesPiece p old new)

-- after a reply that was written the gate is passed again, where its message opened
abbrev pub Passes : {G : Type 0} → (G → Spot → G → Type 0) → Bool → G → G → Type 0
Passes passes true gate later = passes gate spot.Answered later
Passes passes false gate later = later ≡ gate

module _ {C X G : Type 0} (refusal : Moment → List ℕ) (moments : C → Moment → C → Type 0)
    (random : X → ℕ → X → Type 0) (hears : G → Heard → G → Type 0) (peer : IpAddr) where
  -- the refusal of a too long message, which the observer hears
  pub record Refuses (before after : Around C X G) (bytes : List ℕ) : Type 0 where
    pub moment : Moment
    pub words : List ℕ
    pub moment_is : moments before.clock moment after.clock
    pub words_are : InTurn random before.words words after.words
    pub nine : length words ≡ 9
    pub bytes_are : bytes ≡ sent (refusal moment)
    pub heard : hears before.gate (heard_refusal peer moment None message_too_long) after.gate

  abbrev pub IsRefused : Ended → Around C X G → Around C X G → Type 0
  IsRefused end.TooLong before after = (bytes : List ℕ) × Refuses before after bytes × Appends before.out after.out bytes
  IsRefused end.WriteFault before after = (bytes : List ℕ) × Refuses before after bytes × AppendsFront before.out after.out bytes
  IsRefused end.Memory before after = (bytes : List ℕ) × Refuses before after bytes × (after.out ≡ before.out)
  IsRefused _ before after = ⊥

module _ {C X D G : Type 0} (answers : List ℕ → List ℕ → Moment → D → D → G → G → List ℕ → Bool → Type 0)
    (adds : List ℕ → Moment → D → D → G → G → Type 0)
    (refusal : Moment → List ℕ) (moments : C → Moment → C → Type 0) (random : X → ℕ → X → Type 0)
    (passes : G → Spot → G → Type 0) (hears : G → Heard → G → Type 0) (peer : IpAddr) where
  -- the turn's reply answers its message; after one that was written the gate is passed once more
  pub record Answers (is_written : Bool) (before : StreamState C X D G) (t : Turn) (after : StreamState C X D G) : Type 0 where
    pub moment : moments before.around.clock t.moment after.around.clock
    pub words : InTurn random before.around.words t.words after.around.words
    pub nine : length t.words ≡ 9
    pub gate : G
    pub answer : answers t.text t.words t.moment before.decider after.decider before.around.gate gate t.reply t.opened
    pub passed : Passes passes (is_written && t.opened) gate after.around.gate

  -- a message was taken, answered, and its reply written
  abbrev pub Serves : StreamState C X D G → Turn → StreamState C X D G → Type 0
  Serves before t after = TakesPiece (message t.text) before.left after.left × Answers true before t after
      × Appends before.around.out after.around.out (sent t.reply)

  abbrev pub StaysOtherwise : StreamState C X D G → StreamState C X D G → Type 0
  StaysOtherwise before after = (after.around ≡ before.around) × (after.decider ≡ before.decider)

  -- a message was taken, and for want of memory no reply was written
  pub record Leaves (before after : StreamState C X D G) : Type 0 where
    pub text : List ℕ
    pub moment : Moment
    pub words : List ℕ
    pub taken : TakesPiece (message text) before.left after.left
    pub moment_is : moments before.around.clock moment after.around.clock
    pub words_are : InTurn random before.around.words words after.around.words
    pub nine : length words ≡ 9
    pub adds_it : adds text moment before.decider after.decider before.around.gate after.around.gate
    pub out : after.around.out ≡ before.around.out

  -- how serving ends, after the turns before
  abbrev pub EndsBy : Ended → StreamState C X D G → StreamState C X D G → Type 0
  EndsBy end.Input before after = TakesPiece ended before.left after.left × StaysOtherwise before after
  EndsBy end.CutOff before after = TakesPiece cut_off before.left after.left × StaysOtherwise before after
  EndsBy end.ReadFault before after = ConsumesSome before.left after.left × StaysOtherwise before after
  EndsBy end.TooLong before after = TakesPiece too_long before.left after.left
      × IsRefused refusal moments random hears peer end.TooLong before.around after.around × (after.decider ≡ before.decider)
  EndsBy end.WriteFault before after =
      ((t : Turn) × TakesPiece (message t.text) before.left after.left × Answers false before t after
      × AppendsFront before.around.out after.around.out (sent t.reply))
      ⊎ (TakesPiece too_long before.left after.left
      × IsRefused refusal moments random hears peer end.WriteFault before.around after.around × (after.decider ≡ before.decider))
  EndsBy end.Memory before after =
      (TakesLength before.left after.left × StaysOtherwise before after)
      ⊎ (Leaves before after
      ⊎ (TakesPiece too_long before.left after.left
      × IsRefused refusal moments random hears peer end.Memory before.around after.around × (after.decider ≡ before.decider)))
  EndsBy end.Count before after = ⊥

  -- the end after this many turns; after the last there is none
  abbrev pub IsEnd : Ended → ℕ → StreamState C X D G → StreamState C X D G → Type 0
  IsEnd end.Count n before after = (n ≡ 65536) × (after ≡ before)
  IsEnd e n before after = (n < 65536) × EndsBy e before after

  -- the whole: turns from the start on, and the end
  pub record IsServed (e : Ended) (start final : StreamState C X D G) : Type 0 where
    pub turns : List Turn
    pub last : StreamState C X D G
    pub served : InTurn Serves start turns last
    pub end_is : IsEnd e (length turns) last final
