-- The replies to a stream of two messages: an empty one, and one that announces 65,536 bytes. After
-- a stream that is cut off there are none.
use Rattle.std.proofs.Common.{◌≡◌, ℕ, List, [], ◌∷◌, ◌++◌, false, refl}
use Rattle.chpw_frame.specs.Stream.{sent}
use Rattle.chpw_table.specs.declared.times.Moment.{Moment}
use Rattle.chpw_table.specs.Replies.{Answer}
use Rattle.chpw_serve.specs.declared.messages.Seal.{Seal}
use Rattle.chpw_serve.specs.Requests.{refused}
use Rattle.chpw_serve.specs.Serving.{message_too_long}
use Rattle.chpw_serve.specs.StreamReplies.{Draw, Run, replies}

module _ (limit : ℕ) (error_frame : Answer → Moment → List ℕ) (private_frame : Seal → Answer → List ℕ → List ℕ)
    (run : Run) (malformed : Answer) (first second : Moment) (words : List ℕ) where
  drawn : Answer → Moment → Draw
  drawn a now = record { moment = now; words = words; io = false; opens = refused a }

  two_messages : replies limit error_frame private_frame (0 ∷ 0 ∷ 0 ∷ 0 ∷ 0 ∷ 1 ∷ 0 ∷ 0 ∷ []) run (drawn malformed first ∷ drawn message_too_long second ∷ [])
      ≡ sent (error_frame malformed first) ++ sent (error_frame message_too_long second)
  unfolding drawn
  two_messages = refl

  cut_off : replies limit error_frame private_frame (0 ∷ 0 ∷ 0 ∷ 2 ∷ 5 ∷ []) run (drawn malformed first ∷ []) ≡ []
  cut_off = refl
