-- What holds of all that is answered.
use Rattle.std.specs.Prelude.{◌≡◌, ℕ, ◌-◌, ◌<◌, ◌≤◌, List, [], ◌∷◌, ◌++◌, length, All, IfSome, IsSome}
use Rattle.chpw_connections.specs.declared.sender.Sender.{Sender}
use Rattle.chpw_connections.specs.Answers.{Answer, bytes_of, after_keep, reply_for}

-- what is kept after these answers, the first of them first
abbrev pub kept_behind : List Answer → List Answer → List Answer
kept_behind kept [] = kept
kept_behind kept (a ∷ answers) = kept_behind (after_keep kept a) answers

-- this reply was given to these very bytes from this sender, less than five seconds ago
pub record WasGiven (answers : List Answer) (sender : Sender) (message reply : List ℕ) (now : ℕ) : Type 0 where
  pub before : List Answer
  pub later : List Answer
  pub answer : Answer
  pub parts : answers ≡ before ++ answer ∷ later
  pub sender_is : answer.sender ≡ sender
  pub message_is : answer.message ≡ message
  pub reply_is : answer.reply ≡ reply
  pub recent : now - answer.moment < 5000

-- what is given again was given to that sender and message
abbrev pub GivenAgain : Type 0
GivenAgain =
    (answers : List Answer) (sender : Sender) (message : List ℕ) (now : ℕ)
    → IfSome (reply_for (kept_behind [] answers) sender message now) (λ (reply : List ℕ). WasGiven answers sender message reply now)

-- within five seconds an answer is given again, unless 1,024 others have been given since, or it has more than 4 MiB
-- with those; the clock doesn't go back
abbrev pub IsRemembered : Type 0
IsRemembered =
    (before later : List Answer) (a : Answer) (now : ℕ)
    → now - a.moment < 5000
    → All (λ (b : Answer). b.moment ≤ now) later
    → length later < 1024
    → bytes_of (a ∷ later) ≤ 4194304
    → IsSome (reply_for (kept_behind [] (before ++ a ∷ later)) a.sender a.message now)
