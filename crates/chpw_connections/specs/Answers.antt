-- What has been answered, and what is answered with the same reply again. Moments are milliseconds.
use Rattle.std.specs.Prelude.{ℕ, ◌+◌, ◌-◌, List, [], ◌∷◌, length, sum_by, take, filter, Option, Bool, ◌&&◌, nat_lt, nat_le, if◌then◌else◌}
use Rattle.std.specs.List.{find}
use Rattle.std.specs.Option.{option_map}
use Rattle.std.specs.Str.{bytes_eq}
use Rattle.chpw_connections.specs.declared.sender.Sender.{Sender}
use Rattle.chpw_connections.specs.Senders.{is_same_sender}

-- a message from a sender, its reply, and when that was given
pub record Answer : Type 0 where
  pub sender : Sender
  pub message : List ℕ
  pub reply : List ℕ
  pub moment : ℕ

-- within the last five seconds
abbrev pub is_recent : ℕ → Answer → Bool
is_recent now a = nat_lt (now - a.moment) 5000

-- the very bytes from the same address and port
abbrev pub is_for : Sender → List ℕ → Answer → Bool
is_for sender message a = is_same_sender a.sender sender && bytes_eq a.message message

-- the bytes of its message and of its reply
abbrev pub size_of : Answer → ℕ
size_of a = length a.message + length a.reply

abbrev pub bytes_of : List Answer → ℕ
bytes_of answers = sum_by size_of answers

-- the longest beginning that has no more bytes than these
abbrev pub within : ℕ → List Answer → List Answer
within bytes [] = []
within bytes (a ∷ answers) = if nat_le (size_of a) bytes then a ∷ within (bytes - size_of a) answers else []

-- at most 1,024 are kept, with 4 MiB of messages and replies, the newest first, and none that isn't recent beside a new
-- one
abbrev pub after_keep : List Answer → Answer → List Answer
after_keep answers a = within 4194304 (take 1024 (a ∷ filter (is_recent a.moment) answers))

-- the reply that this message gets again: that of the newest
abbrev pub reply_for : List Answer → Sender → List ℕ → ℕ → Option (List ℕ)
reply_for answers sender message now =
    option_map (λ (a : Answer). a.reply) (find (λ (a : Answer). is_for sender message a && is_recent now a) answers)
