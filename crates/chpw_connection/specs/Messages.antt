-- Where a message ends (RFC 3244 section 2): its length is four bytes, high byte first, and its bytes follow.
use Rattle.std.specs.Prelude.{◌≡◌, ℕ, ◌+◌, ◌-◌, List, length, drop, nat_lt, ◌⊎◌, if◌then◌else◌}
use Rattle.chpw_frame.specs.Stream.{message, too_long, next_piece, stated_length, longest}

-- how many bytes are still to come after these, as far as is known: until the length is complete those of the length,
-- and none of a message that is too long
abbrev pub wanted_after : List ℕ → ℕ
wanted_after bytes =
    if nat_lt (length bytes) 4 then 4 - length bytes
    else if nat_lt longest (stated_length bytes) then 0
    else 4 + stated_length bytes - length bytes

-- how many bytes the message has with its length, as far as is known; one that is too long has only its length
abbrev pub whole_after : List ℕ → ℕ
whole_after bytes =
    if nat_lt (length bytes) 4 then 4
    else if nat_lt longest (stated_length bytes) then 4
    else 4 + stated_length bytes

-- exactly the next piece of a stream: a message with its length, or the length of one that is too long
abbrev pub IsPiece : List ℕ → Type 0
IsPiece bytes = (next_piece bytes ≡ message (drop 4 bytes)) ⊎ ((next_piece bytes ≡ too_long) × (length bytes ≡ 4))
