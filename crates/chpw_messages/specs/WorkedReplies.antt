-- Worked replies of the realm EXAMPLE.COM.
use Rattle.std.specs.Prelude.{◌≡◌, ℕ, pos, List, [], ◌∷◌, codes, take, drop}
use Rattle.chpw_table.specs.declared.times.Moment.{Moment}
use Rattle.chpw_table.specs.Replies.{by_error}
use Rattle.chpw_messages.specs.Replies.{error_frame}

-- 2024-01-02T03:04:05Z
abbrev pub new_year : Moment
new_year = record { seconds = pos 1704164645; micros = 0 }

abbrev pub example_realm : List ℕ
example_realm = codes "EXAMPLE.COM"

abbrev pub malformed_frame : List ℕ
malformed_frame = error_frame example_realm (by_error 1 (pos 60) (codes "malformed")) new_year

-- to a request whose AP-REQ is empty: the bytes before the time, and after it
abbrev pub MalformedReply : Type 0
MalformedReply = (take 24 malformed_frame ≡ 0
    ∷ 110 ∷ 0 ∷ 1 ∷ 0 ∷ 0 ∷ 126 ∷ 102 ∷ 48 ∷ 100 ∷ 160 ∷ 3 ∷ 2 ∷ 1 ∷ 5 ∷ 161 ∷ 3 ∷ 2 ∷ 1 ∷ 30 ∷ 164 ∷ 17 ∷ 24 ∷ 15 ∷ [])
    × (drop 39 malformed_frame ≡ 165 ∷ 3 ∷ 2 ∷ 1 ∷ 0 ∷ 166 ∷ 3 ∷ 2
    ∷ 1 ∷ 60 ∷ 169 ∷ 13 ∷ 27 ∷ 11 ∷ 69 ∷ 88 ∷ 65 ∷ 77 ∷ 80 ∷ 76 ∷ 69 ∷ 46 ∷ 67 ∷ 79 ∷ 77 ∷ 170 ∷ 29 ∷ 48 ∷ 27 ∷ 160
    ∷ 3 ∷ 2 ∷ 1 ∷ 2 ∷ 161 ∷ 20 ∷ 48 ∷ 18 ∷ 27 ∷ 6 ∷ 107 ∷ 97 ∷ 100 ∷ 109 ∷ 105 ∷ 110 ∷ 27 ∷ 8 ∷ 99 ∷ 104 ∷ 97 ∷ 110
    ∷ 103 ∷ 101 ∷ 112 ∷ 119 ∷ 172 ∷ 13 ∷ 4 ∷ 11 ∷ 0 ∷ 1 ∷ 109 ∷ 97 ∷ 108 ∷ 102 ∷ 111 ∷ 114 ∷ 109 ∷ 101 ∷ 100 ∷ [])

-- to a request of another version: its first bytes
abbrev pub VersionReply : Type 0
VersionReply = take 10 (error_frame example_realm (by_error 6 (pos 60) (codes "bad version")) new_year)
    ≡ 0x00 ∷ 0x70 ∷ 0x00 ∷ 0x01 ∷ 0x00 ∷ 0x00 ∷ 0x7e ∷ 0x68 ∷ 0x30 ∷ 0x66 ∷ []

-- to a message that is too long: its first bytes
abbrev pub TooLongReply : Type 0
TooLongReply = take 10 (error_frame example_realm (by_error 1 (pos 61) (codes "message too long")) new_year)
    ≡ 0x00 ∷ 0x75 ∷ 0x00 ∷ 0x01 ∷ 0x00 ∷ 0x00 ∷ 0x7e ∷ 0x6d ∷ 0x30 ∷ 0x6b ∷ []
