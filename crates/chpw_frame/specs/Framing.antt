-- A message of RFC 3244 section 2: message length, version and AP length, two bytes each, high
-- byte first, then the AP part, then the tail.
use Rattle.std.specs.Prelude.{ℕ, ◌+◌, List, [], ◌∷◌, ◌++◌, Bool, not, ◌&&◌, ◌||◌, ◌==◌, nat_lt, if◌then◌else◌, length, take, drop, Option, Some, None}
use Rattle.std.specs.List.{list_any}
use Rattle.std.specs.Int.{from_be_bytes, to_be_bytes, w16}
use Rattle.chpw_frame.specs.declared.fault.FrameFault.{FrameFault}
use Rattle.chpw_frame.specs.declared.fault.FrameFault.TheVariants.{BadLength, BadVersion, BadParts}

-- the version of a request
abbrev pub request_version : ℕ
request_version = 0xff80

-- the version in the earlier protocol (draft-ietf-cat-kerb-chg-password-02 section 3)
abbrev pub old_request_version : ℕ
old_request_version = 0x0001

-- the versions that are accepted
abbrev pub request_versions : List ℕ
request_versions = request_version ∷ old_request_version ∷ []

-- the version of a reply
abbrev pub reply_version : ℕ
reply_version = 0x0001

abbrev pub reply_versions : List ℕ
reply_versions = reply_version ∷ []

-- message length, version and AP length have this many bytes
abbrev pub header_length : ℕ
header_length = 6

-- the number in the two bytes at this place
abbrev pub number_at : List ℕ → ℕ → ℕ
number_at bytes place = from_be_bytes w16 (take 2 (drop place bytes))

abbrev pub version_of : List ℕ → ℕ
version_of bytes = number_at bytes 2

abbrev pub ap_length_of : List ℕ → ℕ
ap_length_of bytes = number_at bytes 4

abbrev pub ap_of : List ℕ → List ℕ
ap_of bytes = take (ap_length_of bytes) (drop header_length bytes)

abbrev pub tail_of : List ℕ → List ℕ
tail_of bytes = drop (ap_length_of bytes) (drop header_length bytes)

-- the length field is the length, with the header
abbrev pub is_whole : List ℕ → Bool
is_whole bytes = not (nat_lt (length bytes) header_length) && (number_at bytes 0 == length bytes)

-- the AP part ends after the message
abbrev pub is_past_end : List ℕ → Bool
is_past_end bytes = nat_lt (length bytes) (header_length + ap_length_of bytes)

-- the first fault of a message that may have these versions; an empty AP part is one in a request
abbrev pub first_fault : List ℕ → Bool → List ℕ → Option FrameFault
first_fault versions may_be_empty bytes =
    if not (is_whole bytes) then Some BadLength
    else if not (list_any (λ v. v == version_of bytes) versions) then Some BadVersion
    else if (not may_be_empty && (ap_length_of bytes == 0)) || is_past_end bytes then Some BadParts
    else None

-- the text with these parts
abbrev pub framed : ℕ → List ℕ → List ℕ → List ℕ
framed version ap tail =
    to_be_bytes w16 (header_length + length ap + length tail)
    ++ to_be_bytes w16 version
    ++ to_be_bytes w16 (length ap)
    ++ ap
    ++ tail
