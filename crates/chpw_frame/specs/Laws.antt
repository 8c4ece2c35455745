-- Laws of the framing alone.
use Rattle.std.specs.Prelude.{◌≡◌, ℕ, ◌+◌, ◌==◌, ◌<◌, ◌≤◌, ◌^◌, List, [], ◌∷◌, ◌++◌, Bool, true, false, length, None, Some, All}
use Rattle.std.specs.List.{list_any}
use Rattle.chpw_frame.specs.declared.fault.FrameFault.TheVariants.{BadLength, BadVersion, BadParts}
use Rattle.chpw_frame.specs.Stream.{message, ended, cut_off, too_long, longest, next_piece, after_piece, sent}
use Rattle.chpw_frame.specs.Framing.{header_length, request_versions, reply_versions, version_of, ap_of, tail_of, first_fault, framed}
use Rattle.chpw_frame.specs.Cuts.{End, Cuts}

-- a framed text of an accepted version has no fault, and the parts that it was made from
abbrev pub FramedIsWhole : Type 0
FramedIsWhole = (versions : List ℕ) (may_be_empty : Bool) (version : ℕ) (ap tail : List ℕ)
    → list_any (λ v. v == version) versions ≡ true → version < 2 ^ 16
    → (may_be_empty ≡ false → 0 < length ap) → header_length + length ap + length tail ≤ longest
    → (first_fault versions may_be_empty (framed version ap tail) ≡ None)
    × (version_of (framed version ap tail) ≡ version)
    × (ap_of (framed version ap tail) ≡ ap)
    × (tail_of (framed version ap tail) ≡ tail)

-- bytes without a fault are the framed text of their parts
abbrev pub WholeIsFramed : Type 0
WholeIsFramed = (versions : List ℕ) (may_be_empty : Bool) (bytes : List ℕ) → All (λ b. b < 256) bytes
    → first_fault versions may_be_empty bytes ≡ None
    → bytes ≡ framed (version_of bytes) (ap_of bytes) (tail_of bytes)

-- what was sent is the next piece, and the rest follows it
abbrev pub SentIsNext : Type 0
SentIsNext = (bytes left : List ℕ) → length bytes ≤ longest
    → (next_piece (sent bytes ++ left) ≡ message bytes) × (after_piece (message bytes) (sent bytes ++ left) ≡ left)

-- each stream is cut in one way
abbrev pub CutOnce : Type 0
CutOnce = (stream : List ℕ) → All (λ b. b < 256) stream
    → (messages : List (List ℕ)) × (end : End) × Cuts stream messages end
    × ((others : List (List ℕ)) (other : End) → Cuts stream others other → (others ≡ messages) × (other ≡ end))

-- worked examples: requests, replies and streams
abbrev pub WorkedRows : Type 0
WorkedRows =
    (first_fault request_versions false (0 ∷ 6 ∷ 0xff ∷ 0x80 ∷ 0 ∷ 0 ∷ []) ≡ Some BadParts)
    × (first_fault request_versions false (0 ∷ 6 ∷ 0 ∷ 2 ∷ 0 ∷ 0 ∷ []) ≡ Some BadVersion)
    × (first_fault request_versions false (0 ∷ 6 ∷ 0 ∷ 1 ∷ 0 ∷ 0 ∷ []) ≡ Some BadParts)
    × (first_fault request_versions false (0 ∷ 6 ∷ 0 ∷ 0 ∷ 0 ∷ 0 ∷ []) ≡ Some BadVersion)
    × (first_fault request_versions false (0 ∷ 7 ∷ 0 ∷ 1 ∷ 0 ∷ 1 ∷ 0x6e ∷ []) ≡ None)
    × (first_fault request_versions false (0 ∷ 5 ∷ 0xff ∷ 0x80 ∷ 0 ∷ []) ≡ Some BadLength)
    × (first_fault request_versions false (0 ∷ 7 ∷ 0xff ∷ 0x80 ∷ 0 ∷ 1 ∷ 0x6e ∷ []) ≡ None)
    × (first_fault request_versions false (0 ∷ 7 ∷ 0xff ∷ 0x80 ∷ 0 ∷ 2 ∷ 0x6e ∷ []) ≡ Some BadParts)
    × (first_fault reply_versions true (0 ∷ 6 ∷ 0 ∷ 1 ∷ 0 ∷ 0 ∷ []) ≡ None)
    × (next_piece [] ≡ ended)
    × (next_piece (0 ∷ 0 ∷ []) ≡ cut_off)
    × (next_piece (0 ∷ 0 ∷ 0 ∷ 0 ∷ []) ≡ message [])
    × (next_piece (0 ∷ 0 ∷ 0 ∷ 2 ∷ 7 ∷ []) ≡ cut_off)
    × (next_piece (0 ∷ 0 ∷ 0 ∷ 2 ∷ 7 ∷ 8 ∷ 9 ∷ []) ≡ message (7 ∷ 8 ∷ []))
    × (next_piece (0 ∷ 1 ∷ 0 ∷ 0 ∷ []) ≡ too_long)
    × (next_piece (0x80 ∷ 0 ∷ 0 ∷ 0 ∷ []) ≡ too_long)
