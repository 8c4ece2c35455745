-- The text of an IPv6 address can be between two spaces.
use Rattle.std.proofs.Common.{◌≡◌, ℕ, ◌<◌, List, [], ◌∷◌, ◌++◌, true, length, length-append}
use Rattle.std.proofs.Common.{arith, codes, inl, inr}
use Rattle.std.specs.Prelude.{◌+◌, ◌/◌, ◌%◌, bytes_eq, nat_le, nat_lt, take, drop}
use Rattle.krb_codec.proofs.CompleteLemmas.{same_or_not}
use Rattle.std.specs.Char.{digit_char}
use Rattle.std.specs.List.{flat_map}
use Rattle.std.specs.Net.Addr.{octets_of}
use Rattle.std.specs.Net.Text.{compressed_text, groups_text, hex, hex_groups_text, ipv4_text, ipv6_text, longest_zero_run}
use Rattle.chpw_printing.specs.Quoting.{are_graphic, byte_text, escaped, is_field, is_plain, quoted}
use Rattle.chpw_printing.proofs.QuotingLemmas.{field_of}

-- what has a first byte has some
some_cons : (x : ℕ) (xs : List ℕ) → 0 < length (x ∷ xs)
some_cons x xs = omega arith

some_front : (front back : List ℕ) → 0 < length front → 0 < length (front ++ back)
some_front front back some = omega (arith, some, length-append front back)

some_back : (front back : List ℕ) → 0 < length back → 0 < length (front ++ back)
some_back front back some = omega (arith, some, length-append front back)

some_byte : (byte : ℕ) → 0 < length (byte_text byte)
some_byte byte = elim (same_or_not (is_plain byte)) [
  | inl plain ↦ rw plain (some_cons byte [])
  | inr other ↦ rw other (some_cons 92 (drop 1 (escaped byte)))
]

some_quoted : (text : List ℕ) → 0 < length text → 0 < length (quoted text)
some_quoted [] some = absurd (omega (arith, some))
some_quoted (byte ∷ rest) some = some_front (byte_text byte) (quoted rest) (some_byte byte)

some_hex : (n : ℕ) → 0 < length (hex n)
unfolding hex
some_hex n = elim (same_or_not (nat_le 0x1000 n)) [
  | inl e ↦ rw e (some_cons (digit_char (n / 0x1000)) (digit_char (n / 0x100 % 16) ∷ digit_char (n / 0x10 % 16) ∷ digit_char (n % 16) ∷ []))
  | inr e ↦ elim (same_or_not (nat_le 0x100 n)) [
    | inl f ↦ rw (e, f) (some_cons (digit_char (n / 0x100 % 16)) (digit_char (n / 0x10 % 16) ∷ digit_char (n % 16) ∷ []))
    | inr f ↦ elim (same_or_not (nat_le 0x10 n)) [
      | inl g ↦ rw (e, f, g) (some_cons (digit_char (n / 0x10 % 16)) (digit_char (n % 16) ∷ []))
      | inr g ↦ rw (e, f, g) (some_cons (digit_char (n % 16)) [])
    ]
  ]
]

some_groups : (s : ℕ) (rest : List ℕ) → 0 < length (groups_text (s ∷ rest))
some_groups s rest = some_front (hex s) (flat_map (λ t. codes ":" ++ hex t) rest) (some_hex s)

some_compressed : (s : ℕ) (rest : List ℕ) (run : ℕ × ℕ) → 0 < length (compressed_text (s ∷ rest) run)
some_compressed s rest run = elim (same_or_not (nat_lt 1 run.1)) [
  | inl long ↦
      let front = groups_text (take run.0 (s ∷ rest)) in
      let back = groups_text (drop (run.0 + run.1) (s ∷ rest)) in
      rw long (some_front (front ++ codes "::") back (some_back front (codes "::") (some_cons 58 (58 ∷ []))))
  | inr short ↦ rw short (some_groups s rest)
]

some_text : (segments : List ℕ) → 0 < length segments → 0 < length (ipv6_text segments)
unfolding ipv6_text hex_groups_text
some_text [] some = absurd (omega (arith, some))
some_text (s ∷ rest) some = elim (same_or_not (bytes_eq (take 6 (s ∷ rest)) (0 ∷ 0 ∷ 0 ∷ 0 ∷ 0 ∷ 0xffff ∷ []))) [
  | inl mapped ↦ rw mapped (some_front (codes "::ffff:") (ipv4_text (octets_of (drop 6 (s ∷ rest)))) (some_cons 58 (codes ":ffff:")))
  | inr other ↦ rw other (some_compressed s rest (longest_zero_run (s ∷ rest)))
]

pub groups_field : (segments : List ℕ) → length segments ≡ 8 → are_graphic (quoted (ipv6_text segments)) ≡ true
    → is_field (quoted (ipv6_text segments)) ≡ true
groups_field segments eight h =
    field_of (quoted (ipv6_text segments)) (some_quoted (ipv6_text segments) (some_text segments (omega (arith, eight)))) h
