-- Sealed texts, taken apart.
use Rattle.std.proofs.Common.{◌≡◌, ℕ, ◌+◌, ◌-◌, ◌<◌, ◌≤◌, ◌/◌, ◌%◌, List, [], ◌∷◌, ◌++◌, length, take, drop, sym, ap, ◌∙◌, arith, length-append, length-drop}
use Rattle.std.proofs.lemmas.List.{take_at, drop_at, take-append-drop, length-take-le}
use Rattle.std.proofs.lemmas.List.Elements.{All-nil, All-cons, All-append, All-take, All-drop}
use Rattle.krb_aes.specs.Bytes.{AreBytes}
use Rattle.krb_aes.specs.KeyExpansion.{IsKey}
use Rattle.krb_aes.specs.Aes.{aes, unaes}
use Rattle.krb_aes.specs.Cts.{cts, uncts}
use Rattle.krb_keys.specs.Hmac.{hmac}
use Rattle.krb_keys.specs.Keys.{bytes_of}
use Rattle.std.specs.Int.{w32, to_be_bytes}
use Rattle.krb_keys.specs.Keys.{IsProtocolKey}
use Rattle.krb_keys.specs.Sealing.{encryption_key, integrity_key, enciphered, checksum_of, sealed, IsSealed, SealsNothing}
use Rattle.krb_keys.specs.Deciphering.{IsDeciphered, plain_part}
use Rattle.krb_keys.specs.declared.key.Key.{Key}
use Rattle.krb_aes.proofs.AesInverses.{aes_inverses}
use Rattle.krb_aes.proofs.CtsInverse.{uncts-cts}
use Rattle.krb_aes.proofs.CtsLength.{length-aes, length-cts}
use Rattle.krb_keys.proofs.KeysLemmas.{IsProtocolKey-dk, IsKey-of}
use Rattle.krb_keys.proofs.Pbkdf2Lemmas.{length-hmac}

-- a text that was deciphered, with the right code, is sealed
pub sealed_from : (key : Key) (usage n : ℕ) (cipher text : List ℕ) → IsDeciphered key usage (take n cipher) text → 16 < n → n ≤ length cipher
    → checksum_of key usage text ≡ drop n cipher → AreBytes text → IsSealed key usage cipher (drop 16 text)
unfolding sealed IsDeciphered
sealed_from key usage n cipher text (isKey, len, et, body) low high code small =
    let long : length text ≡ n = len ∙ length-take-le n cipher high in
    let whole : take 16 text ++ drop 16 text ≡ text = take-append-drop 16 text in (
      take 16 text,
      length-take-le 16 text (omega arith),
      omega (arith, length-drop 16 text),
      All-take (λ (x : ℕ). x < 256) 16 text small,
      All-drop (λ (x : ℕ). x < 256) 16 text small,
      rw (whole, body, code) (sym (take-append-drop n cipher)),
    )

-- a checksum has 12 bytes
pub length-checksum_of : (key : Key) (usage : ℕ) (text : List ℕ) → length (checksum_of key usage text) ≡ 12
unfolding checksum_of
length-checksum_of key usage text =
    let bytes : List ℕ = bytes_of (integrity_key key usage) in
    length-take-le 12 (hmac bytes text) (omega (arith, length-hmac bytes text))

-- what is deciphered from a sealed text is what was sealed
pub opened : (key : Key) (usage : ℕ) (cipher plain text : List ℕ) → IsSealed key usage cipher plain
    → IsDeciphered key usage (take (length cipher - 12) cipher) text
    → (checksum_of key usage text ≡ drop (length cipher - 12) cipher) × (drop 16 text ≡ plain)
unfolding sealed enciphered IsDeciphered
opened key usage cipher plain text (confounder, c16, some, cb, pb, is) (isKey, len, et, back_again) =
    let ke : List ℕ = bytes_of (encryption_key key usage) in
    let whole : List ℕ = confounder ++ plain in
    let body : List ℕ = cts (aes ke) whole in
    let code : List ℕ = checksum_of key usage whole in
    let long : length cipher ≡ length body + 12 =
    ap length is ∙ length-append body code ∙ ap (λ (n : ℕ). length body + n) (length-checksum_of key usage whole) in
    let n : ℕ = length cipher - 12 in
    let cut : length body ≡ n = omega arith in
    let front : take n cipher ≡ body = ap (take n) is ∙ take_at body code n cut in
    let back : drop n cipher ≡ code = ap (drop n) is ∙ drop_at body code n cut in
    let same : text ≡ whole =
    et ∙ ap (uncts (unaes ke)) front ∙ uncts-cts (aes ke) (unaes ke) (aes_inverses ke isKey.1) whole
    (All-append (λ (x : ℕ). x < 256) confounder plain cb pb) (omega (arith, length-append confounder plain)) in
    (ap (checksum_of key usage) same ∙ sym back, ap (drop 16) same ∙ drop_at confounder plain 16 c16)

-- a body that was deciphered in place
pub deciphered_in_place : (key : Key) (usage : ℕ) (cipher body text : List ℕ) → cipher ≡ bytes_of (encryption_key key usage) → IsKey cipher
    → length text ≡ length body → text ≡ uncts (unaes cipher) body → cts (aes cipher) text ≡ body → IsDeciphered key usage body text
unfolding IsDeciphered enciphered
deciphered_in_place key usage cipher body text ec isKey same value inverse =
    (rw ec at isKey, same, rw ec at value, rw ec at inverse)

-- what is between confounder and checksum, where the checksum was left as it was
pub plain_part_of : (text checksum : List ℕ) → length checksum ≡ 12 → plain_part (text ++ checksum) ≡ drop 16 text
plain_part_of text checksum twelve =
    let cut : length text ≡ length (text ++ checksum) - 12 = omega (arith, length-append text checksum) in
    ap (drop 16) (take_at text checksum (length (text ++ checksum) - 12) cut)

pub length-plain_part : (text : List ℕ) → 28 ≤ length text → length (plain_part text) + 28 ≡ length text
length-plain_part text long =
    let body : List ℕ = take (length text - 12) text in
    omega (arith, length-drop 16 body, length-take-le (length text - 12) text (omega arith))

-- a confounder and a plain text keep their length
length-enciphered : (key : Key) (usage : ℕ) (text : List ℕ) → 16 < length text → length (enciphered key usage text) ≡ length text
unfolding enciphered
length-enciphered key usage text long =
    let ke : List ℕ = bytes_of (encryption_key key usage) in
    length-cts (aes ke) (length-aes ke) text long

-- a sealed text is 28 bytes longer than its plain text
pub length-sealed : (key : Key) (usage : ℕ) (text plain : List ℕ) → IsSealed key usage text plain → length text ≡ length plain + 28
unfolding sealed
length-sealed key usage text plain (confounder, c16, some, cb, pb, is) =
    let whole : List ℕ = confounder ++ plain in
    let long : length whole ≡ length plain + 16 = omega (arith, length-append confounder plain) in
    omega (
      arith,
      ap length is,
      length-append (enciphered key usage whole) (checksum_of key usage whole),
      length-checksum_of key usage whole,
      length-enciphered key usage whole (omega arith),
    )

-- so it has 29 bytes at least, and a shorter text seals nothing
pub long_sealed : (key : Key) (usage : ℕ) (text plain : List ℕ) → IsSealed key usage text plain → 28 < length text
long_sealed key usage text plain (confounder, c16, some, cb, pb, is) =
    omega (arith, length-sealed key usage text plain (confounder, c16, some, cb, pb, is))

pub short_seals_nothing : (key : Key) (usage : ℕ) (text : List ℕ) → length text ≤ 28 → SealsNothing key usage text
short_seals_nothing key usage text short = λ plain is_sealed. absurd (omega (arith, long_sealed key usage text plain is_sealed))

-- Ke of a key is a key of AES
AreBytes-usage : (usage purpose : ℕ) → purpose < 256 → AreBytes (to_be_bytes w32 usage ++ purpose ∷ [])
AreBytes-usage usage purpose small =
    let P : ℕ → Type 0 = λ x. x < 256 in
    let b : ℕ = usage / 65536 % 256 in
    let c : ℕ = usage / 256 % 256 in
    let d : ℕ = usage % 256 in
    let two : AreBytes (c ∷ d ∷ []) = All-cons P c (d ∷ []) (omega arith) (All-cons P d [] (omega arith) (All-nil P)) in
    let four : AreBytes (to_be_bytes w32 usage) = All-cons P
    (usage / 16777216 % 256) (b ∷ c ∷ d ∷ []) (omega arith) (All-cons P b (c ∷ d ∷ []) (omega arith) two) in
    All-append P (to_be_bytes w32 usage) (purpose ∷ []) four (All-cons P purpose [] small (All-nil P))

IsKey-encryption_key : (key : Key) (usage : ℕ) → IsProtocolKey key → IsKey (bytes_of (encryption_key key usage))
unfolding encryption_key
IsKey-encryption_key key usage is_key =
    IsKey-of _ (IsProtocolKey-dk key (to_be_bytes w32 usage ++ 0xaa ∷ []) is_key (AreBytes-usage usage 0xaa (omega arith)))

-- what a sealed text was made of is what it is deciphered to
deciphered_again : (key : Key) (usage : ℕ) (text confounder plain : List ℕ) → IsProtocolKey key
    → length confounder ≡ 16 → 0 < length plain → AreBytes confounder → AreBytes plain → text ≡ sealed key usage confounder plain
    → IsDeciphered key usage (take (length text - 12) text) (confounder ++ plain)
unfolding sealed enciphered IsDeciphered
deciphered_again key usage text confounder plain is_key c16 some cb pb is =
    let ke : List ℕ = bytes_of (encryption_key key usage) in
    let whole : List ℕ = confounder ++ plain in
    let body : List ℕ = cts (aes ke) whole in
    let checksum : List ℕ = checksum_of key usage whole in
    let isKey : IsKey ke = IsKey-encryption_key key usage is_key in
    let long : 16 < length whole = omega (arith, length-append confounder plain) in
    let n : ℕ = length text - 12 in
    let cut : length body ≡ n = omega (arith, ap length is, length-append body checksum, length-checksum_of key usage whole) in
    let front : take n text ≡ body = ap (take n) is ∙ take_at body checksum n cut in
    let undone : uncts (unaes ke) body ≡ whole = uncts-cts (aes ke)
    (unaes ke) (aes_inverses ke isKey.1) whole (All-append (λ (x : ℕ). x < 256) confounder plain cb pb) long in (
      isKey,
      sym (ap length front ∙ length-cts (aes ke) (length-aes ke) whole long),
      sym (ap (uncts (unaes ke)) front ∙ undone),
      sym front,
    )

-- a text seals at most one plain text
pub sealed_once : (key : Key) (usage : ℕ) (text plain other : List ℕ) → IsProtocolKey key
    → IsSealed key usage text plain → IsSealed key usage text other → plain ≡ other
sealed_once key usage text plain other is_key (confounder, c16, some, cb, pb, is) also =
    let again = deciphered_again key usage text confounder plain is_key c16 some cb pb is in
    sym (drop_at confounder plain 16 c16) ∙ (opened key usage text other (confounder ++ plain) also again).1
