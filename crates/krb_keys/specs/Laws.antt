-- What is true of the definitions.
use Rattle.std.specs.Prelude.{◌≡◌, ℕ, ◌+◌, ◌<◌, List, length}
use Rattle.krb_aes.specs.Bytes.{AreBytes}
use Rattle.krb_keys.specs.Keys.{IsProtocolKey}
use Rattle.krb_keys.specs.Sealing.{sealed, IsSealed}
use Rattle.krb_keys.specs.declared.key.Key.{Key}

-- a text seals at most one plain text under a key and a key usage
abbrev pub OnePlainText : Type 0
OnePlainText =
    (key : Key) (usage : ℕ) (text plain other : List ℕ) → IsProtocolKey key
    → IsSealed key usage text plain → IsSealed key usage text other → plain ≡ other

-- the sealed text of a plain text seals it, and no other
abbrev pub SealedOpens : Type 0
SealedOpens =
    (key : Key) (usage : ℕ) (confounder plain : List ℕ) → IsProtocolKey key
    → length confounder ≡ 16 → 0 < length plain → AreBytes confounder → AreBytes plain
    → IsSealed key usage (sealed key usage confounder plain) plain
    × ((other : List ℕ) → IsSealed key usage (sealed key usage confounder plain) other
    → other ≡ plain)

-- a sealed text is 28 bytes longer than its plain text
abbrev pub SealedIsLonger : Type 0
SealedIsLonger =
    (key : Key) (usage : ℕ) (text plain : List ℕ) → IsSealed key usage text plain
    → length text ≡ length plain + 28
