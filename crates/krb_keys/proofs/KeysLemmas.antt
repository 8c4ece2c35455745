-- Derived keys, from their blocks.
use Rattle.std.proofs.Common.{◌≡◌, ℕ, ◌<◌, Bool, true, false, ◌==◌, if◌then◌else◌, List, ◌++◌, length, refl, sym, ap, arith, length-append}
use Rattle.std.proofs.lemmas.Bool.Decides.{nat_tests}
use Rattle.std.proofs.lemmas.List.{take_at, take_all, length-take-le}
use Rattle.std.proofs.lemmas.List.Elements.{All-append, All-take}
use Rattle.krb_aes.specs.Bytes.{AreBytes}
use Rattle.krb_aes.specs.KeyExpansion.{IsKey}
use Rattle.krb_aes.specs.Aes.{IsBlock, aes}
use Rattle.krb_keys.specs.Nfold.{nfold}
use Rattle.krb_keys.specs.Keys.{bytes_of, IsProtocolKey, constant_block, dr, dk}
use Rattle.krb_keys.specs.declared.key.Key.{Key}
use Rattle.krb_keys.specs.declared.key.Key.TheVariants.{Aes128, Aes256}
use Rattle.krb_aes.proofs.CtsLength.{length-aes}
use Rattle.krb_aes.proofs.InverseCipher.{IsBlock-aes}
use Rattle.krb_keys.proofs.NumberLemmas.{length-number_bytes, AreBytes-number_bytes}

pub dk_of_16 : (key : Key) (constant k1 bytes : List ℕ) → key ≡ Aes128 bytes → k1 ≡ aes (bytes_of key) (constant_block constant) → length k1 ≡ 16
    → Aes128 k1 ≡ dk key constant
unfolding dk dr
dk_of_16 key constant k1 bytes is e1 long =
    let f1 = rw is at e1 in
    rw (is, ← f1) (ap Aes128 (sym (take_at k1 (aes bytes k1) 16 long)))

pub dk_of_32 : (key : Key) (constant k1 k2 bytes : List ℕ) → key ≡ Aes256 bytes → k1 ≡ aes (bytes_of key) (constant_block constant)
    → k2 ≡ aes (bytes_of key) k1 → length k1 ≡ 16 → length k2 ≡ 16 → Aes256 (k1 ++ k2) ≡ dk key constant
unfolding dk dr
dk_of_32 key constant k1 k2 bytes is e1 e2 l1 l2 =
    let f1 = rw is at e1 in
    let f2 = rw is at e2 in
    rw (is, ← f1, ← f2) (ap Aes256 (sym (take_all 32 (k1 ++ k2) (omega (arith, length-append k1 k2)))))

-- a constant's block is one
IsBlock-if : (b : Bool) (s t : List ℕ) → (b ≡ true → IsBlock s) → IsBlock t → IsBlock (if b then s else t)
IsBlock-if true s t hs ht = hs refl
IsBlock-if false s t hs ht = ht

IsBlock-constant_block : (constant : List ℕ) → AreBytes constant → IsBlock (constant_block constant)
unfolding constant_block nfold
IsBlock-constant_block constant small =
    let whole : (length constant == 16) ≡ true → IsBlock constant = λ h. let len : length constant ≡ 16 = grind (arith, nat_tests) in (len, small) in
    IsBlock-if (length constant == 16) constant (nfold constant 16) whole (length-number_bytes 16 _, AreBytes-number_bytes 16 _)

-- what DR gives is 32 bytes
length-dr : (key constant : List ℕ) → length (dr key constant) ≡ 32
unfolding dr
length-dr key constant =
    let k1 : List ℕ = aes key (constant_block constant) in
    omega (arith, length-append k1 (aes key k1), length-aes key (constant_block constant), length-aes key k1)

AreBytes-dr : (key constant : List ℕ) → AreBytes key → AreBytes constant → AreBytes (dr key constant)
unfolding dr
AreBytes-dr key constant hk hc =
    let k1 : List ℕ = aes key (constant_block constant) in
    let b1 = IsBlock-aes key (constant_block constant) hk (IsBlock-constant_block constant hc) in
    All-append (λ (x : ℕ). x < 256) k1 (aes key k1) b1.1 (IsBlock-aes key k1 hk b1).1

-- a key derived from a key is one
pub IsProtocolKey-dk : (key : Key) (constant : List ℕ) → IsProtocolKey key → AreBytes constant → IsProtocolKey (dk key constant)
unfolding dk
IsProtocolKey-dk (Aes128 bytes) constant (len, small) hc = (
  length-take-le 16 (dr bytes constant) (omega (arith, length-dr bytes constant)),
  All-take (λ (x : ℕ). x < 256) 16 (dr bytes constant) (AreBytes-dr bytes constant small hc),
)
IsProtocolKey-dk (Aes256 bytes) constant (len, small) hc = (
  length-take-le 32 (dr bytes constant) (omega (arith, length-dr bytes constant)),
  All-take (λ (x : ℕ). x < 256) 32 (dr bytes constant) (AreBytes-dr bytes constant small hc),
)

-- a protocol key is a key of AES
pub IsKey-of : (key : Key) → IsProtocolKey key → IsKey (bytes_of key)
IsKey-of (Aes128 bytes) (len, small) = (rw len refl, small)
IsKey-of (Aes256 bytes) (len, small) = (rw len refl, small)
