-- Lengths: AES makes blocks of 16 bytes of anything, and ciphertext stealing keeps a text's length.
use Rattle.std.proofs.Common.{◌≡◌, ℕ, zero, suc, ◌-◌, ◌*◌, ◌/◌, ◌<◌, List, ◌++◌, length, take, refl, ap, ◌∙◌, arith, length-append}
use Rattle.std.proofs.lemmas.List.{length-take-le}
use Rattle.krb_aes.specs.Aes.{aes, cipher, add_round_key, shift_rows, sub_bytes, rounds}
use Rattle.krb_aes.specs.Cts.{chained, cbc, cts}
use Rattle.krb_aes.proofs.BytesLemmas.{length-xor_bytes}
use Rattle.krb_aes.proofs.CtsBlocks.{cts_by}
use Rattle.krb_aes.proofs.StateLemmas.{length-shift_rows}

length-cipher : (w : List ℕ) (n : ℕ) (s : List ℕ) → length (cipher w n s) ≡ 16
unfolding cipher add_round_key
length-cipher w n s =
    let x : List ℕ = sub_bytes (rounds w (n - 1) s) in
    length-xor_bytes (shift_rows x) _ ∙ length-shift_rows x

-- a block enciphered has 16 bytes, whatever the key and the block are
pub length-aes : (key block : List ℕ) → length (aes key block) ≡ 16
unfolding aes
length-aes key block = length-cipher _ _ block

-- the functions that make blocks of anything
abbrev pub MakesBlocks : (List ℕ → List ℕ) → Type 0
MakesBlocks e = (b : List ℕ) → length (e b) ≡ 16

length-chained : (e : List ℕ → List ℕ) → MakesBlocks e → (t : List ℕ) (k : ℕ) → length (chained e t k) ≡ 16
unfolding chained
length-chained e each t zero = refl
length-chained e each t (suc k) = each _

length-cbc : (e : List ℕ → List ℕ) → MakesBlocks e → (t : List ℕ) (n : ℕ) → length (cbc e t n) ≡ 16 * n
unfolding cbc
length-cbc e each t zero = refl
length-cbc e each t (suc n) =
    omega (arith, length-append (cbc e t n) (chained e t (suc n)), length-cbc e each t n, length-chained e each t (suc n))

-- a text enciphered with ciphertext stealing keeps its length
pub length-cts : (e : List ℕ → List ℕ) → MakesBlocks e → (t : List ℕ) → 16 < length t → length (cts e t) ≡ length t
length-cts e each t long =
    let j : ℕ = (length t - 1) / 16 - 1 in
    let n : ℕ = length t - 16 * suc j in
    let front : List ℕ = cbc e t j in
    let whole : List ℕ = chained e t (suc (suc j)) in
    let before : List ℕ = chained e t (suc j) in
    let form = ap length (cts_by e t j (omega arith) (omega arith)) in
    let cut : length (take n before) ≡ n = length-take-le n before (omega (arith, length-chained e each t (suc j))) in
    omega (
      arith,
      form,
      cut,
      length-cbc e each t j,
      length-chained e each t (suc (suc j)),
      length-append (front ++ whole) (take n before),
      length-append front whole,
    )
