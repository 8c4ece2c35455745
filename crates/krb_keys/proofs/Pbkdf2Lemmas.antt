-- PBKDF2, block by block.
use Rattle.std.proofs.Common.{◌≡◌, ℕ, zero, suc, ◌+◌, ◌-◌, ◌*◌, ◌/◌, ◌<◌, ◌≤◌, min, List, ◌++◌, length}
use Rattle.std.proofs.Common.{take, drop, length-drop, refl, sym, ap, ◌∙◌, arith, length-append}
use Rattle.std.proofs.lemmas.List.{take_all, take_min, length-take, take-take, take-append-le}
use Rattle.std.proofs.Math.Seq.{take-append-add}
use Rattle.std.proofs.lemmas.Slice.{take-put_mid}
use Rattle.std.specs.Int.{w32, to_be_bytes}
use Rattle.sha1.specs.Sha1.{sha1, digest_bytes}
use borrow.Rule.Slice.PartMut.{put_mid}
use Rattle.std.specs.List.{range_with_len}
use Rattle.std.proofs.lemmas.List.FromFn.{length-range_with_len}
use Rattle.krb_keys.specs.Hmac.{hmac}
use Rattle.krb_keys.specs.Pbkdf2.{repeated, xored, pbkdf2_block, blocks, pbkdf2}
use Rattle.krb_aes.specs.Bytes.{xor_bytes}
use Rattle.krb_keys.proofs.PiecesLemmas.{length-pieces, pieces_more}
use Rattle.krb_aes.proofs.BytesLemmas.{length-xor_bytes}

-- one more turn of PBKDF2
pub repeated_more : (p s : List ℕ) (t : ℕ) → 1 ≤ t → repeated p s (t + 1 - 1) ≡ hmac p (repeated p s (t - 1))
unfolding repeated
repeated_more p s zero h = absurd (omega arith)
repeated_more p s (suc t) h =
    let a : suc t + 1 - 1 ≡ suc t = omega arith in let b : suc t - 1 ≡ t = omega arith in rw (a, b) refl

pub xored_more : (p s : List ℕ) (t : ℕ) → 1 ≤ t → xored p s (t + 1 - 1) ≡ xor_bytes (xored p s (t - 1)) (repeated p s (t + 1 - 1))
unfolding xored
xored_more p s zero h = absurd (omega arith)
xored_more p s (suc t) h =
    let a : suc t + 1 - 1 ≡ suc t = omega arith in let b : suc t - 1 ≡ t = omega arith in rw (a, b) refl

pub length-hmac : (p s : List ℕ) → length (hmac p s) ≡ 20
unfolding hmac sha1 digest_bytes
length-hmac p s = refl

pub length-repeated : (p s : List ℕ) (j : ℕ) → length (repeated p s j) ≡ 20
unfolding repeated
length-repeated p s zero = length-hmac p s
length-repeated p s (suc j) = length-hmac p (repeated p s j)

pub length-xored : (p s : List ℕ) (j : ℕ) → length (xored p s j) ≡ 20
unfolding xored
length-xored p s zero = length-hmac p s
length-xored p s (suc j) =
    length-xor_bytes (xored p s j) (repeated p s (suc j)) ∙ length-xored p s j

length-blocks : (p s : List ℕ) (n k : ℕ) → length (blocks p s n k) ≡ 20 * k
unfolding blocks
length-blocks p s n k =
    length-pieces (pbkdf2_block p s n) 20 (λ i. length-xored p (s ++ to_be_bytes w32 i) (n - 1)) (range_with_len 1 k)
    ∙ ap (λ (m : ℕ). 20 * m) (length-range_with_len 1 k)

blocks_next : (p s : List ℕ) (n i : ℕ) → blocks p s n (i + 1) ≡ blocks p s n i ++ pbkdf2_block p s n (i + 1)
unfolding blocks
blocks_next p s n i = pieces_more (pbkdf2_block p s n) 1 i (i + 1) (omega arith)

-- one more block, of which the last may be cut
pub blocks_more : (p s next out part : List ℕ) (n i k end count : ℕ) → length out ≡ count → take (20 * i) out ≡ take (count) (blocks p s n i)
    → next ≡ pbkdf2_block p s n (i + 1) → 20 * i < count → end ≡ min (count) (20 * i + 20)
    → k ≡ end - 20 * i → part ≡ take (end - 20 * i) next
    → take (20 * (i + 1)) (put_mid (20 * i) k out part) ≡ take (count) (blocks p s n (i + 1))
blocks_more p s next out part n i k end count lo was eb fits ee ek ep =
    let b : List ℕ = blocks p s n i in
    let full : length next ≡ 20 = ap length eb ∙ length-xored p (s ++ to_be_bytes w32 (i + 1)) (n - 1) in
    let lb : length b ≡ 20 * i = length-blocks p s n i in
    let lp : length part ≡ end - 20 * i = ap length ep ∙ length-take (end - 20 * i) next ∙ omega arith in
    let x : List ℕ = put_mid (20 * i) k out part in
    let lx : length x ≡ length out =
    omega (
      arith,
      length-append (take (20 * i) out) (part ++ drop k (drop (20 * i) out)),
      length-append part (drop k (drop (20 * i) out)),
      length-take (20 * i) out,
      length-drop k (drop (20 * i) out),
      length-drop (20 * i) out,
    ) in
    let cut : min (20 * (i + 1)) (length x) ≡ end = omega arith in
    let left : take (20 * (i + 1)) x ≡ take (20 * i) out ++ part =
    sym (take_min (20 * (i + 1)) x) ∙ ap (λ (m : ℕ). take m x) cut ∙ take-put_mid (20 * i) k out part end (omega arith) (omega arith) in
    let rest : ℕ = count - 20 * i in
    let some : min rest (length next) ≡ end - 20 * i = omega arith in
    let tail : part ≡ take rest next = ep ∙ ap (λ (m : ℕ). take m next) (sym some) ∙ take_min rest next in
    let all : count ≡ length b + rest = omega arith in
    let right : take (count) (b ++ next) ≡ b ++ take rest next =
    ap (λ (m : ℕ). take m (b ++ next)) all ∙ take-append-add b next rest in
    let whole : take (count) b ≡ b = take_all (count) b (omega arith) in
    left ∙ ap (λ (y : List ℕ). y ++ part) (was ∙ whole) ∙ ap (λ (y : List ℕ). b ++ y) tail ∙ sym right
    ∙ ap (λ (y : List ℕ). take (count) (b ++ y)) eb ∙ ap (take (count)) (sym (blocks_next p s n i))

-- the front of what PBKDF2 gives is what it gives of fewer bytes, where one block holds those
pub pbkdf2_front : (p s : List ℕ) (n few many : ℕ) → 0 < few → few ≤ 20 → 20 < many → many ≤ 40 → take few (pbkdf2 p s n many) ≡ pbkdf2 p s n few
unfolding pbkdf2
pbkdf2_front p s n few many some short more fits =
    let one : (few + 19) / 20 ≡ 1 = omega arith in
    let two : (many + 19) / 20 ≡ 1 + 1 = omega arith in
    let first : List ℕ = blocks p s n 1 in
    let cut : take few (take many (blocks p s n (1 + 1))) ≡ take few (blocks p s n (1 + 1)) = take-take few many (blocks p s n (1 + 1)) (omega arith) in
    ap (λ (k : ℕ). take few (take many (blocks p s n k))) two ∙ cut ∙ ap (take few) (blocks_next p s n 1)
    ∙ take-append-le few first (pbkdf2_block p s n (1 + 1)) (omega (arith, length-blocks p s n 1)) ∙ ap (λ (k : ℕ). take few (blocks p s n k)) (sym one)
