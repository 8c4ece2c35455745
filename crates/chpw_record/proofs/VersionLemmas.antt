-- The version of a record: kind, kvno, iteration count and keys.
use Rattle.std.proofs.Common.{◌≡◌, ℕ, suc, ◌+◌, ◌<◌, ◌≤◌, ◌^◌, List, [], ◌∷◌, ◌++◌, length, take, drop}
use Rattle.std.proofs.Common.{get_or, true, refl, sym, ◌∙◌, ap, subst, arith, length-append, length-drop}
use Rattle.std.proofs.lemmas.List.{take_all, length-take-le}
use Rattle.std.proofs.Math.Seq.{take-append_seam, drop-append_seam}
use Rattle.std.proofs.lemmas.Nat.{be_bytes_4, from_be_bytes-to_be_bytes_4}
use Rattle.std.proofs.lemmas.Bool.Decides.{nat_tests}
use Rattle.std.specs.Int.{from_be_bytes, to_be_bytes, w32}
use Rattle.chpw_rules.specs.Limits.{is_in, kvnos, iteration_counts}
use Rattle.chpw_record.specs.declared.key.KeyRow.{KeyRow}
use Rattle.chpw_record.specs.Records.{version_bytes}
use Rattle.chpw_record.specs.RecordKeys.{key_at}
use Rattle.chpw_record.proofs.ListLemmas.{front_same, cut, AreBytes, bytes_taken, bytes_dropped}

head : (v : List ℕ) (n : ℕ) → length v ≡ suc n → take 1 v ≡ get_or v 0 0 ∷ []
head [] n h = cc
head (x ∷ xs) n h = refl

-- the text, number by number
pieces : (v : List ℕ) → length v ≡ 57 → v ≡ take 1 v ++ (take 4 (drop 1 v) ++ (take 4 (drop 5 v) ++ (take 16 (drop 9 v) ++ take 32 (drop 25 v))))
pieces v l =
    let e : take 32 (drop 25 v) ≡ drop 25 v = take_all 32 (drop 25 v) (simp length-drop (omega (arith, l))) in
    cut 0 1 v
    ∙ (ap (λ (zs : List ℕ). take 1 v ++ zs) (cut 1 4 v)
    ∙ (ap (λ (zs : List ℕ). take 1 v ++ (take 4 (drop 1 v) ++ zs)) (cut 5 4 v)
    ∙ (ap (λ (zs : List ℕ). take 1 v ++ (take 4 (drop 1 v) ++ (take 4 (drop 5 v) ++ zs))) (cut 9 16 v)
    ∙ ap (λ (zs : List ℕ). take 1 v ++ (take 4 (drop 1 v) ++ (take 4 (drop 5 v) ++ (take 16 (drop 9 v) ++ zs)))) (sym e))))

number : (n : ℕ) (v : List ℕ) → length v ≡ 57 → n + 4 ≤ 57 → AreBytes v → to_be_bytes w32 (from_be_bytes w32 (take 4 (drop n v))) ≡ take 4 (drop n v)
number n v l h b = be_bytes_4 (take 4 (drop n v)) (from_be_bytes w32 (take 4 (drop n v))) (length-take-le 4
    (drop n v) (simp length-drop (omega (arith, l, h)))) (bytes_taken 4 (drop n v) (bytes_dropped n v b)) refl

-- a text is its kind, and after it that of the key read in it
pub version_whole : (kind : ℕ) (v : List ℕ) → length v ≡ 57 → AreBytes v → get_or v 0 0 ≡ kind → v ≡ version_bytes kind (key_at v)
version_whole kind v l b k =
    let keys : List ℕ = take 16 (drop 9 v) ++ take 32 (drop 25 v) in
    pieces v l
    ∙ (ap (λ (zs : List ℕ). zs ++ (take 4 (drop 1 v) ++ (take 4 (drop 5 v) ++ keys))) (head v 56 l ∙ ap (λ (n : ℕ). n ∷ []) k)
    ∙ (ap (λ (zs : List ℕ). kind ∷ (zs ++ (take 4 (drop 5 v) ++ keys))) (sym (number 1 v l (omega arith) b))
    ∙ ap (λ (zs : List ℕ). kind ∷ (to_be_bytes w32 (key_at v).kvno ++ (zs ++ keys))) (sym (number 5 v l (omega arith) b))))

pub version_length : (kind : ℕ) (k : KeyRow) → length k.aes128 ≡ 16 → length k.aes256 ≡ 32 → length (version_bytes kind k) ≡ 57
version_length kind k a b = simp length-append (omega (arith, a, b))

-- the key read in its own text
pub key_back : (kind : ℕ) (k : KeyRow) → k.kvno < 2 ^ 32 → k.count < 2 ^ 32 → length k.aes128 ≡ 16 → length k.aes256 ≡ 32 → key_at (version_bytes kind k) ≡ k
key_back kind k v c a b =
    let n : from_be_bytes w32 (to_be_bytes w32 k.kvno) ≡ k.kvno = from_be_bytes-to_be_bytes_4 k.kvno v in
    let m : from_be_bytes w32 (to_be_bytes w32 k.count) ≡ k.count = from_be_bytes-to_be_bytes_4 k.count c in
    let x : take 16 (k.aes128 ++ k.aes256) ≡ k.aes128 = subst (λ (i : ℕ). take i (k.aes128 ++ k.aes256) ≡ k.aes128) a (take-append_seam k.aes128 k.aes256) in
    let y : drop 16 (k.aes128 ++ k.aes256) ≡ k.aes256 = subst (λ (i : ℕ). drop i (k.aes128 ++ k.aes256) ≡ k.aes256) a (drop-append_seam k.aes128 k.aes256) in
    let z : take 32 (drop 16 (k.aes128 ++ k.aes256)) ≡ k.aes256 = ap (take 32) y ∙ take_all 32 k.aes256 (omega (arith, b)) in
    λ i. record { kvno = n i; count = m i; aes128 = x i; aes256 = z i }

pub kvno_short : (n : ℕ) → is_in kvnos n ≡ true → n < 2 ^ 32
kvno_short n h = grind (arith, nat_tests)

pub count_short : (n : ℕ) → is_in iteration_counts n ≡ true → n < 2 ^ 32
count_short n h = grind (arith, nat_tests)

-- a text that is a key's version of some kind and more, cut after the version
pub version_read : (kind : ℕ) (v left more : List ℕ) (k : KeyRow) → length v ≡ 57
    → is_in kvnos k.kvno ≡ true → is_in iteration_counts k.count ≡ true → length k.aes128 ≡ 16 → length k.aes256 ≡ 32
    → v ++ left ≡ version_bytes kind k ++ more → (key_at v ≡ k) × (get_or v 0 0 ≡ kind) × (left ≡ more)
version_read kind v left more k l n c a b e =
    let r = front_same v left (version_bytes kind k) more (l ∙ sym (version_length kind k a b)) e in
    (ap key_at r.0 ∙ key_back kind k (kvno_short k.kvno n) (count_short k.count c) a b, ap (λ (zs : List ℕ). get_or zs 0 0) r.0, r.1)
