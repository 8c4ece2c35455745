-- Bytes as whole numbers, and their sums in ones' complement.
use Rattle.std.proofs.Common.{◌≡◌, ℕ, zero, suc, ◌+◌, ◌-◌, ◌*◌, ◌/◌, ◌%◌, ◌^◌, ◌<◌, ◌≤◌, List, [], ◌∷◌, ◌++◌}
use Rattle.std.proofs.Common.{length, take, drop, get_or, set, length-set, get_or-set_same, length-append}
use Rattle.std.proofs.Common.{refl, sym, ap, lit<, ◌∙◌, subst, arith, add-one, length-drop, replicate}
use Rattle.std.proofs.Math.Seq.{drop-cons}
use Rattle.std.proofs.Math.Nat.{pow-succ', pow-le-pow_right, mod-eq_of_lt}
use Rattle.std.proofs.lemmas.Bool.{cases_lt}
use Rattle.std.proofs.lemmas.Nat.{mod-mul-add, div-mul-add, div-add-mod', mod_below, mod-pow-add, pow-add, shr-shr, mul-add-lt}
use Rattle.std.proofs.lemmas.List.{drop-set-lt, drop_all, get_or_append_left, get_or_push, get_or-drop, take-append-drop, drop_more}
use Rattle.std.proofs.lemmas.Grind.{same_number_lists}
use Rattle.std.proofs.Common.{inl, inr}
use Rattle.std.proofs.lemmas.List.Elements.{All-nil, All-cons, All-append}
use Rattle.krb_aes.specs.Bytes.{AreBytes}
use Rattle.krb_keys.specs.Nfold.{value, number_bytes, ones_complement}

pub pow_of_256 : (k : ℕ) → 256 ^ k ≡ 2 ^ (8 * k)
pow_of_256 zero = refl
pow_of_256 (suc k) =
    let e : 8 * suc k ≡ 8 * k + 8 = omega arith in
    let p : 2 ^ (8 * suc k) ≡ 2 ^ (8 * k) * 256 = ap (λ (n : ℕ). 2 ^ n) e ∙ pow-add 2 (8 * k) 8 in
    pow-succ' 256 k ∙ omega (arith, pow_of_256 k)

-- the number of two texts joined
pub value-append : (xs ys : List ℕ) → value (xs ++ ys) ≡ value xs * 256 ^ length ys + value ys
unfolding value
value-append [] ys = omega arith
value-append (x ∷ xs) ys =
    let e : 256 ^ length (xs ++ ys) ≡ 256 ^ length xs * 256 ^ length ys =
    ap (λ (n : ℕ). 256 ^ n) (length-append xs ys) ∙ pow-add 256 (length xs) (length ys) in
    rw (e, value-append xs ys) (omega arith)

pub value_below : (xs : List ℕ) → ((k : ℕ) → get_or xs k 0 < 256) → value xs < 256 ^ length xs
unfolding value
value_below [] small = lit< tt
value_below (x ∷ xs) small =
    let rest : value xs < 256 ^ length xs = value_below xs (λ k. small (suc k)) in
    let first : x < 256 = small zero in
    let p : 256 ^ suc (length xs) ≡ 256 * 256 ^ length xs = pow-succ' 256 (length xs) in
    let all : x * 256 ^ length xs + value xs < 256 ^ length xs * 256 = mul-add-lt x (256 ^ length xs) (value xs) 256 first rest in
    omega arith

pub length-number_bytes : (n v : ℕ) → length (number_bytes n v) ≡ n
unfolding number_bytes
length-number_bytes zero v = refl
length-number_bytes (suc n) v = length-append (number_bytes n (v / 256)) (v % 256 ∷ []) ∙ omega (arith, length-number_bytes n (v / 256))

pub AreBytes-number_bytes : (n v : ℕ) → AreBytes (number_bytes n v)
unfolding number_bytes
AreBytes-number_bytes zero v = All-nil (λ (x : ℕ). x < 256)
AreBytes-number_bytes (suc n) v =
    All-append (λ (x : ℕ). x < 256) (number_bytes n (v / 256)) (v % 256 ∷ []) (AreBytes-number_bytes n (v / 256))
    (All-cons (λ (x : ℕ). x < 256) (v % 256) [] (omega arith) (All-nil (λ (x : ℕ). x < 256)))

-- byte j of a number
pub get_or-number_bytes : (n v j : ℕ) → j < n → get_or (number_bytes n v) j 0 ≡ v / 2 ^ (8 * (n - 1 - j)) % 256
unfolding number_bytes
get_or-number_bytes zero v j h = absurd (omega arith)
get_or-number_bytes (suc n) v j h =
    let len : length (number_bytes n (v / 256)) ≡ n = length-number_bytes n (v / 256) in
    elim (cases_lt j n) [
      | inl lt ↦
          let e : 8 + 8 * (n - 1 - j) ≡ 8 * (suc n - 1 - j) = omega arith in
          let low : j < length (number_bytes n (v / 256)) = omega arith in
          get_or_append_left (number_bytes n (v / 256)) (v % 256 ∷ []) 0 j low ∙ get_or-number_bytes n (v / 256) j lt
          ∙ ap (λ (x : ℕ). x % 256) (shr-shr v 8 (8 * (n - 1 - j)) ∙ ap (λ (k : ℕ). v / 2 ^ k) e)
      | inr le ↦
          let same : length (number_bytes n (v / 256)) ≡ j = omega arith in
          let e : 8 * (suc n - 1 - j) ≡ 0 = omega arith in
          get_or_push (number_bytes n (v / 256)) (v % 256) 0 j same ∙ rw e (omega arith)
    ]

-- the byte of a text with k bytes after it
byte_of : (xs : List ℕ) (k : ℕ) → ((i : ℕ) → get_or xs i 0 < 256) → k < length xs
    → value xs / 2 ^ (8 * k) % 256 ≡ get_or xs (length xs - 1 - k) 0
unfolding value
byte_of xs k small fits =
    let i : ℕ = length xs - 1 - k in
    let x : ℕ = get_or xs i 0 in
    let front : List ℕ = take i xs in
    let back : List ℕ = drop (i + 1) xs in
    let w : ℕ = 256 ^ k in
    let left : length back ≡ k = length-drop (i + 1) xs ∙ omega arith in
    let parts : xs ≡ front ++ (x ∷ back) = sym (take-append-drop i xs) ∙ ap (λ (z : List ℕ). front ++ z) (drop_more xs i 0 (omega arith)) in
    let all : value xs ≡ value front * 256 ^ suc (length back) + (x * 256 ^ length back + value back) =
    ap value parts ∙ value-append front (x ∷ back) in
    let p : 256 ^ suc k ≡ 256 * w = pow-succ' 256 k in
    let flat : value xs ≡ (value front * 256 + x) * w + value back = all ∙ rw (left, p) (omega arith) in
    let low : value back < w =
    subst (λ (n : ℕ). value back < 256 ^ n) left (value_below back (λ j. rw (get_or-drop (i + 1) xs j 0) (small (i + 1 + j)))) in
    let cut : value xs / 2 ^ (8 * k) ≡ value front * 256 + x =
    ap (λ (z : ℕ). value xs / z) (sym (pow_of_256 k)) ∙ ap (λ (z : ℕ). z / w) flat ∙ div-mul-add (value front * 256 + x) w (value back) low in
    ap (λ (z : ℕ). z % 256) cut ∙ mod-mul-add (value front) 256 x (small i)

-- two neighbouring bytes of a text, the second with k bytes after it
pub two_bytes : (xs : List ℕ) (k : ℕ) → ((i : ℕ) → get_or xs i 0 < 256) → k + 2 ≤ length xs
    → value xs / 2 ^ (8 * k) % 2 ^ 16 ≡ get_or xs (length xs - 2 - k) 0 * 256 + get_or xs (length xs - 1 - k) 0
two_bytes xs k small fits =
    let above : value xs / 2 ^ (8 * k) / 2 ^ 8 ≡ value xs / 2 ^ (8 * (k + 1)) =
    shr-shr (value xs) (8 * k) 8 ∙ ap (λ (n : ℕ). value xs / 2 ^ n) (omega arith) in
    let there : length xs - 1 - (k + 1) ≡ length xs - 2 - k = omega arith in
    let first : value xs / 2 ^ (8 * k) / 2 ^ 8 % 2 ^ 8 ≡ get_or xs (length xs - 2 - k) 0 =
    ap (λ (n : ℕ). n % 256) above ∙ byte_of xs (k + 1) small (omega arith) ∙ ap (λ (j : ℕ). get_or xs j 0) there in
    let second : value xs / 2 ^ (8 * k) % 2 ^ 8 ≡ get_or xs (length xs - 1 - k) 0 = byte_of xs k small (omega arith) in
    mod-pow-add (value xs / 2 ^ (8 * k)) 8 8 ∙ rw (first, second) refl

-- the bytes of the number that bytes spell
pub number_bytes-value : (xs : List ℕ) (n : ℕ) → length xs ≡ n → ((k : ℕ) → get_or xs k 0 < 256) → number_bytes n (value xs) ≡ xs
number_bytes-value xs n len small =
    let whole = length-number_bytes n (value xs) in
    same_number_lists _ _ (whole ∙ sym len)
    (λ j h.
    let back : length xs - 1 - (n - 1 - j) ≡ j = omega arith in
    get_or-number_bytes n (value xs) j (omega arith) ∙ byte_of xs (n - 1 - j) small (omega arith) ∙ ap (λ (i : ℕ). get_or xs i 0) back)

-- the number of the bytes from place n on
pub value_none : (xs : List ℕ) (n : ℕ) → length xs ≡ n → value (drop n xs) ≡ 0
unfolding value
value_none xs n h = rw (drop_all n xs (omega arith)) refl

value-drop : (xs : List ℕ) (k : ℕ) → k < length xs → value (drop k xs) ≡ get_or xs k 0 * 256 ^ (length xs - (k + 1)) + value (drop (k + 1) xs)
unfolding value
value-drop xs k h = rw (add-one, drop-cons xs k 0) (rw (length-drop) refl)

-- one more byte of a sum, from the low end: `byte` and `rest` are what is added, at k and after it
pub add_step : (was sum : List ℕ) (n k carry byte rest total : ℕ) → length was ≡ n → length sum ≡ n → k < n
    → get_or sum k 0 ≡ get_or was k 0 → total ≡ get_or sum k 0 + byte + carry
    → value (drop (k + 1) sum) + carry * 256 ^ (n - (k + 1)) ≡ value (drop (k + 1) was) + rest
    → value (drop k (set sum k (total % 256))) + total / 256 * 256 ^ (n - k)
    ≡ value (drop k was) + (byte * 256 ^ (n - (k + 1)) + rest)
add_step was sum n k carry byte rest total lw ls h same et old =
    let now : List ℕ = set sum k (total % 256) in
    let ln : length now ≡ n = length-set sum k (total % 256) ∙ ls in
    let w : ℕ = 256 ^ (n - (k + 1)) in
    let a : value (drop k was) ≡ get_or was k 0 * w + value (drop (k + 1) was) = rw lw at (value-drop was k (omega arith)) in
    let lt : k < length sum = omega arith in
    let at : get_or now k 0 ≡ total % 256 = get_or-set_same sum k (total % 256) 0 lt in
    let past : drop (k + 1) now ≡ drop (k + 1) sum = drop-set-lt (k + 1) sum k (total % 256) (omega arith) in
    let c : value (drop k now) ≡ total % 256 * w + value (drop (k + 1) sum) =
    rw (ln, at, past) at (value-drop now k (omega arith)) in
    let e : n - k ≡ suc (n - (k + 1)) = omega arith in
    let p : 256 ^ (n - k) ≡ 256 * w = ap (λ (i : ℕ). 256 ^ i) e ∙ pow-succ' 256 (n - (k + 1)) in
    let d : total * w ≡ (total / 256 * 256 + total % 256) * w = ap (λ (x : ℕ). x * w) (omega arith) in
    let t : total * w ≡ (get_or sum k 0 + byte + carry) * w = ap (λ (x : ℕ). x * w) et in
    let g : get_or sum k 0 * w ≡ get_or was k 0 * w = ap (λ (x : ℕ). x * w) same in
    let q : total / 256 * 256 ^ (n - k) ≡ total / 256 * (256 * w) = ap (λ (x : ℕ). total / 256 * x) p in
    omega arith

-- the same, where the bytes of `part` are added
pub add_part_step : (was sum part : List ℕ) (n k carry total : ℕ) → length was ≡ n → length sum ≡ n → length part ≡ n → k < n
    → get_or sum k 0 ≡ get_or was k 0 → total ≡ get_or sum k 0 + get_or part k 0 + carry
    → value (drop (k + 1) sum) + carry * 256 ^ (n - (k + 1)) ≡ value (drop (k + 1) was) + value (drop (k + 1) part)
    → value (drop k (set sum k (total % 256))) + total / 256 * 256 ^ (n - k) ≡ value (drop k was) + value (drop k part)
add_part_step was sum part n k carry total lw ls lp h same et old =
    add_step was sum n k carry (get_or part k 0) (value (drop (k + 1) part)) total lw ls h same et old
    ∙ ap (λ (x : ℕ). value (drop k was) + x) (sym (rw lp at (value-drop part k (omega arith))))

-- what is left of s + b, once s is reduced, is what ones' complement addition of what is left of s and b gives
residue_add : (m s b : ℕ) → 0 < m → b ≤ m → ones_complement m s + b ≤ m → ones_complement m (s + b) ≡ ones_complement m s + b
unfolding ones_complement
residue_add m zero zero pos small fits = refl
residue_add m zero (suc b) pos small fits =
    let e : 0 + suc b ≡ suc b = omega arith in let lt : b < m = omega arith in
    ap (ones_complement m) e ∙ ap (λ (n : ℕ). n + 1) (mod-eq_of_lt lt) ∙ omega arith
residue_add m (suc s) b pos small fits =
    let e : suc s + b ≡ suc (s + b) = omega arith in
    let lt : s % m + b < m = omega arith in
    let split : s + b ≡ s / m * m + (s % m + b) = omega (arith, div-add-mod' s m) in
    let r : (s + b) % m ≡ s % m + b = ap (λ (x : ℕ). x % m) split ∙ mod-mul-add (s / m) m (s % m + b) lt in
    ap (ones_complement m) e ∙ ap (λ (n : ℕ). n + 1) r ∙ omega arith

residue_wrap : (m s b : ℕ) → 0 < m → b ≤ m → m < ones_complement m s + b → ones_complement m (s + b) + m ≡ ones_complement m s + b
unfolding ones_complement
residue_wrap m zero b pos small over = absurd (omega arith)
residue_wrap m (suc s) b pos small over =
    let e : suc s + b ≡ suc (s + b) = omega arith in
    let low : s % m < m = mod_below s m pos in
    let lt : s % m + b - m < m = omega arith in
    let split : s + b ≡ (s / m + 1) * m + (s % m + b - m) = omega (arith, div-add-mod' s m) in
    let r : (s + b) % m ≡ s % m + b - m = ap (λ (x : ℕ). x % m) split ∙ mod-mul-add (s / m + 1) m (s % m + b - m) lt in
    let t : ones_complement m (suc s + b) ≡ (s + b) % m + 1 = ap (ones_complement m) e in
    omega arith

-- the sum of two numbers of n bytes: x with the carry c, which comes in again at the low end
pub ones_complement_sum : (m s b x c : ℕ) → 0 < m → b ≤ m → x ≤ m → c ≤ 1 → x + c * (m + 1) ≡ ones_complement m s + b → x + c ≡ ones_complement m (s + b)
ones_complement_sum m s b x zero pos small low bit e =
    let r = residue_add m s b pos small (omega arith) in omega arith
ones_complement_sum m s b x (suc zero) pos small low bit e =
    let r = residue_wrap m s b pos small (omega arith) in omega arith
ones_complement_sum m s b x (suc (suc c)) pos small low bit e = absurd (omega arith)

-- nothing is carried out of a sum that fits
pub no_carry : (x c w t : ℕ) → x + c * w ≡ t → t < w → x ≡ t
no_carry x zero w t e fits = omega arith
no_carry x (suc c) w t e fits = absurd (omega arith)

-- the carry of a sum fits in when it comes in again
pub carry_fits : (a b x c w : ℕ) → a < w → b < w → x < w → c ≤ 1 → x + c * w ≡ a + b → x + c < w
carry_fits a b x zero w al bl xl small e = omega arith
carry_fits a b x (suc zero) w al bl xl small e = omega arith
carry_fits a b x (suc (suc c)) w al bl xl small e = absurd (omega arith)

pub value_zeros : (n : ℕ) → value (replicate n 0) ≡ 0
unfolding value
value_zeros zero = refl
value_zeros (suc n) = rw (value_zeros n) (omega arith)

pub two_five_six_le : (n : ℕ) → 1 ≤ n → 256 ≤ 256 ^ n
two_five_six_le n h = let le : 256 ^ 1 ≤ 256 ^ n = pow-le-pow_right (let some : 0 < 256 = omega arith in some) {i = 1} {j = n} h in omega arith
