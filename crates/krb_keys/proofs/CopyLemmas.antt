-- The copies of an n-fold, byte by byte.
use Rattle.std.proofs.Common.{◌≡◌, ℕ, zero, suc, ◌+◌, ◌-◌, ◌*◌, ◌/◌, ◌%◌, ◌^◌, ◌<◌, ◌≤◌, ◌≢◌, Bool}
use Rattle.std.proofs.Common.{true, false, ◌==◌, List, ◌++◌, length, take, drop, get_or, Some}
use Rattle.std.proofs.Common.{find, length-append, refl, sym, ap, ◌∙◌, subst, inl, inr, arith}
use Rattle.std.proofs.Math.Nat.{mod-eq_of_lt, mul-le-mul_left}
use Rattle.std.proofs.Math.Pow.{mod-mod-pow}
use Rattle.std.proofs.lemmas.Bool.{cases_lt, eq-eqb}
use Rattle.std.proofs.lemmas.Bool.Decides.{eqb_tells}
use Rattle.std.proofs.lemmas.Nat.{mod-mul-add, div-mul-add, mod_below, pow-add, shr-shr, shr_split, field_of, mul-add-lt, div_below, pow_pos, div-add-mod'}
use Rattle.std.proofs.lemmas.List.{get_or_append_left, get_or-append_right, get_or_past, length-take-le}
use Rattle.std.proofs.lemmas.List.Concat.{get_or-flat_map}
use Rattle.std.proofs.lemmas.List.FromFn.{length-range_with_len, get_or-range_with_len, sum_by-map-range_with_len_more}
use Rattle.std.specs.List.{flat_map, range_with_len}
use Rattle.krb_keys.specs.Nfold.{value, number_bytes, rotated, copy, copy_count, joined, sum_of_parts}
use Rattle.krb_keys.proofs.PiecesLemmas.{length-pieces}
use Rattle.krb_keys.proofs.NumberLemmas.{pow_of_256, value-append, value_below, get_or-number_bytes, length-number_bytes, two_bytes}

-- a number turned right lies in the number written twice
turned_is : (w r v : ℕ) → r ≤ w → v < 2 ^ w → rotated w r v ≡ (v * 2 ^ w + v) / 2 ^ r % 2 ^ w
unfolding rotated
turned_is w r v le small =
    let high : ℕ = 2 ^ (w - r) in
    let low : ℕ = 2 ^ r in
    let q : ℕ = v / low in
    let t : ℕ = v % low in
    let e : w - r + r ≡ w = omega arith in
    let split : 2 ^ w ≡ high * low = ap (λ (n : ℕ). 2 ^ n) (sym e) ∙ pow-add 2 (w - r) r in
    let parts : q * low + t ≡ v = shr_split v r in
    let tl : t < low = mod_below v low (pow_pos r) in
    let ql : q < high = div_below v low high (pow_pos r) (subst (λ (n : ℕ). v < n) split small) in
    let twice : v * 2 ^ w + v ≡ (v * high + q) * low + t =
    ap (λ (n : ℕ). v * n + v) split ∙ omega arith in
    let cut : (v * 2 ^ w + v) / low ≡ v * high + q = ap (λ (n : ℕ). n / low) twice ∙ div-mul-add (v * high + q) low t tl in
    let shape : v * high + q ≡ q * (high * low) + (t * high + q) =
    ap (λ (n : ℕ). n * high + q) (sym parts) ∙ omega arith in
    let fits : t * high + q < high * low = mul-add-lt t high q low tl ql in
    let right : (v * 2 ^ w + v) / 2 ^ r % 2 ^ w ≡ t * high + q =
    ap (λ (n : ℕ). n % 2 ^ w) (cut ∙ shape) ∙ ap (λ (n : ℕ). (q * (high * low) + (t * high + q)) % n) split
    ∙ mod-mul-add q (high * low) (t * high + q) fits in
    omega arith

-- a shorter mask after a longer one
mask_after : (n k j : ℕ) → k ≤ j → n % 2 ^ j % 2 ^ k ≡ n % 2 ^ k
mask_after n k j le =
    let e : j ≡ j - k + k = omega arith in
    ap (λ (i : ℕ). n % 2 ^ i % 2 ^ k) e ∙ mod-mod-pow n (j - k) k

-- an element of a list written twice
get_or_twice : (xs : List ℕ) (i : ℕ) → i < 2 * length xs → get_or (xs ++ xs) i 0 ≡ get_or xs (i % length xs) 0
get_or_twice xs i h = elim (cases_lt i (length xs)) [
  | inl lt ↦ get_or_append_left xs xs 0 i lt ∙ ap (λ (k : ℕ). get_or xs k 0) (sym (mod-eq_of_lt lt))
  | inr le ↦
      let rest : i - length xs < length xs = omega arith in
      let e : i ≡ 1 * length xs + (i - length xs) = omega arith in
      get_or-append_right xs xs (length xs) i 0 refl le
      ∙ ap (λ (k : ℕ). get_or xs k 0) (sym (ap (λ (k : ℕ). k % length xs) e ∙ mod-mul-add 1 (length xs) (i - length xs) rest))
]

small_twice : (xs : List ℕ) → ((k : ℕ) → get_or xs k 0 < 256) → (i : ℕ) → get_or (xs ++ xs) i 0 < 256
small_twice xs small i = elim (cases_lt i (2 * length xs)) [
  | inl lt ↦ subst (λ (n : ℕ). n < 256) (sym (get_or_twice xs i lt)) (small (i % length xs))
  | inr le ↦
      let past : get_or (xs ++ xs) i 0 ≡ 0 = get_or_past (xs ++ xs) i 0 (omega (arith, length-append xs xs)) in
      omega arith
]

-- a byte of a copy, read off two neighbouring bytes of the input written twice
pub copied : (xs : List ℕ) (turns place low left right : ℕ) → ((k : ℕ) → get_or xs k 0 < 256) → place < length xs
    → low ≡ 13 * turns % (8 * length xs) + 8 * (length xs - 1 - place)
    → left ≡ get_or xs ((2 * length xs - 2 - low / 8) % length xs) 0 → right ≡ get_or xs ((2 * length xs - 1 - low / 8) % length xs) 0
    → (left * 256 + right) / 2 ^ (low % 8) % 256 ≡ get_or (copy xs turns) place 0
unfolding copy
copied xs turns place low left right small inside el ea eb =
    let m : ℕ = length xs in
    let w : ℕ = 8 * m in
    let r : ℕ = 13 * turns % w in
    let rl : r < w = mod_below (13 * turns) w (omega arith) in
    let v : ℕ = value xs in
    let d : ℕ = v * 2 ^ w + v in
    let a : ℕ = low / 8 in
    let b : ℕ = low % 8 in
    let k : ℕ = 8 * (m - 1 - place) in
    let vl : v < 2 ^ w = subst (λ (n : ℕ). v < n) (pow_of_256 m) (value_below xs small) in
    let lt : get_or (number_bytes m (rotated w r v)) place 0 ≡ d / 2 ^ r % 2 ^ w / 2 ^ k % 2 ^ 8 =
    get_or-number_bytes m (rotated w r v) place inside ∙ ap (λ (n : ℕ). n / 2 ^ k % 2 ^ 8) (turned_is w r v (omega arith) vl) in
    let ew : w ≡ 8 * (place + 1) + k = omega arith in
    let cut : d / 2 ^ r % 2 ^ w / 2 ^ k % 2 ^ 8 ≡ d / 2 ^ r / 2 ^ k % 2 ^ 8 =
    ap (λ (n : ℕ). d / 2 ^ r % 2 ^ n / 2 ^ k % 2 ^ 8) ew ∙ ap (λ (n : ℕ). n % 2 ^ 8) (field_of (d / 2 ^ r) (8 * (place + 1)) k)
    ∙ mask_after (d / 2 ^ r / 2 ^ k) 8 (8 * (place + 1)) (omega arith) in
    let e1 : r + k ≡ 8 * a + b = omega arith in
    let down : d / 2 ^ r / 2 ^ k ≡ d / 2 ^ (8 * a) / 2 ^ b =
    shr-shr d r k ∙ ap (λ (n : ℕ). d / 2 ^ n) e1 ∙ sym (shr-shr d (8 * a) b) in
    let g : ℕ = d / 2 ^ (8 * a) in
    let window : g / 2 ^ b % 2 ^ 8 ≡ g % 2 ^ 16 / 2 ^ b % 2 ^ 8 =
    sym (field_of g 8 b) ∙ ap (λ (n : ℕ). n / 2 ^ b) (sym (mask_after g (8 + b) 16 (omega arith))) ∙ field_of (g % 2 ^ 16) 8 b in
    let twice : value (xs ++ xs) ≡ d = value-append xs xs ∙ ap (λ (n : ℕ). v * n + v) (pow_of_256 m) in
    let ln : length (xs ++ xs) ≡ 2 * m = length-append xs xs ∙ omega arith in
    let fits : a + 2 ≤ 2 * m = omega arith in
    let two = two_bytes (xs ++ xs) a (small_twice xs small) (omega arith) in
    let ia : length (xs ++ xs) - 2 - a ≡ 2 * m - 2 - a = omega arith in
    let ib : length (xs ++ xs) - 1 - a ≡ 2 * m - 1 - a = omega arith in
    let fa : get_or (xs ++ xs) (length (xs ++ xs) - 2 - a) 0 ≡ left =
    ap (λ (i : ℕ). get_or (xs ++ xs) i 0) ia ∙ get_or_twice xs (2 * m - 2 - a) (omega arith) ∙ sym ea in
    let fb : get_or (xs ++ xs) (length (xs ++ xs) - 1 - a) 0 ≡ right =
    ap (λ (i : ℕ). get_or (xs ++ xs) i 0) ib ∙ get_or_twice xs (2 * m - 1 - a) (omega arith) ∙ sym eb in
    let pair : g % 2 ^ 16 ≡ left * 256 + right = ap (λ (n : ℕ). n / 2 ^ (8 * a) % 2 ^ 16) (sym twice) ∙ rw (fa, fb) at two in
    sym (lt ∙ cut ∙ ap (λ (n : ℕ). n % 2 ^ 8) down ∙ window ∙ ap (λ (n : ℕ). n / 2 ^ b % 2 ^ 8) pair)

length-copy : (xs : List ℕ) (i : ℕ) → length (copy xs i) ≡ length xs
unfolding copy
length-copy xs i = let w : ℕ = 8 * length xs in length-number_bytes (length xs) (rotated w (13 * i % w) (value xs))

pub length-joined : (xs : List ℕ) (n : ℕ) → length (joined xs n) ≡ length xs * copy_count (length xs) n
unfolding joined
length-joined xs n =
    length-pieces (copy xs) (length xs) (length-copy xs) (range_with_len 0 (copy_count (length xs) n))
    ∙ ap (λ (k : ℕ). length xs * k) (length-range_with_len 0 (copy_count (length xs) n))

factor_pos : (m c n : ℕ) → n < m * c → 0 < m
factor_pos zero c n h = absurd (omega arith)
factor_pos (suc m) c n h = omega arith

-- a byte of the joined copies
pub get_or-joined : (xs : List ℕ) (n place : ℕ) → place < length (joined xs n)
    → get_or (joined xs n) place 0 ≡ get_or (copy xs (place / length xs)) (place % length xs) 0
unfolding joined
get_or-joined xs n place h =
    let m : ℕ = length xs in
    let c : ℕ = copy_count m n in
    let i : ℕ = place / m in
    let j : ℕ = place % m in
    let is : List ℕ = range_with_len 0 c in
    let long : place < m * c = subst (λ (k : ℕ). place < k) (length-joined xs n) h in
    let some : 0 < m = factor_pos m c place long in
    let il : i < c = div_below place m c some (omega arith) in
    let lr : length is ≡ c = length-range_with_len 0 c in
    let at : get_or is i 0 ≡ i = get_or-range_with_len 0 c i 0 il ∙ omega arith in
    let before : length (flat_map (copy xs) (take i is)) ≡ m * i =
    length-pieces (copy xs) m (length-copy xs) (take i is) ∙ ap (λ (k : ℕ). m * k) (length-take-le i is (omega arith)) in
    let split : m * i + j ≡ place = omega (arith, div-add-mod' place m) in
    let jl : j < length (copy xs (get_or is i 0)) = subst (λ (k : ℕ). j < k) (sym (length-copy xs (get_or is i 0))) (mod_below place m some) in
    ap (λ (k : ℕ). get_or (flat_map (copy xs) is) k 0) (sym split ∙ ap (λ (k : ℕ). k + j) (sym before))
    ∙ get_or-flat_map (copy xs) is i j 0 0 (omega arith) jl ∙ ap (λ (k : ℕ). get_or (copy xs k) j 0) at

-- the first number of a range that passes a test
find_in_range : (p : ℕ → Bool) (a n k : ℕ) → a ≤ k → k < a + n → p k ≡ true → ((j : ℕ) → a ≤ j → j < k → p j ≡ false)
    → find p (range_with_len a n) ≡ Some k
find_in_range p a zero k low high here before = absurd (omega arith)
find_in_range p a (suc n) k low high here before = elim (cases_lt a k) [
  | inl lt ↦ rw (before a (omega arith) lt) (find_in_range p (a + 1) n k (omega arith) (omega arith) here (λ j l h. before j (omega arith) h))
  | inr le ↦ let e : a ≡ k = omega arith in rw (e, here) refl
]

-- the count of copies, once it is found
pub copy_count_found : (m n k : ℕ) → 1 ≤ k → k ≤ n → k * m % n ≡ 0 → ((j : ℕ) → 1 ≤ j → j < k → j * m % n ≢ 0) → k ≡ copy_count m n
unfolding copy_count
copy_count_found m n k low high here before =
    let p : ℕ → Bool = λ j. j * m % n == 0 in
    let yes : p k ≡ true = eq-eqb (k * m % n) 0 here in
    let no : (j : ℕ) → 1 ≤ j → j < k → p j ≡ false = λ j l h. elim (eqb_tells (j * m % n) 0) [ inl e ↦ absurd (before j l h e.1) | inr e ↦ e.0 ] in
    let e = find_in_range p 1 n k low (omega arith) yes no in
    rw e refl

-- one more part
pub sum_more : (n : ℕ) (bytes : List ℕ) (k : ℕ) → sum_of_parts n bytes (k + 1) ≡ sum_of_parts n bytes k + value (take n (drop (n * k) bytes))
unfolding sum_of_parts
sum_more n bytes k =
    sum_by-map-range_with_len_more (λ x. x) (λ p. value (take n (drop (n * p) bytes))) 0 k k (omega arith)

-- a part before the last lies in the text
pub parts_fit : (n long p : ℕ) → 1 ≤ n → p < long / n → n * p + n ≤ long
parts_fit n long p some h =
    let low : n * (p + 1) ≤ n * (long / n) = mul-le-mul_left n (omega arith) in
    omega (arith, div-add-mod' long n)
