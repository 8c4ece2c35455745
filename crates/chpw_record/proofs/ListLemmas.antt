-- The parts of lists, and bytes.
use Rattle.std.proofs.Common.{◌≡◌, ℕ, zero, suc, ◌+◌, ◌-◌, ◌<◌, ◌≤◌, List, [], ◌∷◌, ◌++◌, length, take, drop, get_or, refl, sym, ◌∙◌, ap, arith, lit<}
use Rattle.std.proofs.lemmas.List.{take-append-drop, drop-drop, take_all}

-- two lists alike, cut at the same place
pub front_same : {A : Type 0} (a b c d : List A) → length a ≡ length c → a ++ b ≡ c ++ d → (a ≡ c) × (b ≡ d)
front_same [] b [] d l h = (refl, h)
front_same [] b (y ∷ ys) d l h = cc
front_same (x ∷ xs) b [] d l h = cc
front_same (x ∷ xs) b (y ∷ ys) d l h =
    let m : length xs ≡ length ys = omega (arith, l) in
    let t : xs ++ b ≡ ys ++ d = cc in
    let r = front_same xs b ys d m t in
    let e : x ≡ y = cc in
    (let q : xs ≡ ys = r.0 in cc, r.1)

-- a part, and what follows it
pub cut : (n m : ℕ) (xs : List ℕ) → drop n xs ≡ take m (drop n xs) ++ drop (n + m) xs
cut n m xs = sym (take-append-drop m (drop n xs)) ∙ ap (λ (ys : List ℕ). take m (drop n xs) ++ ys) (drop-drop m n xs)

-- each is a byte
abbrev pub AreBytes : List ℕ → Type 0
AreBytes xs = (i : ℕ) → get_or xs i 0 < 256

pub bytes_taken : (n : ℕ) (xs : List ℕ) → AreBytes xs → AreBytes (take n xs)
bytes_taken zero xs b zero = lit< tt
bytes_taken zero xs b (suc i) = lit< tt
bytes_taken (suc n) [] b i = b i
bytes_taken (suc n) (x ∷ xs) b zero = b zero
bytes_taken (suc n) (x ∷ xs) b (suc i) = bytes_taken n xs (λ j. b (suc j)) i

pub bytes_dropped : (n : ℕ) (xs : List ℕ) → AreBytes xs → AreBytes (drop n xs)
bytes_dropped zero xs b i = b i
bytes_dropped (suc n) [] b i = b i
bytes_dropped (suc n) (x ∷ xs) b i = bytes_dropped n xs (λ j. b (suc j)) i

-- a list by its first and the others
pub split_head : (xs : List ℕ) → 1 ≤ length xs → xs ≡ get_or xs 0 0 ∷ take (length xs - 1) (drop 1 xs)
split_head [] h = absurd (omega (arith, h))
split_head (x ∷ xs) h = ap (λ (ys : List ℕ). x ∷ ys) (sym (take_all (length (x ∷ xs) - 1) xs (omega arith)))
