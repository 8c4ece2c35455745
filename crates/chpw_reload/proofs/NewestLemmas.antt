-- Keys that are the newest of others.
use Rattle.std.proofs.Common.{◌≡◌, ℕ, zero, suc, ◌≤◌, max, List, [], ◌∷◌, ◌++◌, take, drop, length, refl, sym, ◌∙◌, ap, subst, arith}
use Rattle.std.proofs.Math.Seq.{take-append_seam}
use Rattle.std.proofs.lemmas.List.{take-append-drop, append-nil}
use Rattle.chpw_record.specs.declared.key.KeyRow.{KeyRow}
use Rattle.chpw_reload.specs.Comparing.{AreNewest}

-- the first list stands in front of the second
abbrev pub Begins : List KeyRow → List KeyRow → Type 0
Begins xs ys = (older : List KeyRow) × (ys ≡ xs ++ older)

pub begins_of : (xs ys : List KeyRow) → AreNewest xs ys → Begins xs ys
begins_of xs ys h =
    let m : ℕ = max (length xs) 1 in
    (drop m ys, sym (take-append-drop m ys) ∙ ap (λ (zs : List KeyRow). zs ++ drop m ys) (sym h))

-- without a key the others have none
pub none_left : (ys : List KeyRow) → AreNewest [] ys → ys ≡ []
none_left [] h = refl
none_left (y ∷ ys) h = absurd (cc)

pub newest_of : (x : KeyRow) (xs ys : List KeyRow) → Begins (x ∷ xs) ys → AreNewest (x ∷ xs) ys
newest_of x xs ys h =
    let e : max (length (x ∷ xs)) 1 ≡ length (x ∷ xs) = omega arith in
    sym (ap (λ (m : ℕ). take m ys) e ∙ (ap (take (length (x ∷ xs))) h.1 ∙ take-append_seam (x ∷ xs) h.0))

pub newest_itself : (xs : List KeyRow) → AreNewest xs xs
newest_itself [] = refl
newest_itself (x ∷ xs) = newest_of x xs (x ∷ xs) ([], sym (append-nil (x ∷ xs)))

-- what stands in front of the whole stands in front of as many of it
begins_taken : (n : ℕ) (xs ys : List KeyRow) → Begins (take n xs) ys → Begins (take n xs) (take n ys)
begins_taken zero xs ys h = ([], refl)
begins_taken (suc n) [] ys h = (take (suc n) ys, refl)
begins_taken (suc n) (x ∷ xs) [] h = let e : [] ≡ x ∷ (take n xs ++ h.0) = h.1 in absurd (cc)
begins_taken (suc n) (x ∷ xs) (y ∷ ys) h =
    let e : y ∷ ys ≡ x ∷ (take n xs ++ h.0) = h.1 in
    let first : y ≡ x = cc in
    let rest : ys ≡ take n xs ++ h.0 = cc in
    let more = begins_taken n xs ys (h.0, rest) in
    (more.0, rw first (ap (λ (zs : List KeyRow). x ∷ zs) more.1))

pub newest_taken : (j : ℕ) (xs ys : List KeyRow) → AreNewest (take (suc j) xs) ys → AreNewest (take (suc j) xs) (take (suc j) ys)
newest_taken j [] ys h = let e : ys ≡ [] = none_left ys h in subst (λ (zs : List KeyRow). AreNewest [] (take (suc j) zs)) (sym e) refl
newest_taken j (x ∷ xs) ys h = newest_of x (take j xs) (take (suc j) ys) (begins_taken (suc j) (x ∷ xs) ys (begins_of (x ∷ take j xs) ys h))

-- fewer of the first still stand in front
begins_fewer : (k l : ℕ) (xs ys : List KeyRow) → Begins (take (suc l) xs) ys → Begins (take l (take k xs)) (take l ys)
begins_fewer k zero xs ys h = ([], refl)
begins_fewer zero (suc l) xs ys h = (take (suc l) ys, refl)
begins_fewer (suc k) (suc l) [] ys h = (take (suc l) ys, refl)
begins_fewer (suc k) (suc l) (x ∷ xs) [] h = let e : [] ≡ x ∷ (take (suc l) xs ++ h.0) = h.1 in absurd (cc)
begins_fewer (suc k) (suc l) (x ∷ xs) (y ∷ ys) h =
    let e : y ∷ ys ≡ x ∷ (take (suc l) xs ++ h.0) = h.1 in
    let first : y ≡ x = cc in
    let rest : ys ≡ take (suc l) xs ++ h.0 = cc in
    let more = begins_fewer k l xs ys (h.0, rest) in
    (more.0, rw first (ap (λ (zs : List KeyRow). x ∷ zs) more.1))

-- the same key in front of both
pub newest_put : (k l : ℕ) (key : KeyRow) (xs ys : List KeyRow) → AreNewest (take (suc l) xs) ys
    → AreNewest (take (suc l) (take (suc k) (key ∷ xs))) (take (suc l) (key ∷ ys))
newest_put k l key xs ys h =
    let more = begins_fewer k l xs ys (begins_of (take (suc l) xs) ys h) in
    newest_of key (take l (take k xs)) (key ∷ take l ys) (more.0, ap (λ (zs : List KeyRow). key ∷ zs) more.1)
