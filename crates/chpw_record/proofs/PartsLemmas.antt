-- The components of a name, each after its length.
use Rattle.std.proofs.Common.{◌≡◌, ℕ, suc, ◌+◌, ◌-◌, ◌≤◌, get_or, take, drop, List, [], ◌∷◌, ◌++◌}
use Rattle.std.proofs.Common.{length, append_assoc, append-nil, refl, sym, ◌∙◌, ap, arith, length-append}
use Rattle.std.specs.List.{flat_map}
use Rattle.chpw_rules.specs.declared.name.Name.{Name}
use Rattle.chpw_record.specs.Records.{part_bytes, name_bytes}
use Rattle.chpw_record.proofs.ListLemmas.{front_same, split_head}

abbrev joined : List (List ℕ) → List ℕ
joined = flat_map part_bytes

-- of parts whose text begins with that of others, those stand in front
pub cut_same : (ps ds : List (List ℕ)) (rest : List ℕ) → joined ps ≡ joined ds ++ rest → (qs : List (List ℕ)) × (ps ≡ ds ++ qs) × (rest ≡ joined qs)
cut_same ps [] rest h = (ps, refl, sym h)
cut_same [] (d ∷ ds) rest h = cc
cut_same (p ∷ ps) (d ∷ ds) rest h =
    let l : length p ≡ length d = cc in
    let t : p ++ joined ps ≡ (d ++ joined ds) ++ rest = cc in
    let r = front_same p (joined ps) d (joined ds ++ rest) l (t ∙ append_assoc d (joined ds) rest) in
    let m = cut_same ps ds rest r.1 in
    (m.0, (let e : p ≡ d = r.0 in let f : ps ≡ ds ++ m.0 = m.1 in cc), m.2)

-- a last part that is cut off is none
pub cut_short : (rest : List ℕ) (n : ℕ) (qs : List (List ℕ)) → 1 ≤ length rest → n ≡ get_or rest 0 0 → length rest ≤ n → rest ≡ joined qs → ⊥
cut_short rest n [] h l s e = let z : length rest ≡ 0 = ap length e in omega (arith, h, z)
cut_short rest n (q ∷ qs) h l s e =
    let m : n ≡ length q = l ∙ ap (λ (xs : List ℕ). get_or xs 0 0) e in
    let t : length rest ≡ 1 + (length q + length (joined qs)) =
    ap length e ∙ (length-append (length q ∷ q) (joined qs) ∙ one (length q) (length (joined qs))) in
    omega (arith, s, m, t)
  where
    one : (a b : ℕ) → suc a + b ≡ 1 + (a + b)
    one a b = omega arith

-- the same parts where the text is the same
pub same_parts : (ps qs : List (List ℕ)) → joined ps ≡ joined qs → ps ≡ qs
same_parts ps qs h =
    let m = cut_same ps qs [] (h ∙ sym (append-nil (joined qs))) in
    none m.0 m.1 m.2
  where
    none : (more : List (List ℕ)) → ps ≡ qs ++ more → [] ≡ joined more → ps ≡ qs
    none [] e f = e ∙ append-nil qs
    none (x ∷ xs) e f = cc

-- bytes with these components are those of no other name
pub other_name : (bytes : List ℕ) (parts : List (List ℕ)) (n : Name)
    → 1 ≤ length bytes → take (length bytes - 1) (drop 1 bytes) ≡ joined parts → bytes ≡ name_bytes n
    → (length parts ≡ get_or bytes 0 0) × (parts ≡ n.parts)
other_name bytes parts n l h e = both (get_or bytes 0 0) (take (length bytes - 1) (drop 1 bytes)) h (sym (split_head bytes l) ∙ e)
  where
    both : (count : ℕ) (components : List ℕ) → components ≡ joined parts → count ∷ components ≡ name_bytes n → (length parts ≡ count) × (parts ≡ n.parts)
    both count components h e =
        let t : components ≡ joined n.parts = cc in
        let s : parts ≡ n.parts = same_parts parts n.parts (sym h ∙ t) in
        let l : count ≡ length n.parts = cc in
        (ap length s ∙ sym l, s)
