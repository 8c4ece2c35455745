-- Blocks, each after its length.
use Rattle.std.proofs.Common.{◌≡◌, ℕ, suc, ◌+◌, ◌<◌, ◌≤◌, ◌^◌, List, [], ◌∷◌, ◌++◌, length, take, drop, get_or}
use Rattle.std.proofs.Common.{append_assoc, append-nil, refl, sym, ◌∙◌, ap, subst, arith, length-append}
use Rattle.std.specs.Int.{to_be_bytes, from_be_bytes, w32}
use Rattle.std.specs.List.{flat_map, AllByRecursion}
use Rattle.std.proofs.lemmas.Nat.{be_bytes_4, from_be_bytes-to_be_bytes_4}
use Rattle.std.proofs.lemmas.List.{take-append-drop}
use Rattle.std.proofs.lemmas.Grind.{flat_map-append}
use Rattle.chpw_blocks.specs.Blocks.{block, joined, IsShort, AreShort, IsOneWay}

-- two lists alike, cut at the same place
pub front_same : {A : Type 0} (a b c d : List A) → length a ≡ length c → a ++ b ≡ c ++ d → (a ≡ c) × (b ≡ d)
front_same [] b [] d l h = (refl, h)
front_same [] b (y ∷ ys) d l h = cc
front_same (x ∷ xs) b [] d l h = cc
front_same (x ∷ xs) b (y ∷ ys) d l h =
    let m : length xs ≡ length ys = omega (arith, l) in
    let t : xs ++ b ≡ ys ++ d = cc in
    let r = front_same xs b ys d m t in
    let e : x ≡ y = cc in
    (let q : xs ≡ ys = r.0 in cc, r.1)

-- two texts alike begin with the same block
pub block_same : (b rest c more : List ℕ) → IsShort b → IsShort c → block b ++ rest ≡ block c ++ more → (b ≡ c) × (rest ≡ more)
block_same b rest c more s t h =
    let m = length b in
    let n = length c in
    let whole : to_be_bytes w32 m ++ (b ++ rest) ≡ to_be_bytes w32 n ++ (c ++ more) =
    sym (append_assoc (to_be_bytes w32 m) b rest) ∙ (h ∙ append_assoc (to_be_bytes w32 n) c more) in
    let r = front_same (to_be_bytes w32 m) (b ++ rest) (to_be_bytes w32 n) (c ++ more) refl whole in
    let e : m ≡ n = sym (from_be_bytes-to_be_bytes_4 m s) ∙ (ap (from_be_bytes w32) r.0 ∙ from_be_bytes-to_be_bytes_4 n t) in
    front_same b rest c more e r.1

-- of blocks whose text begins with that of others, those stand in front
pub cut_same : (bs cs : List (List ℕ)) (rest : List ℕ) → AreShort bs → AreShort cs → joined bs ≡ joined cs ++ rest
    → (ds : List (List ℕ)) × (bs ≡ cs ++ ds) × (rest ≡ joined ds) × AreShort ds
cut_same bs [] rest s t h = (bs, refl, sym h, s)
cut_same [] (c ∷ cs) rest s t h =
    let l : 0 ≡ length ((block c ++ joined cs) ++ rest) = ap length h in
    absurd (omega (arith, l, length-append (block c ++ joined cs) rest, length-append (block c) (joined cs), length-append (to_be_bytes w32 (length c)) c))
cut_same (b ∷ bs) (c ∷ cs) rest s t h =
    let r = block_same b (joined bs) c (joined cs ++ rest) s.0 t.0 (h ∙ append_assoc (block c) (joined cs) rest) in
    let m = cut_same bs cs rest s.1 t.1 r.1 in
    (m.0, (let e : b ≡ c = r.0 in let f : bs ≡ cs ++ m.0 = m.1 in cc), m.2, m.3)

pub is_one_way : IsOneWay
is_one_way bs cs s t h =
    let m = cut_same bs cs [] s t (h ∙ sym (append-nil (joined cs))) in
    none m.0 m.1 m.2
  where
    none : (more : List (List ℕ)) → bs ≡ cs ++ more → [] ≡ joined more → bs ≡ cs
    none [] e f = e ∙ append-nil cs
    none (x ∷ xs) e f =
        let l : 0 ≡ length (block x ++ joined xs) = ap length f in
        absurd (omega (arith, l, length-append (block x) (joined xs), length-append (to_be_bytes w32 (length x)) x))

-- where no block can be cut off a text that isn't empty, it is that of no blocks
pub none_joined : (text : List ℕ) (bs cs : List (List ℕ)) (rest : List ℕ) → 1 ≤ length rest → AreShort bs → AreShort cs
    → ((b more : List ℕ) → IsShort b → rest ≡ block b ++ more → ⊥) → text ≡ joined cs ++ rest → text ≡ joined bs → ⊥
none_joined text bs cs rest l s t none e h =
    let m = cut_same bs cs rest s t (sym h ∙ e) in
    at m.0 m.2 m.3
  where
    at : (ds : List (List ℕ)) → rest ≡ joined ds → AreShort ds → ⊥
    at [] f g = (let n : length rest ≡ 0 = ap length f in omega (arith, l, n))
    at (d ∷ ds) f g = none d (joined ds) g.0 f

-- one more block
pub more_joined : (text : List ℕ) (bs : List (List ℕ)) (rest b behind : List ℕ) → text ≡ joined bs ++ rest → rest ≡ block b ++ behind
    → text ≡ joined (bs ++ b ∷ []) ++ behind
more_joined text bs rest b behind h e =
    h ∙ (ap (λ r. joined bs ++ r) e ∙ (sym (append_assoc (joined bs) (block b) behind)
    ∙ ap (λ t. t ++ behind) (ap (λ t. joined bs ++ t) (sym (append-nil (block b))) ∙ sym (flat_map-append block bs (b ∷ [])))))

pub more_short : (bs : List (List ℕ)) (b : List ℕ) → AreShort bs → IsShort b → AreShort (bs ++ b ∷ [])
more_short [] b s h = (h, tt)
more_short (x ∷ xs) b s h = (s.0, more_short xs b s.1 h)

-- a text that was cut in two at its length is that block and the rest
pub block_whole : (text head rest bytes behind : List ℕ) (n : ℕ) → length head ≡ 4 → ((i : ℕ) → get_or head i 0 < 256)
    → n ≡ from_be_bytes w32 head → text ≡ head ++ rest → length bytes ≡ n → rest ≡ bytes ++ behind → text ≡ block bytes ++ behind
block_whole text head rest bytes behind n l b e h m r =
    let front : to_be_bytes w32 (length bytes) ≡ head = ap (to_be_bytes w32) m ∙ be_bytes_4 head n l b e in
    h ∙ (ap (λ t. head ++ t) r ∙ (sym (append_assoc head bytes behind) ∙ ap (λ t. (t ++ bytes) ++ behind) (sym front)))

-- no block begins a text that is too short for its length
pub block_cut : (text head rest b more : List ℕ) (n : ℕ) → IsShort b → n ≡ from_be_bytes w32 head → length head ≡ 4 → text ≡ head ++ rest
    → length rest < n → text ≡ block b ++ more → ⊥
block_cut text head rest b more n s e l h short f =
    let r = front_same head rest (to_be_bytes w32 (length b)) (b ++ more) l
    (sym h ∙ (f ∙ append_assoc (to_be_bytes w32 (length b)) b more)) in
    let m : n ≡ length b = e ∙ (ap (from_be_bytes w32) r.0 ∙ from_be_bytes-to_be_bytes_4 (length b) s) in
    let k : length rest ≡ length b + length more = ap length r.1 ∙ length-append b more in
    omega (arith, short, m, k)

pub block_long : (text b more : List ℕ) → length text < 4 → text ≡ block b ++ more → ⊥
block_long text b more short f =
    let k = ap length f in
    omega (arith, short, k, length-append (block b) more, length-append (to_be_bytes w32 (length b)) b)
