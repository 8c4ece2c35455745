-- Pieces of one length, numbered and joined.
use Rattle.std.proofs.Common.{◌≡◌, ℕ, zero, suc, ◌+◌, ◌*◌, List, [], ◌∷◌, ◌++◌, length, sym, ap, ◌∙◌, arith, length-append}
use Rattle.std.proofs.lemmas.List.{append_assoc, append-nil}
use Rattle.std.specs.List.{flat_map, range_with_len}

pub length-pieces : (f : ℕ → List ℕ) (m : ℕ) → ((i : ℕ) → length (f i) ≡ m) → (is : List ℕ) → length (flat_map f is) ≡ m * length is
length-pieces f m each [] = omega arith
length-pieces f m each (i ∷ is) =
    length-append (f i) (flat_map f is) ∙ omega (arith, each i, length-pieces f m each is)

-- one more piece, j
pub pieces_more : (f : ℕ → List ℕ) (a n j : ℕ) → a + n ≡ j → flat_map f (range_with_len a (n + 1)) ≡ flat_map f (range_with_len a n) ++ f j
pieces_more f a zero j e =
    let same : a ≡ j = omega arith in append-nil (f a) ∙ ap f same
pieces_more f a (suc n) j e =
    let next : suc n + 1 ≡ suc (n + 1) = omega arith in
    rw next (ap (λ (x : List ℕ). f a ++ x) (pieces_more f (a + 1) n j (omega arith)) ∙ sym (append_assoc (f a) (flat_map f (range_with_len (a + 1) n)) (f j)))
