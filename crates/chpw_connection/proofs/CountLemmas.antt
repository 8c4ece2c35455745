-- How many messages a connection has handed on, and how many replies it has.
use Rattle.std.proofs.Common.{◌≡◌, ℕ, ◌+◌, ◌≤◌, List, [], ◌∷◌, ◌++◌, length, sym, ◌∙◌, ap, refl, arith, Bool, true, false}
use Rattle.std.proofs.Common.{append_assoc}
use Rattle.std.proofs.lemmas.List.{length-append, length-map}
use Rattle.chpw_connection.specs.Stages.{replied}
use Rattle.chpw_connection.specs.Lives.{joined, messages_of}

pub joined-append : (xs ys : List (List ℕ)) → joined (xs ++ ys) ≡ joined xs ++ joined ys
joined-append [] ys = refl
joined-append (x ∷ xs) ys = ap (λ (l : List ℕ). x ++ l) (joined-append xs ys) ∙ sym (append_assoc x (joined xs) (joined ys))

-- as many messages were handed on as were replied to and weren't
pub as_many : (h : List (List ℕ)) (r : List (List ℕ × List ℕ)) (u : List (List ℕ)) → h ≡ messages_of r ++ u → length h ≡ length r + length u
as_many h r u is =
    ap length is ∙ (length-append (messages_of r) u ∙ ap (λ (k : ℕ). k + length u) (length-map r (λ (t : List ℕ × List ℕ). t.0)))

-- no message, and one, is no more than one
pub none_is_few : (u : List (List ℕ)) → u ≡ [] → length u ≤ 1
none_is_few u is = let none : length u ≡ 0 = ap length is in omega arith

pub one_is_few : (u : List (List ℕ)) (m : List ℕ) → u ≡ m ∷ [] → length u ≤ 1
one_is_few u m is = let one : length u ≡ 1 = ap length is in omega arith

pub bool_cases : (P : Bool → Type 0) (b : Bool) → (b ≡ true → P true) → (b ≡ false → P false) → P b
bool_cases P true yea nay = yea refl
bool_cases P false yea nay = nay refl
