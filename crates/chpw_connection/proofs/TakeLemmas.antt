-- The first elements of a list.
use Rattle.std.proofs.Common.{◌≡◌, ℕ, List, ◌≤◌, length, take}
use Rattle.std.proofs.lemmas.List.{take_all}

-- all, where there are no more
pub taken_whole : (n : ℕ) (l : List ℕ) → length l ≤ n → take n l ≡ l
taken_whole n l h = take_all n l h
