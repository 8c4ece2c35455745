-- How contracts see a node of a search tree.
use Rattle.std.specs.Prelude.{◌≡◌, ◌≤◌, ◌+◌, ◌*◌, ℕ, List, [], ◌∷◌, ◌++◌, length, Option, None, Some}
use Rattle.std.specs.declared.cmp.Ordering.{Ordering}
use Rattle.std.specs.BTreeSet.{insert_key}
use Rattle.std.specs.Global.{Box}
use Rattle.chpw_ordered_keys.specs.declared.tree.Fork.{Fork}

-- the keys of a node, from the left to the right
abbrev pub fork_keys : {K : Type 0} → Fork K → List K
fork_keys fork = fork.left ++ fork.key ∷ fork.right

-- those of the node at the root, if there is one
abbrev pub keys : {K : Type 0} → Option (Box (Fork K)) → List K
keys None = []
keys (Some fork) = fork_keys fork.value

-- the number is that of its keys
abbrev pub IsCounted : {K : Type 0} → Option (Box (Fork K)) → Type 0
IsCounted None = Unit {0}
IsCounted (Some fork) = fork.value.count ≡ length fork.value.left + length fork.value.right + 1

-- neither side, counted with one more, is more than three times the other, counted likewise
abbrev pub AreEven : ℕ → ℕ → Type 0
AreEven l r = (l ≤ 3 * r + 2) × (r ≤ 3 * l + 2)

-- they were so before a key was put into one of them or taken out
abbrev pub WereEven : ℕ → ℕ → Type 0
WereEven l r = (l ≤ 3 * r + 5) × (r ≤ 3 * l + 5)

-- the sides of the node at the root are balanced
abbrev pub IsEven : {K : Type 0} → Option (Box (Fork K)) → Type 0
IsEven None = Unit {0}
IsEven (Some fork) = AreEven (length fork.value.left) (length fork.value.right)

-- the keys with the first of others inserted
abbrev pub with_first : {K : Type 0} → (K → K → Ordering) → List K → List K → List K
with_first R ks [] = ks
with_first R ks (q ∷ qs) = insert_key R ks q
