-- The order in which the slots of a queue are taken.
use Rattle.std.specs.Prelude.{◌≡◌, ℕ, List, [], ◌∷◌, ◌++◌, take, drop, filter, Bool, ◌⊎◌}

-- What happens to a queue: a slot joins it at its end, its first one is taken, or some leave it, so that those stay
-- that pass a test.
pub data Step : Type 0 where
  joins : ℕ → Step
  takes : Step
  keeps : (ℕ → Bool) → Step

-- what joined it, what was taken from it, and what is in it, each from the first to the last
pub record Run : Type 0 where
  pub joined : List ℕ
  pub taken : List ℕ
  pub queue : List ℕ

abbrev pub behind_step : Run → Step → Run
behind_step r (joins slot) = record { joined = r.joined ++ slot ∷ []; taken = r.taken; queue = r.queue ++ slot ∷ [] }
behind_step r takes = record { joined = r.joined; taken = r.taken ++ take 1 r.queue; queue = drop 1 r.queue }
behind_step r (keeps test) = record { joined = r.joined; taken = r.taken; queue = filter test r.queue }

abbrev pub run : Run → List Step → Run
run r [] = r
run r (s ∷ ss) = run (behind_step r s) ss

abbrev pub empty_queue : Run
empty_queue = record { joined = []; taken = []; queue = [] }

-- the first list is the second one with some left out: no other order, and nothing twice
abbrev pub Picks : List ℕ → List ℕ → Type 0
Picks [] ys = Unit {0}
Picks (x ∷ xs) [] = ⊥
Picks (x ∷ xs) (y ∷ ys) = ((x ≡ y) × Picks xs ys) ⊎ Picks (x ∷ xs) ys

-- whatever happens to a queue, what was taken from it and then what is in it came in this order
abbrev pub FirstInFirstOut : Type 0
FirstInFirstOut = (steps : List Step) → Picks ((run empty_queue steps).taken ++ (run empty_queue steps).queue) (run empty_queue steps).joined
