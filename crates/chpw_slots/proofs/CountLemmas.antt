-- A sum over the slots, slot by slot; and each connection is counted once.
use Rattle.std.proofs.Common.{◌≡◌, ℕ, ◌+◌, ◌<◌, ◌≤◌, List, [], ◌∷◌, length, take, ◌∙◌, ap, arith, refl, Bool, true, false, cond, Option, Some, None, is_some}
use Rattle.std.specs.List.{sum_by, count_by}
use Rattle.std.proofs.Math.Logic.{⊎_elim}
use Rattle.std.proofs.lemmas.Bool.{cases_lt}
use Rattle.std.proofs.lemmas.List.{get_or_past, take_all}
use Rattle.std.proofs.lemmas.List.Sums.{sum_by_more, sum_by-cons}
use Rattle.slab.specs.Slab.{Slab, get}
use Rattle.chpw_connection.specs.Counting.{is_counted, one_at}
use Rattle.chpw_slots.specs.Counting.{CountedOnce}
use Rattle.chpw_connection.specs.Stages.{Stage, stage, reading, queued, answering, confirming, writing, lingering, abandoned, ended}
use Rattle.chpw_connection.specs.declared.connection.Connection.{Connection}
use Rattle.chpw_connection.specs.declared.counting.CountedStage.{CountedStage}
use Rattle.chpw_connection.specs.declared.counting.CountedStage.TheVariants as counted

-- over the slots below this one
abbrev pub below : (Option Connection → ℕ) → Slab Connection → ℕ → ℕ
below f slots n = sum_by f (take n slots.slots)

pub below_next : (f : Option Connection → ℕ) (slots : Slab Connection) (n : ℕ) → f None ≡ 0 → below f slots (n + 1) ≡ below f slots n + f (get slots n)
below_next f slots n empty =
    ⊎_elim
    (λ (lt : n < length slots.slots). sum_by_more f slots.slots n None lt)
    (λ (past : length slots.slots ≤ n).
    let over : length slots.slots ≤ n + 1 = omega arith in
    let none : f (get slots n) ≡ 0 = ap f (get_or_past slots.slots n None past) ∙ empty in
    let whole = ap (sum_by f) (take_all (n + 1) slots.slots over) in
    let before = ap (sum_by f) (take_all n slots.slots past) in
    omega arith)
    (cases_lt n (length slots.slots))

pub below_all : (f : Option Connection → ℕ) (slots : Slab Connection) (n : ℕ) → length slots.slots ≤ n → below f slots n ≡ sum_by f slots.slots
below_all f slots n few = ap (sum_by f) (take_all n slots.slots few)

pub one_at_le : (which : CountedStage) (o : Option Connection) → one_at which o ≤ 1
one_at_le which None = omega arith
one_at_le which (Some c) = by_test (is_counted which (stage c))
  where
    by_test : (t : Bool) → cond t 1 0 ≤ 1
    by_test true = omega arith
    by_test false = omega arith

-- of all stages that are counted apart, a connection's own is one
one_of_stages : (s : Stage) → cond (is_counted counted.Reading s) 1 0 + cond (is_counted counted.Waiting s) 1 0
    + cond (is_counted counted.Answering s) 1 0 + cond (is_counted counted.Confirming s) 1 0
    + cond (is_counted counted.Writing s) 1 0 + cond (is_counted counted.Ending s) 1 0 ≡ 1
one_of_stages (reading bytes) = refl
one_of_stages (queued message) = refl
one_of_stages (answering m) = refl
one_of_stages (confirming reply last ticket) = refl
one_of_stages (writing left last) = refl
one_of_stages lingering = refl
one_of_stages abandoned = refl
one_of_stages ended = refl

one_of_all : (o : Option Connection) → one_at counted.Reading o + one_at counted.Waiting o + one_at counted.Answering o
    + one_at counted.Confirming o + one_at counted.Writing o + one_at counted.Ending o ≡ cond (is_some o) 1 0
one_of_all None = refl
one_of_all (Some c) = one_of_stages (stage c)

all_counted : (xs : List (Option Connection)) → sum_by (one_at counted.Reading) xs + sum_by (one_at counted.Waiting) xs
    + sum_by (one_at counted.Answering) xs + sum_by (one_at counted.Confirming) xs + sum_by (one_at counted.Writing) xs
    + sum_by (one_at counted.Ending) xs ≡ count_by is_some xs
all_counted [] = refl
all_counted (o ∷ os) = omega (
  arith,
  one_of_all o,
  all_counted os,
  sum_by-cons (one_at counted.Reading) o os,
  sum_by-cons (one_at counted.Waiting) o os,
  sum_by-cons (one_at counted.Answering) o os,
  sum_by-cons (one_at counted.Confirming) o os,
  sum_by-cons (one_at counted.Writing) o os,
  sum_by-cons (one_at counted.Ending) o os,
  sum_by-cons (λ (p : Option Connection). cond (is_some p) 1 0) o os,
)

pub counted_once : CountedOnce
counted_once slots = all_counted slots.slots
