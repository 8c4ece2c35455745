-- Who of those that wait was accepted first.
use Rattle.std.proofs.Common.{◌≡◌, ℕ, ◌+◌, ◌<◌, ◌≤◌, length, sym, ap, subst, arith, Bool, true, false, nat_le, cond, Option, Some, None, below_more}
use Rattle.std.proofs.Math.Logic.{⊎_elim}
use Rattle.std.proofs.lemmas.Bool.{cases_lt}
use Rattle.std.proofs.lemmas.Bool.Decides.{nat_tests}
use Rattle.std.proofs.lemmas.List.{get_or_past}
use Rattle.slab.specs.Slab.{Slab, get}
use Rattle.chpw_control.specs.Seats.{is_order, waiting_by, waiting_at, number_at, number_in, earlier, IsFirst, NobodyWaits}
use Rattle.chpw_control.specs.Callers.{Stage, asking, waiting, served, answered, deserted, over}
use Rattle.chpw_control.specs.Commands.{Command}
use Rattle.chpw_control.specs.declared.command.Command.TheVariants.{Status, Reload, ReopenLog, Stop, Compact}
use Rattle.chpw_control.specs.declared.callers.Seat.{Seat}

-- of the slots below a number
abbrev pub IsFirstBelow : Slab Seat → Bool → Option (ℕ × ℕ) → ℕ → Type 0
IsFirstBelow seats order None n = (k : ℕ) → k < n → number_in seats order k ≡ None
IsFirstBelow seats order (Some p) n = (number_in seats order p.1 ≡ Some p.0)
    × ((k m : ℕ) → k < n → number_in seats order k ≡ Some m → p.0 ≤ m)

-- the next slot
pub first_next : (seats : Slab Seat) (order : Bool) (first : Option (ℕ × ℕ)) (n : ℕ) (w : Option ℕ) → number_in seats order n ≡ w
    → IsFirstBelow seats order first n → IsFirstBelow seats order (earlier first n w) (n + 1)
first_next seats order None n None is below = below_more (λ k. number_in seats order k ≡ None) n below is
first_next seats order (Some p) n None is below = (
  below.0,
  (λ k m lt at. below_more (λ j. (t : ℕ) → number_in seats order j ≡ Some t → p.0 ≤ t) n (λ j l t e. below.1 j t l e)
      (λ t e. absurd cc) k lt m at),
)
first_next seats order None n (Some number) is below = (
  is,
  (λ k m lt at. below_more (λ j. (t : ℕ) → number_in seats order j ≡ Some t → number ≤ t) n (λ j l t e. absurd (let none = below j l in cc))
      (λ t e. let same : number ≡ t = cc in omega arith) k lt m at),
)
first_next seats order (Some p) n (Some number) is below =
    ⊎_elim
    (λ (later : number < p.0).
    let e : nat_le p.0 number ≡ false = grind (arith, nat_tests) in
    subst (λ (b : Bool). IsFirstBelow seats order (cond b (Some p) (Some (number, n))) (n + 1)) (sym e) (
      is,
      (λ k m lt at. below_more (λ j. (t : ℕ) → number_in seats order j ≡ Some t → number ≤ t) n
          (λ j l t same. let old = below.1 j t l same in omega arith)
          (λ t same. let equal : number ≡ t = cc in omega arith) k lt m at),
    ))
    (λ (first : p.0 ≤ number).
    let e : nat_le p.0 number ≡ true = grind (arith, nat_tests) in
    subst (λ (b : Bool). IsFirstBelow seats order (cond b (Some p) (Some (number, n))) (n + 1)) (sym e) (
      below.0,
      (λ k m lt at. below_more (λ j. (t : ℕ) → number_in seats order j ≡ Some t → p.0 ≤ t) n
          (λ j l t same. below.1 j t l same)
          (λ t same. let equal : number ≡ t = cc in omega arith) k lt m at),
    ))
    (cases_lt number p.0)

-- past the last slot there is nobody
past_none : (seats : Slab Seat) (order : Bool) (n k : ℕ) → length seats.slots ≤ n → n ≤ k → number_in seats order k ≡ None
past_none seats order n k few past = ap (number_at order) (get_or_past seats.slots k None (omega arith))

-- of all slots
pub first_of_all : (seats : Slab Seat) (order : Bool) (p : ℕ × ℕ) (n : ℕ) → length seats.slots ≤ n
    → IsFirstBelow seats order (Some p) n → IsFirst seats order p.1
first_of_all seats order p n few below = (
  p.0,
  below.0,
  (λ k m at.
      ⊎_elim
      (λ (lt : k < n). below.1 k m lt at)
      (λ (past : n ≤ k). let none = past_none seats order n k few past in absurd cc)
      (cases_lt k n)),
)

pub nobody_of_all : (seats : Slab Seat) (order : Bool) (n : ℕ) → length seats.slots ≤ n → IsFirstBelow seats order None n
    → NobodyWaits seats order
nobody_of_all seats order n few below k =
    ⊎_elim (λ (lt : k < n). below k lt) (λ (past : n ≤ k). past_none seats order n k few past) (cases_lt k n)

-- an order is what waits as an order, and nothing else is
of_kind : (order : Bool) (given command : Command) → waiting_by order (waiting given) ≡ Some command → is_order command ≡ order
of_kind true Status command is = absurd cc
of_kind true Stop command is = absurd cc
of_kind true Reload command is = let same : Reload ≡ command = cc in ap is_order (sym same)
of_kind true ReopenLog command is = let same : ReopenLog ≡ command = cc in ap is_order (sym same)
of_kind true (Compact file) command is = let same : Compact file ≡ command = cc in ap is_order (sym same)
of_kind false Status command is = let same : Status ≡ command = cc in ap is_order (sym same)
of_kind false Stop command is = let same : Stop ≡ command = cc in ap is_order (sym same)
of_kind false Reload command is = absurd cc
of_kind false ReopenLog command is = absurd cc
of_kind false (Compact file) command is = absurd cc

of_stage : (order : Bool) (s : Stage) (command : Command) → waiting_by order s ≡ Some command → is_order command ≡ order
of_stage order (waiting given) command is = of_kind order given command is
of_stage order (asking dialog) command is = absurd cc
of_stage order served command is = absurd cc
of_stage order (answered left) command is = absurd cc
of_stage order deserted command is = absurd cc
of_stage order over command is = absurd cc

pub kind_of : (order : Bool) (o : Option Seat) (command : Command) → waiting_at order o ≡ Some command → is_order command ≡ order
kind_of order None command is = absurd cc
kind_of order (Some s) command is = of_stage order s.caller command is
