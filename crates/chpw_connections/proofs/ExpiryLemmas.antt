-- How many messages are dropped as time passes.
use Rattle.std.proofs.Common.{◌≡◌, ℕ, ◌+◌, ◌<◌, ◌≤◌, ◌^◌, length, take, refl, sym, ◌∙◌, ap, subst, arith, Bool, true, false, None}
use Rattle.std.specs.List.{count_by}
use Rattle.std.proofs.Math.Logic.{⊎_elim}
use Rattle.std.proofs.lemmas.Bool.{cases_lt}
use Rattle.std.proofs.lemmas.List.{get_or_past, take_all}
use Rattle.std.proofs.lemmas.List.Sums.{count_by_more_yes, count_by_more_no}
use Rattle.slab.specs.Slab.{Slab, get}
use Rattle.chpw_connection.specs.Late.{is_dropped_in}
use Rattle.chpw_connections.specs.Expiry.{dropped_in, and_more, one_more}
use Rattle.chpw_connection.specs.declared.limits.ConnectionLimits.{ConnectionLimits}
use Rattle.chpw_connection.specs.declared.connection.Connection.{Connection}

-- how many of the slots below this one
abbrev pub dropped_below : ConnectionLimits → ℕ → Slab Connection → ℕ → ℕ
dropped_below b now slots n = count_by (is_dropped_in b now) (take n slots.slots)

pub first_below : (b : ConnectionLimits) (now : ℕ) (slots : Slab Connection) (expired : ℕ) → expired < 2 ^ 32
    → expired ≡ and_more (dropped_below b now slots 0) expired
first_below b now slots expired fits = grind arith

-- one slot more
below_yes : (b : ConnectionLimits) (now n : ℕ) (slots : Slab Connection) → is_dropped_in b now (get slots n) ≡ true
    → dropped_below b now slots (n + 1) ≡ dropped_below b now slots n + 1
below_yes b now n slots is =
    ⊎_elim
    (λ (lt : n < length slots.slots). count_by_more_yes (is_dropped_in b now) slots.slots n None lt is)
    (λ (past : length slots.slots ≤ n).
    absurd (let e : is_dropped_in b now (get slots n) ≡ false = ap (is_dropped_in b now) (get_or_past slots.slots n None past) in cc))
    (cases_lt n (length slots.slots))

below_no : (b : ConnectionLimits) (now n : ℕ) (slots : Slab Connection) → is_dropped_in b now (get slots n) ≡ false
    → dropped_below b now slots (n + 1) ≡ dropped_below b now slots n
below_no b now n slots is =
    ⊎_elim
    (λ (lt : n < length slots.slots). count_by_more_no (is_dropped_in b now) slots.slots n None lt is)
    (λ (past : length slots.slots ≤ n).
    let over : length slots.slots ≤ n + 1 = omega arith in
    ap (count_by (is_dropped_in b now)) (take_all (n + 1) slots.slots over ∙ sym (take_all n slots.slots past)))
    (cases_lt n (length slots.slots))

one_step : (is : Bool) (below next expired mid new : ℕ) → mid ≡ and_more below expired → new ≡ one_more is mid
    → (is ≡ true → next ≡ below + 1) → (is ≡ false → next ≡ below) → new ≡ and_more next expired
one_step true below next expired mid new before goes one_more_is as_many = let e = one_more_is refl in grind arith
one_step false below next expired mid new before goes one_more_is as_many = goes ∙ before ∙ ap (λ (k : ℕ). and_more k expired) (sym (as_many refl))

pub next_below : (b b' : ConnectionLimits) (now n : ℕ) (old mid : Slab Connection) (expired before next : ℕ) → b' ≡ b
    → get mid n ≡ get old n → before ≡ and_more (dropped_below b now old n) expired
    → next ≡ one_more (is_dropped_in b' now (get mid n)) before → next ≡ and_more (dropped_below b now old (n + 1)) expired
next_below b b' now n old mid expired before next same here was goes =
    let is : is_dropped_in b' now (get mid n) ≡ is_dropped_in b now (get old n) =
    ap (λ (c : ConnectionLimits). is_dropped_in c now (get mid n)) same ∙ ap (is_dropped_in b now) here in
    one_step (is_dropped_in b now (get old n)) (dropped_below b now old n) (dropped_below b now old (n + 1)) expired before next was
    (subst (λ (t : Bool). next ≡ one_more t before) is goes) (below_yes b now n old) (below_no b now n old)

-- behind the last slot that is all
pub all_below : (b : ConnectionLimits) (now : ℕ) (slots : Slab Connection) (n expired : ℕ) → length slots.slots ≤ n
    → and_more (dropped_below b now slots n) expired ≡ and_more (dropped_in b now slots) expired
all_below b now slots n expired few =
    ap (λ (k : ℕ). and_more k expired) (ap (count_by (is_dropped_in b now)) (take_all n slots.slots few))
