-- What a raise publishes.
use Rattle.std.proofs.Common.{◌≡◌, ℕ, ◌<◌, Bool, true, false, not, ◌&&◌, ◌||◌, None, refl, ◌∙◌, ap, arith, if◌then◌else◌}
use Rattle.std.specs.Prelude.{nat_le, nat_lt}
use Rattle.std.proofs.lemmas.Bool.Decides.{nat_tests}
use Rattle.chpw_table.specs.declared.change.AcceptedChange.TheVariants.{Count}
use Rattle.chpw_table.specs.declared.raising.RaiseVerdict.{RaiseVerdict}
use Rattle.chpw_table.specs.declared.raising.RaiseVerdict.TheVariants as raise
use Rattle.chpw_table.specs.declared.history.Event.TheVariants.{Raise}
use Rattle.chpw_table.specs.State.{new_count}
use Rattle.chpw_table.specs.Raising.{raise_verdict, is_raised, would_raise}
use Rattle.chpw_table.specs.Agreement.{Held}
use Rattle.chpw_snapshots.specs.Known.{PublishedList}
use Rattle.chpw_book.specs.Publishing.{LeavesPending, with_waiting}
use Rattle.chpw_book.proofs.PublishLemmas.{pending_next}

both_true : (a b : Bool) → (a && b) ≡ true → (a ≡ true) × (b ≡ true)
both_true true b h = (refl, h)
both_true false b h = absurd (cc)

not_true : (a : Bool) → not a ≡ true → a ≡ false
not_true true h = absurd (cc)
not_true false h = refl

-- a raise that would be accepted is above the table's count, and the journal is whole
pub would_be : (t : Held) (count : ℕ) → would_raise t count ≡ true → (new_count t.state < count) × (t.state.broken ≡ false)
would_be t count h =
    let past = (both_true (nat_lt t.events t.max_entries) (nat_lt (new_count t.state) count && not t.state.broken) h).1 in
    let tests = both_true (nat_lt (new_count t.state) count) (not t.state.broken) past in
    let above : nat_lt (new_count t.state) count ≡ true = tests.0 in
    (grind (arith, nat_tests), not_true t.state.broken tests.1)

-- above a count is what isn't at most that
turned : (n count : ℕ) → nat_lt n count ≡ not (nat_le count n)
turned n count = at (nat_lt n count) (nat_le count n) refl refl
  where
    at : (a b : Bool) → nat_lt n count ≡ a → nat_le count n ≡ b → a ≡ not b
    at true false e f = refl
    at false true e f = refl
    at true true e f = absurd (let no : ⊥ = grind (arith, nat_tests) in no)
    at false false e f = absurd (let no : ⊥ = grind (arith, nat_tests) in no)

-- so with room for an event the tests of the verdict are those of the snapshots
pub would_at : (t : Held) (count : ℕ) → t.events < t.max_entries → would_raise t count ≡ (not (nat_le count (new_count t.state)) && not t.state.broken)
would_at t count room =
    let free : nat_lt t.events t.max_entries ≡ true = grind (arith, nat_tests) in
    ap (λ (b : Bool). b && (nat_lt (new_count t.state) count && not t.state.broken)) free
    ∙ ap (λ (b : Bool). b && not t.state.broken) (turned (new_count t.state) count)

raised_at : (low was io : Bool)
    → is_raised (if low then raise.NotHigher else if was || io then raise.Broken else raise.Raised) ≡ ((not low && not was) && not io)
raised_at true was io = refl
raised_at false true io = refl
raised_at false false true = refl
raised_at false false false = refl

pub raise_pending : (b : Held) (count : ℕ) (v : RaiseVerdict) (io now : Bool) (s t : PublishedList)
    → b.events < b.max_entries → (b.state.broken ≡ false → s.waiting ≡ None)
    → v ≡ raise_verdict b.state count io → now ≡ (b.state.broken || io)
    → t ≡ with_waiting (would_raise b count) (Count count) s → LeavesPending b.state now (Raise count v) s t
raise_pending b count v io now s t room free vi ni ti =
    let low : Bool = nat_le count (new_count b.state) in
    pending_next b.state b.state.broken now io (not low && not b.state.broken) (Raise count v) (Count count) s t free
    (ap is_raised vi ∙ raised_at low b.state.broken io) ni refl
    (ti ∙ ap (λ (w : Bool). with_waiting w (Count count) s) (would_at b count room))
