-- Those at the control socket with their sockets.
use Rattle.std.proofs.Common.{◌≡◌, ◌≢◌, ℕ, zero, suc, ◌+◌, ◌<◌, ◌≤◌, List, [], ◌∷◌, length, set}
use Rattle.std.proofs.Common.{sym, ◌∙◌, ap, subst, arith, true, Option, Some, None}
use Rattle.std.proofs.Math.Logic.{⊎_elim}
use Rattle.std.proofs.lemmas.Bool.{cases_eq}
use Rattle.slab.specs.Slab.{Slab, get, slab_len, SameValues, Updates}
use Rattle.mio.specs.declared.net.uds.stream.UnixStream.{UnixStream}
use Rattle.chpw_slots.specs.Counting.{count_in}
use Rattle.chpw_connection.specs.declared.connection.Connection.{Connection}
use Rattle.chpw_connection.specs.declared.counting.CountedStage.TheVariants as counted
use Rattle.chpw_slots.proofs.CountLemmas.{counted_once}
use Rattle.chpw_control.specs.Callers.{asking, failed}
use Rattle.chpw_control.specs.Dialogs.{at_start}
use Rattle.chpw_control.specs.Seats.{Comes, Happens, IsNew, is_over_at}
use Rattle.chpw_control.specs.declared.callers.Seat.{Seat}
use Rattle.chpw_transfers.specs.Controlling.{Admits, IsOpen}
use Rattle.chpw_transfers.proofs.ListLemmas.{written, elsewhere}

-- those of all stages are all
pub all_counted : (slots : Slab Connection) (a b c d e f : ℕ) → a ≡ count_in counted.Reading slots → b ≡ count_in counted.Waiting slots
    → c ≡ count_in counted.Answering slots → d ≡ count_in counted.Confirming slots → e ≡ count_in counted.Writing slots
    → f ≡ count_in counted.Ending slots → a + b + c + d + e + f ≡ slab_len slots
all_counted slots a b c d e f ra wb ac cd we ef = omega (arith, ra, wb, ac, cd, we, ef, counted_once slots)

-- somebody's socket at its place
pub admits : (now number : ℕ) (old new : Slab Seat) (streams : List (Option UnixStream)) (stream : UnixStream) (slot : ℕ)
    → IsNew now number old new slot (asking at_start) → slot < length streams
    → Admits now number old new streams (set streams slot (Some stream))
admits now number old new streams stream slot came within = record {
  slot = slot;
  came = came;
  placed = (stream, written streams slot (Some stream) within);
  others = λ other differs. elsewhere streams slot other (Some stream) differs;
}

-- who can't be watched is over at once
over_now : (now number : ℕ) (mid dead : Option Seat) → mid ≡ Some (record { caller = asking at_start; since = now; number = number })
    → Comes failed mid dead → is_over_at dead ≡ true
over_now now number mid dead is comes =
    ap is_over_at (subst (λ (o : Option Seat). Comes failed o dead) is comes)

-- and leaves no trace
pub leaves_none : (now number : ℕ) (old mid dead new : Slab Seat) (slot : ℕ) → IsNew now number old mid slot (asking at_start)
    → Happens mid dead slot failed → (is_over_at (get dead slot) ≡ true → Updates dead new slot None) → SameValues old new
leaves_none now number old mid dead new slot came fails goes key =
    let gone = goes (over_now now number (get mid slot) (get dead slot) came.here fails.here) in
    ⊎_elim
    (λ (same : key ≡ slot). subst (λ (k : ℕ). get new k ≡ get old k) (sym same) (gone.changed ∙ sym came.free))
    (λ (differs : key ≢ slot). gone.others key differs ∙ fails.others key differs ∙ came.others key differs)
    (cases_eq key slot)

-- behind its end nobody's socket is there
pub none_there : (streams : List (Option UnixStream)) (slot : ℕ) → slot < length streams → IsOpen (set streams slot None) slot → ⊥
none_there streams slot within there =
    let none = written streams slot None within in
    let is = there.1 in
    absurd cc

pub none_past : (streams : List (Option UnixStream)) (slot : ℕ) → length streams ≤ slot → IsOpen streams slot → ⊥
none_past [] slot past there = let is = there.1 in absurd cc
none_past (s ∷ ss) zero past there = absurd (omega (arith, past))
none_past (s ∷ ss) (suc slot) past there = none_past ss slot (omega (arith, past)) there
