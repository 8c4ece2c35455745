-- Which events bring no message to a queue and take none out of it.
use Rattle.std.proofs.Common.{◌≡◌, ℕ, ◌+◌, List, [], ◌++◌, drop, refl, Bool, true}
use Rattle.std.proofs.Common.{false, ◌&&◌, cond, ◌==◌, None, is_some}
use Rattle.chpw_connection.specs.Stages.{Stage, reading, queued, answering, confirming, writing, lingering, abandoned, ended, Event, came, taken, replied}
use Rattle.chpw_connection.specs.Stages.{deferred, unanswered, released, wrote, closed, failed, after, is_over, received}
use Rattle.chpw_connection.specs.Messages.{wanted_after}
use Rattle.chpw_connection.specs.Slot.{queued_by, is_newly_queued}

-- what neither brings a message to a queue nor takes it out
abbrev pub is_quiet : Event → Bool
is_quiet (came more) = false
is_quiet taken = false
is_quiet failed = false
is_quiet (replied reply last) = true
is_quiet (deferred reply last ticket) = true
is_quiet unanswered = true
is_quiet released = true
is_quiet (wrote n) = true
is_quiet closed = true

pub written_none : (over last : Bool) (left : List ℕ) → queued_by (cond over (cond last lingering (reading [])) (writing left last)) ≡ None
written_none true true left = refl
written_none true false left = refl
written_none false true left = refl
written_none false false left = refl

pub quiet_kept : (count : ℕ) (s : Stage) (e : Event) → is_quiet e ≡ true → queued_by (after count s e) ≡ queued_by s
quiet_kept count s (came more) is = absurd cc
quiet_kept count s taken is = absurd cc
quiet_kept count s failed is = absurd cc
quiet_kept count (reading b) (replied r l) is = refl
quiet_kept count (queued m) (replied r l) is = refl
quiet_kept count (answering m) (replied r l) is = refl
quiet_kept count (confirming w l m) (replied r k) is = refl
quiet_kept count (writing w l) (replied r k) is = refl
quiet_kept count lingering (replied r l) is = refl
quiet_kept count abandoned (replied r l) is = refl
quiet_kept count ended (replied r l) is = refl
quiet_kept count (reading b) (deferred r k n) is = refl
quiet_kept count (queued m) (deferred r k n) is = refl
quiet_kept count (answering m) (deferred r k n) is = refl
quiet_kept count (confirming w l m) (deferred r k n) is = refl
quiet_kept count (writing w l) (deferred r k n) is = refl
quiet_kept count lingering (deferred r k n) is = refl
quiet_kept count abandoned (deferred r k n) is = refl
quiet_kept count ended (deferred r k n) is = refl
quiet_kept count (reading b) released is = refl
quiet_kept count (queued m) released is = refl
quiet_kept count (answering m) released is = refl
quiet_kept count (confirming w l m) released is = refl
quiet_kept count (writing w l) released is = refl
quiet_kept count lingering released is = refl
quiet_kept count abandoned released is = refl
quiet_kept count ended released is = refl
quiet_kept count (reading b) unanswered is = refl
quiet_kept count (queued m) unanswered is = refl
quiet_kept count (answering m) unanswered is = refl
quiet_kept count (confirming w l m) unanswered is = refl
quiet_kept count (writing w l) unanswered is = refl
quiet_kept count lingering unanswered is = refl
quiet_kept count abandoned unanswered is = refl
quiet_kept count ended unanswered is = refl
quiet_kept count (reading b) (wrote n) is = refl
quiet_kept count (queued m) (wrote n) is = refl
quiet_kept count (answering m) (wrote n) is = refl
quiet_kept count (confirming w l m) (wrote n) is = refl
quiet_kept count (writing w l) (wrote n) is = written_none (is_over (drop n w)) l (drop n w)
quiet_kept count lingering (wrote n) is = refl
quiet_kept count abandoned (wrote n) is = refl
quiet_kept count ended (wrote n) is = refl
quiet_kept count (reading b) closed is = refl
quiet_kept count (queued m) closed is = refl
quiet_kept count (answering m) closed is = refl
quiet_kept count (confirming w l m) closed is = refl
quiet_kept count (writing w l) closed is = refl
quiet_kept count lingering closed is = refl
quiet_kept count abandoned closed is = refl
quiet_kept count ended closed is = refl

pub failed_none : (count : ℕ) (s : Stage) → queued_by (after count s failed) ≡ None
failed_none count (reading b) = refl
failed_none count (queued m) = refl
failed_none count (answering m) = refl
failed_none count (confirming w l m) = refl
failed_none count (writing w l) = refl
failed_none count lingering = refl
failed_none count abandoned = refl
failed_none count ended = refl

pub taken_none : (count : ℕ) (s : Stage) → queued_by (after count s taken) ≡ None
taken_none count (reading b) = refl
taken_none count (queued m) = refl
taken_none count (answering m) = refl
taken_none count (confirming w l m) = refl
taken_none count (writing w l) = refl
taken_none count lingering = refl
taken_none count abandoned = refl
taken_none count ended = refl

pub read_none : (whole : Bool) (b : List ℕ) → (is_some (queued_by (cond whole (queued b) (reading b))) && true) ≡ false
    → queued_by (cond whole (queued b) (reading b)) ≡ None
read_none true b is = absurd cc
read_none false b is = refl

pub came_kept : (count : ℕ) (s : Stage) (more : List ℕ) → is_newly_queued (queued_by s) (queued_by (after count s (came more))) ≡ false
    → queued_by (after count s (came more)) ≡ queued_by s
came_kept count (reading b) more is = read_none (wanted_after (b ++ received b more) == 0) (b ++ received b more) is
came_kept count (queued m) more is = refl
came_kept count (answering m) more is = refl
came_kept count (confirming w l m) more is = refl
came_kept count (writing w l) more is = refl
came_kept count lingering more is = refl
came_kept count abandoned more is = refl
came_kept count ended more is = refl
