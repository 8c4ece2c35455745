-- A confirmation that is waited for changes no answer.
use Rattle.std.proofs.Common.{◌≡◌, ℕ, List, [], ◌∷◌, ◌++◌, take, drop, refl, sym, ◌∙◌, ap, Bool, true, false, cond, ◌==◌, arith, All}
use Rattle.std.proofs.lemmas.List.{append-nil}
use Rattle.std.proofs.lemmas.List.Elements.{All-append, All-cons}
use Rattle.chpw_connection.specs.Messages.{wanted_after}
use Rattle.chpw_connection.specs.Stages.{Stage, reading, queued, answering, confirming, writing, lingering, abandoned, ended, Event, came, taken, replied}
use Rattle.chpw_connection.specs.Stages.{deferred, unanswered, released, wrote, closed, failed, received, is_over}
use Rattle.chpw_connection.specs.Lives.{Life, accepted, behind, life}
use Rattle.chpw_connection.specs.Unchanged.{settled, settle, is_ordinary, ordinary, seen, seen_all, ChangesNoAnswer, SeesOrdinary}

abbrev made : List ℕ → List (List ℕ) → List (List ℕ × List ℕ) → List ℕ → ℕ → Stage → Life
made c h r w n s = record { came = c; handed = h; turns = r; written = w; count = n; stage = s }

-- where nothing is seen nothing came of it
nothing_seen : (c : List ℕ) (h : List (List ℕ)) (r : List (List ℕ × List ℕ)) (w : List ℕ) (n : ℕ) (s : Stage)
    → made (c ++ []) (h ++ []) (r ++ []) (w ++ []) n s ≡ made c h r w n s
nothing_seen c h r w n s = rw (append-nil c, append-nil h, append-nil r, append-nil w) refl

-- what is read or written waits for no confirmation
settled_read : (whole : Bool) (b : List ℕ) → settled (cond whole (queued b) (reading b)) ≡ cond whole (queued b) (reading b)
settled_read true b = refl
settled_read false b = refl

settled_written : (over last : Bool) (left : List ℕ) → settled (cond over (cond last lingering (reading [])) (writing left last))
    ≡ cond over (cond last lingering (reading [])) (writing left last)
settled_written true true left = refl
settled_written true false left = refl
settled_written false last left = refl

-- one event
step : (c : List ℕ) (h : List (List ℕ)) (r : List (List ℕ × List ℕ)) (w : List ℕ) (n : ℕ) (s : Stage) (e : Event)
    → settle (behind (made c h r w n s) e) ≡ life (settle (made c h r w n s)) (seen s e)
step c h r w n (reading b) (came more) =
    ap (made (c ++ received b more) (h ++ []) (r ++ []) (w ++ []) n) (settled_read (wanted_after (b ++ received b more) == 0) (b ++ received b more))
step c h r w n (reading b) taken = refl
step c h r w n (reading b) (replied reply' last') = refl
step c h r w n (reading b) (deferred reply' last' ticket') = refl
step c h r w n (reading b) unanswered = refl
step c h r w n (reading b) released = nothing_seen c h r w n (reading b)
step c h r w n (reading b) (wrote k) = refl
step c h r w n (reading b) closed = refl
step c h r w n (reading b) failed = refl
step c h r w n (queued m) (came more) = refl
step c h r w n (queued m) taken = refl
step c h r w n (queued m) (replied reply' last') = refl
step c h r w n (queued m) (deferred reply' last' ticket') = refl
step c h r w n (queued m) unanswered = refl
step c h r w n (queued m) released = nothing_seen c h r w n (queued m)
step c h r w n (queued m) (wrote k) = refl
step c h r w n (queued m) closed = refl
step c h r w n (queued m) failed = refl
step c h r w n (answering m) (came more) = refl
step c h r w n (answering m) taken = refl
step c h r w n (answering m) (replied reply' last') = refl
step c h r w n (answering m) (deferred reply' last' ticket') = refl
step c h r w n (answering m) unanswered = refl
step c h r w n (answering m) released = nothing_seen c h r w n (answering m)
step c h r w n (answering m) (wrote k) = refl
step c h r w n (answering m) closed = refl
step c h r w n (answering m) failed = refl
step c h r w n (writing left last) (came more) = refl
step c h r w n (writing left last) taken = refl
step c h r w n (writing left last) (replied reply' last') = refl
step c h r w n (writing left last) (deferred reply' last' ticket') = refl
step c h r w n (writing left last) unanswered = refl
step c h r w n (writing left last) released = nothing_seen c h r w n (writing left last)
step c h r w n (writing left last) (wrote k) =
    ap (made (c ++ []) (h ++ []) (r ++ []) (w ++ take k left) n) (settled_written (is_over (drop k left)) last (drop k left))
step c h r w n (writing left last) closed = refl
step c h r w n (writing left last) failed = refl
step c h r w n lingering (came more) = refl
step c h r w n lingering taken = refl
step c h r w n lingering (replied reply' last') = refl
step c h r w n lingering (deferred reply' last' ticket') = refl
step c h r w n lingering unanswered = refl
step c h r w n lingering released = nothing_seen c h r w n lingering
step c h r w n lingering (wrote k) = refl
step c h r w n lingering closed = refl
step c h r w n lingering failed = refl
step c h r w n abandoned (came more) = refl
step c h r w n abandoned taken = refl
step c h r w n abandoned (replied reply' last') = refl
step c h r w n abandoned (deferred reply' last' ticket') = refl
step c h r w n abandoned unanswered = refl
step c h r w n abandoned released = nothing_seen c h r w n abandoned
step c h r w n abandoned (wrote k) = refl
step c h r w n abandoned closed = refl
step c h r w n abandoned failed = refl
step c h r w n ended (came more) = refl
step c h r w n ended taken = refl
step c h r w n ended (replied reply' last') = refl
step c h r w n ended (deferred reply' last' ticket') = refl
step c h r w n ended unanswered = refl
step c h r w n ended released = nothing_seen c h r w n ended
step c h r w n ended (wrote k) = refl
step c h r w n ended closed = refl
step c h r w n ended failed = refl
step c h r w n (confirming reply last ticket) (came more) = nothing_seen c h r w n (writing reply last)
step c h r w n (confirming reply last ticket) taken = nothing_seen c h r w n (writing reply last)
step c h r w n (confirming reply last ticket) (replied reply' last') = nothing_seen c h r w n (writing reply last)
step c h r w n (confirming reply last ticket) (deferred reply' last' ticket') = nothing_seen c h r w n (writing reply last)
step c h r w n (confirming reply last ticket) unanswered = nothing_seen c h r w n (writing reply last)
step c h r w n (confirming reply last ticket) released = nothing_seen c h r w n (writing reply last)
step c h r w n (confirming reply last ticket) (wrote k) = nothing_seen c h r w n (writing reply last)
step c h r w n (confirming reply last ticket) closed = nothing_seen c h r w n (writing reply last)
step c h r w n (confirming reply last ticket) failed = refl

-- one list of events after another
life-append : (l : Life) (xs ys : List Event) → life l (xs ++ ys) ≡ life (life l xs) ys
life-append l [] ys = refl
life-append l (x ∷ xs) ys = life-append (behind l x) xs ys

unchanged_from : (l : Life) (events : List Event) → settle (life l events) ≡ life (settle l) (seen_all l events)
unchanged_from l [] = refl
unchanged_from l (e ∷ es) =
    unchanged_from (behind l e) es
    ∙ ap (λ (k : Life). life k (seen_all (behind l e) es)) (step l.came l.handed l.turns l.written l.count l.stage e)
    ∙ sym (life-append (settle l) (seen l.stage e) (seen_all (behind l e) es))

-- and what is seen is ordinary
abbrev IsOrdinary : Event → Type 0
IsOrdinary event = is_ordinary event ≡ true

none_is : All IsOrdinary []
none_is k d lt = absurd (omega arith)

one_is : (e : Event) → IsOrdinary e → All IsOrdinary (e ∷ [])
one_is e is = All-cons IsOrdinary e [] is none_is

ordinary_is : (e : Event) → All IsOrdinary (ordinary e)
ordinary_is (came more) = one_is (came more) refl
ordinary_is taken = one_is taken refl
ordinary_is (replied reply last) = one_is (replied reply last) refl
ordinary_is (deferred reply last ticket) = one_is (replied reply last) refl
ordinary_is unanswered = one_is unanswered refl
ordinary_is released = none_is
ordinary_is (wrote k) = one_is (wrote k) refl
ordinary_is closed = one_is closed refl
ordinary_is failed = one_is failed refl

seen_is : (s : Stage) (e : Event) → All IsOrdinary (seen s e)
seen_is (reading b) e = ordinary_is e
seen_is (queued m) e = ordinary_is e
seen_is (answering m) e = ordinary_is e
seen_is (writing left last) e = ordinary_is e
seen_is lingering e = ordinary_is e
seen_is abandoned e = ordinary_is e
seen_is ended e = ordinary_is e
seen_is (confirming reply last ticket) (came more) = none_is
seen_is (confirming reply last ticket) taken = none_is
seen_is (confirming reply last ticket) (replied reply' last') = none_is
seen_is (confirming reply last ticket) (deferred reply' last' ticket') = none_is
seen_is (confirming reply last ticket) unanswered = none_is
seen_is (confirming reply last ticket) released = none_is
seen_is (confirming reply last ticket) (wrote k) = none_is
seen_is (confirming reply last ticket) closed = none_is
seen_is (confirming reply last ticket) failed = one_is failed refl

all_seen : (l : Life) (events : List Event) → All IsOrdinary (seen_all l events)
all_seen l [] = none_is
all_seen l (e ∷ es) = All-append IsOrdinary (seen l.stage e) (seen_all (behind l e) es) (seen_is l.stage e) (all_seen (behind l e) es)

pub changes_no_answer : ChangesNoAnswer
changes_no_answer events = unchanged_from accepted events

pub sees_ordinary : SeesOrdinary
sees_ordinary events = all_seen accepted events
