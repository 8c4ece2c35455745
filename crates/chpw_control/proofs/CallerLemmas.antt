-- Whatever happens to somebody at the control socket, it has its one answer.
use Rattle.std.proofs.Common.{◌≡◌, ℕ, List, [], ◌∷◌, ◌++◌, take, drop, length, ◌==◌, ◌⊎◌}
use Rattle.std.proofs.Common.{inl, inr, Bool, true, false, not, cond, ◌&&◌, Option, Some}
use Rattle.std.proofs.Common.{None, Result, Ok, Err, refl, sym, ◌∙◌, ap, subst, append_assoc}
use Rattle.std.proofs.lemmas.List.{append-nil, take-append-drop}
use Rattle.chpw_control.specs.declared.fault.ControlFault.{ControlFault}
use Rattle.chpw_control.specs.declared.fault.ControlFault.TheVariants.{LineTooLong, NoWholeLine, Late, Memory}
use Rattle.chpw_control.specs.Commands.{Command, command_of}
use Rattle.chpw_control.specs.Dialogs.{State, is_short, is_whole, line_in, goes_on, told_of, after_bytes, told_by}
use Rattle.chpw_control.specs.Callers.{Stage, asking, waiting, served, answered, deserted, over}
use Rattle.chpw_control.specs.Callers.{Event, came, lacked, closed, expired, taken, told, wrote}
use Rattle.chpw_control.specs.Callers.{failed, after, told_to, error_line, written_to, is_out}
use Rattle.chpw_control.specs.CallerLives.{Life, accepted, behind, life, answers_after, IsOnce, IsToldOnce, Served}

abbrev Told : Type 0
Told = Result Command ControlFault

abbrev made : List ℕ → List Command → List (List ℕ) → List ℕ → Stage → Life
made c k a w s = record { came = c; taken = k; answers = a; written = w; stage = s }

-- nothing was told yet
abbrev IsUntold : Life → Type 0
IsUntold l = (l.answers ≡ []) × (l.written ≡ [])

abbrev HasTaken : Life → Type 0
HasTaken l = (command : Command) × (l.taken ≡ command ∷ []) × (told_of l.came ≡ Some (Ok command))

-- what holds of it in each stage
abbrev Holds : Life → Stage → Type 0
Holds l (asking s) = (s ≡ Some l.came) × (l.taken ≡ []) × IsUntold l
Holds l (waiting command) = (told_of l.came ≡ Some (Ok command)) × (l.taken ≡ []) × IsUntold l
Holds l served = HasTaken l × IsUntold l
Holds l (answered left) = IsOnce l × ((answer : List ℕ) × (l.answers ≡ answer ∷ []) × (l.written ++ left ≡ answer))
Holds l deserted = HasTaken l × IsUntold l
Holds l over = IsOnce l × IsToldOnce l

served_by : (c : List ℕ) (k : List Command) (a : List (List ℕ)) (w : List ℕ) (s : Stage)
    → Holds (made c k a w s) s → IsOnce (made c k a w s) × IsToldOnce (made c k a w s)
served_by c k a w (asking s) h = (inl h.1, inl h.2)
served_by c k a w (waiting command) h = (inl h.1, inl h.2)
served_by c k a w served h = (inr h.0, inl h.1)
served_by c k a w (answered left) h = (h.0, inr (h.1.0, left, h.1.1, h.1.2))
served_by c k a w deserted h = (inr h.0, inl h.1)
served_by c k a w over h = h

-- where nothing is told of what came, the line goes on
on_untold : (bytes : List ℕ) → told_of bytes ≡ None → after_bytes (Some []) bytes ≡ Some bytes
on_untold bytes h = by_tests (is_short bytes) (is_whole bytes) h
  where
    by_tests : (a b : Bool) → cond (not a) (Some (Err LineTooLong)) (cond b (Some (command_of (line_in bytes))) None) ≡ None
        → cond (a && not b) (Some bytes) None ≡ Some bytes
    by_tests true false h = refl
    by_tests true true h = absurd cc
    by_tests false b h = absurd cc

-- a fault of its line is told
refuses : (c : List ℕ) (k : List Command) (a : List (List ℕ)) (w : List ℕ) (f : ControlFault) → k ≡ [] → a ≡ [] → w ≡ []
    → Holds (made c k (a ++ error_line f ∷ []) w (answered (error_line f))) (answered (error_line f))
refuses c k a w f none untold unwritten =
    (inl none, (error_line f, ap (λ (xs : List (List ℕ)). xs ++ error_line f ∷ []) untold, ap (λ (xs : List ℕ). xs ++ error_line f) unwritten))

-- behind what was told of all that came
hears : (c : List ℕ) (k : List Command) (a : List (List ℕ)) (w : List ℕ) (t : Option Told) → told_of c ≡ t → k ≡ [] → a ≡ [] → w ≡ []
    → Holds (made c k (answers_after (asking (Some c)) (told_to (after_bytes (Some []) c) t) a) w
    (told_to (after_bytes (Some []) c) t)) (told_to (after_bytes (Some []) c) t)
hears c k a w None h none untold unwritten = (on_untold c h, none, (untold, unwritten))
hears c k a w (Some (Ok command)) h none untold unwritten = (h, none, (untold, unwritten))
hears c k a w (Some (Err f)) h none untold unwritten = refuses c k a w f none untold unwritten

-- so many bytes of the answer went out
writes : (c : List ℕ) (k : List Command) (a : List (List ℕ)) (w left : List ℕ) (n : ℕ) → Holds (made c k a w (answered left)) (answered left)
    → Holds (made c k a (w ++ take n left) (written_to (drop n left))) (written_to (drop n left))
writes c k a w left n h =
    let whole : (w ++ take n left) ++ drop n left ≡ h.1.0 =
    append_assoc w (take n left) (drop n left) ∙ (ap (λ (xs : List ℕ). w ++ xs) (take-append-drop n left) ∙ h.1.2) in
    by_test (is_out (drop n left)) whole
  where
    by_test : (b : Bool) → (w ++ take n left) ++ drop n left ≡ h.1.0
        → Holds (made c k a (w ++ take n left) (cond b over (answered (drop n left)))) (cond b over (answered (drop n left)))
    by_test true whole = (h.0, inr (h.1.0, drop n left, h.1.1, whole))
    by_test false whole = (h.0, (h.1.0, h.1.1, whole))

holds_after : (c : List ℕ) (k : List Command) (a : List (List ℕ)) (w : List ℕ) (s : Stage) (e : Event) → Holds (made c k a w s) s
    → Holds (behind (made c k a w s) e) (after s e)
holds_after c k a w (asking None) (came bytes) h = absurd (let e = h.0 in cc)
holds_after c k a w (asking (Some heard)) (came bytes) h =
    let same : heard ≡ c = (let e = h.0 in cc) in
    subst (λ (xs : List ℕ). Holds (made (c ++ bytes) k (answers_after (asking (Some heard)) (told_to (after_bytes (Some xs) bytes) (told_of (xs ++ bytes))) a) w
    (told_to (after_bytes (Some xs) bytes) (told_of (xs ++ bytes)))) (told_to (after_bytes (Some xs) bytes) (told_of (xs ++ bytes))))
    (sym same) (hears (c ++ bytes) k a w (told_of (c ++ bytes)) refl h.1 h.2.0 h.2.1)
holds_after c k a w (asking s) lacked h = refuses c k a w Memory h.1 h.2.0 h.2.1
holds_after c k a w (asking None) closed h = absurd (let e = h.0 in cc)
holds_after c k a w (asking (Some heard)) closed h = refuses c k a w NoWholeLine h.1 h.2.0 h.2.1
holds_after c k a w (asking None) expired h = absurd (let e = h.0 in cc)
holds_after c k a w (asking (Some heard)) expired h = refuses c k a w Late h.1 h.2.0 h.2.1
holds_after c k a w (asking s) taken h = h
holds_after c k a w (asking s) (told answer) h = h
holds_after c k a w (asking s) (wrote n) h = h
holds_after c k a w (asking s) failed h = (inl h.1, inl h.2)
holds_after c k a w (waiting command) taken h = ((command, ap (λ (xs : List Command). xs ++ command ∷ []) h.1, h.0), h.2)
holds_after c k a w (waiting command) failed h = (inl h.1, inl h.2)
holds_after c k a w (waiting command) (came bytes) h = h
holds_after c k a w (waiting command) lacked h = h
holds_after c k a w (waiting command) closed h = h
holds_after c k a w (waiting command) expired h = h
holds_after c k a w (waiting command) (told answer) h = h
holds_after c k a w (waiting command) (wrote n) h = h
holds_after c k a w served (told answer) h =
    (inr h.0, (answer, ap (λ (xs : List (List ℕ)). xs ++ answer ∷ []) h.1.0, ap (λ (xs : List ℕ). xs ++ answer) h.1.1))
holds_after c k a w served failed h = h
holds_after c k a w served (came bytes) h = h
holds_after c k a w served lacked h = h
holds_after c k a w served closed h = h
holds_after c k a w served expired h = h
holds_after c k a w served taken h = h
holds_after c k a w served (wrote n) h = h
holds_after c k a w (answered left) (wrote n) h = writes c k a w left n h
holds_after c k a w (answered left) failed h = (h.0, inr (h.1.0, left, h.1.1, h.1.2))
holds_after c k a w (answered left) (came bytes) h = h
holds_after c k a w (answered left) lacked h = h
holds_after c k a w (answered left) closed h = h
holds_after c k a w (answered left) expired h = h
holds_after c k a w (answered left) taken h = h
holds_after c k a w (answered left) (told answer) h = h
holds_after c k a w deserted (told answer) h = (inr h.0, inl h.1)
holds_after c k a w deserted failed h = h
holds_after c k a w deserted (came bytes) h = h
holds_after c k a w deserted lacked h = h
holds_after c k a w deserted closed h = h
holds_after c k a w deserted expired h = h
holds_after c k a w deserted taken h = h
holds_after c k a w deserted (wrote n) h = h
holds_after c k a w over (told answer) h = h
holds_after c k a w over failed h = h
holds_after c k a w over (came bytes) h = h
holds_after c k a w over lacked h = h
holds_after c k a w over closed h = h
holds_after c k a w over expired h = h
holds_after c k a w over taken h = h
holds_after c k a w over (wrote n) h = h

holds_of : (l : Life) (events : List Event) → Holds l l.stage → Holds (life l events) (life l events).stage
holds_of l [] h = h
holds_of l (e ∷ es) h = holds_of (behind l e) es (holds_after l.came l.taken l.answers l.written l.stage e h)

pub all_served : Served
all_served events =
    let l = life accepted events in
    served_by l.came l.taken l.answers l.written l.stage (holds_of accepted events (refl, refl, (refl, refl)))
