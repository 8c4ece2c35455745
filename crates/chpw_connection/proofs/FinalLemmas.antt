-- After its end nothing happens to a connection.
use Rattle.std.proofs.Common.{◌≡◌, ℕ, List, [], ◌∷◌, sym, ◌∙◌, ap, subst, refl}
use Rattle.std.proofs.lemmas.List.{append-nil}
use Rattle.chpw_connection.specs.Stages.{Stage, ended, Event, came, taken, replied, deferred, unanswered, released, wrote, closed, failed}
use Rattle.chpw_connection.specs.Lives.{Life, behind, life, Final}
use Rattle.chpw_connection.proofs.LifeLemmas.{made}

-- after the end nothing happens
at_end : (c : List ℕ) (h : List (List ℕ)) (r : List (List ℕ × List ℕ)) (w : List ℕ) (n : ℕ) (e : Event) → behind (made c h r w n ended) e ≡ made c h r w n ended
at_end c h r w n (came more) = rw (append-nil c, append-nil h, append-nil r, append-nil w) refl
at_end c h r w n taken = rw (append-nil c, append-nil h, append-nil r, append-nil w) refl
at_end c h r w n (replied reply last) = rw (append-nil c, append-nil h, append-nil r, append-nil w) refl
at_end c h r w n (deferred reply last ticket) = rw (append-nil c, append-nil h, append-nil r, append-nil w) refl
at_end c h r w n unanswered = rw (append-nil c, append-nil h, append-nil r, append-nil w) refl
at_end c h r w n released = rw (append-nil c, append-nil h, append-nil r, append-nil w) refl
at_end c h r w n (wrote k) = rw (append-nil c, append-nil h, append-nil r, append-nil w) refl
at_end c h r w n closed = rw (append-nil c, append-nil h, append-nil r, append-nil w) refl
at_end c h r w n failed = rw (append-nil c, append-nil h, append-nil r, append-nil w) refl

nothing_at : (c : List ℕ) (h : List (List ℕ)) (r : List (List ℕ × List ℕ)) (w : List ℕ) (n : ℕ) (s : Stage) (e : Event) → s ≡ ended
    → behind (made c h r w n s) e ≡ made c h r w n s
nothing_at c h r w n s e is = subst (λ (t : Stage). behind (made c h r w n t) e ≡ made c h r w n t) (sym is) (at_end c h r w n e)

nothing_more : (l : Life) (e : Event) → l.stage ≡ ended → behind l e ≡ l
nothing_more l e is = nothing_at l.came l.handed l.turns l.written l.count l.stage e is

pub ends_for_good : Final
ends_for_good l [] is = refl
ends_for_good l (e ∷ es) is = let still = nothing_more l e is in
    ap (λ (k : Life). life k es) still ∙ ends_for_good l es is
