-- An old password over restarts: further runs of the service, each opened with the keys that the one before it left.
use Rattle.std.specs.Prelude.{◌≡◌, ℕ, ◌+◌, ◌<◌, List, [], ◌∷◌}
use Rattle.chpw_rules.specs.declared.name.Name.{Name}
use Rattle.chpw_table.specs.State.{State}
use Rattle.chpw_table.specs.Laws.{NeverRemoved}
use Rattle.chpw_journal.specs.Runs.{Run, AreRuns, last_state}
use Rattle.chpw_laws.specs.OldPasswords.{Refuses, IsKeyOf, Changed, new_keys_of, end_of}
use Rattle.chpw_laws.specs.Adoptions.{Adopted, end_with}

-- how many keys of this name came in front in these runs
abbrev pub new_keys_in : Name → List Run → ℕ
new_keys_in name [] = 0
new_keys_in name (r ∷ rs) = new_keys_of name r.history + new_keys_in name rs

-- none of them removed this name
abbrev pub NeverRemovedIn : Name → List Run → Type 0
NeverRemovedIn name [] = Unit {0}
NeverRemovedIn name (r ∷ rs) = NeverRemoved name r.history × NeverRemovedIn name rs

-- the state that the last of these runs left; without a run, the end of the history with the change
abbrev pub left_by : Changed → List Run → State
left_by h runs = last_state (end_of h) runs

-- further keys are counted on over restarts, and the password is refused until `depth` of them came in front, if the realm
-- is the same, and unless the name was removed
abbrev pub RefusedOverRestarts : Type 0
RefusedOverRestarts = (h : Changed) (runs : List Run) →
    AreRuns (end_of h) runs → (left_by h runs).fixed.realm ≡ h.opening.fixed.realm →
    NeverRemoved h.name h.later → NeverRemovedIn h.name runs →
    new_keys_of h.name h.later + new_keys_in h.name runs < (left_by h runs).fixed.policy.depth →
    Refuses (left_by h runs) h.name h.password

-- and so is a password whose key was adopted
abbrev pub AdoptedIsRefusedOverRestarts : Type 0
AdoptedIsRefusedOverRestarts = (h : Adopted) (password : List ℕ) (runs : List Run) → IsKeyOf h.opening h.name password h.key →
    AreRuns (end_with h) runs → (last_state (end_with h) runs).fixed.realm ≡ h.opening.fixed.realm →
    NeverRemoved h.name h.later → NeverRemovedIn h.name runs →
    new_keys_of h.name h.later + new_keys_in h.name runs < (last_state (end_with h) runs).fixed.policy.depth →
    Refuses (last_state (end_with h) runs) h.name password
