-- Histories without updates.
use Rattle.std.proofs.Common.{◌≡◌, ℕ, ◌+◌, ◌<◌, ◌≤◌, List, [], ◌∷◌, ◌++◌, length, filter, take, Bool, true, false}
use Rattle.std.proofs.Common.{if◌then◌else◌, refl, sym, ◌∙◌, ap, subst, arith}
use Rattle.chpw_rules.specs.declared.name.Name.{Name}
use Rattle.chpw_record.specs.declared.key.KeyRow.{KeyRow}
use Rattle.chpw_table.specs.declared.updating.KdcUpdate.TheVariants.{Adopt, Lift, Remove}
use Rattle.chpw_table.specs.declared.history.Event.{Event}
use Rattle.chpw_table.specs.declared.history.Event.TheVariants.{Ask, Raise, Update}
use Rattle.chpw_table.specs.declared.history.Entry.{Entry}
use Rattle.chpw_table.specs.Wanted.{compared_keys}
use Rattle.chpw_table.specs.Laws.{keys_made, removes, NeverRemoved}
use Rattle.chpw_journal.specs.Runs.{Run}
use Rattle.chpw_laws.specs.OldPasswords.{brings_key, new_keys_of, depth_of, after_change, end_of}
use Rattle.chpw_laws.specs.Restarts.{new_keys_in, NeverRemovedIn}
use Rattle.chpw_laws.specs.WithoutUpdates.{is_update, is_change_of, changes_of, changes_in, HaveNoUpdate, RunsHaveNoUpdate}
use Rattle.chpw_laws.specs.WithoutUpdates.{OnlyChangesBringKeys, ComparedUntilDepthOfChanges, RefusedUntilDepthOfChanges}
use Rattle.chpw_laws.specs.WithoutUpdates.{ComparedNoLongerThanChanges, DepthChangesBetween, OnlyChangesBringKeysInRuns}
use Rattle.chpw_laws.proofs.KeptLemmas.{Forgets, lifts, IsKept, alike_is_same}
use Rattle.chpw_laws.proofs.ChangeLemmas.{as_it_was_made, refused_until_depth, only_later, depth_others_between}

-- ---- one event

stays_held : (name : Name) (event : Event) → is_update event ≡ false → removes name event ≡ false
stays_held name (Ask o v) none = refl
stays_held name (Raise count v) none = refl
stays_held name (Update u v) none = cc

same_version : (name : Name) (event : Event) → is_update event ≡ false → lifts name event ≡ false
same_version name (Ask o v) none = refl
same_version name (Raise count v) none = refl
same_version name (Update u v) none = cc

only_a_change : (name : Name) (event : Event) → is_update event ≡ false → brings_key name event ≡ is_change_of name event
only_a_change name (Ask o v) none = refl
only_a_change name (Raise count v) none = refl
only_a_change name (Update u v) none = cc

apart : (b : Bool) → b ≡ false → b ≡ true → ⊥
apart b e h = cc

-- ---- a history

never_removed : (name : Name) (es : List Entry) → HaveNoUpdate es → NeverRemoved name es
never_removed name [] none = tt
never_removed name (e ∷ es) none = (stays_held name e.event none.0, never_removed name es none.1)

never_lifted : (name : Name) (es : List Entry) → HaveNoUpdate es → IsKept (λ k. k) name es
never_lifted name [] none = tt
never_lifted name (e ∷ es) none =
    ((λ lifted. absurd (apart (lifts name e.event) (same_version name e.event none.0) lifted)), never_lifted name es none.1)

only_changes : (name : Name) (es : List Entry) → HaveNoUpdate es → new_keys_of name es ≡ changes_of name es
only_changes name [] none = refl
only_changes name (e ∷ es) none =
    at (brings_key name e.event) (is_change_of name e.event) (only_a_change name e.event none.0)
    (filter (λ (x : Entry). brings_key name x.event) es) (filter (λ (x : Entry). is_change_of name x.event) es) (only_changes name es none.1)
  where
    at : (b c : Bool) → b ≡ c → (xs ys : List Entry) → length xs ≡ length ys → length (if b then e ∷ xs else xs) ≡ length (if c then e ∷ ys else ys)
    at true true h xs ys same = let more : length (e ∷ xs) ≡ length (e ∷ ys) = omega (arith, same) in more
    at true false h xs ys same = cc
    at false true h xs ys same = cc
    at false false h xs ys same = same

-- ---- the laws

pub only_changes_bring_keys : OnlyChangesBringKeys
only_changes_bring_keys name entries none = (never_removed name entries none, only_changes name entries none)

pub compared_until_depth_of_changes : ComparedUntilDepthOfChanges
compared_until_depth_of_changes h none few =
    as_it_was_made h (never_removed h.name h.later none) (never_lifted h.name h.later none)
    (subst (λ (n : ℕ). n < depth_of h) (sym (only_changes h.name h.later none)) few)

pub refused_until_depth_of_changes : RefusedUntilDepthOfChanges
refused_until_depth_of_changes h none few =
    refused_until_depth h (never_removed h.name h.later none) (subst (λ (n : ℕ). n < depth_of h) (sym (only_changes h.name h.later none)) few)

pub compared_no_longer_than_changes : ComparedNoLongerThanChanges
compared_no_longer_than_changes h none many =
    alike_is_same (compared_keys (end_of h) h.name) (take (depth_of h) (keys_made (after_change h) h.later h.name))
    (only_later h (λ k. k) (never_removed h.name h.later none) (never_lifted h.name h.later none)
    (subst (λ (n : ℕ). depth_of h ≤ n) (sym (only_changes h.name h.later none)) many))

pub depth_changes_between : DepthChangesBetween
depth_changes_between h again o none legal accepted asked =
    subst (λ (n : ℕ). depth_of h ≤ n) (only_changes h.name h.later none)
    (depth_others_between h again o (never_removed h.name h.later none) legal accepted asked)

pub only_changes_bring_keys_in_runs : OnlyChangesBringKeysInRuns
only_changes_bring_keys_in_runs name [] none = (tt, refl)
only_changes_bring_keys_in_runs name (r ∷ rs) none =
    let rest = only_changes_bring_keys_in_runs name rs none.1 in (
      (never_removed name r.history none.0, rest.0),
      ap (λ (n : ℕ). n + new_keys_in name rs) (only_changes name r.history none.0) ∙ ap (λ (n : ℕ). changes_of name r.history + n) rest.1,
    )
