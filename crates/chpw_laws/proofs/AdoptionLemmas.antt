-- A history in which a key was adopted.
use Rattle.std.proofs.Common.{◌≡◌, ℕ, ◌<◌, List, [], ◌∷◌, ◌++◌, Bool, true, false, ◌&&◌, if◌then◌else◌, Option, Some, unwrap_or}
use Rattle.std.proofs.Common.{refl, sym, ◌∙◌, ap, subst, take}
use Rattle.krb_keys.specs.declared.etype.Etype.TheVariants as etype
use Rattle.krb_keys.specs.Keys.{s2k, bytes_of}
use Rattle.chpw_rules.specs.declared.name.Name.{Name}
use Rattle.chpw_rules.specs.Names.{is_same_name}
use Rattle.chpw_record.specs.declared.key.KeyRow.{KeyRow}
use Rattle.chpw_table.specs.declared.times.Moment.{Moment}
use Rattle.chpw_table.specs.declared.updating.KdcUpdate.TheVariants.{Adopt}
use Rattle.chpw_table.specs.declared.updating.UpdateVerdict.{UpdateVerdict}
use Rattle.chpw_table.specs.declared.updating.UpdateVerdict.TheVariants.{Taken}
use Rattle.chpw_table.specs.declared.history.Event.{Event}
use Rattle.chpw_table.specs.Completing.{salt_of}
use Rattle.chpw_table.specs.State.{State, Fixed, keys_held, kept_count}
use Rattle.chpw_table.specs.Updates.{IsUpdate, after_update, step_update}
use Rattle.chpw_table.specs.History.{IsJudged, IsLegal, step_event, step_entry, outcome}
use Rattle.chpw_table.specs.Laws.{keys_or_none, NeverRemoved}
use Rattle.chpw_table.proofs.UpdateLemmas.{keys_updated}
use Rattle.chpw_table.proofs.NameLemmas.{is_same_name-itself}
use Rattle.chpw_laws.specs.OldPasswords.{IsKeyOf, ComparesWith, new_keys_of}
use Rattle.chpw_laws.specs.Adoptions.{Adopted, end_with, AdoptedIsCompared, AdoptedIsRefused}
use Rattle.chpw_laws.proofs.KeptLemmas.{outcome_of_both, legal_parts, fixed_throughout}
use Rattle.chpw_laws.proofs.FrontLemmas.{still_compared, StandsBehind, stands_behind}
use Rattle.chpw_laws.proofs.ReuseLemmas.{refused_while_compared}

-- the adopted key is in front of what was held
adopted_keys : (s : State) (now : Moment) (name : Name) (key : KeyRow) (io : Bool) → IsUpdate s (Adopt name key) io Taken
    → keys_or_none (step_update s now (Adopt name key) io) name ≡ take (kept_count s) (key ∷ keys_or_none s name)
adopted_keys s now name key io judged =
    subst (λ (v : UpdateVerdict). keys_or_none (after_update v s now (Adopt name key) io) name ≡ take (kept_count s) (key ∷ keys_or_none s name))
    judged.verdict_is
    (ap (λ (x : Option (List KeyRow)). unwrap_or x []) (keys_updated Taken s now (Adopt name key) io name) ∙ at (is_same_name name name)
    (is_same_name-itself name))
  where
    at : (b : Bool) → b ≡ true
        → unwrap_or (if true && b then Some (take (kept_count s) (key ∷ keys_or_none s name)) else keys_held s name) [] ≡ take (kept_count
        s) (key ∷ keys_or_none s name)
    at true h = refl
    at false h = cc

module _ (h : Adopted) where
  made : State
  made = step_entry (outcome h.opening h.before) h.adoption

  parts : IsJudged (outcome h.opening h.before) h.adoption.now h.adoption.io_failed h.adoption.event × IsLegal made h.later
  unfolding made
  parts = (legal_parts h.opening h.before (h.adoption ∷ h.later) h.legal).1

  is_made : made ≡ step_update (outcome h.opening h.before) h.adoption.now (Adopt h.name h.key) h.adoption.io_failed
  unfolding made
  is_made = ap (step_event (outcome h.opening h.before) h.adoption.now h.adoption.io_failed) h.taken

  judged : IsUpdate (outcome h.opening h.before) (Adopt h.name h.key) h.adoption.io_failed Taken
  judged = subst (λ (event : Event). IsJudged (outcome h.opening h.before) h.adoption.now h.adoption.io_failed event) h.taken parts.0

  at_end : end_with h ≡ outcome made h.later
  unfolding made
  at_end = outcome_of_both h.opening h.before (h.adoption ∷ h.later)

  same_fixed : made.fixed ≡ h.opening.fixed
  same_fixed = ap (λ (s : State). s.fixed) is_made ∙ fixed_throughout h.opening h.before

  old : List KeyRow
  old = keys_or_none (outcome h.opening h.before) h.name

  held : keys_or_none made h.name ≡ take (kept_count made) (h.key ∷ old)
  unfolding old
  held = subst (λ (s : State). keys_or_none s h.name ≡ take (kept_count s) (h.key ∷ keys_or_none (outcome h.opening h.before) h.name)) (sym is_made)
      (adopted_keys (outcome h.opening h.before) h.adoption.now h.name h.key h.adoption.io_failed judged)

  still : NeverRemoved h.name h.later → new_keys_of h.name h.later < h.opening.fixed.policy.depth → ComparesWith (end_with h) h.name h.key
  still stays low = subst (λ (s : State). ComparesWith s h.name h.key) (sym at_end)
      (still_compared h.name made h.key old held h.later parts.1 stays
      (subst (λ (d : Fixed). new_keys_of h.name h.later < d.policy.depth) (sym same_fixed) low))

  -- in the end there are the keys that came later, and after them the adopted one
  pub adopted_at_end : NeverRemoved h.name h.later → StandsBehind h.name h.key (new_keys_of h.name h.later) (end_with h)
  adopted_at_end stays = subst (λ (s : State). StandsBehind h.name h.key (new_keys_of h.name h.later) s) (sym at_end)
      (stands_behind h.name made h.key old held h.later parts.1 stays)

-- a password's key in one state is its key in each of the same realm
pub same_key : (s t : State) (name : Name) (password : List ℕ) (key : KeyRow) → s.fixed.realm ≡ t.fixed.realm → IsKeyOf s name password key
    → IsKeyOf t name password key
same_key s t name password key same is_key =
    subst (λ (r : List ℕ). key.aes256 ≡ bytes_of (s2k etype.Aes256 password (salt_of (record { realm = r; name = name })) key.count)) same is_key

-- ---- the laws

pub adopted_is_compared : AdoptedIsCompared
adopted_is_compared h stays few = still h stays few

pub adopted_is_refused : AdoptedIsRefused
adopted_is_refused h password is_key stays few =
    refused_while_compared (end_with h) h.name password h.key (still h stays few)
    (same_key h.opening (end_with h) h.name password h.key
    (sym (ap (λ (f : Fixed). f.realm) (fixed_throughout h.opening (h.before ++ h.adoption ∷ h.later)))) is_key)
