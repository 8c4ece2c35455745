-- An old password whose key was adopted from the KDC: as long as one that was changed to here, it is refused.
use Rattle.std.specs.Prelude.{◌≡◌, ℕ, ◌<◌, List, ◌∷◌, ◌++◌}
use Rattle.chpw_rules.specs.declared.name.Name.{Name}
use Rattle.chpw_record.specs.declared.key.KeyRow.{KeyRow}
use Rattle.chpw_table.specs.declared.history.Event.TheVariants.{Update}
use Rattle.chpw_table.specs.declared.history.Entry.{Entry}
use Rattle.chpw_table.specs.declared.updating.KdcUpdate.TheVariants.{Adopt}
use Rattle.chpw_table.specs.declared.updating.UpdateVerdict.TheVariants.{Taken}
use Rattle.chpw_table.specs.State.{State}
use Rattle.chpw_table.specs.History.{IsLegal, outcome}
use Rattle.chpw_table.specs.Laws.{NeverRemoved}
use Rattle.chpw_laws.specs.OldPasswords.{Refuses, IsKeyOf, ComparesWith, new_keys_of}

-- a legal history in which a key of a name was adopted, some entries before that and some later
pub record Adopted : Type 0 where
  pub opening : State
  pub before : List Entry
  pub adoption : Entry
  pub later : List Entry
  pub name : Name
  pub key : KeyRow
  pub legal : IsLegal opening (before ++ adoption ∷ later)
  pub taken : adoption.event ≡ Update (Adopt name key) Taken

-- the state after all later entries
abbrev pub end_with : Adopted → State
end_with h = outcome h.opening (h.before ++ h.adoption ∷ h.later)

-- until `depth` further keys of the name came in front, a new password is compared with the adopted key, unless the name was
-- removed
abbrev pub AdoptedIsCompared : Type 0
AdoptedIsCompared = (h : Adopted) → NeverRemoved h.name h.later →
    new_keys_of h.name h.later < h.opening.fixed.policy.depth → ComparesWith (end_with h) h.name h.key

-- so until then a password is refused whose key it is
abbrev pub AdoptedIsRefused : Type 0
AdoptedIsRefused = (h : Adopted) (password : List ℕ) → IsKeyOf h.opening h.name password h.key → NeverRemoved h.name h.later →
    new_keys_of h.name h.later < h.opening.fixed.policy.depth → Refuses (end_with h) h.name password
