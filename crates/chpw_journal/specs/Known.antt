-- Records of principals that two states have the same keys of, and what a start finds that begins with a state.
use Rattle.std.specs.Prelude.{◌≡◌, ◌≤◌, List, [], ◌∷◌, IsSome}
use Rattle.chpw_rules.specs.declared.name.Name.{Name}
use Rattle.chpw_table.specs.State.{State, keys_held, kept_count, new_count}
use Rattle.chpw_record.specs.declared.record.Record.{Record}
use Rattle.chpw_record.specs.declared.record.Record.TheVariants as record_of
use Rattle.chpw_journal.specs.JournalText.{restored, AreNext}

-- a record is of no principal that the second state holds and the first doesn't
abbrev pub IsKnown : State → State → Record → Type 0
IsKnown s t (record_of.Key kind c) = IsSome (keys_held t c.name) → IsSome (keys_held s c.name)
IsKnown s t (record_of.Raise count) = Unit {0}

abbrev pub AreKnown : State → State → List Record → Type 0
AreKnown s t [] = Unit {0}
AreKnown s t (r ∷ rs) = IsKnown s t r × AreKnown s t rs

-- What a start finds that begins with this opening, if the records are all that a journal has: they can be replayed, and of
-- each name that the opening has, and of each other one that they give, the keys are those that were held last. If the
-- count of new keys was a former file's, the start may find a lower one.
pub record IsFoundAgain (start : State) (records : List Record) (last : State) : Type 0 where
  pub next : AreNext start records
  pub kept : kept_count (restored start records) ≡ kept_count last
  pub keys : (name : Name) → IsSome (keys_held start name) → keys_held (restored start records) name ≡ keys_held last name
  pub others : (name : Name) → IsSome (keys_held (restored start records) name) → keys_held (restored start records) name ≡ keys_held last name
  pub count : new_count (restored start records) ≤ new_count last
