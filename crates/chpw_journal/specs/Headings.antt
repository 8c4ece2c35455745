-- A whole journal: the record of its realm, or none, and then the records of its history. What a table is that is restored
-- from one, and why it may not be.
use Rattle.std.specs.Prelude.{◌≡◌, ◌≢◌, ◌⊎◌, ℕ, ◌+◌, ◌<◌, List, [], ◌∷◌, length, drop, Bool, true, false, ◌&&◌, ◌==◌, Option, IfSome}
use Rattle.std.specs.Io.KnownBytes.{Consumes, IsAtEnd}
use Rattle.chpw_rules.specs.declared.limits.Limits.{Limits}
use Rattle.chpw_rules.specs.Limits.{range, is_in, realm_lengths}
use Rattle.chpw_table.specs.Agreement.{Held}
use Rattle.chpw_record.specs.Records.{framed, stated_length}
use Rattle.chpw_journal.specs.declared.fault.RestoreFault.{RestoreFault}
use Rattle.chpw_journal.specs.declared.fault.RestoreFault.TheVariants.{BadRecord, OtherRealm, CannotRead, Memory}
use Rattle.chpw_journal.specs.declared.restoring.Restored.{Restored}
use Rattle.chpw_journal.specs.Restoring.{IsRestored, IsRefused}

-- the record of a realm: its length, the kind 7, and the realm's bytes
abbrev pub realm_record : List ℕ → List ℕ
realm_record realm = framed (7 ∷ realm)

-- what a realm's journal begins with, if it names its realm or doesn't
abbrev pub heading : Bool → List ℕ → List ℕ
heading true realm = realm_record realm
heading false realm = []

-- the kind, and 1 to 255 bytes of a realm
abbrev pub heading_lengths : Limits
heading_lengths = range 2 256

abbrev pub is_of_kind_7 : List ℕ → Bool
is_of_kind_7 [] = false
is_of_kind_7 (kind ∷ rest) = kind == 7

-- a text begins as the record of a realm does: with a length that one may have, and its kind
abbrev pub begins_as_heading : List ℕ → Bool
begins_as_heading text = is_of_kind_7 (drop 2 text) && is_in heading_lengths (stated_length text)

-- What follows the heading of a realm's journal: if it names its realm, what follows that record; else all of it, which
-- then begins as no such record does.
abbrev pub IsBehind : List ℕ → Bool → Option (List ℕ) → Option (List ℕ) → Type 0
IsBehind realm true old behind = Consumes old behind (realm_record realm)
IsBehind realm false old behind = (behind ≡ old) × IfSome old (λ text. begins_as_heading text ≡ false)

-- restored from what follows the heading; what was kept has the heading too
pub record IsWholeRestored (before : Held) (old : Option (List ℕ)) (r : Restored) : Type 0 where
  pub is_named : Bool
  pub behind : Option (List ℕ)
  pub left : Option (List ℕ)
  pub headed : IsBehind before.state.fixed.realm is_named old behind
  pub records : Restored
  pub read : IsRestored before behind left records
  pub whole : r ≡ record records { kept = length (heading is_named before.state.fixed.realm) + records.kept }

-- the first fault of what follows the heading
abbrev pub IsRefusedBehind : Held → Option (List ℕ) → RestoreFault → Type 0
IsRefusedBehind before old fault = (is_named : Bool) × (behind : Option (List ℕ)) × (left : Option (List ℕ))
    × IsBehind before.state.fixed.realm is_named old behind × IsRefused before behind left fault

-- it begins with the record of a realm, of which a part is missing
abbrev pub IsPartOfHeading : List ℕ → Type 0
IsPartOfHeading text = (begins_as_heading text ≡ true) × (length text < 2 + stated_length text)

-- the fault of a heading: it is another realm's; it ends too soon; or it can't be read on, of which three bytes tell whether
-- it is one
abbrev pub IsBadHeading : Held → Option (List ℕ) → RestoreFault → Type 0
IsBadHeading before old OtherRealm = (realm : List ℕ) × (left : Option (List ℕ)) × (is_in realm_lengths (length realm) ≡ true)
    × Consumes old left (realm_record realm) × (realm ≢ before.state.fixed.realm)
IsBadHeading before old (BadRecord n) = (text : List ℕ) × (left : Option (List ℕ)) × Consumes old left text × IsAtEnd left
    × IsPartOfHeading text × (n ≡ 1)
IsBadHeading before old CannotRead = (text : List ℕ) × (left : Option (List ℕ)) × Consumes old left text
    × ((length text < 3) ⊎ IsPartOfHeading text)
IsBadHeading before old Memory = Unit {0}
IsBadHeading before old fault = ⊥

-- the first fault of a whole journal: its heading's, or one of what follows it
abbrev pub IsWholeRefused : Held → Option (List ℕ) → RestoreFault → Type 0
IsWholeRefused before old fault = IsBadHeading before old fault ⊎ IsRefusedBehind before old fault
