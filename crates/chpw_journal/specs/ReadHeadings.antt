-- For proofs alone: what was read of a journal's heading.
use Rattle.std.specs.Prelude.{◌≡◌, ◌⊎◌, ℕ, ◌<◌, List, length, true, false, Option, IfSome}
use Rattle.std.specs.Io.KnownBytes.{Consumes, IsAtEnd}
use Rattle.chpw_rules.specs.Limits.{is_in, realm_lengths}
use Rattle.chpw_journal.specs.declared.heading.Heading.{Heading}
use Rattle.chpw_journal.specs.declared.heading.Heading.TheVariants as heading
use Rattle.chpw_journal.specs.Headings.{begins_as_heading, realm_record, IsPartOfHeading}

-- known bytes begin with what was read, and lose it
abbrev pub IsHeadingRead : Heading → Option (List ℕ) → Option (List ℕ) → Type 0
IsHeadingRead (heading.None head) old new = Consumes old new head.items × IfSome old (λ text. begins_as_heading text ≡ false)
IsHeadingRead (heading.Realm realm) old new = Consumes old new (realm_record realm.items) × (is_in realm_lengths (length realm.items) ≡ true)
IsHeadingRead heading.Torn old new = (text : List ℕ) × Consumes old new text × IsAtEnd new × IsPartOfHeading text
IsHeadingRead heading.CannotRead old new = (text : List ℕ) × Consumes old new text × ((length text < 3) ⊎ IsPartOfHeading text)

-- if a head of three bytes was read before
abbrev pub IsRealmRead : List ℕ → Heading → Option (List ℕ) → Option (List ℕ) → Type 0
IsRealmRead head found old new = (before : Option (List ℕ)) → Consumes before old head → IsHeadingRead found before new
