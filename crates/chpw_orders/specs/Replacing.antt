-- What replaces a journal.
use Rattle.std.specs.Prelude.{◌≡◌, ◌⊎◌, ◌≤◌, ◌++◌, ℕ, List, Bool, true, false, length}
use Rattle.chpw_table.specs.State.{State}
use Rattle.chpw_journal.specs.Compact.{compacted}
use Rattle.chpw_reload.specs.Compacting.{GoesWith}
use Rattle.chpw_record.specs.Records.{records_text}
use Rattle.chpw_orders.specs.declared.replacing.NotReplaced.{NotReplaced}
use Rattle.chpw_orders.specs.declared.replacing.NotReplaced.TheVariants.{Failed, Changed, NoGain, Memory}

-- the text of a compact journal of what is held, over a base
abbrev pub compact_text : State → State → List ℕ
compact_text base held = records_text (compacted base held)

-- what replaces a journal with this heading
abbrev pub text_behind : List ℕ → State → State → List ℕ
text_behind heading base held = heading ++ compact_text base held

-- why there is no text instead of a journal of this many bytes: an append has failed; or else the base doesn't go with
-- what is held, the text has no fewer bytes, or memory was refused
abbrev pub IsNoText : Bool → ℕ → List ℕ → State → State → NotReplaced → Type 0
IsNoText true present heading base held why = why ≡ Failed
IsNoText false present heading base held why = ((why ≡ Changed) × (GoesWith base held → ⊥))
    ⊎ (((why ≡ NoGain) × (present ≤ length (text_behind heading base held))) ⊎ (why ≡ Memory))
