-- A journal restored onto the table of a configuration.
use Rattle.std.proofs.Common.{◌≡◌, ◌∙◌, ap, subst, refl, ℕ, List, [], Option, Bool, true, false}
use Rattle.std.specs.Prelude.{MatchBool}
use Rattle.chpw_rules.specs.declared.config.Config.{Config}
use Rattle.chpw_table.specs.Agreement.{Held, Agrees}
use Rattle.chpw_table.specs.State.{State, Fixed}
use Rattle.chpw_table.specs.declared.times.Moment.{Moment}
use Rattle.chpw_journal.specs.declared.restoring.Restored.{Restored}
use Rattle.chpw_journal.specs.Restoring.{IsRestored}
use Rattle.chpw_journal.specs.Headings.{IsBehind}
use Rattle.chpw_journal.specs.JournalFile.{IsBegun, IsOpened, IsReopened}
use Rattle.chpw_journal.specs.declared.journal_file.Journal.{Journal}
use Rattle.chpw_start.specs.Opening.{IsOpening, opening_at}

abbrev opening : Config → Moment → Bool → State
opening config start found = opening_at config start.seconds found

module _ {C F : Type 0} (gives : C → Moment → C → Type 0) (config : Config) (given : Option (List ℕ)) (before after : C)
    (start : Moment) (t : Held) (clock : gives before start after)
    (counts : (t.events ≡ 0) × (t.seen ≡ 0) × (t.max_entries ≡ config.max_entries)) where
  -- of a file that was there
  again : (j : Journal F) → j.found ≡ true → Agrees t.state (opening config start true) → IsReopened t given j
      → IsOpening gives config given before after j
  again j found agrees opened =
      let read : IsRestored t opened.read.behind opened.read.left opened.read.records = opened.read.read in
      let reading = read.reading (opening config start true) agrees in
      let table : j.table ≡ opened.read.records.table = opened.table ∙ ap (λ (r : Restored). r.table) opened.read.whole in
      let headed = subst (λ (f : Fixed). IsBehind f.realm opened.read.is_named given opened.read.behind) agrees.fixed opened.read.headed in
      record {
        start = start;
        clock = clock;
        records = read.whole_records;
        next = rw found reading.0.next;
        found = λ is. record {
          is_named = opened.read.is_named;
          behind = opened.read.behind;
          headed = headed;
          torn = read.rest;
          all = (opened.read.left, read.read, read.end);
          read = reading;
        };
        table = rw (found, table) (read.table (opening config start true) agrees);
        made = λ new. absurd (cc);
        counts = (rw table (read.events ∙ counts.0), rw table (read.seen ∙ counts.1), rw table (read.max_entries ∙ counts.2));
      }

  -- of a new one
  begun : (j : Journal F) → j.found ≡ false → Agrees t.state (opening config start false) → IsBegun t j → IsOpening gives config given before after j
  begun j new agrees begins =
      let here : Agrees j.table.state (opening config start j.found) = rw (new, begins.0) agrees in
      record {
        start = start;
        clock = clock;
        records = [];
        next = tt;
        found = λ found. absurd (cc);
        table = here;
        made = λ is. here;
        counts = (rw begins.0 counts.0, rw begins.0 counts.1, rw begins.0 counts.2);
      }

  at : (b : Bool) (j : Journal F) → j.found ≡ b → Agrees t.state (opening config start b) → MatchBool b (IsReopened t given j) (IsBegun t j)
      → IsOpening gives config given before after j
  at true j found agrees opened = again j found agrees opened
  at false j new agrees opened = begun j new agrees opened

pub opens : {C F : Type 0} (gives : C → Moment → C → Type 0) (config : Config) (given : Option (List ℕ)) (before after : C)
    (start : Moment) (found : Bool) (t : Held) (j : Journal F)
    → gives before start after → Agrees t.state (opening_at config start.seconds found)
    → (t.events ≡ 0) × (t.seen ≡ 0) × (t.max_entries ≡ config.max_entries)
    → j.found ≡ found → IsOpened t given j → IsOpening gives config given before after j
opens gives config given before after start found t j clock agrees counts is opened =
    at gives config given before after start t clock counts j.found j refl (rw is agrees) opened
