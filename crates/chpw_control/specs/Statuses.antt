-- The lines of a status: a name and a value each, in this order.
use Rattle.std.specs.Prelude.{ℕ, ◌<◌, List, [], ◌∷◌, ◌++◌, codes, Option, Some, None, option_map}
use Rattle.std.specs.Option.{ForSome, option_map_or}
use Rattle.std.specs.Fmt.{decimal}
use Rattle.krb_codec.specs.Times.{IsWritable}
use Rattle.chpw_printing.specs.Quoting.{words_text}
use Rattle.chpw_printing.specs.Times.{time_text}
use Rattle.chpw_control.specs.declared.status.JournalState.{JournalState}
use Rattle.chpw_control.specs.declared.status.JournalState.TheVariants.{Good, Failed}
use Rattle.chpw_control.specs.declared.status.NameState.{NameState}
use Rattle.chpw_control.specs.declared.status.NameState.TheVariants as name
use Rattle.chpw_control.specs.declared.status.KdcState.{KdcState}
use Rattle.chpw_control.specs.declared.status.KdcState.TheVariants.{Absent, Connected, Down}
use Rattle.chpw_control.specs.declared.status.Status.{Status}
use Rattle.chpw_control.specs.declared.time.Time.{Time}

abbrev pub row : List ℕ → List ℕ → List ℕ
row name value = name ++ codes " " ++ value

-- a time that can be printed
abbrev pub IsTold : Time → Type 0
IsTold t = IsWritable t.seconds × (t.micros < 1000000)

abbrev pub AreTold : Status → Type 0
AreTold s = IsTold s.since × ForSome s.quiet_until IsTold × ForSome s.kdc_since IsTold

abbrev pub text_of : Time → List ℕ
text_of t = time_text t.seconds t.micros

-- what no change is accepted for, behind `failed`
abbrev pub journal_text : JournalState → List ℕ
journal_text Good = codes "good"
journal_text (Failed why) = codes "failed: " ++ words_text why.now

-- whether a name leads to the file that is open
abbrev pub name_word : NameState → List ℕ
name_word name.Absent = codes "-"
name_word name.Kept = codes "good"
name_word name.Gone = codes "gone"
name_word name.Elsewhere = codes "elsewhere"

-- why requests are refused while a quiet time lasts
abbrev pub quiet_words : Option Time → List ℕ
quiet_words None = codes "-"
quiet_words (Some until) = codes "requests are refused after a start; the clients' clocks are not at fault"

abbrev pub kdc_word : KdcState → List ℕ
kdc_word Absent = codes "none"
kdc_word Connected = codes "connected"
kdc_word Down = codes "down"

-- the name that the agent refused last, and why
abbrev pub refused_text : Option (List ℕ) → List ℕ
refused_text None = codes "-"
refused_text (Some words) = words_text words

abbrev pub service_lines : Status → List (List ℕ)
service_lines s =
    row (codes "version") (words_text s.version.now)
    ∷ row (codes "since") (text_of s.since)
    ∷ row (codes "quiet-until") (option_map_or text_of s.quiet_until (codes "-"))
    ∷ row (codes "quiet-reason") (quiet_words s.quiet_until)
    ∷ row (codes "principals") (decimal s.principals)
    ∷ row (codes "iterations") (decimal s.iterations)
    ∷ []

abbrev pub history_lines : Status → List (List ℕ)
history_lines s =
    row (codes "entries") (decimal s.entries)
    ∷ row (codes "changes") (decimal s.changes)
    ∷ row (codes "all-entries") (decimal s.all_entries)
    ∷ row (codes "all-changes") (decimal s.all_changes)
    ∷ []

abbrev pub connection_lines : Status → List (List ℕ)
connection_lines s =
    row (codes "connections") (decimal s.connections)
    ∷ row (codes "reading") (decimal s.reading)
    ∷ row (codes "waiting") (decimal s.waiting)
    ∷ row (codes "answering") (decimal s.answering)
    ∷ row (codes "confirming") (decimal s.confirming)
    ∷ row (codes "writing") (decimal s.writing)
    ∷ row (codes "ending") (decimal s.ending)
    ∷ []

abbrev pub worker_lines : Status → List (List ℕ)
worker_lines s =
    row (codes "workers") (decimal s.workers)
    ∷ row (codes "busy") (decimal s.busy)
    ∷ row (codes "queue") (decimal s.queue)
    ∷ []

abbrev pub keeping_lines : Status → List (List ℕ)
keeping_lines s =
    row (codes "journal-bytes") (decimal s.journal_bytes)
    ∷ row (codes "journal") (journal_text s.journal)
    ∷ row (codes "journal-name") (name_word s.journal_name)
    ∷ row (codes "log-lost") (decimal s.log_lost)
    ∷ row (codes "log-name") (name_word s.log_name)
    ∷ []

abbrev pub kdc_lines : Status → List (List ℕ)
kdc_lines s =
    row (codes "kdc") (kdc_word s.kdc)
    ∷ row (codes "kdc-since") (option_map_or text_of s.kdc_since (codes "-"))
    ∷ row (codes "kdc-behind") (decimal s.kdc_behind)
    ∷ row (codes "kdc-refused") (refused_text (option_map (λ text. text.now) s.kdc_refused))
    ∷ []

abbrev pub status_lines : Status → List (List ℕ)
status_lines s = service_lines s ++ history_lines s ++ connection_lines s ++ worker_lines s ++ keeping_lines s ++ kdc_lines s
