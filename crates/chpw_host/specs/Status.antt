-- What `status` tells of a service.
use Rattle.std.specs.Prelude.{◌≡◌, ℕ, ◌-◌, ◌^◌, min, List, [], ◌∷◌, ◌++◌, length, Bool, Option, Some, None, option_map, if◌then◌else◌}
use Rattle.std.specs.Prelude.{codes}
use Rattle.std.specs.Option.{option_map_or}
use Rattle.chpw_control.specs.Answers.{lines_text, ok_line}
use Rattle.chpw_control.specs.Statuses.{status_lines}
use Rattle.chpw_control.specs.declared.status.Status.{Status}
use Rattle.chpw_control.specs.declared.status.JournalState.{JournalState}
use Rattle.chpw_control.specs.declared.status.JournalState.TheVariants.{Good, Failed}
use Rattle.chpw_control.specs.declared.status.KdcState.{KdcState}
use Rattle.chpw_control.specs.declared.status.KdcState.TheVariants.{Absent, Connected, Down}
use Rattle.chpw_control.specs.declared.time.Time.{Time}
use Rattle.chpw_transfers.specs.Controlling.{sum_of}
use Rattle.chpw_transfers.specs.declared.connection_counts.ConnectionCounts.{ConnectionCounts}
use Rattle.chpw_kdc.specs.Dialogs.{State as Dialog}
use Rattle.chpw_kdc.specs.declared.update.RefusedName.{RefusedName}
use Rattle.chpw_kdc.specs.Spelling.{reason_word}
use Rattle.chpw_printing.specs.Quoting.{name_text}
use Rattle.chpw_journal.specs.Causes.{cause_text}
use Rattle.chpw_logging.specs.Counters.{quiet_time}
use Rattle.chpw_logging.specs.declared.counters.Counters.{Counters}
use Rattle.chpw_host.specs.declared.readings.KdcReadings.{KdcReadings}
use Rattle.chpw_host.specs.declared.readings.Readings.{Readings}

-- why a journal failed, if it did
abbrev pub reason_in : JournalState → Option (List ℕ)
reason_in Good = None
reason_in (Failed why) = Some why.now

abbrev pub kdc_state : Option KdcReadings → KdcState
kdc_state None = Absent
kdc_state (Some k) = if k.is_connected then Connected else Down

-- what is read of a dialog, if there is one, since whose last connection or loss it is this moment
abbrev pub IsReadOf : Option Dialog → Time → Option KdcReadings → Type 0
IsReadOf None changed None = Unit {0}
IsReadOf None changed (Some r) = ⊥
IsReadOf (Some d) changed None = ⊥
IsReadOf (Some d) changed (Some r) =
    (r.is_connected ≡ d.pace.connected) × (r.since ≡ changed) × (r.behind ≡ length d.puts) × (r.held ≡ length d.mirror)

-- a refusal, as `status` and the notices have it
abbrev pub refusal_words : RefusedName → List ℕ
refusal_words r = name_text r.name ++ codes " " ++ reason_word r.reason

-- the status of a service of this version, by what was read of it, its counters and its connections: busy are the
-- workers that answer a message, queued the messages that wait for one. With a KDC, which may bring some, the principals are
-- those that the table has, else those that its history opened with.
pub record IsStatusOf (version : List ℕ) (r : Readings) (f : Counters) (c : ConnectionCounts) (s : Status) : Type 0 where
  pub version_is : s.version.now ≡ version
  pub since : s.since ≡ r.since
  pub quiet_until : s.quiet_until ≡ quiet_time f.quiet_until r.moment.seconds
  pub principals : s.principals ≡ option_map_or (λ k. k.held) r.kdc f.principals
  pub iterations : s.iterations ≡ f.iterations
  pub entries : s.entries ≡ f.entries
  pub changes : s.changes ≡ f.changes
  pub all_entries : s.all_entries ≡ f.all_entries
  pub all_changes : s.all_changes ≡ f.all_changes
  pub connections : s.connections ≡ min (sum_of c) (2 ^ 64 - 1)
  pub reading : s.reading ≡ c.reading
  pub waiting : s.waiting ≡ c.waiting
  pub answering : s.answering ≡ c.answering
  pub confirming : s.confirming ≡ c.confirming
  pub writing : s.writing ≡ c.writing
  pub ending : s.ending ≡ c.ending
  pub workers : s.workers ≡ r.workers
  pub busy : s.busy ≡ c.answering
  pub queue : s.queue ≡ c.waiting
  pub journal_bytes : s.journal_bytes ≡ r.files.journal_bytes
  pub journal : reason_in s.journal ≡ option_map cause_text r.files.failure
  pub journal_name : s.journal_name ≡ r.files.journal_name
  pub log_lost : s.log_lost ≡ r.files.log_lost
  pub log_name : s.log_name ≡ r.files.log_name
  pub kdc : s.kdc ≡ kdc_state r.kdc
  pub kdc_since : s.kdc_since ≡ option_map (λ k. k.since) r.kdc
  pub kdc_behind : s.kdc_behind ≡ option_map_or (λ k. k.behind) r.kdc 0

-- the whole answer of a service that started then, with this many workers: its status at some moment, with what is said to the
-- agent, to which it has had a connection, or none, since then
pub record IsStatusAnswer (version : List ℕ) (since : Time) (workers : ℕ) (c : ConnectionCounts) (dialog : Option Dialog) (changed : Time)
    (text : List ℕ) : Type 0 where
  pub readings : Readings
  pub counters : Counters
  pub status : Status
  pub is_status : IsStatusOf version readings counters c status
  pub since_is : readings.since ≡ since
  pub workers_is : readings.workers ≡ workers
  pub kdc : IsReadOf dialog changed readings.kdc
  pub text_is : text ≡ lines_text (status_lines status ++ ok_line ∷ [])
