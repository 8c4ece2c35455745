-- What an answer tells of a service.
use Rattle.std.proofs.Common.{◌≡◌, ◌⊎◌, inl, inr, ℕ, List, [], ◌∷◌, ◌++◌, Option}
use Rattle.chpw_control.specs.Answers.{lines_text, ok_line}
use Rattle.chpw_control.specs.Statuses.{status_lines}
use Rattle.chpw_control.specs.declared.status.Status.{Status}
use Rattle.chpw_control.specs.declared.time.Time.{Time}
use Rattle.chpw_kdc.specs.Dialogs.{State as Dialog}
use Rattle.chpw_logging.specs.declared.counters.Counters.{Counters}
use Rattle.chpw_host.specs.Status.{IsReadOf, IsStatusAnswer, IsStatusOf}
use Rattle.chpw_host.specs.declared.readings.Readings.{Readings}
use Rattle.chpw_transfers.specs.declared.connection_counts.ConnectionCounts.{ConnectionCounts}

-- the answer tells what was read of this service
pub status_answer : (version : List ℕ) (since : Time) (workers : ℕ) (c : ConnectionCounts) (dialog : Option Dialog) (changed : Time)
    (r : Readings) (f : Counters) (text : List ℕ) → r.since ≡ since → r.workers ≡ workers → IsReadOf dialog changed r.kdc
    → (text ≡ []) ⊎ ((s : Status) × IsStatusOf version r f c s × (text ≡ lines_text (status_lines s ++ ok_line ∷ [])))
    → (text ≡ []) ⊎ IsStatusAnswer version since workers c dialog changed text
status_answer version since workers c dialog changed r f text begun counted read (inl none) = inl none
status_answer version since workers c dialog changed r f text begun counted read (inr h) = inr (record {
  readings = r;
  counters = f;
  status = h.0;
  is_status = h.1;
  since_is = begun;
  workers_is = counted;
  kdc = read;
  text_is = h.2;
})
