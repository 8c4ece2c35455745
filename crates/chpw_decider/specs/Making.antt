-- The version of the key that the newest event made or brought.
use Rattle.std.specs.Prelude.{◌≡◌, ℕ, ◌-◌, List, length, slice_get, Option, Some, None, option_map}
use Rattle.std.specs.Option.{option_flatten}
use Rattle.chpw_rules.specs.declared.name.Name.{Name}
use Rattle.chpw_table.specs.declared.history.Event.{Event}
use Rattle.chpw_table.specs.declared.history.Event.TheVariants.{Ask, Raise, Update}
use Rattle.chpw_table.specs.declared.history.Receipt.{Receipt}
use Rattle.chpw_table.specs.declared.request.Opened.{Opened}
use Rattle.chpw_table.specs.declared.table.Lookup.{Lookup}
use Rattle.chpw_table.specs.declared.updating.KdcUpdate.{KdcUpdate}
use Rattle.chpw_table.specs.declared.updating.UpdateVerdict.{UpdateVerdict}
use Rattle.chpw_table.specs.declared.updating.UpdateVerdict.TheVariants.{Taken}
use Rattle.chpw_table.specs.declared.verdict.Verdict.{Verdict}
use Rattle.chpw_table.specs.declared.verdict.Verdict.TheVariants.{Done}
use Rattle.chpw_table.specs.Agreement.{Held}
use Rattle.chpw_table.specs.Lookups.{lookup_of}
use Rattle.chpw_table.specs.Requests.{target_of}
use Rattle.chpw_table.specs.Updates.{name_in}
use Rattle.chpw_decider.specs.Keeping.{Kept}

abbrev pub name_done : Opened → Verdict → Option Name
name_done o Done = Some (target_of o).name
name_done o v = None

abbrev pub name_taken : KdcUpdate → UpdateVerdict → Option Name
name_taken u Taken = Some (name_in u)
name_taken u v = None

-- the principal whose keys an event changed
abbrev pub name_changed : Event → Option Name
name_changed (Ask o v) = name_done o v
name_changed (Raise count v) = None
name_changed (Update u v) = name_taken u v

-- the newest version that the table shows of the name whose keys this receipt's event changed; none if it was removed
abbrev pub kvno_made : Held → Receipt → Option ℕ
kvno_made t r =
    option_flatten (option_map (λ name. option_map (λ (l : Lookup). l.kvno) (lookup_of t name)) (name_changed r.entry.event))

-- that of the newest receipt
abbrev pub newest_made : Held → List Receipt → Option ℕ
newest_made t receipts = option_flatten (option_map (kvno_made t) (slice_get receipts (length receipts - 1)))

-- a table that one thread owns answers this
abbrev pub Makes : Kept → Option ℕ → Type 0
Makes k kvno = kvno ≡ newest_made k.table k.receipts
