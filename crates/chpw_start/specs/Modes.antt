-- Which files a service accepts, and which it reports.
use Rattle.std.specs.Prelude.{ℕ, Bool, true, false, not, ◌==◌, ◌&&◌, ◌||◌, bit_and, if◌then◌else◌, List, codes, Option, Some, None}
use Rattle.std.specs.Borrow.{Bor}
use Rattle.chpw_invocation.specs.declared.invocation.ServeOptions.{ServeOptions}
use Rattle.chpw_start.specs.declared.line_output.Kind.{Kind}
use Rattle.chpw_start.specs.declared.line_output.Kind.TheVariants as kind
use Rattle.chpw_start.specs.declared.ownership.Exposure.{Exposure}
use Rattle.chpw_start.specs.declared.ownership.Exposure.TheVariants.{Shared, Foreign, Replaceable}
use Rattle.chpw_start.specs.declared.ownership.Ids.{Ids}
use Rattle.chpw_start.specs.declared.ownership.Place.{Place}
use Rattle.chpw_start.specs.declared.ownership.Standing.{Standing}
use Rattle.chpw_start.specs.declared.shared_files.Exposed.{Exposed}
use Rattle.chpw_start.specs.declared.shared_files.Exposures.{Exposures}

abbrev pub is_file : Kind → Bool
is_file kind.Missing = false
is_file kind.File = true
is_file kind.Device = false
is_file kind.Other = false

-- ---- who may do what: bits 022 of a mode let group and others write, 004 lets others read, 040 the group

abbrev pub lets_write : Standing → Bool
lets_write f = not (bit_and f.mode 18 == 0)

-- others may write it; or read it, who aren't in the service's own group
abbrev pub lets_others : Ids → Standing → Bool
lets_others own f = lets_write f || not (bit_and f.mode 4 == 0) || (not (bit_and f.mode 32 == 0) && not (f.owner.group == own.group))

abbrev pub is_exempt : Option Standing → Bool
is_exempt None = false
is_exempt (Some f) = not (is_file f.kind)

abbrev pub is_shared : Ids → Option Standing → Bool
is_shared own None = false
is_shared own (Some f) = is_file f.kind && lets_others own f

-- another user than root and the service's own owns it
abbrev pub is_foreign : Ids → Option Standing → Bool
is_foreign own None = false
is_foreign own (Some f) = not (f.owner.user == 0) && not (f.owner.user == own.user)

-- a folder in which other users may make and replace files
abbrev pub is_open : Ids → Option Standing → Bool
is_open own None = false
is_open own (Some f) = is_foreign own (Some f) || lets_write f

-- what others can do to a regular file, or to one that doesn't exist yet: read or write it, change its mode, replace it
-- or what leads to it
abbrev pub exposure_of : Ids → Place → Option Exposure
exposure_of own p =
    if is_exempt p.file then None
    else if is_shared own p.file then Some Shared
    else if is_foreign own p.file then Some Foreign
    else if is_open own p.folder || is_open own p.target_folder then Some Replaceable
    else None

abbrev pub words_of : Exposure → List ℕ
words_of Shared = codes "other users may read or write it"
words_of Foreign = codes "another user owns it"
words_of Replaceable = codes "other users may replace it"

-- ---- the first file of a start that is refused: the configuration, the seed, the log, the journal

abbrev pub exposed_at : Bor (List ℕ) → Option Exposure → Option Exposed
exposed_at file None = None
exposed_at file (Some why) = Some (record { file = file; why = why })

abbrev pub exposed_log : Option (Bor (List ℕ)) → Option Exposure → Option Exposed
exposed_log None why = None
exposed_log (Some log) why = exposed_at log why

abbrev pub first_of : Option Exposed → Option Exposed → Option Exposed
first_of (Some exposed) other = Some exposed
first_of None other = other

abbrev pub first_exposed : ServeOptions → Exposures → Option Exposed
first_exposed o e = first_of (exposed_at o.config e.config)
    (first_of (exposed_at o.seed e.seed) (first_of (exposed_log o.log e.log) (exposed_at o.journal e.journal)))

-- ---- a journal is a regular file, or a new one

abbrev pub can_be_journal : Kind → Bool
can_be_journal kind.Missing = true
can_be_journal kind.File = true
can_be_journal kind.Device = false
can_be_journal kind.Other = false
