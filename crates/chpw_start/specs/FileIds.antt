-- Where files are, and which of them are one.
use Rattle.std.specs.Prelude.{◌==◌, ◌&&◌, ◌||◌, ℕ, List, Bool, true, false, bytes_eq, if◌then◌else◌, Option, Some, None}
use Rattle.std.specs.Borrow.{Bor}
use Rattle.chpw_start.specs.declared.file_ids.FileId.{FileId}
use Rattle.chpw_start.specs.declared.file_ids.FileIds.{FileIds}
use Rattle.chpw_start.specs.declared.file_ids.Clash.{Clash}
use Rattle.chpw_start.specs.declared.file_ids.Clash.TheVariants.{Log, Journal}

-- both exist, or neither does and they have one name
abbrev pub are_one_name : Option (Bor (List ℕ)) → Option (Bor (List ℕ)) → Bool
are_one_name None None = true
are_one_name None (Some other) = false
are_one_name (Some one) None = false
are_one_name (Some one) (Some other) = bytes_eq one.now other.now

abbrev pub are_one : Option FileId → Option FileId → Bool
are_one None other = false
are_one (Some one) None = false
are_one (Some one) (Some other) =
    (one.device == other.device) && ((one.number == other.number) && are_one_name one.name other.name)

-- what is written to is another file: the log's clash before the journal's
abbrev pub clash_of : FileIds → Option Clash
clash_of p =
    if are_one p.log p.config || (are_one p.log p.seed || are_one p.log p.journal) then Some Log
    else if are_one p.journal p.config || are_one p.journal p.seed then Some Journal
    else None
