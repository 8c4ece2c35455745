-- Whether the name of a file that is open still leads to it.
use Rattle.std.specs.Prelude.{◌==◌, ◌&&◌, Option, Some, None, if◌then◌else◌}
use Rattle.chpw_control.specs.declared.status.NameState.{NameState}
use Rattle.chpw_control.specs.declared.status.NameState.TheVariants.{Kept, Gone, Elsewhere}
use Rattle.chpw_journal.specs.declared.file_number.FileNumber.{FileNumber}

-- a file is another one if its device or its number there is
abbrev pub name_state : FileNumber → Option FileNumber → NameState
name_state open_file None = Gone
name_state open_file (Some there) =
    if (there.device == open_file.device) && (there.number == open_file.number) then Kept else Elsewhere
