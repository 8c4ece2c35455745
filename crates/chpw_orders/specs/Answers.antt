-- Answers to orders at the control socket: their lines.
use Rattle.std.specs.Prelude.{◌≡◌, ◌⊎◌, ℕ, List, [], ◌∷◌, ◌++◌, map, codes, string_bytes, Option, Some, None, Result, Ok, Err}
use Rattle.chpw_control.specs.Answers.{lines_text, ok_line, error_line}
use Rattle.chpw_printing.specs.Quoting.{name_text}
use Rattle.chpw_reload.specs.Reasons.{fault_text}
use Rattle.chpw_rules.specs.declared.name.Name.{Name}
use Rattle.chpw_start.specs.Faults.{line_of}
use Rattle.chpw_warnings.specs.declared.warning.Warning.{Warning}
use Rattle.chpw_warnings.specs.Lines.{warning_text}
use Rattle.chpw_start.specs.Modes.{words_of}
use Rattle.chpw_orders.specs.declared.compacting.CompactFault.{CompactFault}
use Rattle.chpw_orders.specs.declared.compacting.CompactFault.TheVariants as compaction
use Rattle.chpw_orders.specs.declared.replacing.NotReplaced.{NotReplaced}
use Rattle.chpw_orders.specs.declared.replacing.NotReplaced.TheVariants.{Failed, Changed, NoGain, Unwritten, Unsafe, Memory}
use Rattle.chpw_orders.specs.declared.rereading.PrepareFault.{PrepareFault}
use Rattle.chpw_start.specs.declared.ownership.Exposure.{Exposure}
use Rattle.chpw_orders.specs.declared.rereading.PrepareFault.TheVariants as reload

-- these lines, or nothing, which means failure: memory for them was refused
abbrev pub Tells : List (List ℕ) → List ℕ → Type 0
Tells lines text = (text ≡ []) ⊎ (text ≡ lines_text lines)

-- an order that was carried out, and one that was refused for this reason
abbrev pub done_lines : List (List ℕ)
done_lines = ok_line ∷ []

abbrev pub refused_lines : List ℕ → List (List ℕ)
refused_lines words = error_line words ∷ []

-- a reload: a line for each warning about the configuration and for each principal that it lacks, and `ok`
abbrev pub warning_line : Warning → List ℕ
warning_line warning = codes "warning: " ++ warning_text warning

abbrev pub lacked_line : Name → List ℕ
lacked_line name = codes "lacked " ++ name_text name

abbrev pub reloaded_lines : List Warning → List Name → List (List ℕ)
reloaded_lines warnings lacked = map warning_line warnings ++ map lacked_line lacked ++ done_lines

-- what a journal says at its fault, behind that
abbrev pub told_text : Option (List ℕ) → List ℕ
told_text None = []
told_text (Some words) = codes ": " ++ words

-- why a configuration can't be reloaded: a file's fault as the service prints it, the words of `check`, or a reload's
-- fault
abbrev pub prepare_words : PrepareFault → List ℕ
prepare_words (reload.Start fault) = line_of fault
prepare_words (reload.Config words) = string_bytes words
prepare_words (reload.Reload fault told) = fault_text fault ++ told_text told

abbrev pub unwritten : List ℕ → List ℕ
unwritten path = codes "cannot write " ++ path

-- strict modes refuse the file at this path
abbrev pub exposed_words : List ℕ → Exposure → List ℕ
exposed_words path why = path ++ (codes ": " ++ words_of why)

abbrev pub changed_words : List ℕ
changed_words = codes "the configuration has changed: reload it first"

-- why there is no compact journal: before the desk is closed, and after that, of the journal at this path
abbrev pub compact_words : CompactFault → List ℕ
compact_words (compaction.Unread fault told) = line_of fault ++ told_text told
compact_words compaction.Changed = changed_words
compact_words (compaction.NoCopy copy) = unwritten copy

abbrev pub not_replaced_words : List ℕ → NotReplaced → List ℕ
not_replaced_words path Failed = codes "journal failed"
not_replaced_words path Changed = changed_words
not_replaced_words path NoGain = codes "nothing to gain"
not_replaced_words path Unwritten = unwritten path
not_replaced_words path Unsafe = unwritten path
not_replaced_words path Memory = codes "memory"

abbrev pub replaced_lines : List ℕ → Result (Unit {0}) NotReplaced → List (List ℕ)
replaced_lines path (Ok nothing) = done_lines
replaced_lines path (Err why) = refused_lines (not_replaced_words path why)
