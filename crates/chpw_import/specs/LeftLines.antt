-- The lines about the skipped entries.
use Rattle.std.specs.Prelude.{ℕ, ◌-◌, ℤ, pos, negsuc, ◌==◌, if◌then◌else◌, List, [], ◌∷◌, ◌++◌, length, codes, Option, Some, None}
use Rattle.std.specs.List.{slice_get}
use Rattle.std.specs.Fmt.{decimal, signed_decimal}
use Rattle.krb_keytab.specs.declared.entry.KeytabEntry.{KeytabEntry}
use Rattle.chpw_printing.specs.Quoting.{principal_text}
use Rattle.chpw_import.specs.declared.left.SkippedEntry.{SkippedEntry}
use Rattle.chpw_import.specs.declared.left.Reason.{Reason}
use Rattle.chpw_import.specs.declared.left.Reason.TheVariants.{OtherRealm, BadName, NoVersion, OtherType}
use Rattle.chpw_import.specs.declared.left.Reason.TheVariants.{KeyLength, Repeated, Unpaired, BehindGap}
use Rattle.chpw_import.specs.declared.left.Reason.TheVariants.{TooManyKeys, TooManyPrincipals}
use Rattle.chpw_import.specs.declared.keytab.KeytabImport.{KeytabImport}
use Rattle.chpw_import.specs.Counts.{count_line}
use Rattle.chpw_import.specs.Entries.{name_in}

-- a reason whose words are the same for each entry
abbrev pub words_of : Reason → List ℕ
words_of OtherRealm = codes "another realm"
words_of BadName = codes "a name has 1 to 8 components of 1 to 128 bytes, in UTF-8 and without a /"
words_of NoVersion = codes "a version is at least 1"
words_of OtherType = codes "only 17 and 18 can be used"
words_of KeyLength = []
words_of Repeated = codes "a later entry has the same name, kvno and etype"
words_of Unpaired = []
words_of BehindGap = codes "older than a version that is missing or skipped"
words_of TooManyKeys = codes "there are 16 keys already"
words_of TooManyPrincipals = codes "there are 10000 principals already"

abbrev pub length_text : ℕ → List ℕ
length_text n = codes "its key has " ++ decimal n ++ codes " bytes"

-- the encryption type that is missing beside this one
abbrev pub unpaired_text : ℤ → List ℕ
unpaired_text (pos etype) = if etype == 17 then codes "no key of etype 18 has its kvno" else codes "no key of etype 17 has its kvno"
unpaired_text (negsuc _) = codes "no key of etype 17 has its kvno"

abbrev pub reason_text : KeytabEntry → Reason → List ℕ
reason_text e KeyLength = length_text (length e.key.items)
reason_text e Unpaired = unpaired_text e.etype
reason_text e why = words_of why

-- its principal, version and encryption type
abbrev pub entry_text : KeytabEntry → List ℕ
entry_text e =
    principal_text e.realm.items (name_in e) ++ codes ", kvno " ++ decimal e.kvno ++ codes ", etype " ++ signed_decimal e.etype

-- its offset, what it is, and why it is skipped
abbrev pub left_text : KeytabEntry → Reason → List ℕ
left_text e why = codes "at " ++ decimal e.place ++ codes ": skipped: " ++ entry_text e ++ codes ": " ++ reason_text e why

-- after the file's name
abbrev pub line_of : List ℕ → Reason → Option KeytabEntry → List ℕ
line_of file why None = []
line_of file why (Some e) = file ++ codes ": " ++ left_text e why ++ codes "\n"

abbrev pub left_lines : List ℕ → List KeytabEntry → List SkippedEntry → List ℕ
left_lines file es [] = []
left_lines file es (l ∷ left) = line_of file l.why (slice_get es l.index) ++ left_lines file es left

-- and the numbers of the entries that are imported and of those that aren't
abbrev pub told : List ℕ → KeytabImport → List ℕ
told file b =
    left_lines file b.entries.items b.left.items
    ++ count_line (length b.entries.items - length b.left.items) (length b.left.items)
