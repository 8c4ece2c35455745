-- What the program writes when no keys can be written, and which faults come from where.
use Rattle.std.specs.Prelude.{◌≡◌, ◌⊎◌, ◌&&◌, ℕ, nat_eq, Bool, List, ◌++◌, length, codes, true, false, None, Err}
use Rattle.std.specs.Fmt.{decimal}
use Rattle.std.specs.List.{list_all}
use Rattle.krb_keytab.specs.declared.fault.KeytabFault.{KeytabFault}
use Rattle.krb_keytab.specs.declared.fault.KeytabFault.TheVariants.{NotKeytab, CutOff, BadLength, BadEntry}
use Rattle.krb_keytab.specs.Keytabs.{keytab}
use Rattle.chpw_config_text.specs.Writable.{is_writable_principal}
use Rattle.chpw_rules.specs.Names.{name_of}
use Rattle.chpw_rules.specs.declared.config.PrincipalRow.{PrincipalRow}
use Rattle.chpw_import.specs.Passwords.{HoldsNoPassword}
use Rattle.chpw_invocation.specs.declared.invocation.ImportOptions.{ImportOptions}
use Rattle.chpw_invocation.specs.declared.invocation.KeyOptions.{KeyOptions}
use Rattle.chpw_import.specs.declared.fault.KeysFault.{KeysFault}
use Rattle.chpw_import.specs.declared.fault.KeysFault.TheVariants.{BadName, CannotRead, Keytab, EmptyPassword, CannotPrint, Memory}
use Rattle.chpw_import.specs.declared.fault.KeysFault.TheVariants.{Unconnected, Unanswered, Kdc, Patterns, NoPrincipal, NoKey}
use Rattle.chpw_config.specs.Faults.{fault_text}
use Rattle.chpw_import.specs.KdcLists.{fault_words}
use Rattle.chpw_import.specs.Keytabs.{IsBrought}
use Rattle.chpw_import.specs.declared.keytab.KeytabImport.{KeytabImport}

abbrev pub keytab_text : KeytabFault → List ℕ
keytab_text NotKeytab = codes "not a keytab of format 0x0502"
keytab_text (CutOff place) = codes "the record at " ++ decimal place ++ codes " is cut off"
keytab_text (BadLength place) = codes "the length at " ++ decimal place ++ codes " is -2147483648"
keytab_text (BadEntry place) = codes "a field of the record at " ++ decimal place ++ codes " extends past its end"

abbrev pub line_of : KeysFault → List ℕ
line_of BadName = codes "bad argument"
line_of (CannotRead file) = codes "cannot read " ++ file.now
line_of (Keytab file fault) = file.now ++ codes ": " ++ keytab_text fault
line_of (EmptyPassword file) = file.now ++ codes ": the password is empty"
line_of (Unconnected socket) = codes "cannot connect to " ++ socket.now
line_of (Unanswered socket) = socket.now ++ codes ": the connection failed"
line_of (Kdc socket fault) = socket.now ++ codes ": " ++ fault_words fault
line_of (Patterns file fault) = file.now ++ codes ": " ++ fault_text fault
line_of (NoPrincipal socket) = socket.now ++ codes ": no principal is imported"
line_of (NoKey file) = file.now ++ codes ": no key is imported"
line_of CannotPrint = codes "cannot write"
line_of Memory = codes "memory"

-- the fault of the file at a path: it can't be read
abbrev pub IsUnread : List ℕ → KeysFault → Type 0
IsUnread path (CannotRead file) = file.now ≡ path
IsUnread path Memory = Unit {0}
IsUnread path fault = ⊥

-- the fault of the stanzas of rows: a name that no file can express, or memory ran out
abbrev pub IsOfRows : List PrincipalRow → KeysFault → Type 0
IsOfRows principals CannotPrint = list_all is_writable_principal principals ≡ false
IsOfRows principals Memory = Unit {0}
IsOfRows principals fault = ⊥

-- a fault after the files are read
abbrev pub IsLate : KeysFault → Type 0
IsLate CannotPrint = Unit {0}
IsLate Memory = Unit {0}
IsLate fault = ⊥

-- the fault of a keytab's bytes: their first
abbrev pub IsOfBytes : List ℕ → List ℕ → KeysFault → Type 0
IsOfBytes path bytes (Keytab file fault) = (file.now ≡ path) × (keytab bytes ≡ Err fault)
IsOfBytes path bytes Memory = Unit {0}
IsOfBytes path bytes fault = ⊥

-- neither a key of the service nor one of a principal is imported
abbrev pub brings_none : KeytabImport → Bool
brings_none b = nat_eq (length b.service.items) 0 && nat_eq (length b.principals.items) 0

abbrev pub IsNone : List ℕ → KeytabImport → KeysFault → Type 0
IsNone path b (NoKey file) = (file.now ≡ path) × (brings_none b ≡ true)
IsNone path b fault = ⊥

-- the same, of the keys that a keytab with these bytes has of the realm
abbrev pub BringsNone : ImportOptions → List ℕ → KeysFault → Type 0
BringsNone o bytes (NoKey file) = (file.now ≡ o.keytab.now)
    × ((b : KeytabImport) × IsBrought bytes o.realm.now o.iterations b × (brings_none b ≡ true))
BringsNone o bytes fault = ⊥

-- the fault of a password's bytes: there are none
abbrev pub IsOfPassword : List ℕ → List ℕ → KeysFault → Type 0
IsOfPassword path bytes (EmptyPassword file) = (file.now ≡ path) × HoldsNoPassword bytes
IsOfPassword path bytes Memory = Unit {0}
IsOfPassword path bytes fault = ⊥

-- the fault of a name's text: it is no name
abbrev pub IsOfName : List ℕ → KeysFault → Type 0
IsOfName text BadName = name_of text ≡ None
IsOfName text Memory = Unit {0}
IsOfName text fault = ⊥

-- nothing was written before it
abbrev pub IsEarly : KeysFault → Type 0
IsEarly CannotPrint = ⊥
IsEarly (NoPrincipal socket) = ⊥
IsEarly (NoKey file) = ⊥
IsEarly fault = Unit {0}

-- a fault of `import`
abbrev pub IsOfImport : ImportOptions → KeysFault → Type 0
IsOfImport o fault = IsUnread o.keytab.now fault
    ⊎ (((bytes : List ℕ) × (IsOfBytes o.keytab.now bytes fault ⊎ BringsNone o bytes fault)) ⊎ IsLate fault)

-- a fault of `key`
abbrev pub IsOfKey : KeyOptions → KeysFault → Type 0
IsOfKey o fault = IsOfName o.name.now fault ⊎ (IsUnread o.password_file.now fault
    ⊎ (((bytes : List ℕ) × IsOfPassword o.password_file.now bytes fault) ⊎ IsLate fault))
