-- What is written: the stanzas of rows.
use Rattle.std.specs.Prelude.{◌≡◌, ℕ, true, false, List, [], ◌∷◌, ◌++◌, Option, Some, codes, if◌then◌else◌}
use Rattle.std.specs.Io.KnownBytes.{Appends}
use Rattle.toml.specs.Parse.{parse_document}
use Rattle.toml.specs.Text.{IsDocumentText}
use Rattle.chpw_rules.specs.declared.name.Name.{Name}
use Rattle.chpw_rules.specs.declared.config.ServiceRow.{ServiceRow}
use Rattle.chpw_rules.specs.declared.config.PrincipalRow.{PrincipalRow}
use Rattle.chpw_rules.specs.Fitting.{principal_fits, principals_fit, service_fits}
use Rattle.chpw_rules.specs.Names.{is_name, name_of as name_in}
use Rattle.chpw_config_text.specs.Stanzas.{stanzas_of}
use Rattle.chpw_invocation.specs.declared.invocation.ImportOptions.{ImportOptions}
use Rattle.chpw_invocation.specs.declared.invocation.KeyOptions.{KeyOptions}
use Rattle.chpw_import.specs.declared.keytab.KeytabImport.{KeytabImport}
use Rattle.chpw_import.specs.declared.numbers.KeyNumbers.{KeyNumbers}
use Rattle.chpw_import.specs.Faults.{brings_none}
use Rattle.chpw_import.specs.Keytabs.{IsBrought}
use Rattle.chpw_import.specs.LeftLines.{told as told_of}
use Rattle.chpw_import.specs.Passwords.{IsPasswordOf, has_carriage_return, row_of}

-- A text is added that is read as the stanzas of these rows. It is a document of lines, each table with a header of its
-- own and none inline, so that it can follow other tables.
abbrev pub AppendsRows : Option (List ℕ) → Option (List ℕ) → List ServiceRow → List PrincipalRow → Type 0
AppendsRows before behind service principals =
    (text : List ℕ) × Appends before behind text × IsDocumentText false (stanzas_of service principals) text
    × (parse_document text ≡ Some (stanzas_of service principals))

-- ---- import

-- the keys that a keytab with these bytes has of the realm, in stanzas that a configuration can have; and a line for
-- each skipped entry, with both numbers; there is a key of the service or of a principal
pub record Imports (o : ImportOptions) (bytes : List ℕ) (before behind untold told : Option (List ℕ)) : Type 0 where
  pub brought : KeytabImport
  pub is_brought : IsBrought bytes o.realm.now o.iterations brought
  pub fits : (service_fits brought.service.items ≡ true) × (principals_fit brought.principals.items ≡ true)
  pub written : AppendsRows before behind brought.service.items brought.principals.items
  pub left : Appends untold told (told_of o.keytab.now brought)
  pub some : brings_none brought ≡ false

-- ---- key

-- the numbers of the command line
abbrev pub numbers_of : KeyOptions → KeyNumbers
numbers_of o = record { kvno = o.kvno; iterations = o.iterations; some_count = o.some_count.0 }

-- the keys that string-to-key makes from the password, with those numbers
abbrev pub key_row : KeyOptions → Name → List ℕ → PrincipalRow
key_row o name password = row_of o.realm.now name password (numbers_of o)

-- a carriage return at the end of a password's file is no part of it, which a line reports
abbrev pub note_of : List ℕ → List ℕ → List ℕ
note_of file bytes = if has_carriage_return bytes then file ++ codes ": a carriage return at the end is ignored\n" else []

-- the stanza of this principal with the keys of the password in a file with these bytes; a configuration can have it if
-- it can have the name
pub record WritesKey (o : KeyOptions) (name : Name) (bytes : List ℕ) (before behind untold told : Option (List ℕ)) : Type 0 where
  pub password : List ℕ
  pub is_password : IsPasswordOf bytes password
  pub fits : is_name name ≡ true → principal_fits (key_row o name password) ≡ true
  pub written : AppendsRows before behind [] (key_row o name password ∷ [])
  pub note : Appends untold told (note_of o.password_file.now bytes)

-- the stanza of the name on the command line
pub record Keys (o : KeyOptions) (bytes : List ℕ) (before behind untold told : Option (List ℕ)) : Type 0 where
  pub name : Name
  pub is_name : name_in o.name.now ≡ Some name
  pub key : WritesKey o name bytes before behind untold told
  pub fits : principal_fits (key_row o name key.password) ≡ true
