-- What `import` and `key` write, put together.
use Rattle.std.proofs.Common.{◌≡◌, ◌⊎◌, inl, inr, ◌∙◌, ap, subst, ℕ, List, Option, Some, sym, true, false, [], ◌∷◌}
use Rattle.std.specs.Io.KnownBytes.{Appends}
use Rattle.toml.specs.Parse.{parse_document}
use Rattle.toml.specs.Text.{IsDocumentText}
use Rattle.chpw_rules.specs.declared.config.PrincipalRow.{PrincipalRow}
use Rattle.chpw_rules.specs.declared.config.ServiceRow.{ServiceRow}
use Rattle.chpw_rules.specs.Fitting.{principal_fits, principals_fit, service_fits}
use Rattle.chpw_rules.specs.Names.{is_name}
use Rattle.chpw_config_text.specs.Stanzas.{stanzas_of}
use Rattle.chpw_invocation.specs.declared.invocation.ImportOptions.{ImportOptions}
use Rattle.chpw_import.specs.declared.keytab.KeytabImport.{KeytabImport}
use Rattle.chpw_import.specs.declared.fault.KeysFault.{KeysFault}
use Rattle.chpw_import.specs.declared.fault.KeysFault.TheVariants.{NoKey}
use Rattle.chpw_import.specs.Faults.{BringsNone, IsLate, IsNone, IsOfBytes, IsOfImport, brings_none}
use Rattle.chpw_import.specs.Keytabs.{IsBrought}
use Rattle.chpw_import.specs.LeftLines.{told as told_of}
use Rattle.chpw_import.specs.Passwords.{IsPasswordOf}
use Rattle.chpw_invocation.specs.declared.invocation.KeyOptions.{KeyOptions}
use Rattle.chpw_rules.specs.declared.name.Name.{Name}
use Rattle.chpw_import.specs.Stanzas.{AppendsRows, Imports, WritesKey, key_row, note_of}

-- the text of rows that is written
pub appended : (before behind : Option (List ℕ)) (text t : List ℕ) (s service : List ServiceRow) (p principals : List PrincipalRow)
    → s ≡ service → p ≡ principals → IsDocumentText false (stanzas_of s p) text → parse_document text ≡ Some (stanzas_of s p)
    → t ≡ text → Appends before behind t → AppendsRows before behind service principals
appended before behind text t s service p principals e f lines_of reads g written = (
  t,
  written,
  subst (λ (x : List ℕ). IsDocumentText false (stanzas_of service principals) x) (sym g)
      (subst (λ (x : List PrincipalRow). IsDocumentText false (stanzas_of service x) text) f
      (subst (λ (x : List ServiceRow). IsDocumentText false (stanzas_of x p) text) e lines_of)),
  ap parse_document g ∙ (reads ∙ (ap (λ (x : List ServiceRow). Some (stanzas_of x p)) e
      ∙ ap (λ (x : List PrincipalRow). Some (stanzas_of service x)) f)),
)

pub imported : (o : ImportOptions) (bytes : List ℕ) (b : KeytabImport) (before behind untold told : Option (List ℕ))
    → IsBrought bytes o.realm.now o.iterations b → (service_fits b.service.items ≡ true) × (principals_fit b.principals.items ≡ true)
    → AppendsRows before behind b.service.items b.principals.items → Appends untold told (told_of o.keytab.now b) → brings_none b ≡ false
    → Imports o bytes before behind untold told
imported o bytes b before behind untold told is fits written left some = record {
  brought = b;
  is_brought = is;
  fits = fits;
  written = written;
  left = left;
  some = some;
}

-- no key is imported
none_brought : (o : ImportOptions) (bytes : List ℕ) (b : KeytabImport) (fault : KeysFault) → IsBrought bytes o.realm.now o.iterations b
    → IsNone o.keytab.now b fault → BringsNone o bytes fault
none_brought o bytes b (NoKey file) is none = (none.0, (b, is, none.1))
none_brought o bytes b fault is none = absurd none

-- a fault once the keytab is read
pub late_fault : (o : ImportOptions) (bytes : List ℕ) (b : KeytabImport) (fault : KeysFault) → IsBrought bytes o.realm.now o.iterations b
    → IsNone o.keytab.now b fault ⊎ IsLate fault → IsOfBytes o.keytab.now bytes fault ⊎ (BringsNone o bytes fault ⊎ IsLate fault)
late_fault o bytes b fault is (inl none) = inr (inl (none_brought o bytes b fault is none))
late_fault o bytes b fault is (inr late) = inr (inr late)

-- a fault of the whole command
pub import_fault : (o : ImportOptions) (bytes : List ℕ) (fault : KeysFault)
    → IsOfBytes o.keytab.now bytes fault ⊎ (BringsNone o bytes fault ⊎ IsLate fault) → IsOfImport o fault
import_fault o bytes fault (inl of) = inr (inl (bytes, inl of))
import_fault o bytes fault (inr (inl none)) = inr (inl (bytes, inr none))
import_fault o bytes fault (inr (inr late)) = inr (inr late)

pub keyed : (o : KeyOptions) (name : Name) (bytes password : List ℕ) (before behind untold told : Option (List ℕ)) (text t : List ℕ) (row : PrincipalRow)
    → IsPasswordOf bytes password → row ≡ key_row o name password → (is_name name ≡ true → principal_fits row ≡ true)
    → IsDocumentText false (stanzas_of [] (row ∷ [])) text → parse_document text ≡ Some (stanzas_of [] (row ∷ [])) → t ≡ text → Appends before behind t
    → Appends untold told (note_of o.password_file.now bytes) → WritesKey o name bytes before behind untold told
keyed o name bytes password before behind untold told text t row is e fits lines_of reads g written note = record {
  password = password;
  is_password = is;
  fits = λ named. subst (λ (r : PrincipalRow). principal_fits r ≡ true) e (fits named);
  written = (
    t,
    written,
    subst (λ (x : List ℕ). IsDocumentText false (stanzas_of [] (key_row o name password ∷ [])) x) (sym g)
        (subst (λ (x : PrincipalRow). IsDocumentText false (stanzas_of [] (x ∷ [])) text) e lines_of),
    ap parse_document g ∙ (reads ∙ ap (λ (x : PrincipalRow). Some (stanzas_of [] (x ∷ []))) e),
  );
  note = note;
}
