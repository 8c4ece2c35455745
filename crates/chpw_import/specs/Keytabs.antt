-- What is imported from a keytab, or why nothing is.
use Rattle.std.specs.Prelude.{◌≡◌, ℕ, List, map, Ok, Err}
use Rattle.std.specs.List.Sorted.{IsStrictlySortedBy}
use Rattle.std.specs.Map.{keys_of, lookup}
use Rattle.std.specs.Option.{unwrap_or}
use Rattle.std.specs.Ordering.{eq_by_cmp}
use Rattle.krb_keytab.specs.declared.entry.KeytabEntry.{KeytabEntry}
use Rattle.krb_keytab.specs.Answers.{views}
use Rattle.krb_keytab.specs.Keytabs.{keytab}
use Rattle.chpw_rules.specs.declared.name.Name.{Name}
use Rattle.chpw_rules.specs.declared.config.PrincipalRow.{PrincipalRow}
use Rattle.chpw_rules.specs.declared.config.ServiceRow.{ServiceRow}
use Rattle.chpw_rules.specs.Names.{name_cmp}
use Rattle.chpw_import.specs.declared.keytab.KeytabImport.{KeytabImport}
use Rattle.chpw_import.specs.declared.keytab.ImportFault.{ImportFault}
use Rattle.chpw_import.specs.declared.keytab.ImportFault.TheVariants.{Keytab, Memory}
use Rattle.chpw_import.specs.declared.slot.Slot.{Slot}
use Rattle.chpw_import.specs.declared.slot.Found.{Found}
use Rattle.chpw_import.specs.LeftOut.{left_out}
use Rattle.chpw_import.specs.Tables.{slot_cmp, latest, newest}
use Rattle.chpw_import.specs.Rows.{first_principals, first_service_rows}

-- the keytab's first fault, or memory ran out
abbrev pub IsOfKeytab : List ℕ → ImportFault → Type 0
IsOfKeytab bytes (Keytab fault) = keytab bytes ≡ Err fault
IsOfKeytab bytes Memory = Unit {0}

-- the first ones of the service, of the slots that have a key, in their order, with their latest usable keys
pub record AreServiceKeys (realm : List ℕ) (es : List KeytabEntry) (rows : List ServiceRow) : Type 0 where
  pub slots : List (Slot × Found)
  pub sorted : IsStrictlySortedBy slot_cmp (keys_of slots)
  pub last : (s : Slot) → lookup (eq_by_cmp slot_cmp s) slots ≡ latest realm s 0 es
  pub first : rows ≡ first_service_rows slots

-- the first that have keys, of the names in their order, with their newest versions
pub record ArePrincipals (realm : List ℕ) (iterations : ℕ) (es : List KeytabEntry) (rows : List PrincipalRow) : Type 0 where
  pub names : List (Name × ℕ)
  pub sorted : IsStrictlySortedBy name_cmp (keys_of names)
  pub versions : (n : Name) → unwrap_or (lookup (eq_by_cmp name_cmp n) names) 0 ≡ newest realm n es
  pub first : rows ≡ first_principals (λ s. latest realm s 0 es) iterations names

-- the keys that a keytab with these bytes has of a realm
pub record IsBrought (bytes realm : List ℕ) (iterations : ℕ) (b : KeytabImport) : Type 0 where
  pub entries : keytab bytes ≡ Ok (views b.entries.items)
  pub service : AreServiceKeys realm b.entries.items b.service.items
  pub principals : ArePrincipals realm iterations b.entries.items b.principals.items
  pub sorted : IsStrictlySortedBy name_cmp (map (λ row. row.name) b.principals.items)
  pub left : b.left.items ≡ left_out realm b.entries.items b.service.items b.principals.items
