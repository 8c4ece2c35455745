-- What the readers answer, seen as the definitions give it.
use Rattle.std.specs.Prelude.{◌≡◌, ℕ, List, map, Option, Some, None, Result, Ok, Err}
use Rattle.krb_keytab.specs.declared.entry.KeytabEntry.{KeytabEntry}
use Rattle.krb_keytab.specs.declared.records.KeytabRecord.{KeytabRecord}
use Rattle.krb_keytab.specs.declared.fault.KeytabFault.{KeytabFault}
use Rattle.krb_keytab.specs.declared.fault.KeytabError.{KeytabError}
use Rattle.krb_keytab.specs.declared.fault.KeytabError.TheVariants as error
use Rattle.krb_keytab.specs.declared.fault.FieldError.{FieldError}
use Rattle.krb_keytab.specs.declared.fault.FieldError.TheVariants as field_error
use Rattle.krb_keytab.specs.Entries.{Entry, entry_at}
use Rattle.krb_keytab.specs.Keytabs.{Piece, or_bad}

abbrev pub view : KeytabEntry → Entry
view e = record {
  place = e.place;
  realm = e.realm.items;
  components = map (λ c. c.items) e.components.items;
  name_type = e.name_type;
  timestamp = e.timestamp;
  kvno = e.kvno;
  etype = e.etype;
  key = e.key.items;
}

abbrev pub views : List KeytabEntry → List Entry
views entries = map view entries

-- the answer is the definition's, unless memory ran out
abbrev pub Fails : {Y : Type 0} → KeytabError → Result Y KeytabFault → Type 0
Fails (error.Fault fault) defined = defined ≡ Err fault
Fails error.Memory defined = Unit {0}

abbrev pub Gives : {X Y : Type 0} → (X → Y) → Result X KeytabError → Result Y KeytabFault → Type 0
Gives seen (Ok x) defined = defined ≡ Ok (seen x)
Gives seen (Err e) defined = Fails e defined

-- the answer about a field is the definition's, unless memory ran out
abbrev pub FieldFails : {Y : Type 0} → FieldError → Option Y → Type 0
FieldFails field_error.PastEnd defined = defined ≡ None
FieldFails field_error.Memory defined = Unit {0}

abbrev pub FieldGives : {X Y : Type 0} → (X → Y) → Result X FieldError → Option Y → Type 0
FieldGives seen (Ok x) defined = defined ≡ Some (seen x)
FieldGives seen (Err e) defined = FieldFails e defined

-- a record that was found
abbrev pub piece_at : KeytabRecord → Piece
piece_at r = record { is_entry = r.is_entry; bytes = r.bytes.now; rest = r.rest.now }

abbrev pub piece_of : Result (Option KeytabRecord) KeytabFault → Result (Option Piece) KeytabFault
piece_of (Ok None) = Ok None
piece_of (Ok (Some r)) = Ok (Some (piece_at r))
piece_of (Err fault) = Err fault

-- the entry of a record at a place
abbrev pub placed : ℕ → List ℕ → Result Entry KeytabFault
placed place bytes = or_bad place (entry_at place bytes)
