-- What is left out of the entries that a table holds.
use mathlib.Core.Path.{fun_ext}
use Rattle.std.proofs.Common.{◌≡◌, ℕ, List, Option, subst}
use Rattle.std.specs.BTreeMap.{get}
use Rattle.krb_keytab.specs.declared.entry.KeytabEntry.{KeytabEntry}
use Rattle.chpw_rules.specs.declared.name.Name.{Name}
use Rattle.chpw_rules.specs.declared.config.PrincipalRow.{PrincipalRow}
use Rattle.chpw_rules.specs.declared.config.ServiceRow.{ServiceRow}
use Rattle.chpw_import.specs.declared.left.SkippedEntry.{SkippedEntry}
use Rattle.chpw_import.specs.declared.slot.Slot.{Slot}
use Rattle.chpw_import.specs.declared.slot.Found.{Found}
use Rattle.chpw_import.specs.declared.table.Table.{Table}
use Rattle.chpw_import.specs.LeftOut.{left_out, told_from, why_left}
use Rattle.chpw_import.specs.Tables.{Holds, latest, newest, newest_at, slot_cmp}

pub left_is : (realm : List ℕ) (es fs : List KeytabEntry)
    (t : Table) (service s : List ServiceRow) (principals p : List PrincipalRow) (left : List SkippedEntry)
    → Holds realm es t → fs ≡ es → s ≡ service → p ≡ principals
    → left ≡ told_from (why_left realm (get slot_cmp t.found) (newest_at t.newest) s p) 0 fs → left ≡ left_out realm es service principals
left_is realm es fs t service s principals p left holds f g h e =
    let keys : get slot_cmp t.found ≡ (λ (slot : Slot). latest realm slot 0 es) = fun_ext holds.found in
    let versions : newest_at t.newest ≡ (λ (n : Name). newest realm n es) = fun_ext holds.newest in
    let one = subst (λ (k : Slot → Option Found). left ≡ told_from (why_left realm k (newest_at t.newest) s p) 0 fs) keys e in
    let two = subst (λ (n : Name → ℕ). left ≡ told_from (why_left realm (λ (slot : Slot). latest realm slot 0 es) n s p) 0 fs) versions one in
    let three = subst (λ (x : List ServiceRow). left ≡ told_from (why_left realm
    (λ (slot : Slot). latest realm slot 0 es) (λ (n : Name). newest realm n es) x p) 0 fs) g two in
    let four = subst (λ (x : List PrincipalRow). left ≡ told_from (why_left realm
    (λ (slot : Slot). latest realm slot 0 es) (λ (n : Name). newest realm n es) service x) 0 fs) h three in
    subst (λ (x : List KeytabEntry). left ≡ told_from (why_left realm
    (λ (slot : Slot). latest realm slot 0 es) (λ (n : Name). newest realm n es) service principals) 0 x) f four
