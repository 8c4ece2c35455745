-- What the fields of a ChangePasswdData ask for.
use Rattle.std.proofs.Common.{◌≡◌, ℕ, ℤ, List, Option, Some, None, Ok, IfOk, IfErr, sym, ◌∙◌, ap, subst, map-id}
use Rattle.std.specs.Prelude.{option_map}
use Rattle.std.proofs.lemmas.Iterator.Adapters.{option_map_id}
use Rattle.krb_codec.specs.Shapes.{Value, ◌&◌}
use Rattle.krb_codec.specs.Grammar.{Spells}
use Rattle.krb_codec.specs.Reading.{Fails}
use Rattle.krb_codec.specs.declared.fault.DerFault.{DerFault}
use Rattle.krb_codec.specs.declared.fault.ReadError.TheVariants.{Fault}
use Rattle.krb_der.specs.Types.{change_passwd_data, principal_name}
use Rattle.krb_der.specs.Values.{principal_name_value, change_passwd_data_value}
use Rattle.krb_der.specs.declared.change_passwd_data.ChangePasswdData.{ChangePasswdData}
use Rattle.krb_der.specs.declared.principal_name.PrincipalName.{PrincipalName}
use Rattle.chpw_frame.specs.declared.change_data.ChangeData.{ChangeData}
use Rattle.chpw_frame.specs.declared.change_data.ChangeTarget.{ChangeTarget}
use Rattle.chpw_frame.specs.ChangeData.{change_value, IsChange, IsNoChange, Finds}
use Rattle.chpw_frame.specs.Asked.{asks, asked}

-- a text of these fields asks for what they ask, or for nothing as they do
pub asks_right : (bytes : List ℕ) (fields : ChangePasswdData) → Spells change_passwd_data bytes (change_passwd_data_value fields)
    → IfOk (asked fields) (λ change. IsChange bytes change) × IfErr (asked fields) (λ fault. IsNoChange fault bytes)
asks_right bytes fields = right_of fields.newpasswd fields.targname fields.targrealm
  where
    right_of : (password : List ℕ) (name : Option PrincipalName) (realm : Option (List ℕ))
        → Spells change_passwd_data bytes (password & option_map principal_name_value name & option_map (λ r. r) realm & tt)
        → IfOk (asks password name realm) (λ change. IsChange bytes change) × IfErr (asks password name realm) (λ fault. IsNoChange fault bytes)
    right_of password None (Some realm) h = (tt, (password, realm, h))
    right_of password (Some name) None h = (h, tt)
    right_of password name realm h = (h, tt)

-- a name by its value
same_name : (one other : PrincipalName) → principal_name_value one ≡ principal_name_value other → one ≡ other
same_name one other h =
    let kind : one.name_type ≡ other.name_type = ap (λ (v : Value principal_name). v.0) h in
    let parts : one.name_string ≡ other.name_string = sym (map-id one.name_string) ∙ (ap (λ (v : Value principal_name). v.1.0) h ∙ map-id other.name_string) in
    let at_kind : one ≡ record one { name_type = other.name_type } = ap (λ (t : ℤ). record one { name_type = t }) kind in
    at_kind ∙ ap (λ (ps : List (List ℕ)). record other { name_string = ps }) parts

change_of : List ℕ → PrincipalName → Option (List ℕ) → ChangeData
change_of password name realm = record { password = password; target = Some (record { name = name; realm = realm }) }

-- a change of the same value is what is asked
complete_of : (password own : List ℕ) (name : Option PrincipalName) (realm : Option (List ℕ)) (target : Option ChangeTarget)
    → change_value (record { password = own; target = target }) ≡ (password & option_map principal_name_value name & option_map (λ r. r) realm & tt)
    → Finds (asks password name realm) (record { password = own; target = target })
unfolding change_of
complete_of password own (Some name) realm (Some target) h =
    let word : password ≡ own = ap (λ (v : Value change_passwd_data). v.0) (sym h) in
    let called : Some (principal_name_value name) ≡ Some (principal_name_value target.name) = ap (λ (v : Value change_passwd_data). v.1.0) (sym h) in
    let name_is : name ≡ target.name = same_name name target.name cc in
    let realm_is : realm ≡ target.realm = sym (option_map_id realm) ∙ ap (λ (v : Value change_passwd_data). v.1.1.0) (sym h) in
    subst (λ (w : List ℕ). change_of w name realm ≡ change_of own target.name target.realm) (sym word)
    (subst (λ (n : PrincipalName). change_of own n realm ≡ change_of own target.name target.realm) (sym name_is)
    (ap (change_of own target.name) realm_is))
complete_of password own None None None h =
    ap (λ (w : List ℕ). record { password = w; target = None }) (ap (λ (v : Value change_passwd_data). v.0) (sym h))
complete_of password own (Some name) realm None h =
    let no : Some (principal_name_value name) ≡ None = ap (λ (v : Value change_passwd_data). v.1.0) (sym h) in cc
complete_of password own None None (Some target) h =
    let no : Some (principal_name_value target.name) ≡ None = ap (λ (v : Value change_passwd_data). v.1.0) h in cc
complete_of password own None (Some realm) (Some target) h =
    let no : Some (principal_name_value target.name) ≡ None = ap (λ (v : Value change_passwd_data). v.1.0) h in cc
complete_of password own None (Some realm) None h = let no : Some realm ≡ None = ap (λ (v : Value change_passwd_data). v.1.1.0) (sym h) in cc

pub asks_complete : (fields : ChangePasswdData) (change : ChangeData) → change_value change ≡ change_passwd_data_value fields → Finds (asked fields) change
asks_complete fields change h = complete_of fields.newpasswd change.password fields.targname fields.targrealm change.target h

-- a text that is refused has no value
pub refused_value : (fault : DerFault) (v : Value change_passwd_data) → Fails (Fault fault) (Ok v) → ⊥
refused_value fault v h = cc
