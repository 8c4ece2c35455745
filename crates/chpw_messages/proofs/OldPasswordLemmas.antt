-- When bytes name a target.
use Rattle.std.proofs.Common.{◌≡◌, ℕ, List, Bool, true, false, Option, Some, None, option_map, refl, sym, ◌∙◌, ap, subst}
use Rattle.std.specs.Prelude.{IsTrue, option_and_then, ◌||◌, ◌↔◌}
use Rattle.std.specs.Option.{is_some}
use Rattle.krb_codec.specs.Shapes.{Value, ◌&◌}
use Rattle.krb_codec.specs.Grammar.{Spells}
use Rattle.krb_codec.proofs.CompleteLemmas.{one_value}
use Rattle.krb_der.specs.Types.{change_passwd_data}
use Rattle.krb_der.specs.Values.{change_passwd_data_value}
use Rattle.krb_der.specs.declared.change_passwd_data.ChangePasswdData.{ChangePasswdData}
use Rattle.krb_der.specs.declared.principal_name.PrincipalName.{PrincipalName}
use Rattle.chpw_frame.specs.declared.change_data.ChangeData.{ChangeData}
use Rattle.chpw_frame.specs.declared.change_data.ChangeTarget.{ChangeTarget}
use Rattle.chpw_frame.specs.Asked.{asks}
use Rattle.chpw_frame.specs.ChangeData.{Finds, IsChange, change_value}
use Rattle.chpw_frame.proofs.ChangeLemmas.{asks_complete}
use Rattle.chpw_serve.specs.Requests.{Content, new_password, bad_private, bad_data}
use Rattle.chpw_messages.specs.OldPasswords.{IsOldPassword, NamesTarget, has_target}

-- the fields of a change
abbrev pub fields_of : ChangeData → ChangePasswdData
fields_of change = record {
  newpasswd = change.password;
  targname = option_map (λ (t : ChangeTarget). t.name) change.target;
  targrealm = option_and_then (λ (t : ChangeTarget). t.realm) change.target;
}

pub fields_value : (password : List ℕ) (target : Option ChangeTarget)
    → change_value (record { password = password; target = target })
    ≡ change_passwd_data_value (fields_of (record { password = password; target = target }))
fields_value password None = refl
fields_value password (Some target) = of_realm target.name target.realm
  where
    of_realm : (name : PrincipalName) (realm : Option (List ℕ))
        → change_value (record { password = password; target = Some (record { name = name; realm = realm }) })
        ≡ change_passwd_data_value (record { newpasswd = password; targname = Some name; targrealm = realm })
    of_realm name None = refl
    of_realm name (Some realm) = refl

fields_have : (password : List ℕ) (target : Option ChangeTarget)
    → has_target (fields_of (record { password = password; target = target })) ≡ is_some target
fields_have password None = refl
fields_have password (Some target) = refl

-- a change of a target
pub change_names : (bytes : List ℕ) (change : ChangeData) → IsChange bytes change → is_some change.target ≡ true → NamesTarget bytes
change_names bytes change h some = (
  fields_of change,
  subst (λ (v : Value change_passwd_data). Spells change_passwd_data bytes v) (fields_value change.password change.target) h,
  fields_have change.password change.target ∙ some,
)

-- fields with a target are those of no other change
none_named : (password : List ℕ) (name : Option PrincipalName) (realm : Option (List ℕ)) (change : ChangeData)
    → Finds (asks password name realm) change → (is_some name || is_some realm) ≡ true → is_some change.target ≡ true
none_named password (Some name) realm change h named = ap (λ (c : ChangeData). is_some c.target) (sym h)
none_named password None None change h named = cc
none_named password None (Some realm) change h named = absurd h

-- a change without a target
pub change_names_none : (bytes : List ℕ) (change : ChangeData) → IsChange bytes change → is_some change.target ≡ false → NamesTarget bytes → ⊥
change_names_none bytes change h none named =
    let fields : ChangePasswdData = named.0 in
    let same = one_value change_passwd_data refl bytes (change_value change) (change_passwd_data_value fields) h named.1 in
    let some = none_named fields.newpasswd fields.targname fields.targrealm change (asks_complete fields change same) named.2 in
    cc

-- a realm without a name
pub realm_names : (bytes password realm : List ℕ) → Spells change_passwd_data bytes (password & None & Some realm & tt) → NamesTarget bytes
realm_names bytes password realm h = (record { newpasswd = password; targname = None; targrealm = Some realm }, h, refl)

-- what the test comes to
pub named_if : (bytes : List ℕ) (change : ChangeData) (b : Bool) → IsChange bytes change → b ≡ is_some change.target
    → IsTrue b ↔ NamesTarget bytes
named_if bytes change true h same = (λ yes. change_names bytes change h (sym same), λ named. refl)
named_if bytes change false h same = (λ yes. absurd (let no : false ≡ true = yes in cc), λ named. absurd (change_names_none bytes change h (sym same) named))

pub none_if : (bytes : List ℕ) → ((v : Value change_passwd_data) → Spells change_passwd_data bytes v → ⊥) → IsTrue false ↔ NamesTarget bytes
none_if bytes none = (λ yes. absurd (let no : false ≡ true = yes in cc), λ named. absurd (none (change_passwd_data_value named.0) named.1))

-- bytes that name a target ask for nothing
pub named_is_bad : (bytes : List ℕ) (content : Content) → NamesTarget bytes → IsOldPassword bytes content → content ≡ bad_data
named_is_bad bytes (new_password target password) named h = absurd (h.0 named)
named_is_bad bytes bad_data named h = refl
named_is_bad bytes bad_private named h = absurd h

pub one_old_password : (bytes : List ℕ) (one other : Content) → IsOldPassword bytes one → IsOldPassword bytes other → one ≡ other
one_old_password bytes (new_password target password) (new_password other_target other_password) h k =
    let targets : target ≡ other_target = h.1 ∙ sym k.1 in
    let passwords : password ≡ other_password = h.2 ∙ sym k.2 in
    cc
one_old_password bytes (new_password target password) bad_data h k = absurd (h.0 k)
one_old_password bytes (new_password target password) bad_private h k = absurd k
one_old_password bytes bad_data (new_password target password) h k = absurd (k.0 h)
one_old_password bytes bad_data bad_data h k = refl
one_old_password bytes bad_data bad_private h k = absurd k
one_old_password bytes bad_private other h k = absurd h
