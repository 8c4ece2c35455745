-- The change that a request asks for (RFC 3244 section 2): a ChangePasswdData has the new password and may name its
-- principal; a realm comes only with a name.
use Rattle.std.specs.Prelude.{◌≡◌, ℕ, List, Some, None, Result, Ok, Err, option_map, option_and_then}
use Rattle.krb_codec.specs.Shapes.{Value, ◌&◌}
use Rattle.krb_codec.specs.Grammar.{Spells}
use Rattle.krb_der.specs.Types.{change_passwd_data}
use Rattle.krb_der.specs.Values.{principal_name_value}
use Rattle.chpw_frame.specs.declared.change_data.ChangeData.{ChangeData}
use Rattle.chpw_frame.specs.declared.change_data.ChangeFault.{ChangeFault}
use Rattle.chpw_frame.specs.declared.change_data.ChangeFault.TheVariants.{NotChangeData, RealmWithoutName, Memory}

-- the fields newpasswd, targname and targrealm
abbrev pub change_value : ChangeData → Value change_passwd_data
change_value c =
    c.password
    & option_map (λ t. principal_name_value t.name) c.target
    & option_and_then (λ t. t.realm) c.target
    & tt

-- the bytes ask for this change
abbrev pub IsChange : List ℕ → ChangeData → Type 0
IsChange bytes change = Spells change_passwd_data bytes (change_value change)

-- why they ask for none
abbrev pub IsNoChange : ChangeFault → List ℕ → Type 0
IsNoChange NotChangeData bytes = (v : Value change_passwd_data) → Spells change_passwd_data bytes v → ⊥
IsNoChange RealmWithoutName bytes =
    (password realm : List ℕ) × Spells change_passwd_data bytes (password & None & Some realm & tt)
IsNoChange Memory bytes = Unit {0}

-- this change is found, unless memory ran out
abbrev pub Finds : Result ChangeData ChangeFault → ChangeData → Type 0
Finds (Ok found) change = found ≡ change
Finds (Err NotChangeData) change = ⊥
Finds (Err RealmWithoutName) change = ⊥
Finds (Err Memory) change = Unit {0}
