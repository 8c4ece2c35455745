-- For proofs alone: what the fields of a ChangePasswdData ask for.
use Rattle.std.specs.Prelude.{ℕ, List, Option, Some, None, Result, Ok, Err}
use Rattle.krb_der.specs.declared.change_passwd_data.ChangePasswdData.{ChangePasswdData}
use Rattle.krb_der.specs.declared.principal_name.PrincipalName.{PrincipalName}
use Rattle.chpw_frame.specs.declared.change_data.ChangeData.{ChangeData}
use Rattle.chpw_frame.specs.declared.change_data.ChangeFault.{ChangeFault}
use Rattle.chpw_frame.specs.declared.change_data.ChangeFault.TheVariants.{RealmWithoutName}

abbrev pub asks : List ℕ → Option PrincipalName → Option (List ℕ) → Result ChangeData ChangeFault
asks password (Some name) realm = Ok (record { password = password; target = Some (record { name = name; realm = realm }) })
asks password None None = Ok (record { password = password; target = None })
asks password None (Some realm) = Err RealmWithoutName

abbrev pub asked : ChangePasswdData → Result ChangeData ChangeFault
asked fields = asks fields.newpasswd fields.targname fields.targrealm
