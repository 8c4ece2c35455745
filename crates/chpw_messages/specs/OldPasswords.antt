-- The user-data of the earlier protocol is the new password itself, the client's own
-- (draft-ietf-cat-kerb-chg-password-02 section 3). No encrypted part covers the version, so a ChangePasswdData with a
-- target may come under it, too: from a request to set another's password, whose version was changed on the way. That is
-- bad data, and nobody's password.
use Rattle.std.specs.Prelude.{◌≡◌, List, ℕ, Bool, true, ◌||◌, None}
use Rattle.std.specs.Option.{is_some}
use Rattle.krb_codec.specs.Grammar.{Spells}
use Rattle.krb_der.specs.Types.{change_passwd_data}
use Rattle.krb_der.specs.Values.{change_passwd_data_value}
use Rattle.krb_der.specs.declared.change_passwd_data.ChangePasswdData.{ChangePasswdData}
use Rattle.chpw_serve.specs.Requests.{Content, new_password, bad_private, bad_data}

-- a targname, a targrealm, or both
abbrev pub has_target : ChangePasswdData → Bool
has_target fields = is_some fields.targname || is_some fields.targrealm

-- the bytes are a ChangePasswdData with a target (RFC 3244 section 2)
abbrev pub NamesTarget : List ℕ → Type 0
NamesTarget bytes =
    (fields : ChangePasswdData) × Spells change_passwd_data bytes (change_passwd_data_value fields) × (has_target fields ≡ true)

-- what the bytes ask for: themselves as password, or, if they name a target, nothing
abbrev pub IsOldPassword : List ℕ → Content → Type 0
IsOldPassword bytes (new_password target password) = (NamesTarget bytes → ⊥) × (target ≡ None) × (password ≡ bytes)
IsOldPassword bytes bad_data = NamesTarget bytes
IsOldPassword bytes bad_private = ⊥
