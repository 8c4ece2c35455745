-- What is made of a request opens to it.
use Rattle.std.proofs.Common.{ℕ, List, Bool, true, false, Option, Ok, refl, sym, ap, subst}
use Rattle.krb_codec.proofs.TextLemmas.{text_spells}
use Rattle.krb_der.specs.Types.{change_passwd_data}
use Rattle.krb_msgs.specs.Accepted.{opened_of}
use Rattle.krb_msgs.specs.PrivateMessages.{private_of}
use Rattle.krb_msgs.proofs.OpeningLemmas.{ap_reqs_open, privs_open}
use Rattle.chpw_frame.specs.declared.fault.FrameFault.{FrameFault}
use Rattle.chpw_frame.specs.Framing.{ap_of, framed, old_request_version, request_versions, tail_of}
use Rattle.chpw_frame.specs.declared.change_data.ChangeData.{ChangeData}
use Rattle.chpw_frame.specs.ChangeData.{IsChange, change_value}
use Rattle.chpw_frame.proofs.FramingLemmas.{framed_is_whole}
use Rattle.chpw_serve.specs.Requests.{new_password}
use Rattle.chpw_messages.specs.Opening.{IsUserData, OpensFramed, OpensParts, target_in}
use Rattle.std.specs.Prelude.{option_map, ◌==◌}
use Rattle.chpw_messages.specs.Laws.{FramesOpen, PartsOpen, SaysChange}

-- user-data that asks for a change is read as that change
change_said : (realm : List ℕ) (is_old : Bool) (bytes : List ℕ) (change : ChangeData) → SaysChange is_old bytes change
    → IsUserData is_old realm bytes (new_password (option_map (target_in realm) change.target) change.password)
change_said realm true bytes change says = (says.2, ap (option_map (target_in realm)) says.0, sym says.1)
change_said realm false bytes change says =
    let spelled = text_spells change_passwd_data refl (change_value change) says.0 in
    (change, subst (λ (b : List ℕ). IsChange b change) (sym says.1) spelled, refl, refl)

pub parts_open : PartsOpen
parts_open strictness version realm keys ends request ticket a session subkey m part change first second = (
  Ok (opened_of ticket session a subkey),
  ap_reqs_open realm keys ends.peer request ticket a session subkey first,
  (
    Ok (private_of part),
    privs_open strictness ends.local subkey a.seq_number m part second.private second.follows second.strict,
    (
      new_password (option_map (target_in realm) change.target) change.password,
      change_said realm (version == old_request_version) part.user_data change second.user_data,
      refl,
    ),
  ),
)

pub frames_open : FramesOpen
frames_open strictness version realm keys ends front tail o taken below some le h =
    let bytes : List ℕ = framed version front tail in
    let whole = framed_is_whole request_versions false version front tail taken below (λ _. some) le in
    subst (λ (f : Option FrameFault). OpensFramed strictness realm keys ends bytes f o) (sym whole.0)
    (subst (λ (v : ℕ). OpensParts strictness realm keys ends v (ap_of bytes) (tail_of bytes) o) (sym whole.1)
    (subst (λ (b : List ℕ). OpensParts strictness realm keys ends version b (tail_of bytes) o) (sym whole.2)
    (subst (λ (b : List ℕ). OpensParts strictness realm keys ends version front b o) (sym whole.3) h)))
