-- The contents of an authenticator (RFC 4120 section 5.5.1), sealed under the session key.
use Rattle.std.specs.Prelude.{◌≡◌, Result}
use Rattle.krb_keys.specs.declared.key.Key.{Key}
use Rattle.krb_keys.specs.KeyUsages.{usage_ap_req_authenticator}
use Rattle.krb_protocol.specs.Numbers as protocol
use Rattle.krb_der.specs.Types.{authenticator}
use Rattle.krb_der.specs.Values.{authenticator_value}
use Rattle.krb_der.specs.declared.encrypted_data.EncryptedData.{EncryptedData}
use Rattle.krb_der.specs.declared.authenticator.Authenticator.{Authenticator}
use Rattle.krb_msgs.specs.Checks.{Held, Then, Passed}
use Rattle.krb_msgs.specs.Parts.{OpensPart}
use Rattle.krb_msgs.specs.declared.fault.ApFault.{ApFault}
use Rattle.krb_msgs.specs.declared.fault.ApFault.TheVariants as fault

unfoldable pub OpensAuthenticator : Key → EncryptedData → Result Authenticator ApFault → Type 0
OpensAuthenticator session sealed =
    Then (OpensPart authenticator authenticator_value session usage_ap_req_authenticator sealed
    fault.BadAuthenticator fault.BadAuthenticator) (λ (a : Authenticator).
    Held (a.authenticator_vno ≡ protocol.pvno) fault.BadAuthenticator (
    Passed a))
