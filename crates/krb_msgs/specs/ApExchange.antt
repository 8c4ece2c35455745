-- What an AP-REQ opens to (RFC 4120 section 3.2.3): the checks of its four parts in their order.
use Rattle.std.specs.Prelude.{ℕ, List, Result}
use Rattle.std.specs.declared.net.ip_addr.IpAddr.{IpAddr}
use Rattle.krb_msgs.specs.Checks.{Then}
use Rattle.krb_msgs.specs.Presented.{Presents}
use Rattle.krb_msgs.specs.Tickets.{OpensTicket}
use Rattle.krb_msgs.specs.Authenticators.{OpensAuthenticator}
use Rattle.krb_msgs.specs.Accepted.{Accepts}
use Rattle.krb_msgs.specs.declared.service_keys.ServiceKey.{ServiceKey}
use Rattle.krb_msgs.specs.declared.ap_exchange.ApOpened.{ApOpened}
use Rattle.krb_msgs.specs.declared.fault.ApFault.{ApFault}

-- arguments: realm, its service keys, the bytes of the AP-REQ, the peer's address
unfoldable pub OpensAp : (realm : List ℕ) → List ServiceKey → (bytes : List ℕ) → IpAddr
    → Result ApOpened ApFault → Type 0
OpensAp realm keys bytes peer =
    Then (Presents realm keys bytes) (λ presented.
    Then (OpensTicket presented.1 presented.0.ticket.enc_part) (λ ticket.
    Then (OpensAuthenticator ticket.1 presented.0.authenticator) (λ a.
    Accepts peer ticket.0 ticket.1 a)))
