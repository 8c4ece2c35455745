-- Whether ticket and authenticator belong together, and come from the client's address (RFC 4120 section 3.2.3).
use Rattle.std.specs.Prelude.{◌≡◌, ◌==◌, ◌||◌, Bool, true, List, length, Option, Some, None, Result}
use Rattle.std.specs.List.{list_any}
use Rattle.std.specs.declared.net.ip_addr.IpAddr.{IpAddr}
use Rattle.krb_keys.specs.declared.key.Key.{Key}
use Rattle.krb_der.specs.declared.encrypted_data.EncryptionKey.{EncryptionKey}
use Rattle.krb_der.specs.declared.enc_ticket_part.EncTicketPart.{EncTicketPart}
use Rattle.krb_der.specs.declared.authenticator.Authenticator.{Authenticator}
use Rattle.krb_der.specs.declared.host_address.HostAddress.{HostAddress}
use Rattle.krb_codec.specs.declared.kerberos_time.KerberosTime.{KerberosTime}
use Rattle.krb_msgs.specs.Addresses.{is_host}
use Rattle.krb_msgs.specs.Checks.{Held, Found, Passed}
use Rattle.krb_msgs.specs.Tickets.{IsKeyIn}
use Rattle.krb_msgs.specs.declared.ap_exchange.ApOpened.{ApOpened}
use Rattle.krb_msgs.specs.declared.fault.ApFault.{ApFault}
use Rattle.krb_msgs.specs.declared.fault.ApFault.TheVariants as fault

-- the same client: realm and components, whatever the name-types
abbrev pub IsSameClient : EncTicketPart → Authenticator → Type 0
IsSameClient part a = (part.crealm ≡ a.crealm) × (part.cname.name_string ≡ a.cname.name_string)

-- there are no addresses, or the peer's is among them
abbrev pub may_come_from : IpAddr → Option (List HostAddress) → Bool
may_come_from peer None = true
may_come_from peer (Some addresses) = (length addresses == 0) || list_any (is_host peer) addresses

abbrev pub MayComeFrom : IpAddr → Option (List HostAddress) → Type 0
MayComeFrom peer addresses = may_come_from peer addresses ≡ true

abbrev pub IsSubkey : Option EncryptionKey → Key → Type 0
IsSubkey None key = ⊥
IsSubkey (Some field) key = IsKeyIn field key

-- starttime, or if that is absent authtime
abbrev pub starts_at : EncTicketPart → KerberosTime
starts_at part = elim part.starttime [ None ↦ part.authtime | Some t ↦ t ]

abbrev pub opened_of : EncTicketPart → Key → Authenticator → Key → ApOpened
opened_of part session a subkey = record {
  crealm = part.crealm;
  cname = part.cname;
  flags = part.flags;
  starts = starts_at part;
  ends = part.endtime;
  ctime = a.ctime;
  cusec = a.cusec;
  session = session;
  subkey = subkey;
  seq_number = a.seq_number;
}

unfoldable pub Accepts : IpAddr → EncTicketPart → Key → Authenticator
    → Result ApOpened ApFault → Type 0
Accepts peer part session a =
    Held (IsSameClient part a) fault.ClientMismatch (
    Held (MayComeFrom peer part.caddr) fault.WrongAddress (
    Found (IsSubkey a.subkey) fault.NoSubkey (λ subkey.
    Passed (opened_of part session a subkey))))
