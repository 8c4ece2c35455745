-- Which datagrams are answered. One has a whole message (RFC 3244 section 2), without the length that it has over TCP.
use Rattle.std.specs.Prelude.{◌≡◌, ℕ, List, Bool, true, false, ◌&&◌, ◌||◌, ◌==◌, is_none}
use Rattle.std.specs.Str.{bytes_eq}
use Rattle.std.specs.Net.Addr.{ipv4_octets, ipv6_segments}
use Rattle.std.specs.declared.net.ip_addr.IpAddr.{IpAddr}
use Rattle.std.specs.declared.net.ip_addr.IpAddr.TheVariants.{V4, V6}
use Rattle.krb_codec.specs.Grammar.{Spells}
use Rattle.krb_der.specs.Types.{ap_req}
use Rattle.krb_der.specs.Values.{ap_req_value}
use Rattle.krb_der.specs.declared.ap_req.ApReq.{ApReq}
use Rattle.krb_msgs.specs.Presented.{IsForUs}
use Rattle.chpw_frame.specs.Framing.{ap_of, first_fault, request_versions}
use Rattle.chpw_connections.specs.declared.sender.Sender.{Sender}

-- the port of the service that changes passwords
abbrev pub kpasswd_port : ℕ
kpasswd_port = 464

abbrev pub is_same_address : IpAddr → IpAddr → Bool
is_same_address (V4 a) (V4 b) = bytes_eq (ipv4_octets a) (ipv4_octets b)
is_same_address (V6 a) (V6 b) = bytes_eq (ipv6_segments a) (ipv6_segments b)
is_same_address _ _ = false

abbrev pub is_same_sender : Sender → Sender → Bool
is_same_sender a b =
    is_same_address a.ends.peer b.ends.peer && (is_same_address a.ends.local b.ends.local && (a.port == b.port))

-- it was sent by a service, this one or another: two services would answer each other without end
abbrev pub is_from_service : ℕ → Sender → Bool
is_from_service own_port sender = (sender.port == kpasswd_port) || (sender.port == own_port)

-- a whole frame with an AP-REQ in it
abbrev pub is_request : List ℕ → Bool
is_request message = is_none (first_fault request_versions false message)

-- an AP-REQ in DER (RFC 4120 section 5.5.1) with a ticket for kadmin/changepw of this realm (RFC 3244 section 2): what
-- whoever asks for a change has to have from the KDC
pub record PresentsTicket (realm ap : List ℕ) : Type 0 where
  pub request : ApReq
  pub spelled : Spells ap_req ap (ap_req_value request)
  pub ours : IsForUs realm request.ticket

-- by a service of this realm, at this port
pub record IsAnswered (own_port : ℕ) (realm : List ℕ) (sender : Sender) (message : List ℕ) : Type 0 where
  pub client : is_from_service own_port sender ≡ false
  pub framed : is_request message ≡ true
  pub presents : PresentsTicket realm (ap_of message)
