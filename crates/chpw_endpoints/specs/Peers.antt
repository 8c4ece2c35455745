-- Whose share of the connections one counts in.
use Rattle.std.specs.Prelude.{◌≡◌, ◌/◌, ◌^◌, ◌==◌, ◌⊎◌, Bool, false, Option, MatchOption}
use Rattle.std.specs.Net.Addr.{MatchIp, IsLoopbackV4, IsLoopbackV6, ipv4_bits, ipv6_bits}
use Rattle.std.specs.declared.net.ip_addr.IpAddr.{IpAddr}
use Rattle.std.specs.declared.net.ip_addr.IpAddr.TheVariants.{V4, V6}
use Rattle.chpw_endpoints.specs.declared.endpoints.Endpoints.{Endpoints}
use Rattle.chpw_endpoints.specs.declared.peer.Peer.{Peer}
use Rattle.chpw_endpoints.specs.declared.peer.Peer.TheVariants.{Host, Network}

-- the peer of an address: of IPv4 the host, and of IPv6 the network of all addresses with the same first 64 bits
abbrev pub peer_of : IpAddr → Peer
peer_of (V4 ip) = Host (ipv4_bits ip)
peer_of (V6 ip) = Network (ipv6_bits ip / 2 ^ 64)

-- the same one
unfoldable pub is_peer : Peer → Peer → Bool
is_peer (Host a) (Host b) = a == b
is_peer (Network a) (Network b) = a == b
is_peer (Host a) (Network b) = false
is_peer (Network a) (Host b) = false

-- This host itself is the peer: its address is a loopback address, or the very address that the request was sent to. A
-- connection to one of the host's own addresses comes from that address.
abbrev pub IsOwn : Endpoints → Type 0
IsOwn e = MatchIp e.peer IsLoopbackV4 IsLoopbackV6 ⊎ (e.peer ≡ e.local)

-- in whose share a connection between these counts: in its peer's, and in none if that is this host itself
abbrev pub IsShareOf : Endpoints → Option Peer → Type 0
IsShareOf e share = MatchOption share (IsOwn e) (λ peer. (peer ≡ peer_of e.peer) × ¬ (IsOwn e))
