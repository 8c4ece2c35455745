-- Addresses of hosts (RFC 4120 section 7.5.3).
use Rattle.std.specs.Prelude.{ℕ, ℤ, Bool, ◌&&◌, List, bytes_eq}
use Rattle.std.specs.Ordering.{int_eq}
use Rattle.std.specs.Net.Addr.{ipv4_octets, ipv6_octets}
use Rattle.std.specs.declared.net.ip_addr.IpAddr.{IpAddr}
use Rattle.std.specs.declared.net.ip_addr.IpAddr.TheVariants.{V4, V6}
use Rattle.krb_protocol.specs.Numbers.{addr_type_ipv4, addr_type_ipv6}
use Rattle.krb_der.specs.declared.host_address.HostAddress.{HostAddress}

abbrev pub type_of : IpAddr → ℤ
type_of (V4 ip) = addr_type_ipv4
type_of (V6 ip) = addr_type_ipv6

-- high byte first: four bytes, or sixteen
abbrev pub octets_of : IpAddr → List ℕ
octets_of (V4 ip) = ipv4_octets ip
octets_of (V6 ip) = ipv6_octets ip

abbrev pub host_address : IpAddr → HostAddress
host_address host = record { addr_type = type_of host; address = octets_of host }

abbrev pub is_address : ℤ → List ℕ → HostAddress → Bool
is_address addr_type octets address = int_eq address.addr_type addr_type && bytes_eq address.address octets

-- an address is this host's
abbrev pub is_host : IpAddr → HostAddress → Bool
is_host host address = is_address (type_of host) (octets_of host) address
