-- Addresses that can't be listened at together.
use Rattle.std.specs.Prelude.{◌≡◌, ◌≢◌}
use Rattle.std.specs.Net.Addr.{IsUnspecifiedV4, IsUnspecifiedV6}
use Rattle.std.specs.declared.net.ip_addr.IpAddr.{IpAddr}
use Rattle.std.specs.declared.net.ip_addr.IpAddr.TheVariants.{V4, V6}

-- an address is a wildcard that takes what comes to another one, too: that of IPv6 at any, that of IPv4 at those of IPv4
abbrev pub IsWildcardFor : IpAddr → IpAddr → Type 0
IsWildcardFor (V4 ip) (V4 other) = IsUnspecifiedV4 ip
IsWildcardFor (V4 ip) (V6 other) = ⊥
IsWildcardFor (V6 ip) other = IsUnspecifiedV6 ip

unfoldable pub Takes : IpAddr → IpAddr → Type 0
Takes wildcard other = (wildcard ≢ other) × IsWildcardFor wildcard other
