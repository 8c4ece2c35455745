-- The addresses of a request's two ends.
use Rattle.std.specs.Prelude.{◌≡◌}
use Rattle.std.specs.declared.net.ip_addr.IpAddr.{IpAddr}
use Rattle.std.specs.declared.net.ip_addr.IpAddr.TheVariants.{V4}
use Rattle.std.specs.declared.net.socket_addr.SocketAddr.{SocketAddr}
use Rattle.std.specs.Net.Addr.{MatchIp, IsCanonicalOf}
use Rattle.std.specs.Net.Socket.{socket_ip}

-- the address of a host is that of its socket; an IPv4-mapped IPv6 address is its IPv4 address
abbrev pub IsHostOf : SocketAddr → IpAddr → Type 0
IsHostOf socket host = MatchIp (socket_ip socket) (λ ip. host ≡ V4 ip) (λ ip. IsCanonicalOf ip host)
