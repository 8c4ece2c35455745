-- The addresses at which a service listens.
use Rattle.std.specs.Prelude.{List, take}
use Rattle.std.specs.declared.net.ip_addr.IpAddr.{IpAddr}
use Rattle.chpw_invocation.specs.declared.listening.ListenAddresses.{ListenAddresses}

-- in the order in which they are given
abbrev pub listened : ListenAddresses → List IpAddr
listened l = take l.count l.addresses
