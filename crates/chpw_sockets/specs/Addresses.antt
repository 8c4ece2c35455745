-- Where datagrams come from, and where replies go.
use Rattle.std.specs.Prelude.{◌≡◌}
use Rattle.std.specs.Net.Socket.{socket_ip, socket_port}
use Rattle.std.specs.declared.net.ip_addr.IpAddr.{IpAddr}
use Rattle.std.specs.declared.net.socket_addr.SocketAddr.{SocketAddr}
use Rattle.chpw_connections.specs.declared.sender.Sender.{Sender}

-- the sender at an address, who sent to this one of the service
abbrev pub sender_in : IpAddr → SocketAddr → Sender
sender_in local from = record { ends = record { peer = socket_ip from; local = local }; port = socket_port from }

-- the address of a sender
abbrev pub IsAddressOf : Sender → SocketAddr → Type 0
IsAddressOf sender to = (socket_ip to ≡ sender.ends.peer) × (socket_port to ≡ sender.port)
