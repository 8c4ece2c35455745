-- The datagram that is sent, and how long it may take.
use Rattle.std.specs.Prelude.{ℕ, List, Option, option_map, replicate}
use Rattle.std.specs.Int.{w64, to_le_bytes}
use Rattle.chpw_host.specs.SocketAddresses.{address_of, put}
use Rattle.chpw_host.specs.declared.notification.Datagram.{Datagram}

-- the address's bytes, how many of them count, and the text's bytes
abbrev pub view : Datagram → (List ℕ × ℕ) × List ℕ
view datagram = ((datagram.address.raw, datagram.address.length), datagram.text.now)

-- the text to the address of this name
abbrev pub datagram_of : List ℕ → List ℕ → Option ((List ℕ × ℕ) × List ℕ)
datagram_of name text = option_map (λ address. (address, text)) (address_of name)

-- C's `timeval` of whole seconds (sys/time.h): the seconds in the machine's order, and no microseconds
abbrev pub timeval : ℕ → List ℕ
timeval seconds = put (replicate 16 0) 0 (to_le_bytes w64 seconds)
