-- How many of the connections' places datagrams hold, and connections over TCP, and how many they may.
use Rattle.std.specs.Prelude.{ℕ, ◌-◌, ◌/◌, List, Option, Some, None, Bool, max, nat_lt, sum_by, length, if◌then◌else◌}
use Rattle.chpw_sockets.specs.declared.sockets.Transport.{Transport}
use Rattle.chpw_sockets.specs.declared.sockets.Transport.TheVariants.{Datagram, Stream}

abbrev pub one_datagram : {S : Type 0} → Option (Transport S) → ℕ
one_datagram None = 0
one_datagram (Some (Datagram d)) = 1
one_datagram (Some (Stream s)) = 0

abbrev pub one_stream : {S : Type 0} → Option (Transport S) → ℕ
one_stream None = 0
one_stream (Some (Datagram d)) = 0
one_stream (Some (Stream s)) = 1

abbrev pub datagrams_in : {S : Type 0} → List (Option (Transport S)) → ℕ
datagrams_in places = sum_by one_datagram places

abbrev pub streams_in : {S : Type 0} → List (Option (Transport S)) → ℕ
streams_in places = sum_by one_stream places

-- datagrams hold at most half of so many places, but one may always
abbrev pub most_datagrams : ℕ → ℕ
most_datagrams places = max 1 (places / 2)

-- an eighth of the places is for datagrams alone, at least one of two or more
abbrev pub kept_for_datagrams : ℕ → ℕ
kept_for_datagrams places = if nat_lt places 2 then 0 else max 1 (places / 8)

-- connections over TCP hold at most the others, or all if there is no socket for datagrams
abbrev pub most_streams : Bool → ℕ → ℕ
most_streams has_datagrams places = if has_datagrams then places - kept_for_datagrams places else places

-- one more datagram may have a place
abbrev pub may_place_datagram : {S : Type 0} → List (Option (Transport S)) → Bool
may_place_datagram places = nat_lt (datagrams_in places) (most_datagrams (length places))

-- one more connection over TCP may
abbrev pub may_place_stream : {S : Type 0} → Bool → List (Option (Transport S)) → Bool
may_place_stream has_datagrams places = nat_lt (streams_in places) (most_streams has_datagrams (length places))
