-- Which messages of one kind have a line of their own: ten in any one second. The others are counted.
-- Times are microseconds.
use Rattle.std.specs.Prelude.{ℕ, ◌+◌, ◌-◌, nat_le, List, [], ◌∷◌, Bool, true, false, not, ◌==◌, ◌&&◌, ◌||◌, if◌then◌else◌, Option}
use Rattle.std.specs.Prelude.{Some, None, take, slice_index, bytes_eq}
use Rattle.std.specs.Net.Addr.{ipv4_octets, ipv6_segments}
use Rattle.std.specs.declared.net.ip_addr.IpAddr.{IpAddr}
use Rattle.std.specs.declared.net.ip_addr.IpAddr.TheVariants.{V4, V6}
use Rattle.chpw_log.specs.declared.held_count.HeldCount.{HeldCount}

-- a second or more lies between two times
abbrev pub is_apart : ℕ → ℕ → Bool
is_apart one other = nat_le 1000000 (one - other) || nat_le 1000000 (other - one)

-- ---- the lines

-- no line yet; otherwise when the last ten were, newest first
abbrev pub no_lines : List (Option ℕ)
no_lines = None ∷ None ∷ None ∷ None ∷ None ∷ None ∷ None ∷ None ∷ None ∷ None ∷ []

abbrev pub is_gone : ℕ → Option ℕ → Bool
is_gone now None = true
is_gone now (Some line) = is_apart now line

abbrev pub tenth : List (Option ℕ) → Option ℕ
tenth (a ∷ b ∷ c ∷ d ∷ e ∷ f ∷ g ∷ h ∷ i ∷ j ∷ more) = j
tenth lines = None

-- a line is allowed at this time: the tenth before it is a second away
abbrev pub is_free : ℕ → List (Option ℕ) → Bool
is_free now lines = is_gone now (tenth lines)

abbrev pub lines_after : ℕ → List (Option ℕ) → List (Option ℕ)
lines_after now lines = if is_free now lines then Some now ∷ take 9 lines else lines

-- ---- the others

-- how many from this machine, and how many from elsewhere; when the first came
abbrev pub none_held : HeldCount
none_held = record { loopback = 0; other = 0; since = 0 }

abbrev pub is_none_held : HeldCount → Bool
is_none_held h = (h.loopback == 0) && (h.other == 0)

-- 127.0.0.0/8, or ::1
abbrev pub is_loopback : IpAddr → Bool
is_loopback (V4 ip) = slice_index (ipv4_octets ip) 0 == 127
is_loopback (V6 ip) = bytes_eq (ipv6_segments ip) (0 ∷ 0 ∷ 0 ∷ 0 ∷ 0 ∷ 0 ∷ 0 ∷ 1 ∷ [])

abbrev pub first_of : ℕ → HeldCount → ℕ
first_of now h = if is_none_held h then now else h.since

abbrev pub one_more : ℕ → IpAddr → HeldCount → HeldCount
one_more now peer h =
    if is_loopback peer
    then record { loopback = h.loopback + 1; other = h.other; since = first_of now h }
    else record { loopback = h.loopback; other = h.other + 1; since = first_of now h }

-- a summary is due once the first is a second away, or when there are a million
abbrev pub is_due : ℕ → HeldCount → Bool
is_due now h = not (is_none_held h) && (is_apart now h.since || nat_le 1000000 (h.loopback + h.other))

abbrev pub told_at : ℕ → HeldCount → Option HeldCount
told_at now h = if is_due now h then Some h else None

-- at the end a summary is due if there are any
abbrev pub rest_of : HeldCount → Option HeldCount
rest_of h = if is_none_held h then None else Some h

abbrev pub left_at : ℕ → HeldCount → HeldCount
left_at now h = if is_due now h then none_held else h

-- the others with a message that came at this time from this peer, if it has no line
abbrev pub counted_after : ℕ → IpAddr → List (Option ℕ) → HeldCount → HeldCount
counted_after now peer lines h = if is_free now lines then h else one_more now peer h

-- the same, where a summary was due before it
abbrev pub held_after : ℕ → IpAddr → List (Option ℕ) → HeldCount → HeldCount
held_after now peer lines h = counted_after now peer lines (left_at now h)
