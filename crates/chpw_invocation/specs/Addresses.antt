-- The addresses that texts have, or why they are no list of addresses at which a service listens.
use Rattle.std.specs.Prelude.{◌≡◌, ◌≤◌, ◌⊎◌, List, [], ◌∷◌, ◌++◌, length}
use Rattle.std.specs.Net.Addr.{IsCanonicalOf, IsUnspecifiedV4, IsUnspecifiedV6, MatchIp}
use Rattle.std.specs.Net.Grammar.{IsIpText}
use Rattle.std.specs.declared.net.ip_addr.IpAddr.{IpAddr}
use Rattle.std.specs.declared.net.ip_addr.IpAddr.TheVariants.{V4, V6}
use Rattle.clap.specs.Walk.{Text}
use Rattle.chpw_invocation.specs.declared.refusing.Refusal.{Refusal}
use Rattle.chpw_invocation.specs.declared.refusing.Refusal.TheVariants.{ManyAddresses, NoAddress, SameAddress}

-- 127.0.0.1
abbrev pub loopback : IpAddr
loopback = V4 (record { octets = 127 ∷ 0 ∷ 0 ∷ 1 ∷ [] })

-- a text has this address; that of an IPv4-mapped IPv6 address is the IPv4 address
abbrev pub HasAddress : Text → IpAddr → Type 0
HasAddress text address =
    (a : IpAddr) × IsIpText text a × MatchIp a (λ ip. address ≡ V4 ip) (λ ip. IsCanonicalOf ip address)

abbrev pub NamesNoAddress : Text → Type 0
NamesNoAddress text = (a : IpAddr) → ¬ (IsIpText text a)

-- texts have these addresses, in their order
abbrev pub AreAddresses : List Text → List IpAddr → Type 0
AreAddresses [] [] = Unit {0}
AreAddresses [] (address ∷ more) = ⊥
AreAddresses (text ∷ texts) [] = ⊥
AreAddresses (text ∷ texts) (address ∷ more) = HasAddress text address × AreAddresses texts more

-- no two are the same
abbrev pub IsAmong : IpAddr → List IpAddr → Type 0
IsAmong address [] = ⊥
IsAmong address (other ∷ more) = (address ≡ other) ⊎ IsAmong address more

abbrev pub AreApart : List IpAddr → Type 0
AreApart [] = Unit {0}
AreApart (address ∷ more) = ¬ (IsAmong address more) × AreApart more

-- texts have these addresses, each another one, and they are at most 64
abbrev pub AreListed : List Text → List IpAddr → Type 0
AreListed texts addresses = AreAddresses texts addresses × AreApart addresses × (length addresses ≤ 64)

-- it listens at what is given, and at 127.0.0.1 where nothing is
abbrev pub IsListening : List Text → List IpAddr → Type 0
IsListening [] addresses = addresses ≡ loopback ∷ []
IsListening (text ∷ texts) addresses = AreListed (text ∷ texts) addresses

-- a text's address, which isn't one of these, is added to them
abbrev pub IsOneMore : List IpAddr → Text → List IpAddr → Type 0
IsOneMore others text addresses = (address : IpAddr) × HasAddress text address × (addresses ≡ others ++ address ∷ [])
    × ¬ (IsAmong address others) × (length addresses ≤ 64)

-- an address isn't taken after these: it is one of them; otherwise they are 64
abbrev pub RefusesAddress : List IpAddr → IpAddr → Refusal → Type 0
RefusesAddress others address refusal =
    ((refusal ≡ SameAddress) × IsAmong address others)
    ⊎ ((refusal ≡ ManyAddresses) × (length others ≡ 64) × ¬ (IsAmong address others))

-- a text isn't taken after these addresses: it has none; otherwise its address isn't taken
abbrev pub RefusesText : List IpAddr → Text → Refusal → Type 0
RefusesText others text refusal = ((refusal ≡ NoAddress) × NamesNoAddress text)
    ⊎ ((address : IpAddr) × HasAddress text address × RefusesAddress others address refusal)

-- Why texts are no list of addresses: for the first of them that isn't taken after those before it.
abbrev pub IsNoList : List Text → Refusal → Type 0
IsNoList texts refusal = (before : List Text) × (text : Text) × (after : List Text) × (others : List IpAddr)
    × (texts ≡ before ++ text ∷ after) × AreListed before others × RefusesText others text refusal

-- 0.0.0.0 or ::, all addresses of this host; a datagram that is taken there doesn't tell at which of them it came
abbrev pub IsWildcard : IpAddr → Type 0
IsWildcard address = MatchIp address IsUnspecifiedV4 IsUnspecifiedV6

abbrev pub HasWildcard : List IpAddr → Type 0
HasWildcard [] = ⊥
HasWildcard (address ∷ more) = IsWildcard address ⊎ HasWildcard more
