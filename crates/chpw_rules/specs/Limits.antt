-- The limits of a configuration, each a range of numbers.
use Rattle.std.specs.Prelude.{ℕ, Bool, ◌&&◌, ◌==◌, nat_le, if◌then◌else◌}
use Rattle.chpw_rules.specs.declared.limits.Limits.{Limits}

-- the numbers from `low` to `high`, both included
abbrev pub range : ℕ → ℕ → Limits
range low high = record { low = low; high = high }

abbrev pub is_in : Limits → ℕ → Bool
is_in limits number = nat_le limits.low number && nat_le number limits.high

-- the bytes of a realm
abbrev pub realm_lengths : Limits
realm_lengths = range 1 255

-- the events that a history may have; the upper limit is the default
abbrev pub entry_counts : Limits
entry_counts = range 1 1048576

-- key version numbers (UInt32 of RFC 4120 section 5.2.4, from 1)
abbrev pub kvnos : Limits
kvnos = range 1 4294967295

-- iteration counts of PBKDF2 in string-to-key (RFC 3962 section 4)
abbrev pub iteration_counts : Limits
iteration_counts = range 1 16777216

-- the bytes that a policy may ask of a password
abbrev pub min_lengths : Limits
min_lengths = range 0 1024

-- the character classes that a policy may ask of a password
abbrev pub min_class_counts : Limits
min_class_counts = range 0 5

-- the old keys that a policy compares a new password with
abbrev pub depths : Limits
depths = range 0 16

-- the encryption types of RFC 3962: 17 is aes128-cts-hmac-sha1-96, 18 aes256-cts-hmac-sha1-96
abbrev pub etypes : Limits
etypes = range 17 18

-- the bytes of a key of encryption type 17, and of one of 18
abbrev pub aes128_length : ℕ
aes128_length = 16

abbrev pub aes256_length : ℕ
aes256_length = 32

abbrev pub key_length : ℕ → ℕ
key_length etype = if etype == etypes.low then aes128_length else aes256_length

-- how many service keys a file has
abbrev pub service_key_counts : Limits
service_key_counts = range 1 16

-- how many keys a principal has
abbrev pub key_counts : Limits
key_counts = range 1 16

-- how many rules, and how many principals
abbrev pub rule_counts : Limits
rule_counts = range 0 10000

abbrev pub principal_counts : Limits
principal_counts = range 0 10000

-- the components of a name, and the bytes of each
abbrev pub component_counts : Limits
component_counts = range 1 8

abbrev pub component_lengths : Limits
component_lengths = range 1 128

-- the patterns of a list of `[kdc]`, and the bytes of each
abbrev pub pattern_counts : Limits
pattern_counts = range 0 64

abbrev pub pattern_lengths : Limits
pattern_lengths = range 1 255
