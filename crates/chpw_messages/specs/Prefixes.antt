-- A message that is cut short, its length set to what is left (RFC 3244 section 2), is no other request.
use Rattle.std.specs.Prelude.{◌≡◌, ◌≤◌, ◌<◌, ◌+◌, ℕ, List, ◌++◌, length, take, drop, None, nat_lt, if◌then◌else◌}
use Rattle.std.specs.Int.{to_be_bytes, w16}
use Rattle.krb_codec.specs.Grammar.{Spells}
use Rattle.krb_der.specs.Types.{krb_priv}
use Rattle.krb_der.specs.Values.{krb_priv_value}
use Rattle.krb_der.specs.declared.krb_priv.KrbPriv.{KrbPriv}
use Rattle.krb_msgs.specs.declared.service_keys.ServiceKey.{ServiceKey}
use Rattle.krb_msgs.specs.declared.private_message.Strictness.{Strictness}
use Rattle.chpw_endpoints.specs.declared.endpoints.Endpoints.{Endpoints}
use Rattle.chpw_frame.specs.Faults.{refusal_of}
use Rattle.chpw_frame.specs.Framing.{ap_length_of, header_length, tail_of}
use Rattle.chpw_frame.specs.Stream.{longest}
use Rattle.chpw_frame.specs.declared.fault.FrameFault.TheVariants.{BadLength, BadParts}
use Rattle.chpw_serve.specs.Requests.{Opens, Request, bad_data, opened}
use Rattle.chpw_messages.specs.Opening.{OpensTo, refused_by}

-- its first n bytes, with n as message length
abbrev pub shortened : ℕ → List ℕ → List ℕ
shortened n bytes = take n (to_be_bytes w16 n ++ drop 2 bytes)

-- what they open to: too short for a header, too short for the AP-REQ, or the same request with bad
-- data and no stamp
abbrev pub cut_short : ℕ → List ℕ → Request → Opens
cut_short n bytes q =
    if nat_lt n header_length then refused_by (refusal_of BadLength)
    else if nat_lt n (header_length + ap_length_of bytes) then refused_by (refusal_of BadParts)
    else opened (record q { stamp = None; content = bad_data })

-- of a request whose tail is a KRB-PRIV, whatever that opens to, each proper prefix
abbrev pub PrefixesOpen : Type 0
PrefixesOpen = (strictness : Strictness) (realm : List ℕ) (keys : List ServiceKey) (ends : Endpoints) (bytes : List ℕ) (q : Request) (m : KrbPriv) (n : ℕ)
    → OpensTo strictness realm keys ends bytes (opened q) → Spells krb_priv (tail_of bytes) (krb_priv_value m)
    → length bytes ≤ longest → n < length bytes
    → OpensTo strictness realm keys ends (shortened n bytes) (cut_short n bytes q)

-- the tail of a request is a KRB-PRIV, unless the request is bad data
abbrev pub KrbPrivsFollow : Type 0
KrbPrivsFollow = (strictness : Strictness) (realm : List ℕ) (keys : List ServiceKey) (ends : Endpoints) (bytes : List ℕ) (q : Request)
    → OpensTo strictness realm keys ends bytes (opened q) → (q.content ≡ bad_data → ⊥)
    → (m : KrbPriv) × Spells krb_priv (tail_of bytes) (krb_priv_value m)
