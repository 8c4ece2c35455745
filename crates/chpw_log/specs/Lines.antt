-- A line of the log: one record for one message, its fields in a fixed order with a space between any two. A field has
-- no space, except the last one, the reply's text. `-` stands for what is absent.
use Rattle.std.specs.Prelude.{◌≡◌, ℕ, ℤ, Bool, true, false, ◌&&◌, List, [], ◌∷◌, ◌++◌, map, codes, Option, Some, None}
use Rattle.std.specs.List.{join_with_byte}
use Rattle.std.specs.Option.{option_map, option_map_or}
use Rattle.std.specs.Fmt.{decimal, signed_decimal}
use Rattle.std.specs.Net.Addr.{ipv4_octets, ipv6_segments}
use Rattle.std.specs.Net.Text.{ipv6_text}
use Rattle.std.specs.declared.net.ip_addr.IpAddr.{IpAddr}
use Rattle.std.specs.declared.net.ip_addr.IpAddr.TheVariants.{V4, V6}
use Rattle.chpw_printing.specs.Quoting.{are_printed, is_field, principal_text, quoted, words_text}
use Rattle.chpw_table.specs.declared.request.Body.{Body}
use Rattle.chpw_table.specs.declared.request.Body.TheVariants.{Ask, BadPrivate, BadData}
use Rattle.chpw_table.specs.declared.request.Opened.{Opened}
use Rattle.chpw_table.specs.declared.request.Target.{Target}
use Rattle.chpw_table.specs.declared.times.Moment.{Moment}
use Rattle.chpw_table.specs.Requests.{client_of, named_or}
use Rattle.chpw_table.specs.Replies.{Answer, answer_of}
use Rattle.krb_protocol.specs.declared.refusal.Refusal.{Refusal}
use Rattle.chpw_log.specs.declared.line.Line.{Line}
use Rattle.chpw_log.specs.declared.message_event.ClientAndTarget.{ClientAndTarget}
use Rattle.chpw_log.specs.declared.message_event.MessageEvent.{MessageEvent}
use Rattle.chpw_log.specs.declared.message_event.MessageEvent.TheVariants.{Decided, Full, Unopened}
use Rattle.chpw_log.specs.declared.message_event.Party.{Party}
use Rattle.chpw_log.specs.Moments.{moment_text}

-- ---- whom a request names

abbrev pub named : Party → Target
named p = record { realm = p.realm.now; name = p.name.now }

-- whose password is to be changed: nobody's, if the KRB-PRIV is bad
abbrev pub body_asked : Body → Target → Option Target
body_asked (Ask target digest) client = Some (named_or target client)
body_asked BadPrivate client = None
body_asked BadData client = None

abbrev pub target_asked : Opened → Option Target
target_asked o = body_asked o.body (client_of o)

-- ---- the result of a message

-- client and target, the reply's result code, error code and text, and the new key's version
pub record Outcome : Type 0 where
  pub client : Option Target
  pub target : Option Target
  pub code : ℕ
  pub error : Option ℤ
  pub kvno : Option ℕ
  pub text : List ℕ

abbrev pub decided : ClientAndTarget → Answer → Option ℕ → Outcome
decided asked answer kvno = record {
  client = Some (named asked.client);
  target = option_map named asked.target;
  code = answer.code;
  error = answer.error;
  kvno = kvno;
  text = answer.text;
}

abbrev pub refused : Option Target → Option Target → Refusal → Outcome
refused client target refusal = record {
  client = client;
  target = target;
  code = refusal.code;
  error = Some refusal.error;
  kvno = None;
  text = refusal.text.now;
}

abbrev pub outcome_of : MessageEvent → Outcome
outcome_of (Decided asked verdict kvno) = decided asked (answer_of verdict) kvno
outcome_of (Full asked refusal) =
    refused (Some (named asked.client)) (option_map named asked.target) refusal.now
outcome_of (Unopened refusal) = refused None None refusal.now

-- ---- the fields

abbrev pub or_dash : {A : Type 0} → (A → List ℕ) → Option A → List ℕ
or_dash text found = option_map_or text found (codes "-")

abbrev pub party_text : Target → List ℕ
party_text p = principal_text p.realm p.name

-- four decimal numbers with `.` between them
abbrev pub dotted : List ℕ → List ℕ
dotted octets = join_with_byte 46 (map decimal octets)

-- an IPv6 address has the text of RFC 5952, of which nothing is quoted
abbrev pub address_text : IpAddr → List ℕ
address_text (V4 ip) = dotted (ipv4_octets ip)
address_text (V6 ip) = quoted (ipv6_text (ipv6_segments ip))

abbrev pub outcome_fields : Outcome → List (List ℕ)
outcome_fields o =
    codes "client" ∷ or_dash party_text o.client
    ∷ codes "target" ∷ or_dash party_text o.target
    ∷ codes "code" ∷ decimal o.code
    ∷ codes "error" ∷ or_dash signed_decimal o.error
    ∷ codes "kvno" ∷ or_dash decimal o.kvno
    ∷ codes "text" ∷ words_text o.text ∷ []

-- of a message that this worker answered, from this peer and at this moment
abbrev pub fields_with : Moment → ℕ → IpAddr → Outcome → List (List ℕ)
fields_with moment worker peer outcome =
    moment_text moment
    ∷ codes "worker" ∷ decimal worker
    ∷ codes "peer" ∷ address_text peer
    ∷ outcome_fields outcome

abbrev pub line_with : Moment → ℕ → IpAddr → Outcome → List ℕ
line_with moment worker peer outcome = join_with_byte 32 (fields_with moment worker peer outcome) ++ codes "\n"

abbrev pub fields_of : Line → List (List ℕ)
fields_of l = fields_with l.moment l.worker l.peer (outcome_of l.news)

abbrev pub line_of : Line → List ℕ
line_of l = line_with l.moment l.worker l.peer (outcome_of l.news)

-- ---- what a line is

-- fields that can be between two spaces, and a last one that may have spaces; all of printable ASCII
abbrev pub are_fields : List (List ℕ) → Bool
are_fields [] = false
are_fields (text ∷ []) = are_printed text
are_fields (field ∷ next ∷ more) = is_field field && are_fields (next ∷ more)

-- printable ASCII and then a newline, the only one
abbrev pub IsRecord : List ℕ → Type 0
IsRecord line = (text : List ℕ) × (line ≡ text ++ codes "\n") × (are_printed text ≡ true)
