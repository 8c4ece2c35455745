-- For proofs alone: what the program has of a message while it is opened.
use Rattle.std.specs.Prelude.{◌≡◌, ℕ, ℤ, List, [], Option, Result}
use Rattle.std.specs.declared.net.ip_addr.IpAddr.{IpAddr}
use Rattle.krb_msgs.specs.declared.service_keys.ServiceKey.{ServiceKey}
use Rattle.krb_msgs.specs.declared.ap_exchange.ApOpened.{ApOpened}
use Rattle.krb_msgs.specs.declared.private_message.Private.{Private}
use Rattle.krb_msgs.specs.declared.private_message.Strictness.{Strictness}
use Rattle.krb_msgs.specs.declared.fault.PrivFault.{PrivFault}
use Rattle.krb_msgs.specs.PrivateMessages.{OpensPriv}
use Rattle.chpw_endpoints.specs.declared.endpoints.Endpoints.{Endpoints}
use Rattle.chpw_table.specs.declared.request.Target.{Target}
use Rattle.chpw_serve.specs.declared.messages.OpenResult as program
use Rattle.chpw_serve.specs.Requests.{Content, Opens, body_under, password_in}
use Rattle.chpw_serve.specs.Holding.{IsOpenResult}
use Rattle.chpw_messages.specs.declared.content.Content as held
use Rattle.chpw_messages.specs.Opening.{IsContent, OpensParts, OpensTo, stamp_in}
use Rattle.chpw_messages.specs.declared.versions.Acceptance.{Acceptance}
use Rattle.chpw_messages.specs.Versions.{OpensUnder}

-- this content and stamp, with no keys yet
abbrev pub IsHeld : Content → Option ℤ → held.Content → Type 0
IsHeld content stamp h =
    ((client : Target) → h.body ≡ body_under [] client content) × (h.password ≡ password_in content) × (h.stamp ≡ stamp)

-- a KRB-PRIV after this AP-REQ has it
abbrev pub HoldsContent : Strictness → IpAddr → List ℕ → ℕ → ApOpened → List ℕ → held.Content → Type 0
HoldsContent strictness local realm version a tail h =
    (private : Result Private PrivFault) × OpensPriv strictness local a.subkey a.seq_number tail private
    × ((content : Content) × IsContent realm version private content × IsHeld content (stamp_in private) h)

-- the program has what these parts open to
abbrev pub HoldsParts : Strictness → List ℕ → List ServiceKey → Endpoints → ℕ → List ℕ → List ℕ → program.OpenResult → Type 0
HoldsParts strictness realm keys ends version ap_req tail found =
    (o : Opens) × OpensParts strictness realm keys ends version ap_req tail o × IsOpenResult o found

-- the program has what a message opens to
abbrev pub HoldsMessage : Strictness → List ℕ → List ServiceKey → Endpoints → List ℕ → program.OpenResult → Type 0
HoldsMessage strictness realm keys ends bytes found = (o : Opens) × OpensTo strictness realm keys ends bytes o × IsOpenResult o found

-- likewise, with what the service accepts before
abbrev pub HoldsUnder : Acceptance → List ℕ → List ServiceKey → Endpoints → List ℕ → program.OpenResult → Type 0
HoldsUnder accepts realm keys ends bytes found = (o : Opens) × OpensUnder accepts realm keys ends bytes o × IsOpenResult o found
