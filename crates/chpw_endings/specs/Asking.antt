-- What `client` sends for its options, and which of its endings report what the service said.
use Rattle.std.specs.Prelude.{◌≡◌, ◌<◌, ℕ, not, true, List, Option, Some, None, option_map}
use Rattle.chpw_commands.specs.declared.drill.DrillFault.TheVariants.{Memory}
use Rattle.chpw_rules.specs.declared.config.Config.{Config}
use Rattle.chpw_rules.specs.declared.name.Name.{Name}
use Rattle.chpw_rules.specs.Fitting.{config_fits}
use Rattle.chpw_rules.specs.Names.{name_of}
use Rattle.chpw_client.specs.Configured.{IsFirstKey}
use Rattle.chpw_client.specs.Lines.{IsLine}
use Rattle.chpw_client.specs.Questions.{Question}
use Rattle.chpw_client.specs.Requests.{IsRequest}
use Rattle.chpw_client.specs.declared.request.SentRequest.{SentRequest}
use Rattle.chpw_invocation.specs.declared.invocation.ClientOptions.{ClientOptions}
use Rattle.chpw_endings.specs.NewPasswords.{IsPassword}
use Rattle.chpw_endings.specs.declared.ending.Ending.{Ending}
use Rattle.chpw_endings.specs.declared.ending.Ending.TheVariants.{Good, Refused, Unanswered, Early, BadArgument}

-- the name of a text, if there is one
abbrev pub Names : Option (List ℕ) → Option Name → Type 0
Names None None = Unit {0}
Names (Some text) (Some name) = name_of text ≡ Some name
Names _ _ = ⊥

-- the client, the target and the password of the options, at some moment, in the realm of a configuration
-- that fits and under its first service key
pub record IsAsked (options : ClientOptions) (q : Question) : Type 0 where
  pub config : Config
  pub fits : config_fits config ≡ true
  pub realm : q.realm ≡ config.realm
  pub service : IsFirstKey config.service q.service
  pub client : name_of options.client.now ≡ Some q.client
  pub password : IsPassword options.password q.password
  pub target : Names (option_map (λ t. t.now) options.target) q.target
  pub initial : q.initial ≡ not options.no_initial
  pub old : q.old ≡ options.old

-- a request for that, of some words
abbrev pub Asks : ClientOptions → SentRequest → Type 0
Asks options sent = (question : Question) × IsAsked options question × (drawn : _) × IsRequest question drawn sent

-- it ends well exactly if the reply says code 0
abbrev pub Tells : SentRequest → List ℕ → Ending → Type 0
Tells sent reply Good = (line : List ℕ) × IsLine sent reply (Some (line, 0))
Tells sent reply Refused = (line : List ℕ) × (status : ℕ) × IsLine sent reply (Some (line, status)) × (0 < status)
Tells sent reply Unanswered = IsLine sent reply None
Tells sent reply (Early fault) = Unit {0}
Tells sent reply _ = ⊥

-- without a reply it ends in another way
abbrev pub IsUnasked : Ending → Type 0
IsUnasked Good = ⊥
IsUnasked Refused = ⊥
IsUnasked _ = Unit {0}

-- how it ends if a reply to that request came
abbrev pub HasAsked : ClientOptions → Ending → Type 0
HasAsked options Good = (sent : SentRequest) × (reply : List ℕ) × Asks options sent × Tells sent reply Good
HasAsked options Refused = (sent : SentRequest) × (reply : List ℕ) × Asks options sent × Tells sent reply Refused
HasAsked options _ = Unit {0}

-- the text is no name, or memory ran out
abbrev pub IsNoName : List ℕ → Ending → Type 0
IsNoName text BadArgument = name_of text ≡ None
IsNoName text (Early fault) = fault ≡ Memory
IsNoName text _ = ⊥

abbrev pub IsNoTarget : Option (List ℕ) → Ending → Type 0
IsNoTarget None fault = ⊥
IsNoTarget (Some text) fault = IsNoName text fault

-- the message couldn't be written, no whole reply came, or memory ran out
abbrev pub IsNoReply : Ending → Type 0
IsNoReply Unanswered = Unit {0}
IsNoReply (Early fault) = fault ≡ Memory
IsNoReply _ = ⊥
