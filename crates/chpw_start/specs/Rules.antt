-- By which rules a service answers requests.
use Rattle.std.specs.Prelude.{◌≡◌, Bool, true, false, map, Ok}
use Rattle.krb_msgs.specs.OneAnswer.{AreProtocolKeys}
use Rattle.krb_msgs.specs.declared.private_message.Strictness.{Strictness}
use Rattle.krb_msgs.specs.declared.private_message.Strictness.TheVariants.{Lenient, Strict}
use Rattle.chpw_messages.specs.Service.{configured, held}
use Rattle.chpw_rules.specs.declared.config.Config.{Config}
use Rattle.chpw_invocation.specs.declared.invocation.ServeOptions.{ServeOptions}
use Rattle.chpw_messages.specs.declared.versions.Acceptance.{Acceptance}
use Rattle.chpw_messages.specs.declared.versions.Versions.{Versions}
use Rattle.chpw_messages.specs.declared.versions.Versions.TheVariants.{Both, Rfc3244Only}
use Rattle.chpw_start.specs.Faults.{Sets}
use Rattle.chpw_start.specs.declared.rules.Rules.{Rules}

-- the versions of requests that are answered, by whether it is that of RFC 3244 alone
abbrev pub versions_asked : Bool → Versions
versions_asked true = Rfc3244Only
versions_asked false = Both

-- whether messages have to be strict
abbrev pub messages_asked : Bool → Strictness
messages_asked true = Strict
messages_asked false = Lenient

-- which messages these options have accepted
abbrev pub acceptance_asked : ServeOptions → Acceptance
acceptance_asked options = record {
  versions = versions_asked options.rfc3244_only;
  messages = messages_asked options.strict_messages;
}

-- the rules of a configuration, with its text, and with the acceptance that these options ask for
pub record AreRulesOf (config : Config) (options : ServeOptions) (rules : Rules) : Type 0 where
  pub realm : rules.service.realm ≡ config.realm
  pub keys : map held rules.service.keys ≡ map configured config.service
  pub protocol : AreProtocolKeys rules.service.keys
  pub accepts : rules.service.accepts ≡ acceptance_asked options
  pub max_entries : rules.max_entries ≡ config.max_entries
  pub text : Sets rules.text.items (Ok config)
