-- A request for what the options ask.
use Rattle.std.proofs.Common.{◌≡◌, ℕ, not, true, List, Option, Some, option_map}
use Rattle.chpw_rules.specs.declared.config.Config.{Config}
use Rattle.chpw_rules.specs.declared.name.Name.{Name}
use Rattle.chpw_rules.specs.Fitting.{config_fits}
use Rattle.chpw_rules.specs.Names.{name_of}
use Rattle.chpw_client.specs.Configured.{IsFirstKey}
use Rattle.chpw_client.specs.Questions.{Question}
use Rattle.chpw_client.specs.Requests.{IsRequest}
use Rattle.chpw_client.specs.declared.request.SentRequest.{SentRequest}
use Rattle.chpw_invocation.specs.declared.invocation.ClientOptions.{ClientOptions}
use Rattle.chpw_endings.specs.Asking.{Asks, HasAsked, IsUnasked, Names, Tells}
use Rattle.chpw_endings.specs.NewPasswords.{IsPassword}
use Rattle.chpw_endings.specs.declared.ending.Ending.{Ending}
use Rattle.chpw_endings.specs.declared.ending.Ending.TheVariants.{Good, Faulty, Early, Unread, Unserved, Unbrought}
use Rattle.chpw_endings.specs.declared.ending.Ending.TheVariants.{EmptyPassword, ManyLines, BadArgument, Unconnected}
use Rattle.chpw_endings.specs.declared.ending.Ending.TheVariants.{Unanswered, TimedOut, Refused, Misused, NotText}

pub asks : (options : ClientOptions) (config : Config) (q : Question) (target : Option Name) (drawn : _)
    (sent : SentRequest) → config_fits config ≡ true → q.realm ≡ config.realm → IsFirstKey config.service q.service
    → name_of options.client.now ≡ Some q.client → IsPassword options.password q.password
    → Names (option_map (λ t. t.now) options.target) target → q.target ≡ target
    → q.initial ≡ not options.no_initial → q.old ≡ options.old → IsRequest q drawn sent → Asks options sent
asks options config q target drawn sent fits realm first named password aimed is initial old request = (
  q,
  record {
    config = config;
    fits = fits;
    realm = realm;
    service = first;
    client = named;
    password = password;
    target = rw is aimed;
    initial = initial;
    old = old;
  },
  drawn,
  request,
)

pub unasked : (options : ClientOptions) (e : Ending) → IsUnasked e → HasAsked options e
unasked options Good early = absurd early
unasked options Refused early = absurd early
unasked options (Faulty file words) is = tt
unasked options (Early fault) is = tt
unasked options (Unread file) is = tt
unasked options (Unserved fault) is = tt
unasked options (Unbrought fault) is = tt
unasked options (EmptyPassword file) is = tt
unasked options (ManyLines file) is = tt
unasked options BadArgument is = tt
unasked options Unconnected is = tt
unasked options Unanswered is = tt
unasked options TimedOut is = tt
unasked options Misused is = tt
unasked options NotText is = tt

pub replied : (options : ClientOptions) (sent : SentRequest) (reply : List ℕ) (e : Ending) → Asks options sent → Tells sent reply e → HasAsked options e
replied options sent reply Good asks tells = (sent, reply, asks, tells)
replied options sent reply Refused asks tells = (sent, reply, asks, tells)
replied options sent reply (Faulty file words) asks tells = tt
replied options sent reply (Early fault) asks tells = tt
replied options sent reply (Unread file) asks tells = tt
replied options sent reply (Unserved fault) asks tells = tt
replied options sent reply (Unbrought fault) asks tells = tt
replied options sent reply (EmptyPassword file) asks tells = tt
replied options sent reply (ManyLines file) asks tells = tt
replied options sent reply BadArgument asks tells = tt
replied options sent reply Unconnected asks tells = tt
replied options sent reply Unanswered asks tells = tt
replied options sent reply TimedOut asks tells = tt
replied options sent reply Misused asks tells = tt
replied options sent reply NotText asks tells = tt
