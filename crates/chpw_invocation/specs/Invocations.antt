-- What a user asks for, by what clap matched: the command's name, and each option's value by its name. The words are
-- matched by clap's own rules.
use Rattle.std.specs.Prelude.{◌≡◌, ◌≢◌, ◌⊎◌, ◌≤◌, ℕ, Bool, true, false, List, [], Option, Some}
use Rattle.std.specs.Prelude.{None, option_map, codes, bytes_eq, if◌then◌else◌, length, pos, ◌<◌, ◌&&◌, nat_le, unwrap_or}
use Rattle.std.specs.Fmt.{decimal}
use Rattle.std.specs.Option.{option_map_or}
use Rattle.std.specs.Str.Parse.{IsNumeral, digits_value, without_leading_plus}
use Rattle.clap.specs.Kinds.{HasKind, Kinds}
use Rattle.clap.specs.Values.{IsSignedIn, kind_of, read_as}
use Rattle.clap.specs.Walk.{Row, Text, all_of, first_of, one_of}
use Rattle.clap.specs.declared.builder.value_parser.Reading.TheVariants.{WithoutMinus}
use Rattle.clap.specs.declared.error.Error.{Error}
use Rattle.std.specs.declared.net.ip_addr.IpAddr.{IpAddr}
use Rattle.chpw_invocation.specs.Addresses.{HasWildcard, IsListening, IsNoList}
use Rattle.chpw_invocation.specs.Listening.{listened}
use Rattle.chpw_invocation.specs.Controls.{file_of, takes_file, word_of}
use Rattle.chpw_invocation.specs.Refusals.{kind_for}
use Rattle.chpw_invocation.specs.Sharing.{default_per_peer}
use Rattle.chpw_invocation.specs.declared.refusing.Refusal.{Refusal}
use Rattle.chpw_invocation.specs.declared.refusing.Refusal.TheVariants.{OldTarget, TwoPasswords, NoPassword, NoCommand, NoKdc, AnyDatagrams}
use Rattle.chpw_invocation.specs.declared.refusing.Refusal.TheVariants.{NoFile, SpareFile, NoForm, NoLimit, NoRealm, SpareSource, NoSource, SpareConfig}
use Rattle.chpw_invocation.specs.declared.invocation.Bounds.{Bounds}
use Rattle.chpw_invocation.specs.declared.invocation.ClientOptions.{ClientOptions}
use Rattle.chpw_invocation.specs.declared.invocation.ConnectionLimit.{ConnectionLimit}
use Rattle.chpw_invocation.specs.declared.invocation.ConnectionLimit.TheVariants.{Unlimited, Of}
use Rattle.chpw_invocation.specs.declared.invocation.ControlOptions.{ControlOptions}
use Rattle.chpw_invocation.specs.declared.invocation.ServeOptions.{ServeOptions}
use Rattle.chpw_invocation.specs.declared.invocation.ImportOptions.{ImportOptions}
use Rattle.chpw_invocation.specs.declared.invocation.KdcOptions.{KdcOptions}
use Rattle.chpw_invocation.specs.declared.invocation.KeyOptions.{KeyOptions}
use Rattle.chpw_invocation.specs.declared.invocation.NewJournalOptions.{NewJournalOptions}
use Rattle.chpw_invocation.specs.declared.invocation.Invocation.{Invocation}
use Rattle.chpw_invocation.specs.declared.invocation.Invocation.TheVariants.{Drill, Check, Table, Import, ImportKdc, Key, NewJournal, Serve, Control, Client}
use Rattle.chpw_invocation.specs.declared.invocation.PasswordSource.{PasswordSource}
use Rattle.chpw_invocation.specs.declared.invocation.PasswordSource.TheVariants as source
use Rattle.chpw_invocation.specs.declared.invocation.TableForm.{TableForm}
use Rattle.chpw_invocation.specs.declared.invocation.TableForm.TheVariants.{Lines, Configuration, Keys}
use Rattle.chpw_invocation.specs.declared.invocation.TableOptions.{TableOptions}

-- a required option has this value
abbrev pub HasText : List Row → Text → Text → Type 0
HasText options name text = first_of name options ≡ Some text

-- a required option has this number, within these limits
abbrev pub HasNumber : ℕ → ℕ → List Row → Text → ℕ → Type 0
HasNumber low high options name number = (text : Text) × (one_of name options ≡ Some text)
    × (number ≡ digits_value 10 (without_leading_plus text)) × (low ≤ number) × (number ≤ high)

-- an optional option has this number, within these limits
abbrev pub MayHaveNumber : ℕ → ℕ → List Row → Text → Option ℕ → Type 0
MayHaveNumber low high options name None = first_of name options ≡ None
MayHaveNumber low high options name (Some number) = HasNumber low high options name number

-- an option with a default has this number, within these limits, or is left out and this is its default
abbrev pub HasNumberOr : ℕ → ℕ → ℕ → List Row → Text → ℕ → Type 0
HasNumberOr default low high options name number =
    ((first_of name options ≡ None) × (number ≡ default)) ⊎ HasNumber low high options name number

-- no number within these limits, as numbers are printed, is its value
abbrev pub LacksNumber : ℕ → ℕ → List Row → Text → Type 0
LacksNumber low high options name =
    (number : ℕ) → low ≤ number → number ≤ high → one_of name options ≢ Some (decimal number)

-- its value is one that a rule for numbers from 1 to a limit accepts
abbrev pub HasTakenNumber : ℕ → List Row → Text → Type 0
HasTakenNumber limit options name = (text : Text)
    × (one_of name options ≡ Some (read_as WithoutMinus text)) × IsSignedIn (pos 1) (pos limit) text

-- it is not left out, and no such number is its value
abbrev pub LacksGiven : ℕ → ℕ → List Row → Text → Type 0
LacksGiven low high options name = (first_of name options ≢ None) × LacksNumber low high options name

-- after how many connections a service ends: a number from 1 to 4294967295, before which a plus may stand, or `unlimited`
abbrev pub IsLimit : Text → ConnectionLimit → Type 0
IsLimit text Unlimited = text ≡ codes "unlimited"
IsLimit text (Of number) = IsNumeral 10 (without_leading_plus text)
    × (number ≡ digits_value 10 (without_leading_plus text)) × (1 ≤ number) × (number ≤ 4294967295)

-- `--connections` says this
abbrev pub HasLimit : List Row → ConnectionLimit → Type 0
HasLimit options limit = (text : Text) × HasText options (codes "connections") text × IsLimit text limit

-- its value says neither a number nor `unlimited`
abbrev pub LacksLimit : List Row → Type 0
LacksLimit options = (text : Text) × HasText options (codes "connections") text × ((limit : ConnectionLimit) → ¬ (IsLimit text limit))

-- the realm is this, of 1 to 255 bytes
abbrev pub HasRealm : List Row → Text → Type 0
HasRealm options realm = HasText options (codes "realm") realm × (1 ≤ length realm) × (length realm ≤ 255)

-- a realm that is empty or longer
abbrev pub LacksRealm : List Row → Type 0
LacksRealm options = (realm : Text) × HasText options (codes "realm") realm × ((realm ≡ []) ⊎ (255 < length realm))

-- a flag is given or not: clap matches true or false for it
abbrev pub IsGiven : List Row → Text → Bool → Type 0
IsGiven options name given = (one_of name options ≡ Some (codes "true") → given ≡ true)
    × (one_of name options ≡ Some (codes "false") → given ≡ false)
    × (one_of name options ≡ None → given ≡ false)

-- the form of this name
abbrev pub form_of_name : Text → Option TableForm
form_of_name name =
    if bytes_eq name (codes "lines") then Some Lines
    else if bytes_eq name (codes "configuration") then Some Configuration
    else if bytes_eq name (codes "keys") then Some Keys
    else None

-- lines by default
abbrev pub form_asked : List Row → Option TableForm
form_asked options = option_map_or form_of_name (first_of (codes "as") options) (Some Lines)

pub record AsksTable (options : List Row) (asked : TableOptions) : Type 0 where
  pub config : HasText options (codes "config") asked.config.now
  pub journal : HasText options (codes "journal") asked.journal.now
  pub form : form_asked options ≡ Some asked.form

pub record AsksImport (options : List Row) (asked : ImportOptions) : Type 0 where
  pub keytab : HasText options (codes "keytab") asked.keytab.now
  pub realm : HasRealm options asked.realm.now
  pub iterations : HasNumberOr 4096 1 16777216 options (codes "iterations") asked.iterations

pub record AsksKdc (options : List Row) (asked : KdcOptions) : Type 0 where
  pub kdc : HasText options (codes "kdc") asked.socket.now
  pub config : option_map (λ file. file.now) asked.config ≡ first_of (codes "config") options
  pub iterations : HasNumberOr 4096 1 16777216 options (codes "iterations") asked.iterations

pub record AsksKey (options : List Row) (asked : KeyOptions) : Type 0 where
  pub realm : HasRealm options asked.realm.now
  pub name : HasText options (codes "name") asked.name.now
  pub password_file : HasText options (codes "password-file") asked.password_file.now
  pub iterations : HasNumberOr 4096 1 16777216 options (codes "iterations") asked.iterations
  pub kvno : HasNumberOr 1 1 4294967295 options (codes "kvno") asked.kvno

pub record AsksNewJournal (options : List Row) (asked : NewJournalOptions) : Type 0 where
  pub config : HasText options (codes "config") asked.config.now
  pub journal : HasText options (codes "journal") asked.journal.now
  pub resume : option_map (λ file. file.now) asked.resume ≡ first_of (codes "resume") options

-- what `--listen` gives
abbrev pub given : List Row → List Text
given options = unwrap_or (all_of (codes "listen") options) []

-- these are the addresses at which it listens, none of them a wildcard if it takes datagrams
abbrev pub Listens : List Row → List IpAddr → Type 0
Listens options addresses = IsListening (given options) addresses
    × (one_of (codes "udp") options ≡ Some (codes "true") → ¬ (HasWildcard addresses))

pub record AsksBounds (options : List Row) (asked : Bounds) : Type 0 where
  pub workers : HasNumber 1 16 options (codes "workers") asked.workers
  pub connections : HasLimit options asked.connections
  pub idle : HasNumberOr 30 1 3600 options (codes "idle") asked.idle
  pub clients : HasNumberOr 1024 1 65536 options (codes "clients") asked.clients
  pub clients_per_peer : HasNumberOr (default_per_peer asked.clients) 1 65536 options (codes "clients-per-peer") asked.clients_per_peer
  pub buffers : HasNumberOr 32 1 1024 options (codes "buffers") asked.buffers
  pub raise : MayHaveNumber 1 16777216 options (codes "raise") asked.raise
  pub kdc_wait : HasNumberOr 2000 1 60000 options (codes "kdc-wait") asked.kdc_wait

pub record AsksServe (options : List Row) (asked : ServeOptions) : Type 0 where
  pub config : HasText options (codes "config") asked.config.now
  pub journal : HasText options (codes "journal") asked.journal.now
  pub seed : HasText options (codes "seed") asked.seed.now
  pub port : HasNumber 1 65535 options (codes "port") asked.port
  pub listen : Listens options (listened asked.listen)
  pub workers : HasNumber 1 16 options (codes "workers") asked.workers
  pub connections : HasLimit options asked.connections
  pub idle : HasNumberOr 30 1 3600 options (codes "idle") asked.idle
  pub clients : HasNumberOr 1024 1 65536 options (codes "clients") asked.clients
  pub clients_per_peer : HasNumberOr (default_per_peer asked.clients) 1 65536 options (codes "clients-per-peer") asked.clients_per_peer
  pub buffers : HasNumberOr 32 1 1024 options (codes "buffers") asked.buffers
  pub raise : MayHaveNumber 1 16777216 options (codes "raise") asked.raise
  pub log : option_map (λ file. file.now) asked.log ≡ first_of (codes "log") options
  pub resume : option_map (λ file. file.now) asked.resume ≡ first_of (codes "resume") options
  pub kdc : option_map (λ socket. socket.now) asked.kdc ≡ first_of (codes "kdc") options
  pub kdc_wait : HasNumberOr 2000 1 60000 options (codes "kdc-wait") asked.kdc_wait
  pub require_kdc : IsGiven options (codes "require-kdc") asked.require_kdc
  pub control : option_map (λ socket. socket.now) asked.control ≡ first_of (codes "control") options
  pub udp : IsGiven options (codes "udp") asked.udp
  pub rfc3244_only : IsGiven options (codes "rfc3244-only") asked.rfc3244_only
  pub strict_messages : IsGiven options (codes "strict-messages") asked.strict_messages
  pub strict_modes : IsGiven options (codes "strict-modes") asked.strict_modes
  pub existing_journal : IsGiven options (codes "existing-journal") asked.existing_journal

pub record AsksControl (options : List Row) (asked : ControlOptions) : Type 0 where
  pub socket : HasText options (codes "socket") asked.socket.now
  pub command : HasText options (codes "command") (word_of asked.command)
  pub file : file_of asked.command ≡ first_of (codes "file") options

-- two passwords, or none
abbrev pub HasTwoPasswords : List Row → Type 0
HasTwoPasswords options =
    (first_of (codes "password") options ≢ None) × (first_of (codes "password-file") options ≢ None)

abbrev pub HasNoPassword : List Row → Type 0
HasNoPassword options =
    (first_of (codes "password") options ≡ None) × (first_of (codes "password-file") options ≡ None)

-- the password comes from this file; from standard input if its name is `-`
abbrev pub IsInFile : Text → PasswordSource → Type 0
IsInFile name (source.Text text) = ⊥
IsInFile name (source.File file) = (file.now ≡ name) × (name ≢ codes "-")
IsInFile name source.StandardInput = name ≡ codes "-"

-- one password is given, as a text or in a file
abbrev pub HasPassword : List Row → PasswordSource → Type 0
HasPassword options (source.Text text) =
    HasText options (codes "password") text.now × (first_of (codes "password-file") options ≡ None)
HasPassword options other = (first_of (codes "password") options ≡ None)
    × ((name : Text) × HasText options (codes "password-file") name × IsInFile name other)

pub record AsksClient (options : List Row) (asked : ClientOptions) : Type 0 where
  pub config : HasText options (codes "config") asked.config.now
  pub seed : HasText options (codes "seed") asked.seed.now
  pub port : HasNumber 1 65535 options (codes "port") asked.port
  pub client : HasText options (codes "client") asked.client.now
  pub password : HasPassword options asked.password
  pub target : option_map (λ name. name.now) asked.target
      ≡ first_of (codes "target") options
  pub no_initial : IsGiven options (codes "no-initial") asked.no_initial
  pub old : IsGiven options (codes "old") asked.old
  -- the earlier protocol has no target
  pub own : asked.old ≡ true → asked.target ≡ None

-- the command that is named, with its options
abbrev pub AsksFor : Option (Text × List Row) → Invocation → Type 0
AsksFor None asked = ⊥
AsksFor (Some p) Drill = p.0 ≡ codes "drill"
AsksFor (Some p) (Check config) = (p.0 ≡ codes "check") × HasText p.1 (codes "config") config.now
AsksFor (Some p) (Table asked) = (p.0 ≡ codes "table") × AsksTable p.1 asked
AsksFor (Some p) (Import asked) = (p.0 ≡ codes "import") × AsksImport p.1 asked
AsksFor (Some p) (ImportKdc asked) = (p.0 ≡ codes "import") × AsksKdc p.1 asked
AsksFor (Some p) (Key asked) = (p.0 ≡ codes "key") × AsksKey p.1 asked
AsksFor (Some p) (NewJournal asked) = (p.0 ≡ codes "new-journal") × AsksNewJournal p.1 asked
AsksFor (Some p) (Serve asked) = (p.0 ≡ codes "serve") × AsksServe p.1 asked
AsksFor (Some p) (Control asked) = (p.0 ≡ codes "control") × AsksControl p.1 asked
AsksFor (Some p) (Client asked) = (p.0 ≡ codes "client") × AsksClient p.1 asked

-- a request of the earlier protocol with a target, which that protocol doesn't have
abbrev pub AimsOld : List Row → Type 0
AimsOld options = IsGiven options (codes "old") true × (first_of (codes "target") options ≢ None)

-- Why a request is refused: a target in the earlier protocol; otherwise two passwords, or none.
abbrev pub RefusesClient : List Row → Refusal → Type 0
RefusesClient options refusal =
    ((refusal ≡ OldTarget) × AimsOld options)
    ⊎ (((refusal ≡ TwoPasswords) × HasTwoPasswords options × ¬ (AimsOld options))
    ⊎ ((refusal ≡ NoPassword) × HasNoPassword options × ¬ (AimsOld options)))

-- a word that names no command
abbrev pub NamesNoCommand : List Row → Type 0
NamesNoCommand options = (word : Text) × HasText options (codes "command") word × (takes_file word ≡ None)

-- a command that takes a file, and no file
abbrev pub LacksFile : List Row → Type 0
LacksFile options = (word : Text) × HasText options (codes "command") word × (takes_file word ≡ Some true)
    × (first_of (codes "file") options ≡ None)

-- a command that takes none, and a file
abbrev pub HasSpareFile : List Row → Type 0
HasSpareFile options = (word : Text) × HasText options (codes "command") word × (takes_file word ≡ Some false)
    × (first_of (codes "file") options ≢ None)

-- Why a command for a running service is refused: there is no such command, it requires a file, or it takes none.
abbrev pub RefusesControl : List Row → Refusal → Type 0
RefusesControl options refusal =
    ((refusal ≡ NoCommand) × NamesNoCommand options)
    ⊎ (((refusal ≡ NoFile) × LacksFile options)
    ⊎ ((refusal ≡ SpareFile) × HasSpareFile options))

-- a realm has 1 to 255 bytes
abbrev pub is_realm : Text → Bool
is_realm realm = nat_le 1 (length realm) && nat_le (length realm) 255

-- Why keys are not imported, by `--kdc`, `--keytab`, `--realm` and `--config`: they come from a KDC, or from a keytab of a
-- realm, to which no configuration belongs.
abbrev pub import_refusal : Option Text → Option Text → Option Text → Option Text → Option Refusal
import_refusal (Some kdc) None None config = None
import_refusal (Some kdc) (Some keytab) realm config = Some SpareSource
import_refusal (Some kdc) None (Some realm) config = Some SpareSource
import_refusal None None realm config = Some NoSource
import_refusal None (Some keytab) None config = Some NoSource
import_refusal None (Some keytab) (Some realm) (Some config) = Some SpareConfig
import_refusal None (Some keytab) (Some realm) None = if is_realm realm then None else Some NoRealm

abbrev pub RefusesImport : List Row → Refusal → Type 0
RefusesImport options refusal =
    import_refusal (first_of (codes "kdc") options) (first_of (codes "keytab") options) (first_of (codes "realm") options)
    (first_of (codes "config") options)
    ≡ Some refusal

-- the KDC has to be in reach, and there is none
abbrev pub LacksKdc : List Row → Type 0
LacksKdc options = IsGiven options (codes "require-kdc") true × (first_of (codes "kdc") options ≡ None)

-- Why it can't listen at what is given: that is no list of addresses; otherwise one is a wildcard, and it is to take datagrams.
abbrev pub RefusesListen : List Row → Refusal → Type 0
RefusesListen options refusal = IsNoList (given options) refusal
    ⊎ ((refusal ≡ AnyDatagrams) × IsGiven options (codes "udp") true
    × ((addresses : List IpAddr) × IsListening (given options) addresses × HasWildcard addresses))

-- Why a service isn't started: it lacks its KDC; otherwise it can't listen at its addresses; otherwise it lacks a number of
-- connections or `unlimited`.
abbrev pub RefusesServe : List Row → Refusal → Type 0
RefusesServe options refusal =
    ((refusal ≡ NoKdc) × LacksKdc options)
    ⊎ ((RefusesListen options refusal × ¬ (LacksKdc options))
    ⊎ ((refusal ≡ NoLimit) × LacksLimit options × ¬ (LacksKdc options) × ((addresses : List IpAddr) × Listens options addresses)))

-- Why words in which clap finds no fault are refused: a refused client, control, import or service, a table in an unknown
-- form, or a password of a realm of 0 or more than 255 bytes.
abbrev pub IsOwnRefusal : Option (Text × List Row) → Refusal → Type 0
IsOwnRefusal None refusal = ⊥
IsOwnRefusal (Some p) refusal =
    ((p.0 ≡ codes "client") × RefusesClient p.1 refusal)
    ⊎ (((p.0 ≡ codes "control") × RefusesControl p.1 refusal)
    ⊎ (((p.0 ≡ codes "table") × (refusal ≡ NoForm) × (form_asked p.1 ≡ None))
    ⊎ (((p.0 ≡ codes "serve") × RefusesServe p.1 refusal)
    ⊎ (((p.0 ≡ codes "import") × RefusesImport p.1 refusal)
    ⊎ ((p.0 ≡ codes "key") × (refusal ≡ NoRealm) × LacksRealm p.1)))))

-- the program itself refuses words in which clap finds no fault
abbrev pub IsOwnReason : Option (Text × List Row) → Type 0
IsOwnReason asked = (refusal : Refusal) × IsOwnRefusal asked refusal

-- an error of the kind of such a refusal
abbrev pub IsOwnError : Option (Text × List Row) → Error → Type 0
IsOwnError asked e = (refusal : Refusal) × IsOwnRefusal asked refusal × (kind_of e ≡ kind_for refusal)

-- Why words are refused: for one of the kinds of fault that clap finds in them, or for want of memory; if there is
-- none, for a reason of the program's own.
abbrev pub IsRefusal : Kinds → Option (Text × List Row) → Error → Type 0
IsRefusal kinds asked e = HasKind kinds e ⊎ ((kinds ≡ []) × IsOwnError asked e)
