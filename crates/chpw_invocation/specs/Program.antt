-- The program's commands, each with its options.
use Rattle.std.specs.Prelude.{◌≡◌, true, false, List, [], ◌∷◌, codes, IfOk, Result}
use Rattle.clap.specs.Walk.{Rule, Text}
use Rattle.clap.specs.Simple.{App, Shape, app_of, new_shape}
use Rattle.clap.specs.declared.builder.command.Command.{Command}
use Rattle.clap.specs.declared.builder.command.Command.TheViews.{out-Command}
use Rattle.chpw_invocation.specs.Options.{required, optional, repeated, flag, required_word, optional_word, port, workers}
use Rattle.chpw_invocation.specs.Options.{connections, idle, clients, clients_per_peer, buffers, raise, kdc_wait, iterations, kvno}

abbrev pub command : Text → List Rule → Shape
command name options = record (new_shape name) { rules = options }

-- a command with none below it
abbrev pub alone : Shape → App
alone command = record { top = command; subs = [] }

-- no option of it is passed down to its subcommands
abbrev pub IsLocal : Command → Type 0
IsLocal c = (out-Command c).has_globals ≡ false

-- memory ran out, or it is a command of this form
abbrev pub IsBuilt : {E : Type 0} → App → Result Command E → Type 0
IsBuilt a r = IfOk r (λ c. (app_of c ≡ a) × IsLocal c)

-- drill
abbrev pub drill : Shape
drill = command (codes "drill") []

-- check --config FILE
abbrev pub check : Shape
check = command (codes "check") (required (codes "config") ∷ [])

-- table --config FILE --journal FILE [--as FORM]
abbrev pub table : Shape
table = command (codes "table")
    (required (codes "config")
    ∷ required (codes "journal")
    ∷ optional (codes "as")
    ∷ [])

-- import [--keytab FILE] [--realm REALM] [--kdc SOCKET] [--config FILE] [--iterations COUNT]
abbrev pub import : Shape
import = command (codes "import")
    (optional (codes "keytab")
    ∷ optional (codes "realm")
    ∷ optional (codes "kdc")
    ∷ optional (codes "config")
    ∷ iterations
    ∷ [])

-- key --realm REALM --name NAME --password-file FILE [--iterations COUNT] [--kvno N]
abbrev pub key : Shape
key = command (codes "key")
    (required (codes "realm")
    ∷ required (codes "name")
    ∷ required (codes "password-file")
    ∷ iterations
    ∷ kvno
    ∷ [])

-- new-journal --config FILE --journal FILE [--resume FILE]
abbrev pub new_journal : Shape
new_journal = command (codes "new-journal")
    (required (codes "config")
    ∷ required (codes "journal")
    ∷ optional (codes "resume")
    ∷ [])

-- serve --config FILE --journal FILE --seed FILE --port N [--listen ADDRESS].. --workers N --connections N
-- [--idle SECONDS] [--clients N] [--clients-per-peer N] [--buffers MEBIBYTES] [--raise COUNT] [--log FILE] [--resume FILE]
-- [--kdc SOCKET] [--kdc-wait MILLISECONDS] [--require-kdc] [--control SOCKET] [--udp] [--rfc3244-only] [--strict-messages]
-- [--strict-modes] [--existing-journal]
abbrev pub serve : Shape
serve = command (codes "serve")
    (required (codes "config")
    ∷ required (codes "journal")
    ∷ required (codes "seed")
    ∷ port
    ∷ repeated (codes "listen")
    ∷ workers
    ∷ connections
    ∷ idle
    ∷ clients
    ∷ clients_per_peer
    ∷ buffers
    ∷ raise
    ∷ optional (codes "log")
    ∷ optional (codes "resume")
    ∷ optional (codes "kdc")
    ∷ kdc_wait
    ∷ flag (codes "require-kdc")
    ∷ optional (codes "control")
    ∷ flag (codes "udp")
    ∷ flag (codes "rfc3244-only")
    ∷ flag (codes "strict-messages")
    ∷ flag (codes "strict-modes")
    ∷ flag (codes "existing-journal")
    ∷ [])

-- control --socket SOCKET COMMAND [FILE]
abbrev pub control : Shape
control = command (codes "control")
    (required (codes "socket")
    ∷ required_word (codes "command")
    ∷ optional_word (codes "file")
    ∷ [])

-- client --config FILE --seed FILE --port N --client NAME [--password TEXT] [--password-file FILE] [--target NAME]
-- [--no-initial] [--old]
abbrev pub client : Shape
client = command (codes "client")
    (required (codes "config")
    ∷ required (codes "seed")
    ∷ port
    ∷ required (codes "client")
    ∷ optional (codes "password")
    ∷ optional (codes "password-file")
    ∷ optional (codes "target")
    ∷ flag (codes "no-initial")
    ∷ flag (codes "old")
    ∷ [])

-- the commands that need no running service
abbrev pub offline : List Shape
offline = drill ∷ check ∷ table ∷ import ∷ key ∷ new_journal ∷ []

-- with a version, and one of the subcommands required
abbrev pub leading : App → App
leading a = record a {
  top = record a.top {
    has_version = true;
    subcommand_required = true;
    arg_required_else_help = true;
  };
}

abbrev pub program : App
program = record (leading (alone (record (new_shape (codes "chpw_server")) { is_leaf = false }))) {
  subs = drill ∷ check ∷ table ∷ import ∷ key ∷ new_journal ∷ serve ∷ control ∷ client ∷ [];
}
