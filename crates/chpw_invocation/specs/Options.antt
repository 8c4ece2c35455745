-- The kinds of options, as clap's rules.
use Rattle.std.specs.Prelude.{true, Option, Some, option_map, pos, codes, ℕ}
use Rattle.clap.specs.Walk.{Rule, Text}
use Rattle.clap.specs.Simple.{new_rule}
use Rattle.clap.specs.declared.builder.arg.Arg.{Arg}
use Rattle.clap.specs.declared.builder.action.ArgAction.TheVariants.{Append, Set, SetTrue}
use Rattle.clap.specs.declared.builder.value_parser.ValueParser.TheVariants as parser
use Rattle.chpw_invocation.specs.declared.options.OptionKind.{OptionKind}
use Rattle.chpw_invocation.specs.declared.options.OptionKind.TheVariants.{Required, Optional, Repeated, Number, OptionalNumber, Flag, Word, OptionalWord}
use Rattle.chpw_invocation.specs.declared.options.OptionLine.{OptionLine}

-- `--NAME VALUE`
abbrev pub optional : Text → Rule
optional name = record (new_rule name) { long = Some name; action = Some Set; value_names = 1 }

-- `--NAME VALUE`, required
abbrev pub required : Text → Rule
required name = record (optional name) { required = true }

-- `--NAME VALUE`, as often as it is given
abbrev pub repeated : Text → Rule
repeated name = record (optional name) { action = Some Append }

-- `--NAME`
abbrev pub flag : Text → Rule
flag name = record (new_rule name) { long = Some name; action = Some SetTrue }

-- `--NAME N`, required, N from 1 to a limit
abbrev pub numbered : Text → ℕ → Rule
numbered name limit = record (required name) { parser = Some (parser.Signed (pos 1) (pos limit)) }

-- `--NAME N`, optional, N from 1 to a limit
abbrev pub may_be_numbered : Text → ℕ → Rule
may_be_numbered name limit = record (optional name) { parser = Some (parser.Signed (pos 1) (pos limit)) }

-- `VALUE`, an optional positional word
abbrev pub optional_word : Text → Rule
optional_word name = record (new_rule name) { action = Some Set; value_names = 1 }

-- `VALUE`, a required positional word
abbrev pub required_word : Text → Rule
required_word name = record (optional_word name) { required = true }

-- the rule of an option in the program's lists
abbrev pub rule_by : OptionKind → Text → Rule
rule_by Required name = required name
rule_by Optional name = optional name
rule_by Repeated name = repeated name
rule_by (Number limit) name = numbered name limit
rule_by (OptionalNumber limit) name = may_be_numbered name limit
rule_by Flag name = flag name
rule_by Word name = required_word name
rule_by OptionalWord name = optional_word name

abbrev pub rule_for : OptionLine → Rule
rule_for line = rule_by line.kind line.name.now

-- what the help says of clap's argument
abbrev pub help_of : Arg → Option Text
help_of arg = option_map (λ text. text.now) arg.help

abbrev pub port : Rule
port = numbered (codes "port") 65535

abbrev pub workers : Rule
workers = numbered (codes "workers") 16

abbrev pub connections : Rule
connections = required (codes "connections")

abbrev pub idle : Rule
idle = may_be_numbered (codes "idle") 3600

abbrev pub clients : Rule
clients = may_be_numbered (codes "clients") 65536

abbrev pub clients_per_peer : Rule
clients_per_peer = may_be_numbered (codes "clients-per-peer") 65536

abbrev pub buffers : Rule
buffers = may_be_numbered (codes "buffers") 1024

abbrev pub kdc_wait : Rule
kdc_wait = may_be_numbered (codes "kdc-wait") 60000

abbrev pub raise : Rule
raise = may_be_numbered (codes "raise") 16777216

abbrev pub iterations : Rule
iterations = may_be_numbered (codes "iterations") 16777216

abbrev pub kvno : Rule
kvno = may_be_numbered (codes "kvno") 4294967295
