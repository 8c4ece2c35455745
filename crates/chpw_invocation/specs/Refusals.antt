-- The reasons for which the program itself refuses words: the kind of each one's error, and its text.
use Rattle.std.specs.Prelude.{codes}
use Rattle.clap.specs.Walk.{Text}
use Rattle.clap.specs.declared.error.kind.ErrorKind.{ErrorKind}
use Rattle.clap.specs.declared.error.kind.ErrorKind.TheVariants.{ArgumentConflict, InvalidValue, MissingRequiredArgument, UnknownArgument}
use Rattle.chpw_invocation.specs.declared.refusing.Refusal.{Refusal}
use Rattle.chpw_invocation.specs.declared.refusing.Refusal.TheVariants.{OldTarget, TwoPasswords, NoPassword, NoCommand}
use Rattle.chpw_invocation.specs.declared.refusing.Refusal.TheVariants.{AnyDatagrams, ManyAddresses, NoAddress, SameAddress}
use Rattle.chpw_invocation.specs.declared.refusing.Refusal.TheVariants.{NoFile, SpareFile, NoForm, NoLimit, NoKdc, NoRealm, SpareSource, NoSource, SpareConfig}

abbrev pub kind_for : Refusal → ErrorKind
kind_for OldTarget = ArgumentConflict
kind_for TwoPasswords = ArgumentConflict
kind_for NoPassword = MissingRequiredArgument
kind_for NoCommand = InvalidValue
kind_for NoFile = MissingRequiredArgument
kind_for SpareFile = UnknownArgument
kind_for NoForm = InvalidValue
kind_for NoLimit = InvalidValue
kind_for NoKdc = MissingRequiredArgument
kind_for NoAddress = InvalidValue
kind_for SameAddress = InvalidValue
kind_for ManyAddresses = InvalidValue
kind_for AnyDatagrams = ArgumentConflict
kind_for NoRealm = InvalidValue
kind_for SpareSource = ArgumentConflict
kind_for NoSource = MissingRequiredArgument
kind_for SpareConfig = ArgumentConflict

abbrev pub text_for : Refusal → Text
text_for OldTarget = codes "the argument '--old' cannot be used with '--target <NAME>'"
text_for TwoPasswords = codes "the argument '--password <TEXT>' cannot be used with '--password-file <FILE>'"
text_for NoPassword = codes "either '--password <TEXT>' or '--password-file <FILE>' is required"
text_for NoCommand = codes "a value for '<COMMAND>' is one of: status, reload, reopen-log, stop, compact"
text_for NoFile = codes "the command 'compact' requires a '<FILE>'"
text_for SpareFile = codes "only the command 'compact' takes a '<FILE>'"
text_for NoForm = codes "a value for '--as <FORM>' is one of: lines, configuration, keys"
text_for NoLimit = codes "a value for '--connections <N>' is a number from 1 to 4294967295, or unlimited"
text_for NoKdc = codes "the argument '--require-kdc' requires '--kdc <SOCKET>'"
text_for NoAddress = codes "a value for '--listen <ADDRESS>' is an address of IPv4 or IPv6, without a port"
text_for SameAddress = codes "the argument '--listen <ADDRESS>' has the same address twice"
text_for ManyAddresses = codes "the argument '--listen <ADDRESS>' has more than 64 addresses"
text_for AnyDatagrams = codes "the argument '--udp' cannot be used with '--listen 0.0.0.0' or '--listen ::'"
text_for NoRealm = codes "a value for '--realm <REALM>' has 1 to 255 bytes"
text_for SpareSource = codes "the argument '--kdc <SOCKET>' cannot be used with '--keytab <FILE>' or '--realm <REALM>'"
text_for NoSource = codes "either '--keytab <FILE>' with '--realm <REALM>' or '--kdc <SOCKET>' is required"
text_for SpareConfig = codes "the argument '--config <FILE>' cannot be used with '--keytab <FILE>'"
