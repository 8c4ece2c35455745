-- How a check of a file ends.
use Rattle.std.proofs.Common.{ℕ, List, subst, sym}
use Rattle.chpw_check.specs.Checked.{IsCheckFault}
use Rattle.chpw_endings.specs.Checking.{HasChecked, IsChecked}
use Rattle.chpw_endings.specs.NewPasswords.{IsUnread}
use Rattle.chpw_endings.specs.declared.ending.Ending.{Ending}
use Rattle.chpw_endings.specs.declared.ending.Ending.TheVariants.{Good, Faulty, Early, Unread, Unserved, Unbrought}
use Rattle.chpw_endings.specs.declared.ending.Ending.TheVariants.{EmptyPassword, ManyLines, BadArgument, Unconnected}
use Rattle.chpw_endings.specs.declared.ending.Ending.TheVariants.{Unanswered, TimedOut, Refused, Misused, NotText}

pub has_checked : (file text : List ℕ) (e : Ending) → IsChecked file text e → HasChecked file e
has_checked file text Good is = (text, is)
has_checked file text (Faulty path words) is = (text, is)
has_checked file text (Early fault) is = is
has_checked file text (Unread path) is = absurd is
has_checked file text (Unserved fault) is = absurd is
has_checked file text (Unbrought fault) is = absurd is
has_checked file text (EmptyPassword path) is = absurd is
has_checked file text (ManyLines path) is = absurd is
has_checked file text BadArgument is = absurd is
has_checked file text Unconnected is = absurd is
has_checked file text Unanswered is = absurd is
has_checked file text TimedOut is = absurd is
has_checked file text Refused is = absurd is
has_checked file text Misused is = absurd is
has_checked file text NotText is = absurd is

pub has_unread : (file : List ℕ) (e : Ending) → IsUnread file e → HasChecked file e
has_unread file (Unread path) is = is
has_unread file (Early fault) is = subst IsCheckFault (sym is) tt
has_unread file Good is = absurd is
has_unread file (Faulty path words) is = absurd is
has_unread file (Unserved fault) is = absurd is
has_unread file (Unbrought fault) is = absurd is
has_unread file (EmptyPassword path) is = absurd is
has_unread file (ManyLines path) is = absurd is
has_unread file BadArgument is = absurd is
has_unread file Unconnected is = absurd is
has_unread file Unanswered is = absurd is
has_unread file TimedOut is = absurd is
has_unread file Refused is = absurd is
has_unread file Misused is = absurd is
has_unread file NotText is = absurd is
