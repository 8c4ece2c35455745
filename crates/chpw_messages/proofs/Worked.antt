-- The worked replies are what the definitions compute.
use Rattle.std.proofs.Common.{refl}
use Rattle.krb_codec.specs.Texts.{element, length_octets}
use Rattle.krb_codec.specs.Integers.{integer_octets}
use Rattle.krb_codec.specs.Times.{time_of, time_octets}
use Rattle.krb_codec.specs.CivilTimes.{greatest, year_of, month_of, day_of}
use Rattle.chpw_messages.specs.WorkedReplies.{MalformedReply, VersionReply, TooLongReply}

pub malformed_reply : MalformedReply
unfolding element length_octets integer_octets time_of time_octets greatest year_of month_of day_of
malformed_reply = (refl, refl)

pub version_reply : VersionReply
unfolding element length_octets integer_octets time_of time_octets greatest year_of month_of day_of
version_reply = refl

pub too_long_reply : TooLongReply
unfolding element length_octets integer_octets time_of time_octets greatest year_of month_of day_of
too_long_reply = refl
