-- The reply to a message that can't be split: result code (RFC 3244 section 2), error code of the KRB-ERROR (RFC 4120
-- section 7.5.9) and text.
use Rattle.std.specs.Prelude.{codes}
use Rattle.krb_protocol.specs.declared.codes.TheConstants.{KRB5_KPASSWD_MALFORMED, KRB5_KPASSWD_BAD_VERSION, KRB_ERR_GENERIC}
use Rattle.krb_protocol.specs.Refusals.{Refusal}
use Rattle.chpw_frame.specs.declared.fault.FrameFault.{FrameFault}
use Rattle.chpw_frame.specs.declared.fault.FrameFault.TheVariants.{BadLength, BadVersion, BadParts}

abbrev pub refusal_of : FrameFault → Refusal
refusal_of BadLength = record { code = KRB5_KPASSWD_MALFORMED; error = KRB_ERR_GENERIC; text = codes "malformed" }
refusal_of BadVersion = record { code = KRB5_KPASSWD_BAD_VERSION; error = KRB_ERR_GENERIC; text = codes "bad version" }
refusal_of BadParts = record { code = KRB5_KPASSWD_MALFORMED; error = KRB_ERR_GENERIC; text = codes "malformed" }
