-- The refusal of an AP-REQ for each fault.
use Rattle.std.specs.Prelude.{ℤ, codes}
use Rattle.krb_protocol.specs.Refusals.{Refusal}
use Rattle.krb_protocol.specs.declared.codes.TheConstants.{KDC_ERR_ETYPE_NOSUPP, KRB_AP_ERR_BAD_INTEGRITY}
use Rattle.krb_protocol.specs.declared.codes.TheConstants.{KRB_AP_ERR_BADADDR, KRB_AP_ERR_BADKEYVER}
use Rattle.krb_protocol.specs.declared.codes.TheConstants.{KRB_AP_ERR_BADMATCH, KRB_AP_ERR_BADVERSION}
use Rattle.krb_protocol.specs.declared.codes.TheConstants.{KRB_AP_ERR_MSG_TYPE, KRB_AP_ERR_NOKEY}
use Rattle.krb_protocol.specs.declared.codes.TheConstants.{KRB_AP_ERR_NOT_US, KRB_ERR_GENERIC}
use Rattle.krb_protocol.specs.declared.codes.TheConstants.{KRB5_KPASSWD_AUTHERROR, KRB5_KPASSWD_MALFORMED}
use Rattle.krb_msgs.specs.declared.fault.ApFault.{ApFault}
use Rattle.krb_msgs.specs.declared.fault.ApFault.TheVariants.{Malformed, Version, MessageType, UserToUser, NotForUs}
use Rattle.krb_msgs.specs.declared.fault.ApFault.TheVariants.{TicketEtype, NoServiceKey, BadTicket, BadSessionKey}
use Rattle.krb_msgs.specs.declared.fault.ApFault.TheVariants.{BadAuthenticator, ClientMismatch, WrongAddress, NoSubkey}

abbrev pub unauthenticated : ℤ → Refusal
unauthenticated error = record { code = KRB5_KPASSWD_AUTHERROR; error = error; text = codes "authentication failed" }

abbrev pub refusal_of : ApFault → Refusal
refusal_of Malformed = record { code = KRB5_KPASSWD_MALFORMED; error = KRB_ERR_GENERIC; text = codes "malformed" }
refusal_of Version = unauthenticated KRB_AP_ERR_BADVERSION
refusal_of MessageType = unauthenticated KRB_AP_ERR_MSG_TYPE
refusal_of UserToUser = unauthenticated KRB_AP_ERR_NOKEY
refusal_of NotForUs = unauthenticated KRB_AP_ERR_NOT_US
refusal_of TicketEtype = unauthenticated KDC_ERR_ETYPE_NOSUPP
refusal_of NoServiceKey = unauthenticated KRB_AP_ERR_BADKEYVER
refusal_of BadTicket = unauthenticated KRB_AP_ERR_BAD_INTEGRITY
refusal_of BadSessionKey = unauthenticated KDC_ERR_ETYPE_NOSUPP
refusal_of BadAuthenticator = unauthenticated KRB_AP_ERR_BAD_INTEGRITY
refusal_of ClientMismatch = unauthenticated KRB_AP_ERR_BADMATCH
refusal_of WrongAddress = unauthenticated KRB_AP_ERR_BADADDR
refusal_of NoSubkey = unauthenticated KDC_ERR_ETYPE_NOSUPP
