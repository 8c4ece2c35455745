-- The numbers of the KRB-ERROR for a message that isn't decided, in digits: its result code (RFC 3244 section 2) and its
-- error code (RFC 4120 section 7.5.9).
use Rattle.std.specs.Prelude.{◌≡◌, ℕ, pos, Some}
use Rattle.krb_protocol.specs.Refusals.{Refusal}
use Rattle.chpw_frame.specs.declared.fault.FrameFault.{FrameFault}
use Rattle.chpw_frame.specs.declared.fault.FrameFault.TheVariants as frame
use Rattle.chpw_frame.specs.Faults.{refusal_of as frame_refusal}
use Rattle.krb_msgs.specs.declared.fault.ApFault.{ApFault}
use Rattle.krb_msgs.specs.declared.fault.ApFault.TheVariants as ap
use Rattle.krb_msgs.specs.Codes.{refusal_of as ap_refusal}
use Rattle.chpw_table.specs.Replies.{Answer}
use Rattle.chpw_serve.specs.Answers.{history_full}
use Rattle.chpw_serve.specs.Serving.{message_too_long}

abbrev pub HasNumbers : Refusal → ℕ → ℕ → Type 0
HasNumbers r code error = (r.code ≡ code) × (r.error ≡ pos error)

-- of a frame
abbrev pub ByFrame : FrameFault → ℕ → ℕ → Type 0
ByFrame fault code error = HasNumbers (frame_refusal fault) code error

-- MALFORMED or BAD_VERSION, with ERR_GENERIC
pub record FrameNumbers : Type 0 where
  pub bad_length : ByFrame frame.BadLength 1 60
  pub bad_version : ByFrame frame.BadVersion 6 60
  pub bad_parts : ByFrame frame.BadParts 1 60

-- of an AP-REQ
abbrev pub ByAp : ApFault → ℕ → ℕ → Type 0
ByAp fault code error = HasNumbers (ap_refusal fault) code error

-- MALFORMED with ERR_GENERIC, and AUTHERROR with AP_ERR_BADVERSION, AP_ERR_MSG_TYPE, AP_ERR_NOKEY, AP_ERR_NOT_US,
-- KDC_ERR_ETYPE_NOSUPP, AP_ERR_BADKEYVER, AP_ERR_BAD_INTEGRITY, AP_ERR_BADMATCH and AP_ERR_BADADDR
pub record ApNumbers : Type 0 where
  pub malformed : ByAp ap.Malformed 1 60
  pub version : ByAp ap.Version 3 39
  pub message_type : ByAp ap.MessageType 3 40
  pub user_to_user : ByAp ap.UserToUser 3 45
  pub not_for_us : ByAp ap.NotForUs 3 35
  pub ticket_etype : ByAp ap.TicketEtype 3 14
  pub no_service_key : ByAp ap.NoServiceKey 3 44
  pub bad_ticket : ByAp ap.BadTicket 3 31
  pub bad_session_key : ByAp ap.BadSessionKey 3 14
  pub bad_authenticator : ByAp ap.BadAuthenticator 3 31
  pub client_mismatch : ByAp ap.ClientMismatch 3 36
  pub wrong_address : ByAp ap.WrongAddress 3 38
  pub no_subkey : ByAp ap.NoSubkey 3 14

-- of a message that isn't decided for want of room
abbrev pub ByAnswer : Answer → ℕ → ℕ → Type 0
ByAnswer a code error = (a.code ≡ code) × (a.error ≡ Some (pos error))

-- HARDERROR with ERR_GENERIC, MALFORMED with ERR_FIELD_TOOLONG
pub record RoomNumbers : Type 0 where
  pub history_full : ByAnswer history_full 2 60
  pub message_too_long : ByAnswer message_too_long 1 61
