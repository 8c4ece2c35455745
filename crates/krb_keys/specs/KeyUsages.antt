-- Key usage numbers (RFC 4120 section 7.5.1), those of the messages of this service.
use Rattle.std.specs.Prelude.{ℕ}

-- a ticket's encrypted part
abbrev pub usage_ticket : ℕ
usage_ticket = 2

-- an AP-REQ's authenticator
abbrev pub usage_ap_req_authenticator : ℕ
usage_ap_req_authenticator = 11

-- an AP-REP's encrypted part
abbrev pub usage_ap_rep_enc_part : ℕ
usage_ap_rep_enc_part = 12

-- a KRB-PRIV's encrypted part
abbrev pub usage_krb_priv : ℕ
usage_krb_priv = 13
