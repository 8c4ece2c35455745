-- Numbers of the protocol, by the names of RFC 4120.
use Rattle.std.specs.Prelude.{ℕ, ℤ, pos}

-- pvno, tkt-vno and authenticator-vno (section 7.5.6)
abbrev pub pvno : ℤ
pvno = pos 5

-- message types (section 7.5.7)
abbrev pub krb_ap_req : ℤ
krb_ap_req = pos 14

abbrev pub krb_ap_rep : ℤ
krb_ap_rep = pos 15

abbrev pub krb_priv : ℤ
krb_priv = pos 21

abbrev pub krb_error : ℤ
krb_error = pos 30

-- address types (section 7.5.3)
abbrev pub addr_type_ipv4 : ℤ
addr_type_ipv4 = pos 2

abbrev pub addr_type_ipv6 : ℤ
addr_type_ipv6 = pos 24

-- name types (section 6.2)
abbrev pub nt_principal : ℤ
nt_principal = pos 1

abbrev pub nt_srv_inst : ℤ
nt_srv_inst = pos 2

-- bits of the AP options (section 5.5.1)
abbrev pub use_session_key : ℕ
use_session_key = 1

abbrev pub mutual_required : ℕ
mutual_required = 2

-- bits of a ticket's flags (section 5.3)
abbrev pub ticket_invalid : ℕ
ticket_invalid = 7

abbrev pub ticket_initial : ℕ
ticket_initial = 9
