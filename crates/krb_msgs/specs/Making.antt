-- The messages that are made (RFC 4120 sections 5.3, 5.5, 5.7, 5.9), and their parts. The text that is sealed is that
-- of the part's record.
use Rattle.std.specs.Prelude.{ℕ, ℤ, List, Some, None}
use Rattle.std.specs.List.{flat_map}
use Rattle.std.specs.Int.{to_le_bytes, w32}
use Rattle.std.specs.declared.net.ip_addr.IpAddr.{IpAddr}
use Rattle.krb_keys.specs.declared.key.Key.{Key}
use Rattle.krb_keys.specs.KeyUsages.{usage_ticket, usage_ap_req_authenticator, usage_ap_rep_enc_part, usage_krb_priv}
use Rattle.krb_codec.specs.Grammar.{Spells}
use Rattle.krb_protocol.specs.Numbers as protocol
use Rattle.krb_der.specs.Types.{ticket, enc_ticket_part, authenticator, enc_ap_rep_part, enc_krb_priv_part}
use Rattle.krb_der.specs.Values.{ticket_value, enc_ticket_part_value, authenticator_value, enc_ap_rep_part_value, enc_krb_priv_part_value}
use Rattle.krb_codec.specs.Texts.{text}
use Rattle.krb_der.specs.declared.principal_name.PrincipalName.{PrincipalName}
use Rattle.krb_der.specs.declared.ticket.Ticket.{Ticket}
use Rattle.krb_der.specs.declared.enc_ticket_part.EncTicketPart.{EncTicketPart}
use Rattle.krb_der.specs.declared.ap_req.ApReq.{ApReq}
use Rattle.krb_der.specs.declared.authenticator.Authenticator.{Authenticator}
use Rattle.krb_der.specs.declared.ap_rep.ApRep.{ApRep}
use Rattle.krb_der.specs.declared.ap_rep.EncApRepPart.{EncApRepPart}
use Rattle.krb_der.specs.declared.krb_priv.KrbPriv.{KrbPriv}
use Rattle.krb_der.specs.declared.krb_priv.EncKrbPrivPart.{EncKrbPrivPart}
use Rattle.krb_der.specs.declared.krb_error.KrbError.{KrbError}
use Rattle.krb_codec.specs.declared.kerberos_time.KerberosTime.{KerberosTime}
use Rattle.krb_codec.specs.declared.numbers.Microseconds.{Microseconds}
use Rattle.krb_msgs.specs.Addresses.{host_address}
use Rattle.krb_msgs.specs.Parts.{sealed_part}
use Rattle.krb_msgs.specs.Presented.{change_service}
use Rattle.krb_msgs.specs.declared.service_keys.ServiceKey.{ServiceKey}

-- random words as bytes, each low byte first: four are a confounder, eight a key
abbrev pub word_bytes : List ℕ → List ℕ
word_bytes words = flat_map (to_le_bytes w32) words

-- kadmin/changepw, a service and its instance (section 6.2)
abbrev pub service_name : PrincipalName
service_name = record { name_type = protocol.nt_srv_inst; name_string = change_service }

abbrev pub ticket_of : List ℕ → EncTicketPart → ServiceKey → List ℕ → Ticket
ticket_of realm part service confounder = record {
  tkt_vno = protocol.pvno;
  realm = realm;
  sname = service_name;
  enc_part = sealed_part service.key usage_ticket (Some service.kvno) confounder
      (text enc_ticket_part (enc_ticket_part_value part));
}

-- a text spells a ticket, as an AP-REQ takes it
abbrev pub SpellsTicket : List ℕ → Ticket → Type 0
SpellsTicket bytes t = Spells ticket bytes (ticket_value t)

abbrev pub ap_req_of : Ticket → ℕ → Authenticator → Key → List ℕ → ApReq
ap_req_of ticket options a session confounder = record {
  pvno = protocol.pvno;
  msg_type = protocol.krb_ap_req;
  ap_options = record { 0 = options };
  ticket = ticket;
  authenticator = sealed_part session usage_ap_req_authenticator None confounder
      (text authenticator (authenticator_value a));
}

-- the part of an AP-REP with no subkey
abbrev pub ap_rep_part_of : KerberosTime → Microseconds → ℕ → EncApRepPart
ap_rep_part_of ctime cusec number = record {
  ctime = ctime;
  cusec = cusec;
  subkey = None;
  seq_number = Some (record { 0 = number });
}

abbrev pub ap_rep_of : EncApRepPart → Key → List ℕ → ApRep
ap_rep_of part session confounder = record {
  pvno = protocol.pvno;
  msg_type = protocol.krb_ap_rep;
  enc_part = sealed_part session usage_ap_rep_enc_part None confounder
      (text enc_ap_rep_part (enc_ap_rep_part_value part));
}

-- the part of a KRB-PRIV with no timestamp, from this address
abbrev pub priv_part_of : IpAddr → List ℕ → ℕ → EncKrbPrivPart
priv_part_of from user_data number = record {
  user_data = user_data;
  timestamp = None;
  usec = None;
  seq_number = Some (record { 0 = number });
  s_address = host_address from;
  r_address = None;
}

abbrev pub priv_of : EncKrbPrivPart → Key → List ℕ → KrbPriv
priv_of part subkey confounder = record {
  pvno = protocol.pvno;
  msg_type = protocol.krb_priv;
  enc_part = sealed_part subkey usage_krb_priv None confounder
      (text enc_krb_priv_part (enc_krb_priv_part_value part));
}

-- a KRB-ERROR of kadmin/changepw with e-data
abbrev pub error_of : KerberosTime → Microseconds → ℤ → (realm e_data : List ℕ) → KrbError
error_of stime susec code realm e_data = record {
  pvno = protocol.pvno;
  msg_type = protocol.krb_error;
  ctime = None;
  cusec = None;
  stime = stime;
  susec = susec;
  error_code = code;
  crealm = None;
  cname = None;
  realm = realm;
  sname = service_name;
  e_text = None;
  e_data = Some e_data;
}
