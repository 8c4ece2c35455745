-- Records are told apart by their values: each is got back from its value.
use Rattle.std.proofs.Common.{◌≡◌, ℕ, List, [], ◌∷◌, Option, Some, None, option_map, map, refl, sym, ap, ◌∙◌, ℤ, pos}
use Rattle.std.specs.Prelude.{unsigned_abs}
use Rattle.krb_codec.specs.Shapes.{Value}
use Rattle.krb_codec.specs.declared.kerberos_time.KerberosTime.{KerberosTime}
use Rattle.krb_codec.specs.declared.numbers.Microseconds.{Microseconds}
use Rattle.krb_codec.specs.declared.numbers.SeqNumber.{SeqNumber}
use Rattle.krb_der.specs.Types as types
use Rattle.krb_der.specs.Values.{principal_name_value, encrypted_data_value, encryption_key_value, host_address_value}
use Rattle.krb_der.specs.Values.{checksum_value, authorization_entry_value, authorization_data_value, ticket_value}
use Rattle.krb_der.specs.Values.{enc_ticket_part_value, authenticator_value, ap_req_value, ap_rep_value}
use Rattle.krb_der.specs.Values.{enc_ap_rep_part_value, krb_priv_value, enc_krb_priv_part_value, krb_error_value}
use Rattle.krb_der.specs.declared.principal_name.PrincipalName.{PrincipalName}
use Rattle.krb_der.specs.declared.encrypted_data.EncryptedData.{EncryptedData}
use Rattle.krb_der.specs.declared.encrypted_data.EncryptionKey.{EncryptionKey}
use Rattle.krb_der.specs.declared.encrypted_data.Checksum.{Checksum}
use Rattle.krb_der.specs.declared.host_address.HostAddress.{HostAddress}
use Rattle.krb_der.specs.declared.authorization_data.AuthorizationEntry.{AuthorizationEntry}
use Rattle.krb_der.specs.declared.ticket.Ticket.{Ticket}
use Rattle.krb_der.specs.declared.enc_ticket_part.EncTicketPart.{EncTicketPart}
use Rattle.krb_der.specs.declared.authenticator.Authenticator.{Authenticator}
use Rattle.krb_der.specs.declared.ap_req.ApReq.{ApReq}
use Rattle.krb_der.specs.declared.ap_rep.ApRep.{ApRep}
use Rattle.krb_der.specs.declared.ap_rep.EncApRepPart.{EncApRepPart}
use Rattle.krb_der.specs.declared.krb_priv.KrbPriv.{KrbPriv}
use Rattle.krb_der.specs.declared.krb_priv.EncKrbPrivPart.{EncKrbPrivPart}
use Rattle.krb_der.specs.declared.krb_error.KrbError.{KrbError}

abbrev pub TellsApart : {A B : Type 0} → (A → B) → Type 0
TellsApart {A} view = (x y : A) → view x ≡ view y → x ≡ y

-- a view that is undone tells apart
undone : {A B : Type 0} (view : A → B) (back : B → A) → ((x : A) → back (view x) ≡ x) → TellsApart view
undone view back undo x y e = sym (undo x) ∙ ap back e ∙ undo y

option_back : {A B : Type 0} (view : A → B) (back : B → A) → ((x : A) → back (view x) ≡ x)
    → (o : Option A) → option_map back (option_map view o) ≡ o
option_back view back undo None = refl
option_back view back undo (Some x) = ap Some (undo x)

map_back : {A B : Type 0} (view : A → B) (back : B → A) → ((x : A) → back (view x) ≡ x)
    → (xs : List A) → map back (map view xs) ≡ xs
map_back view back undo [] = refl
map_back view back undo (x ∷ xs) = ap (λ y. y ∷ map back (map view xs)) (undo x) ∙ ap (λ ys. x ∷ ys) (map_back view back undo xs)

both : {A B R : Type 0} (f : A → B → R) {a c : A} {b d : B} → a ≡ c → b ≡ d → f a b ≡ f c d
both f {c = c} {b = b} p q = ap (λ z. f z b) p ∙ ap (f c) q

three : {A B C R : Type 0} (f : A → B → C → R) {a d : A} {b e : B} {c g : C} → a ≡ d → b ≡ e → c ≡ g → f a b c ≡ f d e g
three f {d = d} {b = b} {c = c} p q r = ap (λ z. f z b c) p ∙ both (f d) q r

five : {A B C D E R : Type 0} (f : A → B → C → D → E → R) {a a2 : A} {b b2 : B} {c c2 : C} {d d2 : D} {e e2 : E}
    → a ≡ a2 → b ≡ b2 → c ≡ c2 → d ≡ d2 → e ≡ e2 → f a b c d e ≡ f a2 b2 c2 d2 e2
five f {a2 = a2} {b = b} {b2 = b2} {c = c} {d = d} {e = e} p q r s t = ap (λ z. f z b c d e) p ∙ ap (λ z. f a2 z c d e) q ∙ three (f a2 b2) r s t

abbrev same : List ℕ → List ℕ
same bytes = bytes

abbrev time_back : ℤ → KerberosTime
time_back t = record { 0 = t }

abbrev micros_back : ℤ → Microseconds
micros_back n = record { 0 = unsigned_abs n }

abbrev number_back : ℕ → SeqNumber
number_back n = record { 0 = n }

abbrev name_back : Value types.principal_name → PrincipalName
name_back (type, (parts, _)) = record { name_type = type; name_string = map same parts }

name_undone : (x : PrincipalName) → name_back (principal_name_value x) ≡ x
name_undone x = ap (λ parts. record { name_type = x.name_type; name_string = parts }) (map_back same same (λ _. refl) x.name_string)

abbrev sealed_back : Value types.encrypted_data → EncryptedData
sealed_back (etype, (kvno, (cipher, _))) = record { etype = etype; kvno = option_map unsigned_abs kvno; cipher = cipher }

sealed_undone : (x : EncryptedData) → sealed_back (encrypted_data_value x) ≡ x
sealed_undone x = ap (λ k. record { etype = x.etype; kvno = k; cipher = x.cipher }) (option_back pos unsigned_abs (λ _. refl) x.kvno)

abbrev key_back : Value types.encryption_key → EncryptionKey
key_back (type, (bytes, _)) = record { keytype = type; keyvalue = bytes }

abbrev checksum_back : Value types.checksum → Checksum
checksum_back (type, (bytes, _)) = record { cksumtype = type; checksum = bytes }

abbrev address_back : Value types.host_address → HostAddress
address_back (type, (bytes, _)) = record { addr_type = type; address = bytes }

abbrev entry_back : Value types.authorization_entry → AuthorizationEntry
entry_back (type, (bytes, _)) = record { ad_type = type; ad_data = bytes }

entries_undone : (o : Option (List AuthorizationEntry))
    → option_map (map entry_back) (option_map authorization_data_value o) ≡ o
entries_undone o = option_back authorization_data_value (map entry_back) (map_back authorization_entry_value entry_back (λ _. refl)) o

addresses_undone : (o : Option (List HostAddress))
    → option_map (map address_back) (option_map (map host_address_value) o) ≡ o
addresses_undone o = option_back (map host_address_value) (map address_back) (map_back host_address_value address_back (λ _. refl)) o

times_undone : (o : Option KerberosTime) → option_map time_back (option_map (λ (t : KerberosTime). t.0) o) ≡ o
times_undone o = option_back (λ (t : KerberosTime). t.0) time_back (λ _. refl) o

micros_undone : (o : Option Microseconds) → option_map micros_back (option_map (λ (m : Microseconds). pos m.0) o) ≡ o
micros_undone o = option_back (λ (m : Microseconds). pos m.0) micros_back (λ _. refl) o

numbers_undone : (o : Option SeqNumber) → option_map number_back (option_map (λ (n : SeqNumber). n.0) o) ≡ o
numbers_undone o = option_back (λ (n : SeqNumber). n.0) number_back (λ _. refl) o

keys_undone : (o : Option EncryptionKey) → option_map key_back (option_map encryption_key_value o) ≡ o
keys_undone o = option_back encryption_key_value key_back (λ _. refl) o

-- ---- the messages and their parts

abbrev ticket_back : Value types.ticket → Ticket
ticket_back (vno, (realm, (sname, (part, _)))) =
    record { tkt_vno = vno; realm = realm; sname = name_back sname; enc_part = sealed_back part }

ticket_undone : (x : Ticket) → ticket_back (ticket_value x) ≡ x
ticket_undone x =
    both (λ n p. record { tkt_vno = x.tkt_vno; realm = x.realm; sname = n; enc_part = p }) (name_undone x.sname) (sealed_undone x.enc_part)

abbrev ap_req_back : Value types.ap_req → ApReq
ap_req_back (pvno, (type, (options, (ticket, (part, _))))) = record {
  pvno = pvno;
  msg_type = type;
  ap_options = record { 0 = options };
  ticket = ticket_back ticket;
  authenticator = sealed_back part;
}

pub ap_req_apart : TellsApart ap_req_value
ap_req_apart =
    undone ap_req_value ap_req_back
    (λ x. both (λ t p. record {
      pvno = x.pvno;
      msg_type = x.msg_type;
      ap_options = x.ap_options;
      ticket = t;
      authenticator = p;
    }) (ticket_undone x.ticket) (sealed_undone x.authenticator))

abbrev ticket_part_back : Value types.enc_ticket_part → EncTicketPart
ticket_part_back (flags, (key, (crealm, (cname, ((type, (contents, _)), (auth, (start, (end, (renew, (addresses, (entries, _))))))))))) = record {
  flags = record { 0 = flags };
  key = key_back key;
  crealm = crealm;
  cname = name_back cname;
  transited = record { tr_type = type; contents = contents };
  authtime = time_back auth;
  starttime = option_map time_back start;
  endtime = time_back end;
  renew_till = option_map time_back renew;
  caddr = option_map (map address_back) addresses;
  authorization_data = option_map (map entry_back) entries;
}

pub ticket_part_apart : TellsApart enc_ticket_part_value
ticket_part_apart =
    undone enc_ticket_part_value ticket_part_back
    (λ x.
    five (λ n t u c d. record {
      flags = x.flags;
      key = x.key;
      crealm = x.crealm;
      cname = n;
      transited = x.transited;
      authtime = x.authtime;
      starttime = t;
      endtime = x.endtime;
      renew_till = u;
      caddr = c;
      authorization_data = d;
    })
    (name_undone x.cname) (times_undone x.starttime) (times_undone x.renew_till) (addresses_undone x.caddr) (entries_undone x.authorization_data))

abbrev authenticator_back : Value types.authenticator → Authenticator
authenticator_back (vno, (crealm, (cname, (sum, (cusec, (ctime, (subkey, (seq, (entries, _))))))))) = record {
  authenticator_vno = vno;
  crealm = crealm;
  cname = name_back cname;
  cksum = option_map checksum_back sum;
  cusec = micros_back cusec;
  ctime = time_back ctime;
  subkey = option_map key_back subkey;
  seq_number = option_map number_back seq;
  authorization_data = option_map (map entry_back) entries;
}

pub authenticator_apart : TellsApart authenticator_value
authenticator_apart =
    undone authenticator_value authenticator_back
    (λ x. five (λ n s k q d. record {
      authenticator_vno = x.authenticator_vno;
      crealm = x.crealm;
      cname = n;
      cksum = s;
      cusec = x.cusec;
      ctime = x.ctime;
      subkey = k;
      seq_number = q;
      authorization_data = d;
    })
    (name_undone x.cname) (option_back checksum_value checksum_back (λ _. refl) x.cksum)
    (keys_undone x.subkey) (numbers_undone x.seq_number) (entries_undone x.authorization_data))

abbrev ap_rep_back : Value types.ap_rep → ApRep
ap_rep_back (pvno, (type, (part, _))) = record { pvno = pvno; msg_type = type; enc_part = sealed_back part }

pub ap_rep_apart : TellsApart ap_rep_value
ap_rep_apart = undone ap_rep_value ap_rep_back (λ x. ap (λ p. record { pvno = x.pvno; msg_type = x.msg_type; enc_part = p }) (sealed_undone x.enc_part))

abbrev ap_rep_part_back : Value types.enc_ap_rep_part → EncApRepPart
ap_rep_part_back (ctime, (cusec, (subkey, (seq, _)))) = record {
  ctime = time_back ctime;
  cusec = micros_back cusec;
  subkey = option_map key_back subkey;
  seq_number = option_map number_back seq;
}

pub ap_rep_part_apart : TellsApart enc_ap_rep_part_value
ap_rep_part_apart =
    undone enc_ap_rep_part_value ap_rep_part_back
    (λ x. both (λ k q. record { ctime = x.ctime; cusec = x.cusec; subkey = k; seq_number = q })
    (keys_undone x.subkey) (numbers_undone x.seq_number))

abbrev krb_priv_back : Value types.krb_priv → KrbPriv
krb_priv_back (pvno, (type, (part, _))) = record { pvno = pvno; msg_type = type; enc_part = sealed_back part }

pub krb_priv_apart : TellsApart krb_priv_value
krb_priv_apart = undone krb_priv_value krb_priv_back (λ x. ap (λ p. record { pvno = x.pvno; msg_type = x.msg_type; enc_part = p }) (sealed_undone x.enc_part))

abbrev priv_part_back : Value types.enc_krb_priv_part → EncKrbPrivPart
priv_part_back (user, (stamp, (usec, (seq, (sender, (receiver, _)))))) = record {
  user_data = user;
  timestamp = option_map time_back stamp;
  usec = option_map micros_back usec;
  seq_number = option_map number_back seq;
  s_address = address_back sender;
  r_address = option_map address_back receiver;
}

abbrev the_rest : EncKrbPrivPart → Option Microseconds → Option SeqNumber → Option HostAddress → EncKrbPrivPart
the_rest x u q r = record { user_data = x.user_data; timestamp = x.timestamp; usec = u; seq_number = q; s_address = x.s_address; r_address = r }

pub priv_part_apart : TellsApart enc_krb_priv_part_value
priv_part_apart =
    undone enc_krb_priv_part_value priv_part_back
    (λ x. both (λ t rest. record {
      user_data = x.user_data;
      timestamp = t;
      usec = rest.usec;
      seq_number = rest.seq_number;
      s_address = x.s_address;
      r_address = rest.r_address;
    }) (times_undone x.timestamp)
    (three (λ u q r. the_rest x u q r) (micros_undone x.usec)
    (numbers_undone x.seq_number) (option_back host_address_value address_back (λ _. refl) x.r_address)))

texts_undone : (o : Option (List ℕ)) → option_map same (option_map same o) ≡ o
texts_undone o = option_back same same (λ _. refl) o

abbrev krb_error_back : Value types.krb_error → KrbError
krb_error_back (pvno, (type, (ctime, (cusec, (stime, (susec, (code, (crealm, (cname, (realm, (sname, (words, (bytes, _))))))))))))) = record {
  pvno = pvno;
  msg_type = type;
  ctime = option_map time_back ctime;
  cusec = option_map micros_back cusec;
  stime = time_back stime;
  susec = micros_back susec;
  error_code = code;
  crealm = option_map same crealm;
  cname = option_map name_back cname;
  realm = realm;
  sname = name_back sname;
  e_text = option_map same words;
  e_data = option_map same bytes;
}

abbrev with_head : KrbError → Option KerberosTime → Option Microseconds → Option (List ℕ) → KrbError
with_head x t u r = record {
  pvno = x.pvno;
  msg_type = x.msg_type;
  ctime = t;
  cusec = u;
  stime = x.stime;
  susec = x.susec;
  error_code = x.error_code;
  crealm = r;
  cname = x.cname;
  realm = x.realm;
  sname = x.sname;
  e_text = x.e_text;
  e_data = x.e_data;
}

abbrev with_tail : KrbError → Option PrincipalName → PrincipalName → Option (List ℕ) → Option (List ℕ) → KrbError
with_tail x n s w b =
    record {
      pvno = x.pvno;
      msg_type = x.msg_type;
      ctime = x.ctime;
      cusec = x.cusec;
      stime = x.stime;
      susec = x.susec;
      error_code = x.error_code;
      crealm = x.crealm;
      cname = n;
      realm = x.realm;
      sname = s;
      e_text = w;
      e_data = b;
    }

pub error_apart : TellsApart krb_error_value
error_apart =
    undone krb_error_value krb_error_back
    (λ x. both (λ (head tail : KrbError). record {
      pvno = x.pvno;
      msg_type = x.msg_type;
      ctime = head.ctime;
      cusec = head.cusec;
      stime = x.stime;
      susec = x.susec;
      error_code = x.error_code;
      crealm = head.crealm;
      cname = tail.cname;
      realm = x.realm;
      sname = tail.sname;
      e_text = tail.e_text;
      e_data = tail.e_data;
    })
    (three (with_head x) (times_undone x.ctime) (micros_undone x.cusec) (texts_undone x.crealm))
    (both (λ n (f : PrincipalName × (Option (List ℕ) × Option (List ℕ))). with_tail x n f.0 f.1.0 f.1.1)
    (option_back principal_name_value name_back name_undone x.cname)
    (three (λ s w b. (s, (w, b))) (name_undone x.sname) (texts_undone x.e_text) (texts_undone x.e_data))))
