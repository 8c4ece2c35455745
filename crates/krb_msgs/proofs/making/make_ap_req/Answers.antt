use Rattle.std.proofs.Common.{◌≡◌, ℕ, true, subst, sym, ap, ◌∙◌, Ok, Err}
use Rattle.std.proofs.lemmas.Result.{IfOk-weaker}
use Rattle.krb_codec.specs.Reading.{Gives}
use Rattle.krb_codec.specs.Texts.{text, fits}
use Rattle.krb_codec.specs.declared.fault.DerFault.{DerFault}
use Rattle.krb_codec.specs.declared.fault.ReadError.TheVariants as errors
use Rattle.krb_protocol.specs.Numbers as protocol
use Rattle.krb_der.specs.Types.{ap_req}
use Rattle.krb_der.specs.Values.{ticket_value, ap_req_value}
use Rattle.krb_der.specs.declared.ap_req.ApReq.{ApReq}
use Rattle.krb_der.specs.declared.ticket.Ticket.{Ticket}
use Rattle.krb_der.specs.declared.encrypted_data.EncryptedData.{EncryptedData}
use Rattle.krb_msgs.proofs.AnswerLemmas.{ok_err}
use Rattle.krb_msgs.proofs.making.make_ap_req.Goals as goal

-- the message of a ticket and a sealed part
abbrev message_of : Ticket → ℕ → EncryptedData → ApReq
message_of ticket options part = record {
  pvno = protocol.pvno;
  msg_type = protocol.krb_ap_req;
  ap_options = record { 0 = options };
  ticket = ticket;
  authenticator = part;
}

-- a text that spells a value isn't refused
not_refused : {X Y : Type 0} (view : X → Y) (f : DerFault) (v : Y) → Gives view (Err (errors.Fault f)) (Ok v) → ⊥
not_refused view f v h = ok_err h

pub unreachable-requires : goal.unreachable-requires
unreachable-requires c =
    let refused = rw c.in-Err-Fault.field-0-is at c.in-Err-Fault.ensures.found in
    not_refused ticket_value c.in-Err-Fault.field-0-0 (ticket_value c.requires.ticket.0) (refused (ticket_value c.requires.ticket.0) c.requires.ticket.1)

pub write_ap_req-requires : goal.write_ap_req-requires
write_ap_req-requires c = record {
  fits =
      subst (λ (x : EncryptedData). fits ap_req (ap_req_value (message_of c.in-Ok.ticket c.args.options x)) ≡ true) (sym c.in_ok-seal_part.ensures.value)
      (c.requires.message c.in-Ok.ticket c.in-Ok.ensures.value);
}

pub returns : goal.returns
returns c = record {
  text =
      IfOk-weaker c.write_ap_req.result _ _
      (λ v h. (
        c.in-Ok.ticket,
        c.in-Ok.ensures.value,
        h ∙ ap (λ (x : EncryptedData). text ap_req
            (ap_req_value (message_of c.in-Ok.ticket c.args.options x))) c.in_ok-seal_part.ensures.value,
      ))
      c.write_ap_req.ensures.text;
}
