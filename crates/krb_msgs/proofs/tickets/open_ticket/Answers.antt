use Rattle.std.proofs.Common.{rules, refl, sym, ◌∙◌}
use Rattle.krb_keys.specs.KeyUsages.{usage_ticket}
use Rattle.krb_der.specs.Types.{enc_ticket_part}
use Rattle.krb_der.specs.Values.{enc_ticket_part_value}
use Rattle.krb_msgs.specs.declared.fault.ApFault.TheVariants as fault
use Rattle.krb_msgs.specs.Checks.{of_one, of_none, goes_on, stops}
use Rattle.krb_msgs.specs.Parts.{OpensPart}
use Rattle.krb_msgs.specs.Tickets.{OpensTicket}
use Rattle.krb_msgs.proofs.AnswerLemmas.{passes_on}
use Rattle.krb_msgs.proofs.tickets.open_ticket.Goals as goal

pub returns-in_err-part : goal.returns-in_err-part
unfolding OpensTicket
returns-in_err-part c =
    passes_on (OpensPart enc_ticket_part enc_ticket_part_value c.args.key.now usage_ticket c.args.ticket.enc_part fault.BadTicket fault.BadTicket)
    (OpensTicket c.args.key.now c.args.ticket.enc_part) (λ f h. stops f h refl) c.in_err-part.field-0.0 _ c.from_residual.ensures.1 c.in_err-part.ensures

pub returns-in-Some : goal.returns-in-Some
unfolding OpensTicket
returns-in-Some c = goes_on c.in_ok-part.part c.in_ok-part.ensures (of_one c.in-Some.session (sym c.key_in.ensures ∙ c.in-Some.is) refl)

pub returns : goal.returns
unfolding OpensTicket
returns c =
    goes_on c.in_ok-part.part c.in_ok-part.ensures (of_none (λ k h. let none = sym c.in-None.is ∙ c.key_in.ensures ∙ h in search (rules, none)) refl)
