use Rattle.std.proofs.Common.{Option, refl, sym, ap, subst}
use Rattle.krb_protocol.specs.Refusals.{Refusal}
use Rattle.chpw_frame.specs.declared.fault.FrameFault.{FrameFault}
use Rattle.chpw_frame.specs.Faults as frame
use Rattle.chpw_table.specs.Replies.{by_error}
use Rattle.chpw_messages.specs.Opening.{OpensFramed, refused_by}
use Rattle.chpw_messages.proofs.opening.open_message.Goals as goal

pub returns-in-Err-clause-opening : goal.returns-in-Err-clause-opening
returns-in-Err-clause-opening c = (
  refused_by (frame.refusal_of c.in-Err.fault),
  subst (λ (f : Option FrameFault). OpensFramed c.args.strictness c.args.realm.now c.args.keys.now c.args.ends c.args.message.now f
      (refused_by (frame.refusal_of c.in-Err.fault))) (sym c.in-Err.ensures.first) refl,
  ap (λ (r : Refusal). by_error r.code r.error r.text) (sym c.refusal.ensures.value),
)
