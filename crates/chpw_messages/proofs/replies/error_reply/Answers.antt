use Rattle.std.proofs.Common.{◌≡◌, ◌≤◌, ℕ, List, [], true, length, sym, ap, subst, rules, arith}
use Rattle.std.specs.Prelude.{FitsSigned}
use Rattle.std.specs.Int.{w32}
use Rattle.std.proofs.lemmas.Int.{ints}
use Rattle.std.proofs.lemmas.Result.{IfOk-weaker}
use Rattle.krb_codec.specs.Texts.{fits}
use Rattle.krb_der.specs.Types.{krb_error}
use Rattle.krb_der.specs.Values.{krb_error_value}
use Rattle.krb_der.specs.declared.krb_error.KrbError.{KrbError}
use Rattle.chpw_frame.specs.Framing.{reply_version}
use Rattle.chpw_frame.proofs.FramingLemmas.{framed_length}
use Rattle.chpw_messages.proofs.ReplyLemmas.{error_fits, error_range, message_short}
use Rattle.chpw_messages.proofs.replies.error_reply.Goals as goal

pub make_error-requires : goal.make_error-requires
make_error-requires c =
    let r = c.args.refusal in
    let f : FitsSigned w32 r.error = search rules in
    let range = error_range r.error (omega (arith, ints)) (omega (arith, ints)) in
    record {
      fits = subst (λ (e : KrbError). fits krb_error (krb_error_value e) ≡ true) (sym c.in_ok-error.ensures.value)
          (error_fits c.args.realm.now r.code r.error r.text.now c.args.now c.requires.realm c.requires.moment c.requires.micros range r.short);
    }

pub join_reply-requires : goal.join_reply-requires
join_reply-requires c =
    let r = c.args.refusal in
    let short = message_short
    c.args.realm.now r.code r.error r.text.now c.args.now c.in_ok-error.error c.in_ok-message.message.items
    c.requires.realm r.short c.in_ok-error.ensures.value c.in_ok-message.ensures.text in
    let same = ap length c.deref.ensures.value in
    record { fits = omega (arith, short, same) }

pub returns-clause-fits : goal.returns-clause-fits
returns-clause-fits c =
    let r = c.args.refusal in
    let short = message_short
    c.args.realm.now r.code r.error r.text.now c.args.now c.in_ok-error.error c.in_ok-message.message.items
    c.requires.realm r.short c.in_ok-error.ensures.value c.in_ok-message.ensures.text in
    let same = ap length c.deref.ensures.value in
    let size = framed_length reply_version [] c.deref.result.now in
    IfOk-weaker c.join_reply.result _ _ (λ bytes h. subst (λ (t : List ℕ). length t ≤ 65535)
    (sym h) (omega (arith, short, same, size))) c.join_reply.ensures.text
