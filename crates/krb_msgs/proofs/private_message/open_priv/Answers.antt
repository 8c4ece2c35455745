use Rattle.std.proofs.Common.{rules, ◌≡◌, true, ap, refl, sym, ◌∙◌, Ok}
use Rattle.krb_keys.specs.KeyUsages.{usage_krb_priv}
use Rattle.krb_der.specs.Types.{krb_priv, enc_krb_priv_part}
use Rattle.krb_der.specs.Values.{krb_priv_value, enc_krb_priv_part_value}
use Rattle.krb_msgs.specs.declared.fault.PrivFault.TheVariants as fault
use Rattle.krb_msgs.specs.Checks.{met, unmet, goes_on, stops}
use Rattle.krb_msgs.specs.Parts.{OpensPart, Reads}
use Rattle.krb_msgs.specs.PrivateMessages.{IsPrivate, MayFollow, OpensPriv, meets}
use Rattle.krb_msgs.proofs.AnswerLemmas.{passes_on}
use Rattle.krb_msgs.proofs.private_message.open_priv.Goals as goal

pub returns-in_err-message : goal.returns-in_err-message
unfolding OpensPriv
returns-in_err-message c = record {
  opens =
      passes_on (Reads krb_priv krb_priv_value c.args.bytes.now fault.Malformed)
      (OpensPriv c.args.strictness c.args.local c.args.opened.now.subkey c.args.opened.now.seq_number c.args.bytes.now)
      (λ f h. stops f h refl) c.in_err-message.field-0.0 _ c.from_residual.ensures.1 c.in_err-message.ensures;
}

pub returns-then-not-is_private : goal.returns-then-not-is_private
unfolding OpensPriv
returns-then-not-is_private c = record {
  opens =
      goes_on c.in_ok-message.message c.in_ok-message.ensures
      (unmet (λ h. let yes = c.is_private.ensures.1 h in search (rules, yes)) refl);
}

pub returns-in_err-part : goal.returns-in_err-part
unfolding OpensPriv
returns-in_err-part c =
    let m = c.in_ok-message.message in
    let is : IsPrivate m = c.is_private.ensures.0 (search rules) in record {
      opens =
          passes_on (OpensPart enc_krb_priv_part enc_krb_priv_part_value c.args.opened.now.subkey usage_krb_priv m.enc_part fault.NotSealed fault.Malformed)
          (OpensPriv c.args.strictness c.args.local c.args.opened.now.subkey c.args.opened.now.seq_number c.args.bytes.now)
          (λ f h. goes_on m c.in_ok-message.ensures (met is (stops f h refl)))
          c.in_err-part.field-0.0 _ c.from_residual-in_err-part.ensures.1 c.in_err-part.ensures;
    }

pub returns-then-not-may_follow : goal.returns-then-not-may_follow
unfolding OpensPriv
returns-then-not-may_follow c =
    let m = c.in_ok-message.message in
    let is : IsPrivate m = c.is_private.ensures.0 (search rules) in record {
      opens =
          goes_on m c.in_ok-message.ensures (met is (goes_on c.in_ok-part.part c.in_ok-part.ensures
          (unmet (λ h. let yes = c.may_follow.ensures.1 h in search (rules, yes)) refl)));
    }

pub returns-then-not-meets : goal.returns-then-not-meets
unfolding OpensPriv
returns-then-not-meets c =
    let m = c.in_ok-message.message in
    let is : IsPrivate m = c.is_private.ensures.0 (search rules) in
    let follows : MayFollow c.args.opened.now.seq_number c.in_ok-part.part.seq_number = c.may_follow.ensures.0 (search rules) in record {
      opens =
          goes_on m c.in_ok-message.ensures (met is (goes_on c.in_ok-part.part c.in_ok-part.ensures (met follows
          (unmet (λ h. let yes = c.meets.ensures ∙ h in search (rules, yes)) refl))));
    }

pub returns : goal.returns
unfolding OpensPriv
returns c =
    let m = c.in_ok-message.message in
    let part = c.in_ok-part.part in
    let is : IsPrivate m = c.is_private.ensures.0 (search rules) in
    let follows : MayFollow c.args.opened.now.seq_number part.seq_number = c.may_follow.ensures.0 (search rules) in
    let yes : c.meets.result ≡ true = search rules in
    let strict : meets c.args.strictness c.args.local c.args.opened.now.seq_number part ≡ true = sym c.meets.ensures ∙ yes in record {
      opens = goes_on m c.in_ok-message.ensures (met is (goes_on part c.in_ok-part.ensures (met follows (met strict (ap Ok c.private_of.ensures)))));
    }
