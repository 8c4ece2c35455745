use Rattle.std.proofs.Common.{rules, ◌≡◌, ◌<◌, ℕ, List, [], ◌∷◌, length, refl, arith, Result}
use Rattle.krb_keys.specs.declared.key.Key.{Key}
use Rattle.krb_codec.specs.declared.kerberos_time.KerberosTime.{KerberosTime}
use Rattle.krb_codec.specs.declared.numbers.Microseconds.{Microseconds}
use Rattle.krb_msgs.specs.declared.fault.ReplyFault.{ReplyFault}
use Rattle.krb_msgs.specs.declared.reply.Reply.{Reply}
use Rattle.krb_msgs.specs.Checks.{Then, goes_on, stops}
use Rattle.krb_msgs.specs.Replies.{OpensApRep, OpensError, OpensReply, OpensResult}
use Rattle.krb_msgs.proofs.AnswerLemmas.{passes_on, says}
use Rattle.krb_msgs.proofs.reply.read_reply.Goals as goal

no_ap_rep : (session subkey : Key) (ctime : KerberosTime) (cusec : Microseconds) (bytes tail : List ℕ) (answer : Result Reply ReplyFault)
    → length bytes ≡ 0 → OpensError tail answer → OpensReply session subkey ctime cusec bytes tail answer
unfolding OpensReply
no_ap_rep session subkey ctime cusec [] tail answer none h = h
no_ap_rep session subkey ctime cusec (b ∷ bytes) tail answer none h = absurd (omega (arith, none))

with_ap_rep : (session subkey : Key) (ctime : KerberosTime) (cusec : Microseconds) (bytes tail : List ℕ) (answer : Result Reply ReplyFault)
    → 0 < length bytes → Then (OpensApRep session ctime cusec bytes) (λ _. OpensResult subkey tail) answer
    → OpensReply session subkey ctime cusec bytes tail answer
unfolding OpensReply
with_ap_rep session subkey ctime cusec [] tail answer some h = absurd (omega (arith, some))
with_ap_rep session subkey ctime cusec (b ∷ bytes) tail answer some h = h

pub returns-then-is_empty : goal.returns-then-is_empty
returns-then-is_empty c =
    let none : length c.args.ap_rep.now ≡ 0 = search rules in record {
      opens =
          says (OpensError c.args.tail.now) (OpensReply c.args.session.now c.args.subkey.now c.args.ctime c.args.cusec c.args.ap_rep.now c.args.tail.now)
          (λ answer h. no_ap_rep _ _ _ _ _ _ answer none h) c.open_error.result c.open_error.ensures;
    }

pub returns-in_err-open_ap_rep : goal.returns-in_err-open_ap_rep
returns-in_err-open_ap_rep c =
    let some : 0 < length c.args.ap_rep.now = grind arith in record {
      opens =
          passes_on (OpensApRep c.args.session.now c.args.ctime c.args.cusec c.args.ap_rep.now)
          (OpensReply c.args.session.now c.args.subkey.now c.args.ctime c.args.cusec c.args.ap_rep.now c.args.tail.now)
          (λ f h. with_ap_rep _ _ _ _ _ _ _ some (stops f h refl)) c.in_err-open_ap_rep.field-0.0 _ c.from_residual.ensures.1 c.in_err-open_ap_rep.ensures;
    }

pub returns : goal.returns
returns c =
    let some : 0 < length c.args.ap_rep.now = grind arith in record {
      opens =
          says (OpensResult c.args.subkey.now c.args.tail.now) (OpensReply
          c.args.session.now c.args.subkey.now c.args.ctime c.args.cusec c.args.ap_rep.now c.args.tail.now)
          (λ answer h. with_ap_rep _ _ _ _ _ _ answer some (goes_on tt c.in_ok-open_ap_rep.ensures h)) c.open_result.result c.open_result.ensures;
    }
