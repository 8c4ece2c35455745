use Rattle.std.proofs.Common.{rules, ◌≡◌, refl, sym, ◌∙◌}
use Rattle.krb_protocol.specs.Numbers as protocol
use Rattle.krb_der.specs.Types.{ap_req}
use Rattle.krb_der.specs.Values.{ap_req_value}
use Rattle.krb_msgs.specs.declared.fault.ApFault.TheVariants as fault
use Rattle.krb_msgs.specs.Checks.{met, unmet, of_one, of_none, goes_on, stops}
use Rattle.krb_msgs.specs.Parts.{Reads}
use Rattle.krb_msgs.specs.Presented.{HasVersion, IsForUs, IsKnownEtype, Presents, UsesSessionKey}
use Rattle.krb_msgs.proofs.AnswerLemmas.{passes_on}
use Rattle.krb_msgs.proofs.presenting.read_request.Goals as goal

pub returns-in_err-request : goal.returns-in_err-request
unfolding Presents
returns-in_err-request c =
    passes_on (Reads ap_req ap_req_value c.args.bytes.now fault.Malformed) (Presents c.args.realm.now c.args.keys.now c.args.bytes.now)
    (λ f h. stops f h refl) c.in_err-request.field-0.0 _ c.from_residual.ensures.1 c.in_err-request.ensures

pub returns-then-not-has_version : goal.returns-then-not-has_version
unfolding Presents
returns-then-not-has_version c =
    goes_on c.in_ok-request.request c.in_ok-request.ensures (unmet (λ h. let yes = c.has_version.ensures.1 h in search (rules, yes)) refl)

pub returns-then-request-ne-KRB_AP_REQ : goal.returns-then-request-ne-KRB_AP_REQ
unfolding Presents
returns-then-request-ne-KRB_AP_REQ c =
    let r = c.in_ok-request.request in
    let version : HasVersion r = c.has_version.ensures.0 (search rules) in
    goes_on r c.in_ok-request.ensures (met version (unmet (λ h. search (rules, h)) refl))

pub returns-then-is_set : goal.returns-then-is_set
unfolding Presents
returns-then-is_set c =
    let r = c.in_ok-request.request in
    let version : HasVersion r = c.has_version.ensures.0 (search rules) in
    let type : r.msg_type ≡ protocol.krb_ap_req = search rules in
    goes_on r c.in_ok-request.ensures (met version (met type (unmet (λ clear. clear (sym c.is_set.ensures.value ∙ search rules)) refl)))

pub returns-then-not-is_for_us : goal.returns-then-not-is_for_us
unfolding Presents
returns-then-not-is_for_us c =
    let r = c.in_ok-request.request in
    let version : HasVersion r = c.has_version.ensures.0 (search rules) in
    let type : r.msg_type ≡ protocol.krb_ap_req = search rules in
    let clear : UsesSessionKey r → ⊥ = λ h. let yes = c.is_set.ensures.value ∙ h in search (rules, yes) in
    goes_on r c.in_ok-request.ensures (met version (met type (met clear (unmet (λ h. let yes = c.is_for_us.ensures.1 h in search (rules, yes)) refl))))

pub returns-then-not-has_known_etype : goal.returns-then-not-has_known_etype
unfolding Presents
returns-then-not-has_known_etype c =
    let r = c.in_ok-request.request in
    let version : HasVersion r = c.has_version.ensures.0 (search rules) in
    let type : r.msg_type ≡ protocol.krb_ap_req = search rules in
    let clear : UsesSessionKey r → ⊥ = λ h. let yes = c.is_set.ensures.value ∙ h in search (rules, yes) in
    let ours : IsForUs c.args.realm.now r.ticket = c.is_for_us.ensures.0 (search rules) in
    goes_on r c.in_ok-request.ensures (met version (met type
    (met clear (met ours (unmet (λ h. let yes = c.has_known_etype.ensures.1 h in search (rules, yes)) refl)))))

pub returns-in-Some : goal.returns-in-Some
unfolding Presents
returns-in-Some c =
    let r = c.in_ok-request.request in
    let version : HasVersion r = c.has_version.ensures.0 (search rules) in
    let type : r.msg_type ≡ protocol.krb_ap_req = search rules in
    let clear : UsesSessionKey r → ⊥ = λ h. let yes = c.is_set.ensures.value ∙ h in search (rules, yes) in
    let ours : IsForUs c.args.realm.now r.ticket = c.is_for_us.ensures.0 (search rules) in
    let known : IsKnownEtype r.ticket.enc_part.etype = c.has_known_etype.ensures.0 (search rules) in
    goes_on r c.in_ok-request.ensures (met version (met type
    (met clear (met ours (met known (of_one c.in-Some.key (sym c.key_for.ensures ∙ c.in-Some.is) refl))))))

pub returns-in-None : goal.returns-in-None
unfolding Presents
returns-in-None c =
    let r = c.in_ok-request.request in
    let version : HasVersion r = c.has_version.ensures.0 (search rules) in
    let type : r.msg_type ≡ protocol.krb_ap_req = search rules in
    let clear : UsesSessionKey r → ⊥ = λ h. let yes = c.is_set.ensures.value ∙ h in search (rules, yes) in
    let ours : IsForUs c.args.realm.now r.ticket = c.is_for_us.ensures.0 (search rules) in
    let known : IsKnownEtype r.ticket.enc_part.etype = c.has_known_etype.ensures.0 (search rules) in
    goes_on r c.in_ok-request.ensures (met version (met type (met clear (met ours (met known
    (of_none (λ k h. let none = sym c.in-None.is ∙ c.key_for.ensures ∙ h in search (rules, none)) refl))))))
