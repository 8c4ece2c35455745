use Rattle.std.proofs.Common.{ℕ, List, refl, sym, ap, subst}
use Rattle.std.specs.Prelude.{option_map}
use Rattle.std.proofs.lemmas.Result.{IfOk-weaker}
use Rattle.chpw_frame.specs.ChangeData.{IsChange}
use Rattle.chpw_serve.specs.Requests.{new_password, bad_data}
use Rattle.chpw_messages.specs.declared.content.Content.{Content}
use Rattle.chpw_messages.specs.Opening.{target_in}
use Rattle.chpw_messages.proofs.content.read_change.Goals as goal

pub returns-in-Ok : goal.returns-in-Ok
returns-in-Ok c =
    let change = c.in-Ok.change in
    let is : IsChange c.args.user_bytes change = subst (λ (b : List ℕ). IsChange b change) c.as_slice.ensures.value c.in-Ok.ensures.sound in
    record {
      content = IfOk-weaker c.change_content.result _ _
          (λ h held. (new_password (option_map (target_in c.args.realm.now) change.target) change.password, (change, is, refl, refl), held))
          c.change_content.ensures.held;
    }

pub returns-in-Err-NotChangeData : goal.returns-in-Err-NotChangeData
returns-in-Err-NotChangeData c =
    let none = rw c.in-Err-NotChangeData.field-0-is at c.in-Err-NotChangeData.ensures.complete in
    let is = c.without_password.ensures.value in
    record {
      content = (
        bad_data,
        λ change h. none change (subst (λ (b : List ℕ). IsChange b change) (sym c.as_slice.ensures.value) h),
        (λ client. ap (λ (h : Content). h.body) is, ap (λ (h : Content). h.password) is, ap (λ (h : Content). h.stamp) is),
      );
    }

pub returns-in-Err-RealmWithoutName : goal.returns-in-Err-RealmWithoutName
returns-in-Err-RealmWithoutName c =
    let none = rw c.in-Err-RealmWithoutName.field-0-is at c.in-Err-RealmWithoutName.ensures.complete in
    let is = c.without_password-in-Err-RealmWithoutName.ensures.value in
    record {
      content = (
        bad_data,
        λ change h. none change (subst (λ (b : List ℕ). IsChange b change) (sym c.as_slice.ensures.value) h),
        (λ client. ap (λ (h : Content). h.body) is, ap (λ (h : Content). h.password) is, ap (λ (h : Content). h.stamp) is),
      );
    }
