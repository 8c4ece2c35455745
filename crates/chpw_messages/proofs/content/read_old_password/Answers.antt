use Rattle.std.proofs.Common.{None, refl, sym, ◌∙◌, subst}
use Rattle.std.proofs.lemmas.Result.{IfOk-weaker}
use Rattle.chpw_serve.specs.Requests.{new_password}
use Rattle.chpw_messages.specs.OldPasswords.{NamesTarget}
use Rattle.chpw_messages.proofs.content.read_old_password.Goals as goal

pub returns : goal.returns
returns c =
    let none : NamesTarget c.args.user_bytes → ⊥ =
    λ named. absurd (let yes = c.in_ok-names_target.ensures.value.1 (subst NamesTarget (sym c.as_slice.ensures.value) named) in
    let no = sym c.if-branch.false ∙ yes in cc) in
    record {
      content = IfOk-weaker c.change_content.result _ _ (λ h held. (new_password None c.args.user_bytes, (none, refl, refl), held))
          c.change_content.ensures.held;
    }
