use Rattle.std.proofs.Common.{◌≡◌, true, subst, sym}
use Rattle.krb_codec.specs.Texts.{fits}
use Rattle.krb_der.specs.Types as types
use Rattle.krb_der.specs.Values.{change_passwd_data_value}
use Rattle.krb_der.specs.declared.change_passwd_data.ChangePasswdData.{ChangePasswdData}
use Rattle.chpw_client.proofs.FittingLemmas.{change_fits}
use Rattle.chpw_client.specs.Questions.{question_of}
use Rattle.chpw_client.proofs.records.change_text.Goals as goal

pub write_change_passwd_data-requires : goal.write_change_passwd_data-requires
write_change_passwd_data-requires c = record {
  fits = subst (λ (d : ChangePasswdData). fits types.change_passwd_data (change_passwd_data_value d) ≡ true)
      (sym c.in_ok-data.ensures.value) (change_fits (question_of c.args.asked.now) c.requires.askable);
}
