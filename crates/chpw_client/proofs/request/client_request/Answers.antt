use Rattle.std.proofs.Common.{ℕ, List, option_map, subst, Bor}
use Rattle.std.proofs.lemmas.Result.{IfOk-weaker}
use Rattle.chpw_rules.specs.declared.config.ServiceRow.{ServiceRow}
use Rattle.chpw_rules.specs.declared.name.Name.{Name}
use Rattle.chpw_client.specs.Configured.{IsFirstKey}
use Rattle.chpw_client.specs.Questions.{Question}
use Rattle.chpw_client.specs.Requests.{IsRequest}
use Rattle.chpw_client.specs.declared.request.SentRequest.{SentRequest}
use Rattle.chpw_client.proofs.request.client_request.Goals as goal

pub returns : goal.returns
returns g c =
    let first : IsFirstKey c.args.config.now.service c.first_key-service.result =
    subst (λ (rows : List ServiceRow). IsFirstKey rows c.first_key-service.result) c.as_slice-rows.ensures.value c.first_key-service.ensures.first in
    let asked : List ℕ → Question = λ realm. record {
      realm = realm;
      service = c.first_key-service.result;
      now = c.args.now;
      client = c.args.client.now;
      password = c.args.password.now;
      target = option_map (λ (n : Bor Name). n.now) c.args.target;
      initial = c.args.initial;
      old = c.args.old;
    } in
    record {
      sent = IfOk-weaker c.request_of.result _ _ (λ (sent : SentRequest) h. (
        c.first_key-service.result,
        c.draw_words-drawn.result,
        first,
        c.draw_words-drawn.ensures.words,
        subst (λ (realm : List ℕ). IsRequest (asked realm) c.draw_words-drawn.result sent) c.as_slice-realm.ensures.value h,
      )) c.request_of.ensures.request;
    }
