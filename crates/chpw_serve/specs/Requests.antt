-- What a message opens to: a refusal, or a request with its password (RFC 3244 section 2, RFC 4120 section 3.2.3). What
-- is decided has a digest in place of the password.
use Rattle.std.specs.Prelude.{ℕ, ℤ, List, [], Bool, Option}
use Rattle.chpw_rules.specs.declared.name.Name.{Name}
use Rattle.chpw_table.specs.declared.request.Target.{Target}
use Rattle.chpw_table.specs.declared.request.Body.{Body}
use Rattle.chpw_table.specs.declared.request.Body.TheVariants.{Ask, BadPrivate, BadData}
use Rattle.chpw_table.specs.declared.request.Opened.{Opened}
use Rattle.chpw_table.specs.Requests.{named_or}
use Rattle.chpw_table.specs.Replies.{Answer}
use Rattle.chpw_table.specs.Derivations.{digest_from}
use Rattle.chpw_table.specs.Completing.{salt_of}
use Rattle.chpw_serve.specs.declared.messages.Seal.{Seal}

-- the content of the KRB-PRIV
pub data Content : Type 0 where
  new_password : Option Target → List ℕ → Content
  bad_private : Content
  bad_data : Content

-- the parts of ticket, authenticator and KRB-PRIV that are judged
pub record Request : Type 0 where
  pub crealm : List ℕ
  pub client : Name
  pub initial : Bool
  pub invalid : Bool
  pub starts : ℤ
  pub ends : ℤ
  pub ctime : ℤ
  pub cusec : ℕ
  pub stamp : Option ℤ
  pub seal : Seal
  pub content : Content

pub data Opens : Type 0 where
  refused : Answer → Opens
  opened : Request → Opens

abbrev pub client_of : Request → Target
client_of q = record { realm = q.crealm; name = q.client }

abbrev pub body_under : List ℕ → Target → Content → Body
body_under counts client (new_password target password) =
    Ask target (digest_from password (salt_of (named_or target client)) counts)
body_under counts client bad_private = BadPrivate
body_under counts client bad_data = BadData

-- what is decided, with the password's keys under these counts
abbrev pub opened_under : List ℕ → Request → Opened
opened_under counts q = record {
  crealm = q.crealm;
  client = q.client;
  initial = q.initial;
  invalid = q.invalid;
  starts = q.starts;
  ends = q.ends;
  ctime = q.ctime;
  cusec = q.cusec;
  stamp = q.stamp;
  body = body_under counts (client_of q) q.content;
}

-- the new password; no bytes if there is none
abbrev pub password_in : Content → List ℕ
password_in (new_password target password) = password
password_in bad_private = []
password_in bad_data = []
