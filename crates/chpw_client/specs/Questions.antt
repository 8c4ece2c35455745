-- What a client asks, and which questions have a request.
use Rattle.std.specs.Prelude.{◌≡◌, ◌≤◌, ◌<◌, ◌^◌, ℕ, ◌≤ℤ◌, pos, Bool, true, List, length, Option, None, IfSome, option_map}
use Rattle.krb_msgs.specs.declared.service_keys.ServiceKey.{ServiceKey}
use Rattle.chpw_rules.specs.Names.{is_name}
use Rattle.chpw_rules.specs.declared.name.Name.{Name}
use Rattle.chpw_table.specs.declared.times.Moment.{Moment}
use Rattle.chpw_client.specs.declared.request_terms.RequestTerms.{RequestTerms}

pub record Question : Type 0 where
  -- of client, target and service
  pub realm : List ℕ
  -- under which the ticket is sealed
  pub service : ServiceKey
  pub now : Moment
  pub client : Name
  pub password : List ℕ
  -- whose password it is, if not the client's
  pub target : Option Name
  -- whether the ticket is flagged initial
  pub initial : Bool
  -- whether it asks in the earlier protocol
  pub old : Bool

abbrev pub question_of : RequestTerms → Question
question_of a = record {
  realm = a.realm.now;
  service = a.service.now;
  now = a.now;
  client = a.client.now;
  password = a.password.now;
  target = option_map (λ n. n.now) a.target;
  initial = a.initial;
  old = a.old;
}

-- a ticket's endtime is an hour later, within the year 9999
abbrev pub latest_second : ℕ
latest_second = 253402297199

pub record IsAskable (q : Question) : Type 0 where
  pub realm : length q.realm ≤ 255
  pub kvno : q.service.kvno < 2 ^ 32
  pub client : is_name q.client ≡ true
  pub target : IfSome q.target (λ n. is_name n ≡ true)
  -- the earlier protocol has no target
  pub own : q.old ≡ true → q.target ≡ None
  pub password : length q.password ≤ 60000
  pub start : pos 0 ≤ℤ q.now.seconds
  pub end : q.now.seconds ≤ℤ pos latest_second
  pub micros : q.now.micros < 1000000
