use Rattle.std.proofs.Common.{refl, codes}
use Rattle.chpw_config.specs.Rows.{key_row, policy_of, principal_row, rule_row, service_row}
use Rattle.chpw_warnings.proofs.laws.nothing_else_is_read.Goals as goal

pub returns-clause-files : goal.returns-clause-files
returns-clause-files c = λ a b h. (
  rw (h (codes "service") refl, h (codes "policy") refl, h (codes "rule") refl, h (codes "principal") refl) refl,
  rw (h (codes "kdc") refl) refl,
)

pub returns-clause-services : goal.returns-clause-services
returns-clause-services c = λ a b h.
    rw (
      h.first,
      h.second,
      h.policy,
      h.rule,
      h.principal,
      h.service (codes "realm") refl,
      h.service (codes "max_entries") refl,
      h.service (codes "key") refl,
    ) refl

pub returns-clause-service_keys : goal.returns-clause-service_keys
unfolding service_row
returns-clause-service_keys c = λ n before a b h.
    rw (h (codes "kvno") refl, h (codes "etype") refl, h (codes "key") refl) refl

pub returns-clause-policies : goal.returns-clause-policies
unfolding policy_of
returns-clause-policies c = λ a b h.
    rw (
      h (codes "min_length") refl,
      h (codes "min_classes") refl,
      h (codes "depth") refl,
      h (codes "iterations") refl,
      h (codes "set_needs_initial") refl,
    ) refl

pub returns-clause-rules : goal.returns-clause-rules
unfolding rule_row
returns-clause-rules c = λ n before a b h. rw (h (codes "actor") refl, h (codes "target") refl) refl

pub returns-clause-principals : goal.returns-clause-principals
unfolding principal_row
returns-clause-principals c = λ n before a b h. rw (h (codes "name") refl, h (codes "key") refl) refl

pub returns-clause-keys : goal.returns-clause-keys
unfolding key_row
returns-clause-keys c = λ n k at before a b h.
    rw (h (codes "kvno") refl, h (codes "iterations") refl, h (codes "aes128") refl, h (codes "aes256") refl) refl

pub returns-clause-kdcs : goal.returns-clause-kdcs
returns-clause-kdcs c = λ a b h. rw (h (codes "include") refl, h (codes "exclude") refl) refl
