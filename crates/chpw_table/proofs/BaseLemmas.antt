-- A base put back is put back in each state that a table agrees with.
use Rattle.std.proofs.Common.{◌≡◌, ℕ, List, [], ◌∷◌, true, if◌then◌else◌, Option, sym, ◌∙◌, ap, subst, map, arith}
use Rattle.std.specs.Prelude.{option_map, IsSome}
use Rattle.chpw_rules.specs.declared.name.Name.{Name}
use Rattle.chpw_rules.specs.Names.{is_same_name}
use Rattle.chpw_rules.specs.Limits.{is_in, iteration_counts}
use Rattle.chpw_record.specs.declared.key.KeyRow.{KeyRow}
use Rattle.chpw_table.specs.declared.table.Principal.{Principal}
use Rattle.chpw_table.specs.declared.table.restoring.KeyFault.{KeyFault}
use Rattle.chpw_table.specs.declared.table.restoring.KeyFault.TheVariants.{UnknownPrincipal, WrongVersion, TooMany, Memory}
use Rattle.chpw_table.specs.State.{State, keys_held}
use Rattle.chpw_table.specs.Step.{with_key}
use Rattle.chpw_table.specs.Agreement.{Agrees}
use Rattle.chpw_table.specs.Entering.{with_keys_at}
use Rattle.chpw_table.specs.Holding.{are_holders}
use Rattle.chpw_table.specs.BaseKeys.{with_base_key, IsBaseRefused}
use Rattle.chpw_table.proofs.HoldingLemmas.{new_holders}
use Rattle.chpw_table.proofs.KeyLemmas.{keys_put}

-- the keys of each name after a base of one
pub keys_based : (s : State) (name : Name) (key : KeyRow) (other : Name)
    → keys_held (with_base_key name key s) other ≡ (if is_same_name name other
    then option_map (λ (keys : List KeyRow). key ∷ []) (keys_held s other) else keys_held s other)
keys_based s name key other = keys_put 1 name key s.principals other

pub agrees_based : (t s : State) (name : Name) (key : KeyRow) → Agrees t s → Agrees (with_base_key name key t) (with_base_key name key s)
agrees_based t s name key a = record {
  fixed = a.fixed;
  principals = λ other.
      keys_based t name key other
      ∙ (ap (λ (x : Option (List KeyRow)). if is_same_name name other then option_map (λ (keys : List KeyRow). key ∷ []) x else x) (a.principals other)
      ∙ sym (keys_based s name key other));
  clock = a.clock;
  broken = a.broken;
  count = a.count;
  ids = a.ids;
}

pub known_for_all : (t s : State) (name : Name) → IsSome (keys_held t name) → Agrees t s → IsSome (keys_held s name)
known_for_all t s name known a = subst IsSome (a.principals name) known

pub unbased_for_all : (t s : State) (name : Name) (fault : KeyFault) → IsBaseRefused t name fault → Agrees t s → IsBaseRefused s name fault
unbased_for_all t s name UnknownPrincipal r a = sym (a.principals name) ∙ r
unbased_for_all t s name WrongVersion r a = r
unbased_for_all t s name TooMany r a = r
unbased_for_all t s name Memory r a = known_for_all t s name r a

-- where the key was put in its place
pub based_for_all : (t s : State) (n : ℕ) (keys : List KeyRow) (name : Name) (key : KeyRow)
    → map (with_key 1 name key) t.principals ≡ with_keys_at n keys t.principals → Agrees t s
    → Agrees (record t { principals = with_keys_at n keys t.principals }) (with_base_key name key s)
based_for_all t s n keys name key e a =
    subst (λ (ps : List Principal). Agrees (record t { principals = ps }) (with_base_key name key s)) e (agrees_based t s name key a)

pub base_holders : (s : State) (name : Name) (key : KeyRow) (n : ℕ) (keys : List KeyRow) → are_holders s.principals ≡ true
    → is_in iteration_counts key.count ≡ true → map (with_key 1 name key) s.principals ≡ with_keys_at n keys s.principals
    → are_holders (with_keys_at n keys s.principals) ≡ true
base_holders s name key n keys h c e =
    subst (λ (ps : List Principal). are_holders ps ≡ true) e
    (new_holders 1 name key (omega arith) (omega arith) c s.principals h)
