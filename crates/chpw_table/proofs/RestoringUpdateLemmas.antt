-- What the KDC said of a name is put back in each state that a table agrees with.
use Rattle.std.proofs.Common.{◌≡◌, max, List, Option, if◌then◌else◌}
use Rattle.std.proofs.Common.{sym, ◌∙◌, ap, subst}
use Rattle.std.specs.Prelude.{IsSome}
use Rattle.chpw_rules.specs.declared.name.Name.{Name}
use Rattle.chpw_rules.specs.Names.{is_same_name}
use Rattle.chpw_record.specs.declared.key.KeyRow.{KeyRow}
use Rattle.chpw_record.specs.declared.record.KeyKind.{KeyKind}
use Rattle.chpw_record.specs.declared.record.KeyKind.TheVariants.{Adopt, Lift, Remove}
use Rattle.chpw_table.specs.declared.table.placing.Placement.{Placement}
use Rattle.chpw_table.specs.State.{State, Fixed, keys_held, kept_count}
use Rattle.chpw_table.specs.Updates.{keys_after, is_newer}
use Rattle.chpw_table.specs.Agreement.{Held, Agrees}
use Rattle.chpw_table.specs.Placing.{IsPlaced, placed, with_placed}
use Rattle.chpw_table.specs.Restoring.{with_updated_keys, IsNextUpdate}
use Rattle.chpw_table.proofs.UpdateLemmas.{keys_with}

-- ---- states that agree

updated_keys_alike : (t s : State) (kind : KeyKind) (name : Name) (key : KeyRow) → Agrees t s
    → keys_after kind (kept_count t) key (keys_held t name) ≡ keys_after kind (kept_count s) key (keys_held s name)
updated_keys_alike t s kind name key a =
    ap (λ (f : Fixed). keys_after kind (max f.policy.depth 1) key (keys_held t name)) a.fixed
    ∙ ap (keys_after kind (kept_count s) key) (a.principals name)

-- where the keys were put in their place
placed_for_all : (t s : State) (kind : KeyKind) (name : Name) (key : KeyRow) (p : Placement)
    → IsPlaced t name (keys_after kind (kept_count t) key (keys_held t name)) p → Agrees t s
    → Agrees (record t { principals = placed p t.principals }) (with_updated_keys kind name key s)
placed_for_all t s kind name key p there a = record {
  fixed = a.fixed;
  principals = λ other. there.keys_then other
      ∙ (ap (λ (x : Option (List KeyRow)). if is_same_name name other then keys_after kind (kept_count t) key (keys_held t name) else x) (a.principals other)
      ∙ (ap (λ (x : Option (List KeyRow)). if is_same_name name other then x else keys_held s other) (updated_keys_alike t s kind name key a)
      ∙ sym (keys_with name (keys_after kind (kept_count s) key (keys_held s name)) s.principals other)));
  clock = a.clock;
  broken = a.broken;
  count = a.count;
  ids = a.ids;
}

pub restored_for_all : (t later : Held) (s : State) (kind : KeyKind) (name : Name) (key : KeyRow) (p : Placement)
    → later ≡ with_placed p t → IsPlaced t.state name (keys_after kind (kept_count t.state) key (keys_held t.state name)) p → Agrees t.state s
    → Agrees later.state (with_updated_keys kind name key s)
restored_for_all t later s kind name key p e there a =
    subst (λ (x : Held). Agrees x.state (with_updated_keys kind name key s)) (sym e) (placed_for_all t.state s kind name key p there a)

-- a key that goes on from what the table holds
pub next_adopted : (t s : State) (name : Name) (key : KeyRow) → IsNextUpdate Adopt t name key → Agrees t s → IsNextUpdate Adopt s name key
next_adopted t s name key n a = sym (ap (is_newer key.kvno) (a.principals name)) ∙ n

pub next_lifted : (t s : State) (name : Name) (key : KeyRow) → IsNextUpdate Lift t name key → Agrees t s → IsNextUpdate Lift s name key
next_lifted t s name key n a = record { keys = n.keys; held = sym (a.principals name) ∙ n.held; higher = n.higher }

pub next_removed : (t s : State) (name : Name) (key : KeyRow) → IsNextUpdate Remove t name key → Agrees t s → IsNextUpdate Remove s name key
next_removed t s name key n a = subst IsSome (a.principals name) n
