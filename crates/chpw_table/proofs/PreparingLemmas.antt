-- What a prepared step will show.
use Rattle.std.proofs.Common.{◌≡◌, ℕ, suc, List, [], ◌++◌, max, true, false, Bool, ◌&&◌, if◌then◌else◌}
use Rattle.std.proofs.Common.{Option, Some, None, is_none, unwrap_or, refl, sym, ◌∙◌, ap, subst, rules}
use Rattle.std.specs.Prelude.{option_map, IsSome}
use Rattle.std.proofs.lemmas.List.{append-nil}
use Rattle.chpw_rules.specs.declared.name.Name.{Name}
use Rattle.chpw_rules.specs.Names.{is_same_name}
use Rattle.chpw_table.specs.declared.times.Moment.{Moment}
use Rattle.chpw_table.specs.declared.request.Opened.{Opened}
use Rattle.chpw_table.specs.declared.verdict.Verdict.{Verdict}
use Rattle.chpw_table.specs.declared.verdict.Verdict.TheVariants.{Done}
use Rattle.chpw_record.specs.declared.key.KeyRow.{KeyRow}
use Rattle.chpw_table.specs.declared.table.changing.PreparedChange.{PreparedChange}
use Rattle.chpw_table.specs.declared.table.preparing.Prepared.{Prepared}
use Rattle.chpw_table.specs.Requests.{target_of}
use Rattle.chpw_table.specs.State.{State, Fixed, keys_held, kept_count}
use Rattle.chpw_table.specs.Verdicts.{is_done}
use Rattle.chpw_table.specs.Decision.{verdict}
use Rattle.chpw_table.specs.Step.{step, new_key}
use Rattle.chpw_table.specs.Versions.{Shown, change_of, shown_keys}
use Rattle.chpw_table.specs.Journal.{appended}
use Rattle.chpw_table.specs.Agreement.{Held, Agrees}
use Rattle.chpw_table.specs.Entering.{with_append}
use Rattle.chpw_table.specs.Preparing.{IsNext, IsPlanned, IsReady, IsNextRow, row_change}
use Rattle.chpw_table.proofs.NameLemmas.{is_same_name-itself}
use Rattle.chpw_table.proofs.KeyLemmas.{keys_after, put, held_at_verdict, kept_some}
use Rattle.chpw_table.proofs.AgreementLemmas.{same_verdict, same_new_key}
use Rattle.chpw_table.proofs.DoneLemmas.{done_key_row, done_whole}

-- what is there
some_held : (held : Option (List KeyRow)) → is_none held ≡ false → IsSome held × (held ≡ Some (unwrap_or held []))
some_held None h = absurd (let x : true ≡ false = h in cc)
some_held (Some keys) h = (search rules, refl)

-- the target's keys after Done
keys_done : (s : State) (now : Moment) (o : Opened) → verdict s now o false ≡ Done
    → keys_held (step s now o false) (target_of o).name ≡ Some (put (kept_count s) (new_key s o) (unwrap_or (keys_held s (target_of o).name) []))
keys_done s now o h =
    let name : Name = (target_of o).name in
    let there : keys_held s name ≡ Some (unwrap_or (keys_held s name) []) = (some_held (keys_held s name) (held_at_verdict s now o false h)).1 in
    keys_after s (verdict s now o false) now o false name
    ∙ (ap (λ (v : Verdict). if is_done v && is_same_name name name
    then option_map (put (kept_count s) (new_key s o)) (keys_held s name) else keys_held s name) h
    ∙ (ap (λ (b : Bool). if b then option_map (put (kept_count s) (new_key s o)) (keys_held s name) else keys_held s name) (is_same_name-itself name)
    ∙ ap (λ (x : Option (List KeyRow)). option_map (put (kept_count s) (new_key s o)) x) there))

-- the keys planned, in each state that the table agrees with
planned_alike : (t s : State) (o : Opened) → Agrees t s
    → put (kept_count t) (new_key t o) (unwrap_or (keys_held t (target_of o).name) [])
    ≡ put (kept_count s) (new_key s o) (unwrap_or (keys_held s (target_of o).name) [])
planned_alike t s o a =
    let name : Name = (target_of o).name in
    ap (λ (f : Fixed). put (max f.policy.depth 1) (new_key t o) (unwrap_or (keys_held t name) [])) a.fixed
    ∙ (ap (λ (k : KeyRow). put (kept_count s) k (unwrap_or (keys_held t name) [])) (same_new_key t s o a.count (a.principals name))
    ∙ ap (λ (x : Option (List KeyRow)). put (kept_count s) (new_key s o) (unwrap_or x [])) (a.principals name))

-- a new key as a change is what its row shows
change_put : (name : Name) (kept k : ℕ) (key : KeyRow) (keys : List KeyRow)
    → kept ≡ suc k → change_of name key ≡ row_change name (shown_keys (put kept key keys))
change_put name kept k key keys h = rw h refl

row_at : (s : State) (now : Moment) (o : Opened) → verdict s now o false ≡ Done
    → IsNextRow s now o (target_of o).name (shown_keys (put (kept_count s) (new_key s o) (unwrap_or (keys_held s (target_of o).name) [])))
row_at s now o h =
    let some = kept_some s.fixed.policy.depth in
    record {
      done = h;
      target = refl;
      held = (some_held (keys_held s (target_of o).name) (held_at_verdict s now o false h)).0;
      shown = ap (λ (x : Option (List KeyRow)). option_map shown_keys x) (keys_done s now o h);
      change = change_put (target_of o).name (kept_count s) some.0 (new_key s o) _ some.1;
    }

-- the change that is prepared
pub ready_change : (t : Held) (p : Prepared) (c : PreparedChange) → IsReady t p → p.change ≡ Some c → (p.row ≡ Done) × IsNext t p.opened c
ready_change t p c r e = subst (λ (x : Option PreparedChange). IsPlanned t p.row p.opened x) e r.change

-- the journal is whole then
pub ready_whole : (t : Held) (p : Prepared) (c : PreparedChange) → IsReady t p → p.change ≡ Some c → t.state.broken ≡ false
ready_whole t p c r e = done_whole t.state p.opened (done_key_row t.state p.moment p.opened (sym r.row ∙ (ready_change t p c r e).0))

-- the row of a step that is prepared
pub next_row : (t : Held) (s : State) (p : Prepared) (c : PreparedChange) (name : Name) (row : Shown) → IsReady t p → p.change ≡ Some c → Agrees t.state s
    → name ≡ (target_of p.opened).name → shown_keys c.keys ≡ row → IsNextRow s p.moment p.opened name row
next_row t s p c name row r e a n d =
    let planned : (p.row ≡ Done) × IsNext t p.opened c = ready_change t p c r e in
    let done : verdict s p.moment p.opened false ≡ Done = sym (same_verdict t.state s p.moment p.opened false a) ∙ (sym r.row ∙ planned.0) in
    let keys : c.keys ≡ put (kept_count s) (new_key s p.opened) (unwrap_or (keys_held s (target_of p.opened).name) []) =
    planned.1.newest ∙ planned_alike t.state s p.opened a in
    subst (λ (x : Name). IsNextRow s p.moment p.opened x row) (sym n)
    (subst (λ (x : Shown). IsNextRow s p.moment p.opened (target_of p.opened).name x) (sym (ap shown_keys keys) ∙ d) (row_at s p.moment p.opened done))

-- a step that is prepared without a change is none of the row Done
pub no_row : (t : Held) (p : Prepared) → IsReady t p → p.change ≡ None → is_done p.row ≡ false
no_row t p r e = subst (λ (x : Option PreparedChange). IsPlanned t p.row p.opened x) e r.change

-- ---- what the sink tells once it is finished

pub told_nothing : (told : Option (List ℕ)) → told ≡ option_map (λ xs. xs ++ []) told
told_nothing None = refl
told_nothing (Some xs) = ap Some (sym (append-nil xs))

row_appends : (s : State) (o : Opened) (row : Verdict) (told : Option (List ℕ)) → is_done row ≡ false → told ≡ option_map (λ xs. xs ++ appended s o row) told
row_appends s o row told h = rw h (told_nothing told)

-- without a change as before
pub told_other : (t : Held) (p : Prepared) (v : Verdict) (before later : Option (List ℕ)) → IsReady t p → p.change ≡ None → v ≡ p.row → later ≡ before
    → later ≡ option_map (λ xs. xs ++ appended t.state p.opened v) before
told_other t p v before later r e g f =
    f ∙ (row_appends t.state p.opened p.row before (no_row t p r e)
    ∙ ap (λ (x : Verdict). option_map (λ (xs : List ℕ). xs ++ appended t.state p.opened x) before) (sym g))

written_appends : (s : State) (o : Opened) (bytes : List ℕ) (io : Bool) (told : Option (List ℕ)) → bytes ≡ appended s o Done
    → (if io then told else option_map (λ xs. xs ++ bytes) told) ≡ option_map (λ xs. xs ++ appended s o (with_append io Done)) told
written_appends s o bytes true told h = told_nothing told
written_appends s o bytes false told h = ap (λ (ys : List ℕ). option_map (λ (xs : List ℕ). xs ++ ys) told) h

-- with one its record more, unless the append failed
pub told_written : (t : Held) (p : Prepared) (c : PreparedChange) (io : Bool) (v : Verdict) (before later : Option (List ℕ))
    → IsReady t p → p.change ≡ Some c → v ≡ with_append io Done
    → later ≡ (if io then before else option_map (λ xs. xs ++ c.record.items) before) → later ≡ option_map (λ xs. xs ++ appended t.state p.opened v) before
told_written t p c io v before later r e g f =
    f ∙ (written_appends t.state p.opened c.record.items io before (ready_change t p c r e).1.record_of
    ∙ ap (λ (x : Verdict). option_map (λ (xs : List ℕ). xs ++ appended t.state p.opened x) before) (sym g))
