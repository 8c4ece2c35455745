-- States within the limits, and what a key's record makes of one.
use Rattle.std.proofs.Common.{◌≡◌, ℕ, zero, suc, ◌≤◌, List, [], ◌∷◌, take, Bool, true, false, if◌then◌else◌, Option, Some, None, refl, sym, subst, arith}
use Rattle.std.specs.Prelude.{IsSome, IfSome}
use Rattle.std.specs.List.{list_all}
use Rattle.std.proofs.lemmas.Bool.Decides.{nat_tests}
use Rattle.chpw_rules.specs.declared.name.Name.{Name}
use Rattle.chpw_rules.specs.Names.{is_same_name, is_name}
use Rattle.chpw_rules.specs.Limits.{is_in, kvnos, iteration_counts}
use Rattle.chpw_record.specs.declared.key.KeyRow.{KeyRow}
use Rattle.chpw_record.specs.declared.record.PrincipalKey.{PrincipalKey}
use Rattle.chpw_record.specs.declared.record.KeyKind.{KeyKind}
use Rattle.chpw_record.specs.declared.record.KeyKind.TheVariants as kind
use Rattle.chpw_record.specs.declared.record.Record.TheVariants as record_of
use Rattle.chpw_record.specs.Records.{ChangeFits}
use Rattle.chpw_table.specs.State.{State, keys_held, kept_count}
use Rattle.chpw_table.specs.Decision.{newest_kvno}
use Rattle.chpw_table.specs.Holding.{is_count_in_range}
use Rattle.chpw_table.specs.Updates.{keys_after}
use Rattle.chpw_table.proofs.BoolLemmas.{and_left, and_right, both}
use Rattle.chpw_table.proofs.KeyLemmas.{kept_some}
use Rattle.chpw_table.proofs.NameLemmas.{is_same_name-Decides}
use Rattle.chpw_journal.specs.JournalText.{with_record}
use Rattle.chpw_journal.specs.Runs.{IsSound}
use Rattle.chpw_journal.specs.Joined.{IsAlike}
use Rattle.chpw_journal.proofs.CoverLemmas.{record_keys}

-- like a state within the limits, it is within them
pub sound_alike : (s t : State) → IsAlike s t → IsSound s → IsSound t
sound_alike s t h sound = record {
  count = subst (λ (n : ℕ). is_in iteration_counts n ≡ true) h.count sound.count;
  names = λ name some. sound.names name (subst IsSome (sym (h.keys.keys name)) some);
  versions = λ name. subst (λ (o : Option (List KeyRow)). IfSome o (λ keys. newest_kvno keys ≤ kvnos.high)) (h.keys.keys name) (sound.versions name);
  counts = λ name. subst (λ (o : Option (List KeyRow)). IfSome o (λ keys. list_all is_count_in_range keys ≡ true)) (h.keys.keys name) (sound.counts name);
}

-- what a state within the limits holds of a name
pub record IsGood (name : Name) (held : Option (List KeyRow)) : Type 0 where
  pub names : IsSome held → is_name name ≡ true
  pub versions : IfSome held (λ keys. newest_kvno keys ≤ 4294967295)
  pub counts : IfSome held (λ keys. list_all is_count_in_range keys ≡ true)

pub good_held : (s : State) (name : Name) → IsSound s → IsGood name (keys_held s name)
good_held s name sound = record { names = sound.names name; versions = sound.versions name; counts = sound.counts name }

high_kvno : (n : ℕ) → is_in kvnos n ≡ true → n ≤ 4294967295
high_kvno n h = grind (arith, nat_tests)

counts_taken : (n : ℕ) (keys : List KeyRow) → list_all is_count_in_range keys ≡ true → list_all is_count_in_range (take n keys) ≡ true
counts_taken zero keys h = refl
counts_taken (suc n) [] h = refl
counts_taken (suc n) (k ∷ ks) h =
    both (and_left (is_count_in_range k) (list_all is_count_in_range ks) h)
    (counts_taken n ks (and_right (is_count_in_range k) (list_all is_count_in_range ks) h))

taken_low : (kept k : ℕ) (key : KeyRow) (keys : List KeyRow) → kept ≡ suc k → key.kvno ≤ 4294967295 → newest_kvno (take kept (key ∷ keys)) ≤ 4294967295
taken_low kept k key keys e h = rw e h

-- a key in front of others within the limits
front_good : (c : PrincipalKey) (kept k : ℕ) (keys : List KeyRow) → kept ≡ suc k → ChangeFits c → list_all is_count_in_range keys ≡ true
    → IsGood c.name (Some (take kept (c.key ∷ keys)))
front_good c kept k keys e f h = record {
  names = λ some. f.name;
  versions = taken_low kept k c.key keys e (high_kvno c.key.kvno f.kvno);
  counts = counts_taken kept (c.key ∷ keys) (both f.count h);
}

pub none_good : (name : Name) → IsGood name None
none_good name = record { names = λ some. absurd (cc); versions = tt; counts = tt }

-- what a record within the limits makes of them
after_good : (kind : KeyKind) (c : PrincipalKey) (kept k : ℕ) (x : Option (List KeyRow)) → kept ≡ suc k → ChangeFits c → IsGood c.name x
    → IsGood c.name (keys_after kind kept c.key x)
after_good kind.Change c kept k None e f g = g
after_good kind.Change c kept k (Some keys) e f g = front_good c kept k keys e f g.counts
after_good kind.Base c kept k None e f g = g
after_good kind.Base c kept k (Some keys) e f g =
    record { names = λ some. f.name; versions = high_kvno c.key.kvno f.kvno; counts = both f.count refl }
after_good kind.Adopt c kept k None e f g = front_good c kept k [] e f refl
after_good kind.Adopt c kept k (Some keys) e f g = front_good c kept k keys e f g.counts
after_good kind.Lift c kept k None e f g = g
after_good kind.Lift c kept k (Some []) e f g = g
after_good kind.Lift c kept k (Some (l ∷ ls)) e f g = record {
  names = λ some. f.name;
  versions = high_kvno c.key.kvno f.kvno;
  counts = both f.count (and_right (is_count_in_range l) (list_all is_count_in_range ls) g.counts);
}
after_good kind.Remove c kept k x e f g = none_good c.name

good_after : (s : State) (kind : KeyKind) (c : PrincipalKey) → IsSound s → ChangeFits c → (name : Name)
    → IsGood name (keys_held (with_record (record_of.Key kind c) s) name)
good_after s kind c sound f name = subst (IsGood name) (sym (record_keys s kind c name)) (at (is_same_name c.name name) refl)
  where
    some : (k : ℕ) × (kept_count s ≡ suc k)
    some = kept_some s.fixed.policy.depth

    at : (b : Bool) → is_same_name c.name name ≡ b
        → IsGood name (if b then keys_after kind (kept_count s) c.key (keys_held s name) else keys_held s name)
    at true e =
        let same : c.name ≡ name = (is_same_name-Decides c.name name).0 e in
        subst (λ (n : Name). IsGood n (keys_after kind (kept_count s) c.key (keys_held s n))) same
        (after_good kind c (kept_count s) some.0 (keys_held s c.name) some.1 f (good_held s c.name sound))
    at false e = good_held s name sound

-- a record of a key leads from a state within the limits to another
pub sound_record : (s : State) (kind : KeyKind) (c : PrincipalKey) → IsSound s → ChangeFits c → IsSound (with_record (record_of.Key kind c) s)
sound_record s kind c sound f = record {
  count = sound.count;
  names = λ name. (good_after s kind c sound f name).names;
  versions = λ name. (good_after s kind c sound f name).versions;
  counts = λ name. (good_after s kind c sound f name).counts;
}
