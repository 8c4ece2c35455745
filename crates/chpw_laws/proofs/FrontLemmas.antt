-- A key that came in front: where it stands after later entries, and that a new password is compared with it.
use Rattle.std.proofs.Common.{◌≡◌, ℕ, zero, suc, ◌+◌, ◌<◌, ◌≤◌, max, min, List, [], ◌∷◌, ◌++◌, length, map, take}
use Rattle.std.proofs.Common.{refl, sym, ◌∙◌, ap, subst, arith, length-append}
use Rattle.std.specs.Prelude.{Contains}
use Rattle.std.proofs.lemmas.List.{take-take, length-take, get_or-take, get_or_at}
use Rattle.chpw_rules.specs.declared.name.Name.{Name}
use Rattle.chpw_record.specs.declared.key.KeyRow.{KeyRow}
use Rattle.chpw_table.specs.declared.history.Entry.{Entry}
use Rattle.chpw_table.specs.State.{State, Fixed, kept_count}
use Rattle.chpw_table.specs.Wanted.{compared_keys}
use Rattle.chpw_table.specs.History.{IsLegal, outcome}
use Rattle.chpw_table.specs.Laws.{keys_made, keys_or_none, unversioned, NeverRemoved}
use Rattle.chpw_table.proofs.KeyLemmas.{take_front}
use Rattle.chpw_laws.specs.OldPasswords.{ComparesWith, new_keys_of}
use Rattle.chpw_laws.proofs.KeptLemmas.{Alike, IsKept, alike_first, alike_front, fixed_throughout, kept_throughout, as_many_made, after_entries}

-- an element after few others is among the first
pub among_first : (depth : ℕ) (xs : List KeyRow) (x : KeyRow) (ys : List KeyRow) → length xs < depth → Contains (take depth (xs ++ x ∷ ys)) x
among_first depth xs x ys h =
    let long : length (take depth (xs ++ x ∷ ys)) ≡ min depth (length xs + length (x ∷ ys)) =
    length-take depth (xs ++ x ∷ ys) ∙ ap (min depth) (length-append xs (x ∷ ys)) in
    (length xs, rw long (omega (arith, h)), get_or-take depth (xs ++ x ∷ ys) (length xs) x h ∙ get_or_at xs x ys x (length xs) refl)

-- ---- under some version

head_is : (x y : KeyRow) (xs ys : List KeyRow) → x ∷ xs ≡ y ∷ ys → x ≡ y
head_is x y xs ys h = cc

rest_is : (x y : KeyRow) (xs ys : List KeyRow) → x ∷ xs ≡ y ∷ ys → xs ≡ ys
rest_is x y xs ys h = cc

-- a key that is another without its version is that one under its own version
under_version : (x y : KeyRow) → unversioned x ≡ unversioned y → x ≡ record y { kvno = x.kvno }
under_version x y h i = record {
  kvno = x.kvno;
  count = (ap (λ (k : KeyRow). k.count) h) i;
  aes128 = (ap (λ (k : KeyRow). k.aes128) h) i;
  aes256 = (ap (λ (k : KeyRow). k.aes256) h) i;
}

-- of lists that are alike without versions the other contains the key under some version
pub contains_alike : (xs ys : List KeyRow) (key : KeyRow) → Alike unversioned xs ys → Contains ys key
    → (kvno : ℕ) × Contains xs (record key { kvno = kvno })
contains_alike [] [] key h (k, low, e) = absurd (omega arith)
contains_alike [] (y ∷ ys) key h inside = cc
contains_alike (x ∷ xs) [] key h inside = cc
contains_alike (x ∷ xs) (y ∷ ys) key h (zero, low, e) =
    (x.kvno, (0, omega arith, under_version x key (head_is _ _ _ _ h ∙ ap unversioned e)))
contains_alike (x ∷ xs) (y ∷ ys) key h (suc k, low, e) =
    let rest = contains_alike xs ys key (rest_is _ _ _ _ h) (k, omega arith, e) in
    (rest.0, (suc rest.1.0, omega (arith, rest.1.1), rest.1.2))

-- ---- after later entries

module _ (f : KeyRow → KeyRow) (name : Name) (s : State) (key : KeyRow) (old : List KeyRow)
    (held : keys_or_none s name ≡ take (kept_count s) (key ∷ old))
    (later : List Entry) (legal : IsLegal s later) (stays : NeverRemoved name later) (kept : IsKept f name later) where
  few : length (keys_or_none s name) ≤ kept_count s
  few = rw held (simp length-take (omega arith))

  pub later_keys : Alike f (keys_or_none (outcome s later) name) (take (kept_count s) (keys_made s later name ++ key ∷ old))
  later_keys = after_entries f name s later legal stays kept few
      ∙ ap (map f) (ap (λ (ks : List KeyRow). take (kept_count s) (keys_made s later name ++ ks)) held
      ∙ take_front (kept_count s) (kept_count s) (keys_made s later name) (key ∷ old) (omega arith))

  pub later_compared : Alike f (compared_keys (outcome s later) name) (take s.fixed.policy.depth (keys_made s later name ++ key ∷ old))
  later_compared =
      let depth : ℕ = s.fixed.policy.depth in
      ap (λ (d : Fixed). map f (take d.policy.depth (keys_or_none (outcome s later) name))) (fixed_throughout s later)
      ∙ (alike_first f depth (keys_or_none (outcome s later) name) (take (kept_count s) (keys_made s later name ++ key ∷ old)) later_keys
      ∙ ap (map f) (take-take depth (max depth 1) (keys_made s later name ++ key ∷ old) (omega arith)))

-- versions don't matter to what has none
pub kept_unversioned : (name : Name) (es : List Entry) → IsKept unversioned name es
kept_unversioned name [] = tt
kept_unversioned name (e ∷ es) = ((λ lifted. λ k n. refl), kept_unversioned name es)

-- while few further keys came in front, it is compared with
pub still_compared : (name : Name) (s : State) (key : KeyRow) (old : List KeyRow) → keys_or_none s name ≡ take (kept_count s) (key ∷ old)
    → (later : List Entry) → IsLegal s later → NeverRemoved name later
    → new_keys_of name later < s.fixed.policy.depth → ComparesWith (outcome s later) name key
still_compared name s key old held later legal stays low =
    contains_alike (compared_keys (outcome s later) name) (take s.fixed.policy.depth (keys_made s later name ++ key ∷ old)) key
    (later_compared unversioned name s key old held later legal stays (kept_unversioned name later))
    (among_first s.fixed.policy.depth (keys_made s later name) key old
    (subst (λ (n : ℕ). n < s.fixed.policy.depth) (sym (as_many_made s later name)) low))

-- where it stands in the end: after as many others as came in front
pub record StandsBehind (name : Name) (key : KeyRow) (count : ℕ) (s : State) : Type 0 where
  pub front : List KeyRow
  pub old : List KeyRow
  pub many : length front ≡ count
  pub held : Alike unversioned (keys_or_none s name) (take (kept_count s) (front ++ key ∷ old))

pub stands_behind : (name : Name) (s : State) (key : KeyRow) (old : List KeyRow) → keys_or_none s name ≡ take (kept_count s) (key ∷ old)
    → (later : List Entry) → IsLegal s later → NeverRemoved name later
    → StandsBehind name key (new_keys_of name later) (outcome s later)
stands_behind name s key old held later legal stays = record {
  front = keys_made s later name;
  old = old;
  many = as_many_made s later name;
  held = later_keys unversioned name s key old held later legal stays (kept_unversioned name later)
      ∙ ap (λ (k : ℕ). map unversioned (take k (keys_made s later name ++ key ∷ old))) (sym (kept_throughout s later));
}
