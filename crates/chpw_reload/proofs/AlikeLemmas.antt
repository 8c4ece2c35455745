-- Two files, of which the second has the keys of the first as its newest, and the same records put back onto both.
use Rattle.std.proofs.Common.{◌≡◌, ℕ, zero, suc, ◌+◌, max, List, [], ◌∷◌, ◌++◌, take, Bool, true, false, ◌==◌}
use Rattle.std.proofs.Common.{if◌then◌else◌, Option, Some, None, refl, sym, ◌∙◌, ap, subst, rules}
use Rattle.std.specs.Prelude.{option_map, IsSome, nat_lt}
use Rattle.chpw_rules.specs.declared.name.Name.{Name}
use Rattle.chpw_rules.specs.Names.{is_same_name}
use Rattle.chpw_record.specs.declared.key.KeyRow.{KeyRow}
use Rattle.chpw_record.specs.declared.record.KeyKind.{KeyKind}
use Rattle.chpw_record.specs.declared.record.KeyKind.TheVariants as kind
use Rattle.chpw_record.specs.declared.record.Record.{Record}
use Rattle.chpw_record.specs.declared.record.Record.TheVariants as record_of
use Rattle.chpw_table.specs.State.{Fixed, State, keys_held, kept_count}
use Rattle.chpw_table.specs.Decision.{newest_kvno}
use Rattle.chpw_table.specs.Updates.{blank_key, keys_after, with_newest}
use Rattle.chpw_table.proofs.KeyLemmas.{kept_some}
use Rattle.chpw_table.proofs.UpdateLemmas.{same_held}
use Rattle.chpw_journal.specs.JournalText.{with_record, restored, is_lacked, may_follow, IsNextRecord, AreNext}
use Rattle.chpw_journal.specs.Known.{IsKnown, AreKnown}
use Rattle.chpw_journal.proofs.CoverLemmas.{record_keys}
use Rattle.chpw_report.specs.Held.{opening}
use Rattle.chpw_reload.specs.Comparing.{AreNewest, HoldAlike}
use Rattle.chpw_reload.specs.Laws.{FilesGoOn}
use Rattle.chpw_reload.proofs.NewestLemmas.{begins_of, none_left, newest_of, newest_put}

is_some : (x : Option (List KeyRow)) (keys : List KeyRow) → x ≡ Some keys → IsSome x
is_some None keys h = absurd (cc)
is_some (Some others) keys h = search rules

-- other words for the same keys
alike_of : (l : ℕ) (keys same others alike : List KeyRow) → keys ≡ same → others ≡ alike → AreNewest (take l same) alike → AreNewest (take l keys) others
alike_of l keys same others alike e f h =
    subst (λ (zs : List KeyRow). AreNewest (take l keys) zs) (sym f) (subst (λ (zs : List KeyRow). AreNewest (take l zs) alike) (sym e) h)

-- the keys of the first, as many as the second keeps, are its newest, where both have some
abbrev AreAlike : ℕ → Option (List KeyRow) → Option (List KeyRow) → Type 0
AreAlike l x y = (keys others : List KeyRow) → x ≡ Some keys → y ≡ Some others → AreNewest (take l keys) others

abbrev no_keys : List KeyRow
no_keys = []

nil_taken : (n : ℕ) → take n no_keys ≡ no_keys
nil_taken zero = refl
nil_taken (suc n) = refl

module _ (i j : ℕ) (key : KeyRow) where
  -- a key alone in front of others
  first_alike : (ys : List KeyRow) → AreNewest (take (suc j) (key ∷ take i [])) (key ∷ take j ys)
  first_alike ys =
      let alone : take j (take i []) ≡ [] = ap (take j) (nil_taken i) ∙ nil_taken j in
      newest_of key (take j (take i [])) (key ∷ take j ys) (take j ys, ap (λ (zs : List KeyRow). key ∷ (zs ++ take j ys)) (sym alone))

  -- in place of the newest
  lift_alike : (xs ys : List KeyRow) → AreNewest (take (suc j) xs) ys → AreNewest (take (suc j) (with_newest key xs)) (with_newest key ys)
  lift_alike [] ys h = let none : ys ≡ [] = none_left ys h in subst (λ (zs : List KeyRow). AreNewest [] (with_newest key zs)) (sym none) refl
  lift_alike (x ∷ xs) [] h = let begins = begins_of (x ∷ take j xs) [] h in let e : [] ≡ x ∷ (take j xs ++ begins.0) = begins.1 in absurd (cc)
  lift_alike (x ∷ xs) (y ∷ ys) h =
      let begins = begins_of (x ∷ take j xs) (y ∷ ys) h in
      let e : y ∷ ys ≡ x ∷ (take j xs ++ begins.0) = begins.1 in
      let rest : ys ≡ take j xs ++ begins.0 = cc in
      newest_of key (take j xs) (key ∷ ys) (begins.0, ap (λ (zs : List KeyRow). key ∷ zs) rest)

  there_too : (x y : Option (List KeyRow)) (xs : List KeyRow) → x ≡ Some xs → y ≡ None → (IsSome x → IsSome y) → ⊥
  there_too x y xs e f h = lost y f (h (is_some x xs e))
    where
      lost : (z : Option (List KeyRow)) → z ≡ None → IsSome z → ⊥
      lost None g some = cc
      lost (Some zs) g some = cc

  after_alike : (kind : KeyKind) (x y : Option (List KeyRow)) → (IsSome x → IsSome y) → AreAlike (suc j) x y
      → AreAlike (suc j) (keys_after kind (suc i) key x) (keys_after kind (suc j) key y)
  after_alike kind.Change (Some xs) (Some ys) there h keys others e f =
      alike_of (suc j) keys (take (suc i) (key ∷ xs)) others (take (suc j) (key ∷ ys)) (cc) (cc) (newest_put i j key xs ys (h xs ys refl refl))
  after_alike kind.Change None y there h keys others e f = absurd (cc)
  after_alike kind.Change (Some xs) None there h keys others e f = absurd (cc)
  after_alike kind.Base (Some xs) (Some ys) there h keys others e f =
      alike_of (suc j) keys (key ∷ []) others (key ∷ []) (cc) (cc)
      (newest_of key (take j []) (key ∷ []) ([], ap (λ (zs : List KeyRow). key ∷ (zs ++ [])) (sym (nil_taken j))))
  after_alike kind.Base None y there h keys others e f = absurd (cc)
  after_alike kind.Base (Some xs) None there h keys others e f = absurd (cc)
  after_alike kind.Adopt None None there h keys others e f =
      alike_of (suc j) keys (key ∷ take i []) others (key ∷ take j []) (cc) (cc) (first_alike [])
  after_alike kind.Adopt None (Some ys) there h keys others e f =
      alike_of (suc j) keys (key ∷ take i []) others (key ∷ take j ys) (cc) (cc) (first_alike ys)
  after_alike kind.Adopt (Some xs) None there h keys others e f = absurd (there_too (Some xs) None xs refl refl there)
  after_alike kind.Adopt (Some xs) (Some ys) there h keys others e f =
      alike_of (suc j) keys (take (suc i) (key ∷ xs)) others (take (suc j) (key ∷ ys)) (cc) (cc) (newest_put i j key xs ys (h xs ys refl refl))
  after_alike kind.Lift (Some xs) (Some ys) there h keys others e f =
      alike_of (suc j) keys (with_newest key xs) others (with_newest key ys) (cc) (cc) (lift_alike xs ys (h xs ys refl refl))
  after_alike kind.Lift None y there h keys others e f = absurd (cc)
  after_alike kind.Lift (Some xs) None there h keys others e f = absurd (cc)
  after_alike kind.Remove x y there h keys others e f = absurd (cc)

at_both : (l : ℕ) (b : Bool) (x y u v : Option (List KeyRow)) → (b ≡ true → AreAlike l x y) → AreAlike l u v
    → AreAlike l (if b then x else u) (if b then y else v)
at_both l true x y u v h g = h refl
at_both l false x y u v h g = g

-- a record is of a principal that the second holds if the first does
alike_record : (s t : State) (r : Record) (name : Name) → IsKnown t s r → HoldAlike s t name → HoldAlike (with_record r s) (with_record r t) name
alike_record s t (record_of.Key kind c) name known h keys others held other =
    at_both (kept_count t) (is_same_name c.name name)
    (keys_after kind (kept_count s) c.key (keys_held s name)) (keys_after kind (kept_count t) c.key (keys_held t name)) (keys_held s name) (keys_held t name)
    (λ e. after e) h keys others (sym (record_keys s kind c name) ∙ held) (sym (record_keys t kind c name) ∙ other)
  where
    after : is_same_name c.name name ≡ true
        → AreAlike (kept_count t) (keys_after kind (kept_count s) c.key (keys_held s name)) (keys_after kind (kept_count t) c.key (keys_held t name))
    after e =
        let some = kept_some s.fixed.policy.depth in
        let more = kept_some t.fixed.policy.depth in
        let there : IsSome (keys_held s name) → IsSome (keys_held t name) =
        λ found. subst IsSome (same_held t c.name name e) (known (subst IsSome (sym (same_held s c.name name e)) found)) in
        subst (λ (l : ℕ). AreAlike l (keys_after kind (kept_count s) c.key (keys_held s name)) (keys_after kind l c.key (keys_held t name))) (sym more.1)
        (subst (λ (k : ℕ). AreAlike (suc more.0) (keys_after kind k c.key (keys_held s name)) (keys_after kind (suc more.0) c.key (keys_held
        t name))) (sym some.1)
        (after_alike some.0 more.0 c.key kind (keys_held s name) (keys_held t name) there
        (subst (λ (l : ℕ). AreAlike l (keys_held s name) (keys_held t name)) more.1 h)))
alike_record s t (record_of.Raise count) name known h keys others held other = h keys others held other

-- ---- names that one of them holds

map_some : (f : List KeyRow → List KeyRow) (x : Option (List KeyRow)) → IsSome x → IsSome (option_map f x)
map_some f None h = h
map_some f (Some keys) h = search rules

map_was : (f : List KeyRow → List KeyRow) (x : Option (List KeyRow)) → IsSome (option_map f x) → IsSome x
map_was f None h = h
map_was f (Some keys) h = search rules

after_back : (kind : KeyKind) (k l : ℕ) (key : KeyRow) (x y : Option (List KeyRow)) → (IsSome y → IsSome x)
    → IsSome (keys_after kind l key y) → IsSome (keys_after kind k key x)
after_back kind.Change k l key x y f h = map_some (λ (keys : List KeyRow). take k (key ∷ keys)) x (f (map_was (λ (keys : List KeyRow). take
    l (key ∷ keys)) y h))
after_back kind.Base k l key x y f h = map_some (λ (keys : List KeyRow). key ∷ []) x (f (map_was (λ (keys : List KeyRow). key ∷ []) y h))
after_back kind.Adopt k l key x y f h = search rules
after_back kind.Lift k l key x y f h = map_some (with_newest key) x (f (map_was (with_newest key) y h))
after_back kind.Remove k l key x y f h = h

either_back : (b : Bool) (x y u v : Option (List KeyRow)) → (IsSome y → IsSome x) → (IsSome v → IsSome u)
    → IsSome (if b then y else v) → IsSome (if b then x else u)
either_back true x y u v f g h = f h
either_back false x y u v f g h = g h

-- what the second holds the first does, too, after a record of either
record_back : (s t : State) (r : Record) (name : Name) → (IsSome (keys_held t name) → IsSome (keys_held s name))
    → IsSome (keys_held (with_record r t) name) → IsSome (keys_held (with_record r s) name)
record_back s t (record_of.Key kind c) name f h =
    subst IsSome (sym (record_keys s kind c name))
    (either_back (is_same_name c.name name) (keys_after kind (kept_count s) c.key (keys_held s name)) (keys_after kind (kept_count t) c.key (keys_held t name))
    (keys_held s name) (keys_held t name) (after_back kind (kept_count s) (kept_count t) c.key (keys_held s name) (keys_held t name) f) f
    (subst IsSome (record_keys t kind c name) h))
record_back s t (record_of.Raise count) name f h = f h

restored_back : (s t : State) (rs : List Record) (name : Name) → (IsSome (keys_held t name) → IsSome (keys_held s name))
    → IsSome (keys_held (restored t rs) name) → IsSome (keys_held (restored s rs) name)
restored_back s t [] name f h = f h
restored_back s t (r ∷ rs) name f h = restored_back (with_record r s) (with_record r t) rs name (record_back s t r name f) h

known_after : (s t : State) (r : Record) (rs : List Record) → AreKnown s t rs → AreKnown (with_record r s) (with_record r t) rs
known_after s t r [] h = tt
known_after s t r ((record_of.Key kind c) ∷ rs) h = (record_back s t r c.name h.0, known_after s t r rs h.1)
known_after s t r ((record_of.Raise count) ∷ rs) h = (tt, known_after s t r rs h.1)

alike_restored : (s t : State) (rs : List Record) → AreKnown t s rs → ((name : Name) → HoldAlike s t name) → (name : Name)
    → HoldAlike (restored s rs) (restored t rs) name
alike_restored s t [] known h name = h name
alike_restored s t (r ∷ rs) known h name =
    alike_restored (with_record r s) (with_record r t) rs (known_after t s r rs known.1) (λ n. alike_record s t r n known.0 (h n)) name

-- the newest version is the same
newest_alike : (s t : State) (name : Name) (xs ys : List KeyRow)
    → HoldAlike s t name → keys_held s name ≡ Some xs → keys_held t name ≡ Some ys → newest_kvno xs ≡ newest_kvno ys
newest_alike s t name xs ys h a b =
    let more = kept_some t.fixed.policy.depth in
    at more.0 xs (subst (λ (n : ℕ). AreNewest (take n xs) ys) more.1 (h xs ys a b))
  where
    at : (j : ℕ) (keys : List KeyRow) → AreNewest (take (suc j) keys) ys → newest_kvno keys ≡ newest_kvno ys
    at j [] n = sym (ap newest_kvno (none_left ys n))
    at j (x ∷ keys) n = sym (ap newest_kvno (begins_of (x ∷ take j keys) ys n).1)

next_like : (kind : KeyKind) (kvno : ℕ) (x y : Option (List KeyRow)) → (IsSome x → IsSome y) → (IsSome y → IsSome x)
    → ((xs ys : List KeyRow) → x ≡ Some xs → y ≡ Some ys → newest_kvno xs ≡ newest_kvno ys)
    → (is_lacked kind x ≡ false) × (may_follow kind kvno x ≡ true) → (is_lacked kind y ≡ false) × (may_follow kind kvno y ≡ true)
next_like kind kvno None None f g e n = n
next_like kind kvno None (Some ys) f g e n = absurd (there_too 0 0 blank_key (Some ys) None ys refl refl g)
next_like kind kvno (Some xs) None f g e n = absurd (there_too 0 0 blank_key (Some xs) None xs refl refl f)
next_like kind.Change kvno (Some xs) (Some ys) f g e n = (n.0, subst (λ (m : ℕ). (kvno == m + 1) ≡ true) (e xs ys refl refl) n.1)
next_like kind.Base kvno (Some xs) (Some ys) f g e n = n
next_like kind.Adopt kvno (Some xs) (Some ys) f g e n = (n.0, subst (λ (m : ℕ). nat_lt m kvno ≡ true) (e xs ys refl refl) n.1)
next_like kind.Lift kvno (Some xs) (Some ys) f g e n = (n.0, subst (λ (m : ℕ). nat_lt m kvno ≡ true) (e xs ys refl refl) n.1)
next_like kind.Remove kvno (Some xs) (Some ys) f g e n = n

next_alike : (s t : State) (r : Record) → ((name : Name) → HoldAlike s t name) → IsKnown t s r → IsKnown s t r → IsNextRecord s r → IsNextRecord t r
next_alike s t (record_of.Key kind c) h there back n =
    next_like kind c.key.kvno (keys_held s c.name) (keys_held t c.name) there back
    (λ xs ys e f. newest_alike s t c.name xs ys (h c.name) e f) n
next_alike s t (record_of.Raise count) h there back n = tt

all_next_alike : (s t : State) (rs : List Record) → ((name : Name) → HoldAlike s t name) → AreKnown t s rs → AreKnown s t rs → AreNext s rs → AreNext t rs
all_next_alike s t [] h there back n = tt
all_next_alike s t (r ∷ rs) h there back n = (
  n.0,
  next_alike s t r h there.0 back.0 n.1,
  all_next_alike (with_record r s) (with_record r t) rs (λ name. alike_record s t r name there.0 (h name))
      (known_after t s r rs there.1) (known_after s t r rs back.1) n.2,
)

pub files_go_on : FilesGoOn
files_go_on first file records left closed renewed found alike known names same put =
    let s : State = restored (opening first) records in
    let t : State = restored (opening file) records in
    let kept : kept_count t ≡ kept_count renewed = sym (ap (λ (f : Fixed). max f.policy.depth 1) put.fixed) in (
      all_next_alike (opening first) (opening file) records alike known.0 known.1 found.next,
      λ name keys others held other.
          let there : keys_held left name ≡ Some keys = sym (same.principals name) ∙ held in
          let given : keys_held t name ≡ Some others = sym (put.principals name) ∙ other in
          let in_both : IsSome (keys_held s name) =
          restored_back (opening first) (opening file) records name (names name (is_some (keys_held left name) keys there))
          (is_some (keys_held t name) others given) in
          let was : keys_held s name ≡ Some keys = found.others name in_both ∙ there in
          subst (λ (n : ℕ). AreNewest (take n keys) others) kept (alike_restored (opening first) (opening file) records known.0 alike name
          keys others was given),
    )
