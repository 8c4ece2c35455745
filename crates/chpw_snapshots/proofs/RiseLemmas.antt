-- Versions rise along a list, until their name is removed, and so does the count of new keys: no longer list shows an older
-- version or a lower count.
use Rattle.std.proofs.Common.{◌≡◌, ℕ, ◌+◌, ◌<◌, ◌≤◌, List, [], ◌∷◌, ◌++◌, length, Bool, true, false, if◌then◌else◌, Option}
use Rattle.std.proofs.Common.{Some, None, IsSomeAnd, refl, sym, ◌∙◌, ap, subst, arith, append_assoc, append-nil}
use Rattle.std.specs.Prelude.{option_map, IfSome}
use Rattle.chpw_rules.specs.declared.name.Name.{Name}
use Rattle.chpw_rules.specs.Names.{is_same_name}
use Rattle.chpw_table.specs.declared.table.Lookup.{Lookup}
use Rattle.chpw_table.specs.declared.change.KeyChange.{KeyChange}
use Rattle.chpw_table.specs.declared.change.AcceptedChange.{AcceptedChange}
use Rattle.chpw_table.specs.declared.change.AcceptedChange.TheVariants.{Key, Count, Adopted, Lifted, Removed}
use Rattle.chpw_table.specs.State.{State, kept_count}
use Rattle.chpw_table.specs.Agreement.{Held}
use Rattle.chpw_table.specs.Versions.{Shown, shown, shown_count, with_change, with_adopted, with_version}
use Rattle.chpw_table.proofs.NameLemmas.{is_same_name-Decides}
use Rattle.chpw_snapshots.specs.Rows.{lookup_with, lookup_after}
use Rattle.chpw_snapshots.specs.Rising.{IsNextVersion, AreNextVersions, removes, is_removed}
use Rattle.chpw_snapshots.proofs.RowLemmas.{either_false, shown_more, count_more}

-- one version more
pub next_on : (opening : State) (before list : List AcceptedChange) (c : AcceptedChange) → AreNextVersions opening before list
    → IsNextVersion opening (before ++ list) c → AreNextVersions opening before (list ++ c ∷ [])
next_on opening before [] c all next = (subst (λ l. IsNextVersion opening l c) (append-nil before) next, tt)
next_on opening before (d ∷ ds) c all next = (
  all.0,
  next_on opening
      (before ++ d ∷ []) ds c all.1 (subst (λ l. IsNextVersion opening l c) (sym (append_assoc before (d ∷ []) ds)) next),
)

-- what comes after a beginning
behind : (opening : State) (before list rest : List AcceptedChange) → AreNextVersions opening before (list ++ rest)
    → AreNextVersions opening (before ++ list) rest
behind opening before [] rest all = subst (λ l. AreNextVersions opening l rest) (sym (append-nil before)) all
behind opening before (d ∷ ds) rest all = subst (λ l. AreNextVersions opening l rest)
    (append_assoc before (d ∷ []) ds) (behind opening (before ++ d ∷ []) ds rest all.1)

key_later : (opening : State) (before : List AcceptedChange) (c : KeyChange) (name : Name) (row : Shown)
    → IsNextVersion opening before (Key c) → shown opening before name ≡ Some row
    → (b : Bool) → is_same_name c.name name ≡ b → (later : Shown) × (shown opening (before ++ Key c ∷ []) name ≡ Some later) × (row.kvno ≤ later.kvno)
key_later opening before c name row next h true e =
    let same : c.name ≡ name = (is_same_name-Decides c.name name).0 e in
    let there : Some next.0 ≡ Some row = sym next.1 ∙ (ap (λ (n : Name). shown opening before n) same ∙ h) in
    let is : next.0 ≡ row = cc in
    let kvno : next.0.kvno ≡ row.kvno = ap (λ (r : Shown). r.kvno) is in (
      with_change (kept_count opening) c row,
      shown_more opening before (Key c) name ∙ (ap (λ (b : Bool). if b then
          option_map (with_change (kept_count opening) c) (shown opening before name) else shown opening before name) e
          ∙ ap (λ (x : Option Shown). option_map (with_change (kept_count opening) c) x) h),
      (let n = next.2 in omega (arith, n, kvno)),
    )
key_later opening before c name row next h false e = (
  row,
  shown_more opening before (Key c) name
      ∙ (ap (λ (b : Bool). if b then option_map (with_change (kept_count opening) c) (shown opening before name)
      else shown opening before name) e ∙ h),
  omega arith,
)

adopted_later : (opening : State) (before : List AcceptedChange) (c : KeyChange) (name : Name) (row : Shown)
    → IsNextVersion opening before (Adopted c) → shown opening before name ≡ Some row
    → (b : Bool) → is_same_name c.name name ≡ b
    → (later : Shown) × (shown opening (before ++ Adopted c ∷ []) name ≡ Some later) × (row.kvno ≤ later.kvno)
adopted_later opening before c name row next h true e =
    let same : c.name ≡ name = (is_same_name-Decides c.name name).0 e in
    let there : shown opening before c.name ≡ Some row = ap (λ (n : Name). shown opening before n) same ∙ h in
    let newer : row.kvno < c.kvno = subst (λ (o : Option Shown). IfSome o (λ r. r.kvno < c.kvno)) there next.0 in (
      with_adopted (kept_count opening) c (Some row),
      shown_more opening before (Adopted c) name ∙ (ap (λ (b : Bool). if b then
          Some (with_adopted (kept_count opening) c (shown opening before name)) else shown opening before name) e
          ∙ ap (λ (x : Option Shown). Some (with_adopted (kept_count opening) c x)) h),
      omega (arith, newer),
    )
adopted_later opening before c name row next h false e = (
  row,
  shown_more opening before (Adopted c) name
      ∙ (ap (λ (b : Bool). if b then Some (with_adopted (kept_count opening) c (shown opening before name))
      else shown opening before name) e ∙ h),
  omega arith,
)

lifted_later : (opening : State) (before : List AcceptedChange) (lifted : Name) (kvno : ℕ) (name : Name) (row : Shown)
    → IsNextVersion opening before (Lifted lifted kvno) → shown opening before name ≡ Some row
    → (b : Bool) → is_same_name lifted name ≡ b
    → (later : Shown) × (shown opening (before ++ Lifted lifted kvno ∷ []) name ≡ Some later) × (row.kvno ≤ later.kvno)
lifted_later opening before lifted kvno name row next h true e =
    let same : lifted ≡ name = (is_same_name-Decides lifted name).0 e in
    let there : Some next.0 ≡ Some row = sym next.1 ∙ (ap (λ (n : Name). shown opening before n) same ∙ h) in
    let is : next.0 ≡ row = cc in
    let newer : row.kvno < kvno = subst (λ (r : Shown). r.kvno < kvno) is next.2 in (
      with_version kvno row,
      shown_more opening before (Lifted lifted kvno) name ∙ (ap (λ (b : Bool). if b then
          option_map (with_version kvno) (shown opening before name) else shown opening before name) e
          ∙ ap (λ (x : Option Shown). option_map (with_version kvno) x) h),
      omega (arith, newer),
    )
lifted_later opening before lifted kvno name row next h false e = (
  row,
  shown_more opening before (Lifted lifted kvno) name
      ∙ (ap (λ (b : Bool). if b then option_map (with_version kvno) (shown opening before name)
      else shown opening before name) e ∙ h),
  omega arith,
)

one_later : (opening : State) (before : List AcceptedChange) (c : AcceptedChange) (name : Name) (row : Shown)
    → IsNextVersion opening before c → removes name c ≡ false → shown opening before name ≡ Some row
    → (later : Shown) × (shown opening (before ++ c ∷ []) name ≡ Some later) × (row.kvno ≤ later.kvno)
one_later opening before (Key c) name row next keeps h = key_later opening before c name row next h (is_same_name c.name name) refl
one_later opening before (Count n) name row next keeps h = (row, shown_more opening before (Count n) name ∙ h, omega arith)
one_later opening before (Adopted c) name row next keeps h = adopted_later opening before c name row next h (is_same_name c.name name) refl
one_later opening before (Lifted lifted kvno) name row next keeps h =
    lifted_later opening before lifted kvno name row next h (is_same_name lifted name) refl
one_later opening before (Removed removed) name row next keeps h = (
  row,
  shown_more opening before (Removed removed) name ∙ (ap (λ (b : Bool). if b then None else shown opening before name) keeps ∙ h),
  omega arith,
)

-- where a list goes on so, and doesn't remove the name, what it shows of it is no older
pub no_older : (opening : State) (before more : List AcceptedChange) (name : Name) (row : Shown)
    → AreNextVersions opening before more → is_removed name more ≡ false → shown opening before name ≡ Some row
    → (later : Shown) × (shown opening (before ++ more) name ≡ Some later) × (row.kvno ≤ later.kvno)
no_older opening before [] name row next keeps h = (row, ap (λ (cs : List AcceptedChange). shown opening cs name) (append-nil before) ∙ h, omega arith)
no_older opening before (c ∷ cs) name row next keeps h =
    let stays = either_false (removes name c) (is_removed name cs) keeps in
    let one = one_later opening before c name row next.0 stays.0 h in
    let all = no_older opening (before ++ c ∷ []) cs name one.0 next.1 stays.1 one.1 in
    let a = one.2 in
    let b = all.2 in
    (all.0, ap (λ (xs : List AcceptedChange). shown opening xs name) (sym (append_assoc before (c ∷ []) cs)) ∙ all.1, omega (arith, a, b))

one_higher : (opening : State) (before : List AcceptedChange) (c : AcceptedChange)
    → IsNextVersion opening before c → shown_count opening before ≤ shown_count opening (before ++ c ∷ [])
one_higher opening before (Key c) next = let more = count_more opening before (Key c) in omega (arith, more)
one_higher opening before (Count n) next = let more = count_more opening before (Count n) in omega (arith, more, next)
one_higher opening before (Adopted c) next = let more = count_more opening before (Adopted c) in omega (arith, more)
one_higher opening before (Lifted name kvno) next = let more = count_more opening before (Lifted name kvno) in omega (arith, more)
one_higher opening before (Removed name) next = let more = count_more opening before (Removed name) in omega (arith, more)

-- nor is its count of new keys lower
pub no_lower : (opening : State) (before more : List AcceptedChange)
    → AreNextVersions opening before more → shown_count opening before ≤ shown_count opening (before ++ more)
no_lower opening before [] next =
    let same = ap (λ (l : List AcceptedChange). shown_count opening l) (append-nil before) in
    omega (arith, same)
no_lower opening before (c ∷ cs) next =
    let one = one_higher opening before c next.0 in
    let all = no_lower opening (before ++ c ∷ []) cs next.1 in
    let same = ap (λ (l : List AcceptedChange). shown_count opening l) (append_assoc before (c ∷ []) cs) in
    omega (arith, one, all, same)

-- so no lookup after a list shows an older version than one after a beginning of it, unless the name was removed since
pub lookup_rises : (opening : Held) (list : List AcceptedChange) (name : Name) (found : Option Lookup)
    → AreNextVersions opening.state [] list → found ≡ lookup_after opening list name
    → (before since : List AcceptedChange) → before ++ since ≡ list → is_removed name since ≡ false → IfSome (lookup_after opening before name) (λ
    earlier. IsSomeAnd found (λ now. earlier.kvno ≤ now.kvno))
lookup_rises opening list name found rise is before since whole keeps = at (shown opening.state before name) refl
  where
    at : (row : Option Shown) → shown opening.state before name ≡ row
        → IfSome (option_map (lookup_with (shown_count opening.state before) (opening.seen + length before))
        (shown opening.state before name)) (λ earlier. IsSomeAnd found (λ now. earlier.kvno ≤ now.kvno))
    at None e = rw e tt
    at (Some row) e =
        let next : AreNextVersions opening.state before since = behind opening.state [] before since
        (subst (λ (l : List AcceptedChange). AreNextVersions opening.state [] l) (sym whole) rise) in
        let later = no_older opening.state before since name row next keeps e in
        let there : shown opening.state list name ≡ Some later.0 = ap (λ (l : List AcceptedChange). shown opening.state l name) (sym whole) ∙ later.1 in
        let shows : found ≡ Some (lookup_with (shown_count opening.state list) (opening.seen + length list) later.0) =
        is ∙ ap (λ (o : Option Shown). option_map (lookup_with (shown_count opening.state list) (opening.seen + length list)) o) there in
        let one : IsSomeAnd found (λ now. row.kvno ≤ now.kvno) = subst (λ (o : Option Lookup). IsSomeAnd o (λ now. row.kvno ≤ now.kvno)) (sym shows) later.2 in
        rw e one
