-- The rows that are made one after the other.
use Rattle.std.proofs.Common.{◌≡◌, ◌∙◌, sym, ap, refl, subst, ℕ, ℤ, zero, suc, ◌-◌, ◌<◌, ◌≤◌, Bool}
use Rattle.std.proofs.Common.{true, false, ◌&&◌, List, [], ◌∷◌, ◌++◌, append_assoc, append-nil, length}
use Rattle.std.proofs.Common.{length-append, get_or, codes, bytes_eq, Option, Some, None, arith}
use Rattle.std.specs.Option.{option_map}
use Rattle.chpw_rules.specs.declared.name.Name.{Name}
use Rattle.chpw_rules.specs.declared.config.KeyBytes.{KeyBytes}
use Rattle.chpw_import.specs.declared.slot.Slot.{Slot}
use Rattle.chpw_import.specs.declared.slot.Found.{Found}
use Rattle.chpw_import.specs.Rows.{keys_from, first_rows, is_service, key_for, slot_at}

-- ---- the keys of a name

-- the key of a slot, whose encryption type is z as the code has it
pub key_is : (keys : Slot → Option Found) (name : Name) (kvno : ℕ) (etype z : ℤ) → z ≡ etype → (r : Option Found) → r ≡ keys (slot_at name kvno z)
    → option_map (λ (found : Found). found.key) r ≡ key_for keys name kvno etype
key_is keys name kvno etype z e r h = ap (option_map (λ (found : Found). found.key)) (h ∙ ap (λ (t : ℤ). keys (slot_at name kvno t)) e)

pub no_more : (pair : ℕ → Option KeyBytes) (count kvno : ℕ) → (kvno ≡ 0) → keys_from pair count kvno ≡ []
unfolding keys_from
no_more pair zero kvno h = refl
no_more pair (suc count) zero h = refl
no_more pair (suc count) (suc below) h = absurd (omega arith)

pub all_there : (pair : ℕ → Option KeyBytes) (count kvno : ℕ) → count ≡ 0 → keys_from pair count kvno ≡ []
unfolding keys_from
all_there pair zero kvno h = refl
all_there pair (suc count) kvno h = absurd (omega arith)

pub stopped : (pair : ℕ → Option KeyBytes) (count kvno : ℕ) → pair kvno ≡ None → keys_from pair count kvno ≡ []
unfolding keys_from
stopped pair zero kvno h = refl
stopped pair (suc count) zero h = refl
stopped pair (suc count) (suc below) h = rw h

goes_down : (pair : ℕ → Option KeyBytes) (count kvno : ℕ) (key : KeyBytes) → 0 < count → 0 < kvno → pair kvno ≡ Some key
    → keys_from pair count kvno ≡ key ∷ keys_from pair (count - 1) (kvno - 1)
unfolding keys_from
goes_down pair zero kvno key m n h = absurd (omega arith)
goes_down pair (suc count) zero key m n h = absurd (omega arith)
goes_down pair (suc count) (suc below) key m n h =
    let e : suc count - 1 ≡ count = omega arith in
    let f : suc below - 1 ≡ below = omega arith in
    rw (h, e, f)

-- a list with one more element, and the others behind it
joins : {A : Type 0} (xs ys others whole : List A) (x : A) → xs ++ ys ≡ whole → ys ≡ x ∷ others → (xs ++ x ∷ []) ++ others ≡ whole
joins xs ys others whole x h e = append_assoc xs (x ∷ []) others ∙ (ap (λ (zs : List _). xs ++ zs) (sym e) ∙ h)

-- a list with nothing behind it is whole
pub finished : {A : Type 0} (xs ys whole : List A) → xs ++ ys ≡ whole → ys ≡ [] → xs ≡ whole
finished xs ys whole h e = sym (append-nil xs) ∙ (ap (λ (zs : List _). xs ++ zs) (sym e) ∙ h)

pub one_key : (pair : ℕ → Option KeyBytes) (keys whole : List KeyBytes) (kvno : ℕ) (key : KeyBytes)
    → keys ++ keys_from pair (16 - length keys) kvno ≡ whole → length keys < 16 → 0 < kvno → pair kvno ≡ Some key
    → (keys ++ key ∷ []) ++ keys_from pair (16 - length (keys ++ key ∷ [])) (kvno - 1) ≡ whole
one_key pair keys whole kvno key h few some is =
    let e : 16 - length (keys ++ key ∷ []) ≡ 16 - length keys - 1 = omega (arith, length-append keys (key ∷ [])) in
    rw e (joins keys (keys_from pair (16 - length keys) kvno) _ whole key h (goes_down pair (16 - length keys) kvno key (omega arith) some is))

-- ---- the first rows

pub none_left : {A B : Type 0} (row : A → Option B) (limit : ℕ) (xs : List A) → limit ≡ 0 → first_rows row limit xs ≡ []
unfolding first_rows
none_left row zero xs h = refl
none_left row (suc limit) xs h = absurd (omega arith)

pub no_rows : {A B : Type 0} (row : A → Option B) (limit : ℕ) → first_rows row limit [] ≡ []
unfolding first_rows
no_rows row zero = refl
no_rows row (suc limit) = refl

pub passed : {A B : Type 0} (row : A → Option B) (limit : ℕ) (x : A) (xs : List A) → row x ≡ None → first_rows row limit (x ∷ xs) ≡ first_rows row limit xs
unfolding first_rows
passed row limit x xs h = rw h

pub one_taken : {A B : Type 0} (row : A → Option B) (limit : ℕ) (x : A) (xs : List A) (y : B)
    → 0 < limit → row x ≡ Some y → first_rows row limit (x ∷ xs) ≡ y ∷ first_rows row (limit - 1) xs
unfolding first_rows
one_taken row zero x xs y m h = absurd (omega arith)
one_taken row (suc limit) x xs y m h =
    let e : suc limit - 1 ≡ limit = omega arith in
    rw (h, e)

pub one_row : {A B : Type 0} (row : A → Option B) (limit : ℕ) (rows whole : List B) (x : A) (xs : List A) (y : B)
    → rows ++ first_rows row (limit - length rows) (x ∷ xs) ≡ whole → length rows < limit → row x ≡ Some y
    → (rows ++ y ∷ []) ++ first_rows row (limit - length (rows ++ y ∷ [])) xs ≡ whole
one_row row limit rows whole x xs y h few is =
    let e : limit - length (rows ++ y ∷ []) ≡ limit - length rows - 1 = omega (arith, length-append rows (y ∷ [])) in
    rw e (joins rows (first_rows row (limit - length rows) (x ∷ xs)) _ whole y h (one_taken row (limit - length rows) x xs y (omega arith) is))

-- the same, where xs begins with x
pub goes_on : {A B : Type 0} (row : A → Option B) (limit : ℕ) (rows more whole : List B) (xs : List A) (x : A) (others : List A) (y : B)
    → rows ++ first_rows row (limit - length rows) xs ≡ whole → length rows < limit → xs ≡ x ∷ others → row x ≡ Some y → more ≡ rows ++ y ∷ []
    → (more ++ first_rows row (limit - length more) others ≡ whole) × (length more ≤ limit)
goes_on row limit rows more whole xs x others y h few begins is e =
    let behind : (rows ++ y ∷ []) ++ first_rows row (limit - length (rows ++ y ∷ [])) others ≡ whole =
    one_row row limit rows whole x others y (subst (λ (zs : List _). rows ++ first_rows row (limit - length rows) zs ≡ whole) begins h) few is in
    let size : length (rows ++ y ∷ []) ≤ limit = omega (arith, length-append rows (y ∷ [])) in
    (subst (λ (zs : List _). zs ++ first_rows row (limit - length zs) others ≡ whole) (sym e) behind, subst (λ (zs : List _). length zs ≤ limit) (sym e) size)

pub goes_past : {A B : Type 0} (row : A → Option B) (limit : ℕ) (rows whole : List B) (xs : List A) (x : A) (others : List A)
    → rows ++ first_rows row (limit - length rows) xs ≡ whole → xs ≡ x ∷ others → row x ≡ None
    → rows ++ first_rows row (limit - length rows) others ≡ whole
goes_past row limit rows whole xs x others h begins is =
    ap (λ (zs : List _). rows ++ zs) (sym (ap (first_rows row (limit - length rows)) begins ∙ passed row (limit - length rows) x others is)) ∙ h

pub nothing_follows : {A B : Type 0} (row : A → Option B) (limit : ℕ) (xs : List A) → xs ≡ [] → first_rows row limit xs ≡ []
nothing_follows row limit xs e = ap (first_rows row limit) e ∙ no_rows row limit

-- ---- the service

and_true : (p q : Bool) → (p && (q && true)) ≡ (p && q)
and_true true true = refl
and_true true false = refl
and_true false q = refl

and_false : (p : Bool) → (p && false) ≡ false
and_false true = refl
and_false false = refl

pub two_parts : (parts : List (List ℕ)) (a b : List ℕ) → 2 ≤ length parts → length parts < 3 → a ≡ get_or parts 0 a → b ≡ get_or parts 1 b
    → is_service (record { parts = parts }) ≡ (bytes_eq a (codes "kadmin") && bytes_eq b (codes "changepw"))
unfolding is_service
two_parts [] a b low high e f = absurd (omega arith)
two_parts (x ∷ []) a b low high e f = absurd (omega arith)
two_parts (x ∷ y ∷ []) a b low high e f =
    let e : a ≡ x = e in
    let f : b ≡ y = f in
    rw (e, f) (and_true (bytes_eq x (codes "kadmin")) (bytes_eq y (codes "changepw")))
two_parts (x ∷ y ∷ z ∷ zs) a b low high e f = absurd (omega arith)

pub few_parts : (parts : List (List ℕ)) → length parts < 2 → is_service (record { parts = parts }) ≡ false
unfolding is_service
few_parts [] h = refl
few_parts (x ∷ []) h = and_false (bytes_eq x (codes "kadmin"))
few_parts (x ∷ y ∷ zs) h = absurd (omega arith)

pub more_parts : (parts : List (List ℕ)) → 3 ≤ length parts → is_service (record { parts = parts }) ≡ false
unfolding is_service
more_parts [] h = absurd (omega arith)
more_parts (x ∷ []) h = absurd (omega arith)
more_parts (x ∷ y ∷ []) h = absurd (omega arith)
more_parts (x ∷ y ∷ z ∷ zs) h =
    ap (λ (p : Bool). bytes_eq x (codes "kadmin") && p) (and_false (bytes_eq y (codes "changepw"))) ∙ and_false (bytes_eq x (codes "kadmin"))

-- as the code finds it: the parts are s, of which the first two are a and b
pub second_decides : (name : Name) (s : List (List ℕ)) (a b : List ℕ) → s ≡ name.parts → 2 ≤ length s → length s < 3 → a ≡ get_or s 0 a → b ≡ get_or s 1 b
    → bytes_eq a (codes "kadmin") ≡ true → bytes_eq b (codes "changepw") ≡ is_service name
second_decides name s a b e low high x y first =
    let P : List (List ℕ) → Type 0 = λ (parts : List (List ℕ)). is_service (record { parts = parts })
    ≡ (bytes_eq a (codes "kadmin") && bytes_eq b (codes "changepw")) in
    sym (subst P e (two_parts s a b low high x y) ∙ ap (λ (p : Bool). p && bytes_eq b (codes "changepw")) first)

pub first_decides : (name : Name) (s : List (List ℕ)) (a b : List ℕ) → s ≡ name.parts → 2 ≤ length s → length s < 3 → a ≡ get_or s 0 a → b ≡ get_or s 1 b
    → bytes_eq a (codes "kadmin") ≡ false → false ≡ is_service name
first_decides name s a b e low high x y first =
    let P : List (List ℕ) → Type 0 = λ (parts : List (List ℕ)). is_service (record { parts = parts })
    ≡ (bytes_eq a (codes "kadmin") && bytes_eq b (codes "changepw")) in
    sym (subst P e (two_parts s a b low high x y) ∙ ap (λ (p : Bool). p && bytes_eq b (codes "changepw")) first)

pub few_decide : (name : Name) (s : List (List ℕ)) → s ≡ name.parts → length s < 2 → false ≡ is_service name
few_decide name s e h = sym (subst (λ (parts : List (List ℕ)). is_service (record { parts = parts }) ≡ false) e (few_parts s h))

pub more_decide : (name : Name) (s : List (List ℕ)) → s ≡ name.parts → 3 ≤ length s → false ≡ is_service name
more_decide name s e h = sym (subst (λ (parts : List (List ℕ)). is_service (record { parts = parts }) ≡ false) e (more_parts s h))

-- texts that are compared
pub compared : (r t : Bool) (x y a b : List ℕ) → r ≡ bytes_eq x y → x ≡ a → y ≡ b → r ≡ t → bytes_eq a b ≡ t
compared r t x y a b e f g h = subst (λ (z : List ℕ). bytes_eq z b ≡ t) f (subst (λ (z : List ℕ). bytes_eq x z ≡ t) g (sym e ∙ h))
