-- A record's text is that of no other, and reading gives it back.
use Rattle.std.proofs.Common.{◌≡◌, ℕ, ◌^◌, ◌<◌, List, [], ◌∷◌, ◌++◌, length, Bool, true, false, ◌==◌, if◌then◌else◌, Option}
use Rattle.std.proofs.Common.{Some, None, refl, sym, ◌∙◌, ap, arith, append_assoc, append-nil}
use Rattle.std.specs.Prelude.{nat_eq}
use Rattle.std.specs.Int.{from_be_bytes, to_be_bytes, w16, w32}
use Rattle.std.proofs.lemmas.Bool.Decides.{nat_tests}
use Rattle.std.proofs.lemmas.Nat.{from_be_bytes-to_be_bytes_2, from_be_bytes-to_be_bytes_4}
use Rattle.chpw_rules.specs.Limits.{is_in, iteration_counts}
use Rattle.chpw_record.specs.declared.record.PrincipalKey.{PrincipalKey}
use Rattle.chpw_record.specs.declared.record.KeyKind.{KeyKind}
use Rattle.chpw_record.specs.declared.record.KeyKind.TheVariants as kind
use Rattle.chpw_record.specs.declared.record.Record.{Record}
use Rattle.chpw_record.specs.declared.record.Record.TheVariants as record_of
use Rattle.chpw_record.specs.Laws.{IsOnlyRecord, ReadsBack}
use Rattle.chpw_record.specs.RecordKeys.{key_at}
use Rattle.chpw_record.specs.Records.{ChangeFits, RecordFits, body_text, framed, key_text, kind_number, kind_with}
use Rattle.chpw_record.specs.Records.{name_bytes, record_text, records_text, version_bytes}
use Rattle.chpw_record.proofs.LengthLemmas.{text_short}
use Rattle.chpw_record.proofs.ListLemmas.{front_same}
use Rattle.chpw_record.proofs.PartsLemmas.{same_parts}
use Rattle.chpw_record.proofs.VersionLemmas.{count_short, key_back, kvno_short, version_length}

-- ---- the texts of records, joined

pub records_more : (cs : List Record) (c : Record) → records_text (cs ++ c ∷ []) ≡ records_text cs ++ record_text c
records_more [] c = append-nil (record_text c)
records_more (d ∷ cs) c = ap (λ (xs : List ℕ). record_text d ++ xs) (records_more cs c) ∙ sym (append_assoc (record_text d) (records_text cs) (record_text c))

pub records_joined : (cs ds : List Record) → records_text (cs ++ ds) ≡ records_text cs ++ records_text ds
records_joined [] ds = refl
records_joined (c ∷ cs) ds = ap (λ (xs : List ℕ). record_text c ++ xs) (records_joined cs ds)
    ∙ sym (append_assoc (record_text c) (records_text cs) (records_text ds))

-- a record is its text after the text's length
pub framed_is : (r : Record) → framed (body_text r) ≡ record_text r
framed_is (record_of.Key kind c) = refl
framed_is (record_of.Raise count) = refl

-- ---- two records with the same text

tails : (m n : ℕ) (xs ys : List ℕ) → m ∷ xs ≡ n ∷ ys → xs ≡ ys
tails m n xs ys h = cc

same_change : (kind : ℕ) (c d : PrincipalKey) → ChangeFits c → ChangeFits d → key_text kind c.name c.key ≡ key_text kind d.name d.key → c ≡ d
same_change kind c d f g e =
    let l : length (version_bytes kind c.key) ≡ length (version_bytes kind d.key) =
    version_length kind c.key f.aes128 f.aes256 ∙ sym (version_length kind d.key g.aes128 g.aes256) in
    let r = front_same (version_bytes kind c.key) (name_bytes c.name) (version_bytes kind d.key) (name_bytes d.name) l e in
    let k : c.key ≡ d.key =
    sym (key_back kind c.key (kvno_short c.key.kvno f.kvno) (count_short c.key.count f.count) f.aes128 f.aes256)
    ∙ (ap key_at r.0 ∙ key_back kind d.key (kvno_short d.key.kvno g.kvno) (count_short d.key.count g.count) g.aes128 g.aes256) in
    let p = same_parts c.name.parts d.name.parts (tails (length c.name.parts) (length d.name.parts) _ _ r.1) in
    λ i. record { name = record { parts = p i }; key = k i }

same_count : (m n : ℕ) → is_in iteration_counts m ≡ true → is_in iteration_counts n ≡ true → to_be_bytes w32 m ≡ to_be_bytes w32 n → m ≡ n
same_count m n f g e = sym (from_be_bytes-to_be_bytes_4 m (count_short m f)) ∙ (ap (from_be_bytes w32) e ∙ from_be_bytes-to_be_bytes_4 n (count_short n g))

-- texts of two kinds aren't the same
heads : (m n : ℕ) (xs ys : List ℕ) → m ∷ xs ≡ n ∷ ys → m ≡ n
heads m n xs ys h = cc

apart_kinds : (m n : ℕ) (xs ys : List ℕ) → nat_eq m n ≡ false → m ∷ xs ≡ n ∷ ys → ⊥
apart_kinds m n xs ys d h = let same = heads m n xs ys h in grind (arith, nat_tests)

-- a kind's number is that of no other, and not that of a raise
number_back : (k : KeyKind) → kind_with (kind_number k) ≡ Some k
number_back kind.Change = refl
number_back kind.Base = refl
number_back kind.Adopt = refl
number_back kind.Lift = refl
number_back kind.Remove = refl

same_kind : (k l : KeyKind) → kind_number k ≡ kind_number l → k ≡ l
same_kind k l e = let a = number_back k in let b = number_back l in let c = ap kind_with e in cc

not_raise : (k : KeyKind) → nat_eq (kind_number k) 2 ≡ false
not_raise kind.Change = refl
not_raise kind.Base = refl
not_raise kind.Adopt = refl
not_raise kind.Lift = refl
not_raise kind.Remove = refl

nat_eq_sym : (m n : ℕ) → nat_eq m n ≡ false → nat_eq n m ≡ false
nat_eq_sym m n h = grind (arith, nat_tests)

same_body : (r q : Record) → RecordFits r → RecordFits q → body_text r ≡ body_text q → r ≡ q
same_body (record_of.Key k c) (record_of.Key l d) f g e =
    let kinds : k ≡ l = same_kind k l (heads (kind_number k) (kind_number l) _ _ e) in
    let texts : key_text (kind_number k) c.name c.key ≡ key_text (kind_number k) d.name d.key =
    e ∙ ap (λ (x : KeyKind). key_text (kind_number x) d.name d.key) (sym kinds) in
    λ i. record_of.Key (kinds i) (same_change (kind_number k) c d f g texts i)
same_body (record_of.Key k c) (record_of.Raise n) f g e = absurd (apart_kinds (kind_number k) 2 _ _ (not_raise k) e)
same_body (record_of.Raise m) (record_of.Key l d) f g e = absurd (apart_kinds 2 (kind_number l) _ _ (nat_eq_sym (kind_number l) 2 (not_raise l)) e)
same_body (record_of.Raise m) (record_of.Raise n) f g e = ap record_of.Raise (same_count m n f g (tails 2 2 _ _ e))

-- ---- two records that begin the same text

pub framed_same : (a x b y : List ℕ) → length a < 2 ^ 16 → length b < 2 ^ 16 → framed a ++ x ≡ framed b ++ y → (a ≡ b) × (x ≡ y)
framed_same a x b y h g e =
    let whole : to_be_bytes w16 (length a) ++ (a ++ x) ≡ to_be_bytes w16 (length b) ++ (b ++ y) = e in
    let r = front_same (to_be_bytes w16 (length a)) (a ++ x) (to_be_bytes w16 (length b)) (b ++ y) refl whole in
    let l : length a ≡ length b = sym (from_be_bytes-to_be_bytes_2 (length a) h) ∙ (ap (from_be_bytes w16) r.0 ∙ from_be_bytes-to_be_bytes_2 (length b) g) in
    front_same a x b y l r.1

small : (r : Record) → RecordFits r → length (body_text r) < 2 ^ 16
small r f = omega (arith, text_short r f)

pub same_record : IsOnlyRecord
same_record r q x y f g e =
    let t = framed_same (body_text r) x (body_text q) y (small r f) (small q g)
    (ap (λ (xs : List ℕ). xs ++ x) (framed_is r) ∙ (e ∙ ap (λ (xs : List ℕ). xs ++ y) (sym (framed_is q)))) in
    (same_body r q f g t.0, t.1)

-- ---- reading

pub reads_back : ReadsBack
reads_back r None f h = absurd (h r f refl)
reads_back r (Some q) f h = ap Some (sym (same_body r q f h.0 h.1))

-- a number that a kind is found by is that kind's
picked : (n m : ℕ) (j : KeyKind) (rest : Option KeyKind) (k : KeyKind) → kind_number j ≡ m → (rest ≡ Some k → n ≡ kind_number k)
    → (if n == m then Some j else rest) ≡ Some k → n ≡ kind_number k
picked n m j rest k is others h = at (n == m) refl h
  where
    at : (b : Bool) → (n == m) ≡ b → (if b then Some j else rest) ≡ Some k → n ≡ kind_number k
    at true e g = let same : n ≡ m = grind (arith, nat_tests) in cc
    at false e g = others g

no_kind : (n : ℕ) (k : KeyKind) → None ≡ Some k → n ≡ kind_number k
no_kind n k h = cc

pub kind_back : (n : ℕ) (k : KeyKind) → kind_with n ≡ Some k → n ≡ kind_number k
kind_back n k =
    picked n 1 kind.Change _ k refl (picked n 3 kind.Base _ k refl (picked n 4 kind.Adopt _ k refl
    (picked n 5 kind.Lift _ k refl (picked n 6 kind.Remove _ k refl (no_kind n k)))))
