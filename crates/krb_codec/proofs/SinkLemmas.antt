-- What the sinks hold: the text that was put, or its length.
use Rattle.std.proofs.Common.{◌≡◌, ℕ, ◌-◌, ◌+◌, ◌≤◌, ◌<◌, ◌&&◌, Bool, true, false, cond, List, [], ◌∷◌, ◌++◌}
use Rattle.std.proofs.Common.{Option, Some, None, refl, sym, ap, ◌∙◌, append_assoc, arith, length, leb, inl, inr}
use Rattle.std.specs.Prelude.{is_some}
use Rattle.std.specs.List.{flat_map}
use Rattle.std.proofs.lemmas.Bool.{cases_Bool, cases_lt, le-leb, lt-leb}
use Rattle.std.proofs.lemmas.List.{take_at, drop_at, length-append, append-nil}
use Rattle.std.proofs.lemmas.List.Concat.{flat_map-cons}
use Rattle.krb_codec.specs.Shapes.{Shape, primitive, tagged, many, further, nothing, field, option, Value, tag_of}
use Rattle.krb_codec.specs.Texts.{element, length_octets, content_of, text, is_meaning_in_range, each_is, is_in_range, longest_text, fits, text_length}
use Rattle.krb_codec.specs.Sinks.{puts, puts_each, text_put, text_place, text_enclose, element_length, allowed, length_put, length_place, length_enclose}

-- ---- the text

enclosed : (tag : ℕ) (front bytes content : List ℕ) → bytes ≡ front ++ content → text_enclose bytes (length front) tag ≡ front ++ element tag content
enclosed tag front bytes content is =
    rw (is, take_at front content (length front) refl, drop_at front content (length front) refl) refl

each_held : {A : Type 0} (put : List ℕ → A → List ℕ) (text_of : A → List ℕ) → ((front : List ℕ) (v : A) → put front v ≡ front ++ text_of v)
    → (front : List ℕ) (vs : List A) → puts_each put front vs ≡ front ++ flat_map text_of vs
each_held put text_of held front [] = sym (append-nil front)
each_held put text_of held front (v ∷ vs) =
    each_held put text_of held (put front v) vs ∙ ap (λ (t : List ℕ). t ++ flat_map text_of vs) (held front v)
    ∙ append_assoc front (text_of v) (flat_map text_of vs) ∙ ap (λ (t : List ℕ). front ++ t) (sym (flat_map-cons text_of v vs))

pub text_held : (s : Shape) (front : List ℕ) (v : Value s) → puts text_put text_place text_enclose s front v ≡ front ++ text s v
unfolding puts
text_held (primitive kind) front v = refl
text_held (tagged tag s) front v = enclosed tag front (puts text_put text_place text_enclose s front v) (text s v) (text_held s front v)
text_held (many item) front vs = each_held (puts text_put text_place text_enclose item) (text item) (text_held item) front vs
text_held (further low high) front v = sym (append-nil front)
text_held nothing front v = sym (append-nil front)
text_held (field first rest) front v =
    text_held rest (puts text_put text_place text_enclose first front v.0) v.1 ∙ ap (λ (t : List ℕ). t ++ text rest v.1) (text_held first front v.0)
    ∙ append_assoc front (text first v.0) (text rest v.1)
text_held (option tag first rest) front (None, w) = text_held rest front w
text_held (option tag first rest) front (Some v, w) =
    let one = enclosed tag front (puts text_put text_place text_enclose first front v) (text first v) (text_held first front v) in
    text_held rest (text_enclose (puts text_put text_place text_enclose first front v) (length front) tag) w ∙ ap (λ (t : List ℕ). t ++ text rest w) one
    ∙ append_assoc front (element tag (text first v)) (text rest w)

-- ---- its length

-- what is held after a text of m bytes, after n others
abbrev pub held : ℕ → Bool → ℕ → Option ℕ
held n good m = cond good (allowed (n + m)) None

too_long : (n : ℕ) → longest_text < n → allowed n ≡ None
too_long n lt = let no = lt-leb n longest_text lt in rw no refl

short_enough : (n : ℕ) → n ≤ longest_text → allowed n ≡ Some n
short_enough n le = let yes = le-leb n longest_text le in rw yes refl

never : (b : Bool) (n : ℕ) → longest_text < n → cond b (allowed n) None ≡ None
never true n lt = too_long n lt
never false n lt = refl

-- one text after the other
joined : (n : ℕ) (a : Bool) (m : ℕ) (b : Bool) (k : ℕ) (more : Option ℕ → Option ℕ) → more None ≡ None
    → ((i : ℕ) → i ≤ longest_text → more (Some i) ≡ held i b k) → more (held n a m) ≡ held n (a && b) (m + k)
joined n false m b k more none some = none
joined n true m b k more none some = elim (cases_lt longest_text (n + m)) [
  | inl gt ↦ ap more (too_long (n + m) gt) ∙ none ∙ sym (never b (n + (m + k)) (omega arith))
  | inr le ↦
      let sum : (n + m) + k ≡ n + (m + k) = omega arith in
      ap more (short_enough (n + m) le) ∙ some (n + m) le ∙ ap (λ (i : ℕ). cond b (allowed i) None) sum
]

wrapped : (tag n : ℕ) (a : Bool) (m : ℕ) → length_enclose (held n a m) n tag ≡ held n a (element_length m)
wrapped tag n false m = refl
wrapped tag n true m = elim (cases_lt longest_text (n + m)) [
  | inl gt ↦ ap (λ (h : Option ℕ). length_enclose h n tag) (too_long (n + m) gt) ∙ sym (too_long (n + element_length m) (omega arith))
  | inr le ↦
      let back : (n + m) - n ≡ m = omega arith in
      ap (λ (h : Option ℕ). length_enclose h n tag) (short_enough (n + m) le) ∙ ap (λ (i : ℕ). allowed (n + element_length i)) back
]

element_is : (tag : ℕ) (content : List ℕ) → length (element tag content) ≡ element_length (length content)
unfolding element
element_is tag content = let len = length-append (length_octets (length content)) content in omega (arith, len)

each_none : {A : Type 0} (put : Option ℕ → A → Option ℕ) → ((v : A) → put None v ≡ None) → (vs : List A) → puts_each put None vs ≡ None
each_none put none [] = refl
each_none put none (v ∷ vs) = ap (λ (h : Option ℕ). puts_each put h vs) (none v) ∙ each_none put none vs

none_held : (s : Shape) (v : Value s) → puts length_put length_place length_enclose s None v ≡ None
unfolding puts
none_held (primitive kind) v = refl
none_held (tagged tag s) v = ap (λ (h : Option ℕ). length_enclose h 0 tag) (none_held s v)
none_held (many item) vs = each_none (puts length_put length_place length_enclose item) (none_held item) vs
none_held (further low high) v = refl
none_held nothing v = refl
none_held (field first rest) v = ap (λ (h : Option ℕ). puts length_put length_place length_enclose rest h v.1) (none_held first v.0) ∙ none_held rest v.1
none_held (option tag first rest) (None, w) = none_held rest w
none_held (option tag first rest) (Some v, w) =
    ap (λ (h : Option ℕ). puts length_put length_place length_enclose rest (length_enclose h 0 tag) w) (none_held first v) ∙ none_held rest w

nothing_held : (n : ℕ) → n ≤ longest_text → Some n ≡ held n true 0
nothing_held n le = let same : n + 0 ≡ n = omega arith in sym (ap allowed same ∙ short_enough n le)

each_length : {A : Type 0} (put : Option ℕ → A → Option ℕ) (good : A → Bool) (text_of : A → List ℕ) → ((v : A) → put None v ≡ None)
    → ((n : ℕ) (v : A) → n ≤ longest_text → put (Some n) v ≡ held n (good v) (length (text_of v)))
    → (n : ℕ) (vs : List A) → n ≤ longest_text → puts_each put (Some n) vs ≡ held n (each_is good vs) (length (flat_map text_of vs))
each_length put good text_of none one n [] le = nothing_held n le
each_length put good text_of none one n (v ∷ vs) le =
    let len : length (flat_map text_of (v ∷ vs)) ≡ length (text_of v) + length (flat_map text_of vs) =
    ap length (flat_map-cons text_of v vs) ∙ length-append (text_of v) (flat_map text_of vs) in
    ap (λ (h : Option ℕ). puts_each put h vs) (one n v le)
    ∙ joined n (good v) (length (text_of v)) (each_is good vs) (length (flat_map text_of vs))
    (λ h. puts_each put h vs) (each_none put none vs) (λ i small. each_length put good text_of none one i vs small)
    ∙ ap (λ (m : ℕ). held n (good v && each_is good vs) m) (sym len)

pub length_held : (s : Shape) (n : ℕ) (v : Value s) → n ≤ longest_text
    → puts length_put length_place length_enclose s (Some n) v ≡ held n (is_in_range s v) (length (text s v))
unfolding puts
length_held (primitive kind) n v le = ap (λ (m : ℕ). held n (is_meaning_in_range kind v) m) (sym (element_is (tag_of kind) (content_of kind v)))
length_held (tagged tag s) n v le =
    ap (λ (h : Option ℕ). length_enclose h n tag) (length_held s n v le) ∙ wrapped tag n (is_in_range s v) (length (text s v))
    ∙ ap (λ (m : ℕ). held n (is_in_range s v) m) (sym (element_is tag (text s v)))
length_held (many item) n vs le = each_length (puts length_put length_place length_enclose item)
    (is_in_range item) (text item) (none_held item) (length_held item) n vs le
length_held (further low high) n v le = nothing_held n le
length_held nothing n v le = nothing_held n le
length_held (field first rest) n v le =
    let len = length-append (text first v.0) (text rest v.1) in
    ap (λ (h : Option ℕ). puts length_put length_place length_enclose rest h v.1) (length_held first n v.0 le)
    ∙ joined n (is_in_range first v.0) (length (text first v.0))
    (is_in_range rest v.1) (length (text rest v.1)) (λ h. puts length_put length_place length_enclose rest h v.1)
    (none_held rest v.1) (λ i small. length_held rest i v.1 small)
    ∙ ap (λ (m : ℕ). held n (is_in_range first v.0 && is_in_range rest v.1) m) (sym len)
length_held (option tag first rest) n (None, w) le = length_held rest n w le
length_held (option tag first rest) n (Some v, w) le =
    let len : length (element tag (text first v) ++ text rest w)
    ≡ element_length (length (text first v)) + length (text rest w) =
    length-append (element tag (text first v)) (text rest w)
    ∙ ap (λ (m : ℕ). m + length (text rest w)) (element_is tag (text first v)) in
    ap (λ (h : Option ℕ). puts length_put length_place length_enclose rest (length_enclose h n tag) w) (length_held first n v le)
    ∙ ap (λ (h : Option ℕ). puts length_put length_place length_enclose rest h w) (wrapped tag n (is_in_range first v) (length (text first v)))
    ∙ joined n (is_in_range first v) (element_length (length (text first v)))
    (is_in_range rest w) (length (text rest w)) (λ h. puts length_put length_place length_enclose rest h w)
    (none_held rest w) (λ i small. length_held rest i w small)
    ∙ ap (λ (m : ℕ). held n (is_in_range first v && is_in_range rest w) m) (sym len)

measured : (good : Bool) (m : ℕ) → held 0 good m ≡ cond (good && leb m longest_text) (Some m) None
measured false m = refl
measured true m = let same : 0 + m ≡ m = omega arith in ap allowed same

pub length_is : (s : Shape) (v : Value s) → puts length_put length_place length_enclose s (Some 0) v ≡ text_length s v
unfolding fits
length_is s v = length_held s 0 v (omega arith) ∙ measured (is_in_range s v) (length (text s v))

pub has_length : (s : Shape) (v : Value s) → is_some (text_length s v) ≡ fits s v
has_length s v = elim (cases_Bool (fits s v)) [ inl e ↦ rw e refl | inr e ↦ rw e refl ]
