-- What is spelled so is read, whatever follows it.
use Rattle.std.proofs.Common.{◌≡◌, ℕ, zero, suc, ◌-◌, ◌+◌, ◌≤◌, ◌<◌, ◌&&◌, not, Bool, true, false, List, []}
use Rattle.std.proofs.Common.{◌∷◌, ◌++◌, Some, None, Result, Ok, refl, sym, ap, subst, ◌∙◌, append_assoc}
use Rattle.std.proofs.Common.{add-zero, arith, length, take, drop, ltb, leb, eqb, ◌⊎◌, inl, inr}
use Rattle.std.proofs.lemmas.Bool.{eq-eqb, le-ltb, lt-ltb, le-leb, ne_eqb, not-true}
use Rattle.std.proofs.lemmas.List.{take_at, drop_at, length-append, append-nil}
use Rattle.krb_codec.specs.declared.fault.DerFault.{DerFault}
use Rattle.krb_codec.specs.Shapes.{Primitive, integer, sequence_number, octets, bits, time, Shape, primitive}
use Rattle.krb_codec.specs.Shapes.{tagged, many, further, nothing, field, option, Meaning, Value, tag_of}
use Rattle.krb_codec.specs.Faults.{◌>>=◌}
use Rattle.krb_codec.specs.Integers.{number}
use Rattle.krb_codec.specs.Reading.{Input, Piece, starts, first_of, starts_between, tag_at, length_at, element_at}
use Rattle.krb_codec.specs.Reading.{piece_of, meaning_of, ended, reads_each, reads_further, reads, reads_all}
use Rattle.krb_codec.specs.Grammar.{IsLength, IsElement, IsMeaning, AreInTurn, IsFurther, Spells, is_element, is_apart, is_clear, is_legal}
use Rattle.krb_codec.proofs.IntegerLemmas.{integer_complete, sequence_number_complete}
use Rattle.krb_codec.proofs.TimeLemmas.{time_complete}
use Rattle.krb_codec.proofs.BitStringLemmas.{bits_complete}
use Rattle.krb_codec.proofs.SoundLemmas.{not_empty}
use Rattle.krb_codec.proofs.StepLemmas.{ok_is}

pub and_both : {a b : Bool} → a ≡ true → b ≡ true → (a && b) ≡ true
and_both {a} {b} p q = rw (p, q) refl

pub and_true : (a b : Bool) → (a && b) ≡ true → (a ≡ true) × (b ≡ true)
and_true true b e = (refl, e)
and_true false b e = absurd cc

pub same_or_not : (b : Bool) → (b ≡ true) ⊎ (b ≡ false)
same_or_not true = inl refl
same_or_not false = inr refl

pub length_again : (place : ℕ) (lead rest : List ℕ) (n : ℕ) → IsLength lead n → length_at place (lead ++ rest) ≡ Ok (n, rest)
unfolding length_at
length_again place [] rest n h = absurd h
length_again place (b ∷ []) rest n h =
    let small = lt-ltb b 128 h.0 in
    rw (small, h.1) refl
length_again place (b ∷ c ∷ bytes) rest n h =
    let tail : List ℕ = c ∷ bytes in
    let t0 : ltb b 128 ≡ false = le-ltb b 128 (omega (arith, h.0)) in
    let t1 : eqb b 128 ≡ false = ne_eqb b 128 (λ e. omega (arith, h.0, e)) in
    let t2 : ltb 132 b ≡ false = le-ltb 132 b (omega (arith, h.0, h.1)) in
    let count : b - 128 ≡ length tail = omega (arith, h.0) in
    let t3 : ltb (length (tail ++ rest)) (length tail) ≡ false = le-ltb _ _ (let len = length-append tail rest in omega (arith, len)) in
    let t4 : eqb c 0 ≡ false = ne_eqb c 0 (λ e. omega (arith, h.2, e)) in
    let big : 128 ≤ number tail = omega (arith, h.3, h.4) in
    let t5 : ltb (number tail) 128 ≡ false = le-ltb _ _ big in
    let taken : take (length bytes) (bytes ++ rest) ≡ bytes = take_at bytes rest (length bytes) refl in
    let dropped : drop (length bytes) (bytes ++ rest) ≡ rest = drop_at bytes rest (length bytes) refl in
    rw (t0, t1, t2, count, t3, taken, t4, t5, dropped, ← h.4) refl

pieces : (content rest : List ℕ) (start begin after : ℕ) → start ≡ begin → begin + length content ≡ after
    → piece_of start (length content) (content ++ rest)
    ≡ record { content = record { place = begin; left = content }; after = record { place = after; left = rest } }
pieces content rest start begin after e f = rw (take_at content rest (length content) refl, drop_at content rest (length content) refl, e, f) refl

element_again : (tag : ℕ) (content text : List ℕ) (place : ℕ) (rest : List ℕ) → IsElement tag content text
    → element_at tag (record { place = place; left = text ++ rest }) ≡ Ok (record {
      content = record { place = place + (length text - length content); left = content };
      after = record { place = place + length text; left = rest };
    })
unfolding element_at tag_at
element_again tag content text place rest h =
    let lead : List ℕ = h.0 in
    let behind : List ℕ = content ++ rest in
    let left : List ℕ = tag ∷ (lead ++ behind) in
    let regrouped : text ++ rest ≡ left = ap (λ (t : List ℕ). t ++ rest) h.2 ∙ ap (λ (t : List ℕ). tag ∷ t) (append_assoc lead content rest) in
    let len : length text ≡ suc (length lead + length content) = ap length h.2 ∙ ap suc (length-append lead content) in
    let len2 : length behind ≡ length content + length rest = length-append content rest in
    let len3 : length (lead ++ behind) ≡ length lead + length behind = length-append lead behind in
    let enough : ltb (length behind) (length content) ≡ false = le-ltb _ _ (omega (arith, len2)) in
    let same : eqb tag tag ≡ true = eq-eqb tag tag refl in
    let step : element_at tag (record { place = place; left = left })
    ≡ Ok (piece_of (place + (suc (length (lead ++ behind)) - length behind)) (length content) behind) =
    rw (same, length_again place lead behind (length content) h.1, enough) refl in
    ap (λ (t : List ℕ). element_at tag (record { place = place; left = t })) regrouped ∙ step
    ∙ ap (λ (e : Piece). Ok e) (pieces content rest
    (place + (suc (length (lead ++ behind)) - length behind)) (place + (length text - length content))
    (place + length text) (omega (arith, len, len2, len3)) (omega (arith, len, len2, len3)))

meaning_again : (kind : Primitive) (place : ℕ) (content : List ℕ) (v : Meaning kind) → IsMeaning kind content v → meaning_of kind place content ≡ Ok v
meaning_again (integer low high) place content v h = integer_complete low high place content v h
meaning_again sequence_number place content v h = sequence_number_complete place content v h
meaning_again (octets tag) place content v h = ap (λ (c : List ℕ). Ok c) h
meaning_again bits place content v h = bits_complete place content v h
meaning_again time place content v h = time_complete place content v h

-- What these spell is read, where nothing follows unless `one` holds: then anything may.
abbrev pub IsComplete : {A : Type 0} → Bool → (List ℕ → A → Type 0) → (Input → Result (A × Input) DerFault) → Type 0
IsComplete {A} one spells read = (place : ℕ) (text : List ℕ) (v : A) (rest : List ℕ) → (one ≡ true) ⊎ (rest ≡ []) → spells text v
    → read (record { place = place; left = text ++ rest }) ≡ Ok (v, record { place = place + length text; left = rest })

-- the same, where nothing follows
last_again : {A : Type 0} (one : Bool) (spells : List ℕ → A → Type 0) (read : Input → Result (A × Input) DerFault) → IsComplete one spells read
    → (place : ℕ) (text : List ℕ) (v : A) → spells text v
    → read (record { place = place; left = text }) ≡ Ok (v, record { place = place + length text; left = [] })
last_again one spells read complete place text v h =
    ap (λ (t : List ℕ). read (record { place = place; left = t })) (sym (append-nil text)) ∙ complete place text v [] (inr refl) h

inside_again : {A : Type 0} (tag : ℕ) (one : Bool) (spells : List ℕ → A → Type 0) (read : Input → Result (A × Input) DerFault) → IsComplete one spells read
    → IsComplete true (λ text v. (content : List ℕ) × IsElement tag content text × spells content v)
    (λ i. element_at tag i >>= λ e. read e.content >>= λ y. ended y.1 >>= λ _. Ok (y.0, e.after))
inside_again tag one spells read complete place text v rest follows h =
    let e = element_again tag h.0 text place rest h.1 in
    let f = last_again one spells read complete (place + (length text - length h.0)) h.0 v h.2 in
    rw (e, f) refl

-- elements in turn, none of them empty
each_again : {A : Type 0} (spells : List ℕ → A → Type 0) (read : Input → Result (A × Input) DerFault) → IsComplete true spells read
    → ((text : List ℕ) (v : A) → spells text v → 0 < length text)
    → (budget place : ℕ) (text : List ℕ) (vs : List A) → length text ≤ budget → AreInTurn spells text vs
    → reads_each read budget (record { place = place; left = text }) ≡ Ok (vs, record { place = place + length text; left = [] })
each_again spells read complete some zero place text [] enough h = rw (h, add-zero) refl
each_again spells read complete some (suc budget) place text [] enough h = rw (h, add-zero) refl
each_again spells read complete some zero place text (v ∷ vs) enough h =
    let p = some h.0 v h.3 in
    let len : length text ≡ length h.0 + length h.1 = ap length h.2 ∙ length-append h.0 h.1 in
    absurd (omega (arith, p, len, enough))
each_again spells read complete some (suc budget) place text (v ∷ vs) enough h =
    let p = some h.0 v h.3 in
    let len : length text ≡ length h.0 + length h.1 = ap length h.2 ∙ length-append h.0 h.1 in
    let there : eqb (length text) 0 ≡ false = ne_eqb _ _ (λ e. omega (arith, e, p, len)) in
    let one : read (record { place = place; left = text }) ≡ Ok (v, record { place = place + length h.0; left = h.1 }) =
    ap (λ (t : List ℕ). read (record { place = place; left = t })) h.2 ∙ complete place h.0 v h.1 (inl refl) h.3 in
    let more = each_again spells read complete some budget (place + length h.0) h.1 vs (omega (arith, enough, p, len)) h.4 in
    let end : (place + length h.0) + length h.1 ≡ place + length text = omega (arith, len) in
    rw (there, one, more, end) refl

-- further elements in turn, each with its tag
further_again : (low high budget place : ℕ) (text : List ℕ) (es : List (ℕ × List ℕ)) → length text ≤ budget → AreInTurn (IsFurther low high) text es
    → reads_further low high budget (record { place = place; left = text }) ≡ Ok (tt, record { place = place + length text; left = [] })
further_again low high zero place text [] enough h = rw (h, add-zero) refl
further_again low high (suc budget) place text [] enough h = rw (h, add-zero) refl
further_again low high zero place text (e ∷ es) enough h =
    let p = ap length h.3.2.2 in
    let len : length text ≡ length h.0 + length h.1 = ap length h.2 ∙ length-append h.0 h.1 in
    absurd (omega (arith, p, len, enough))
further_again low high (suc budget) place text (e ∷ es) enough h =
    let p = ap length h.3.2.2 in
    let len : length text ≡ length h.0 + length h.1 = ap length h.2 ∙ length-append h.0 h.1 in
    let lead : text ≡ e.0 ∷ ((h.3.2.0 ++ e.1) ++ h.1) = h.2 ∙ ap (λ (t : List ℕ). t ++ h.1) h.3.2.2 in
    let first : first_of text ≡ e.0 = ap first_of lead in
    let there : starts_between low high text ≡ true = ap (starts_between low high) lead ∙ and_both (le-leb low e.0 h.3.0) (le-leb e.0 high h.3.1) in
    let one = ap (λ (t : List ℕ). element_at e.0 (record { place = place; left = t })) h.2 ∙ element_again e.0 e.1 h.0 place h.1 h.3.2 in
    let more = further_again low high budget (place + length h.0) h.1 es (omega (arith, enough, p, len)) h.4 in
    let end : (place + length h.0) + length h.1 ≡ place + length text = omega (arith, len) in
    rw (there, first, one, more, end) refl

starts_front : (tag : ℕ) (one others : List ℕ) → 0 < length one → starts tag (one ++ others) ≡ starts tag one
starts_front tag [] others some = absurd (omega arith)
starts_front tag (b ∷ one) others some = refl

apart_further : (low high tag : ℕ) → not (leb low tag && leb tag high) ≡ true
    → (text : List ℕ) (es : List (ℕ × List ℕ)) → AreInTurn (IsFurther low high) text es → starts tag text ≡ false
apart_further low high tag e text [] h = ap (starts tag) h
apart_further low high tag e text (x ∷ es) h =
    let lead : text ≡ x.0 ∷ ((h.3.2.0 ++ x.1) ++ h.1) = h.2 ∙ ap (λ (t : List ℕ). t ++ h.1) h.3.2.2 in
    let other : eqb x.0 tag ≡ false = ne_eqb x.0 tag (λ (same : x.0 ≡ tag).
    let inside : (leb low tag && leb tag high) ≡ true = and_both (le-leb low tag (omega (arith, same, h.3.0))) (le-leb tag high (omega (arith, same, h.3.1))) in
    let out = not-true (leb low tag && leb tag high) e in
    cc) in
    ap (starts tag) lead ∙ other

apart : (tag : ℕ) (s : Shape) → is_clear s ≡ true → is_apart tag s ≡ true → (text : List ℕ) (v : Value s) → Spells s text v → starts tag text ≡ false
apart tag (primitive kind) clear e text v h = ap (starts tag) h.1.2 ∙ not-true _ e
apart tag (tagged other s) clear e text v h = ap (starts tag) h.1.2 ∙ not-true _ e
apart tag (many item) clear e text [] h = ap (starts tag) h
apart tag (many item) clear e text (v ∷ vs) h =
    let c = and_true (is_element item) (is_clear item) clear in
    ap (starts tag) h.2 ∙ starts_front tag h.0 h.1 (not_empty item h.0 v c.0 h.3) ∙ apart tag item c.1 e h.0 v h.3
apart tag (further low high) clear e text v h = apart_further low high tag e text h.0 h.1
apart tag nothing clear e text v h = ap (starts tag) h
apart tag (field first rest) clear e text v h =
    let c = and_true (is_element first && is_clear first) (is_clear rest) clear in
    let d = and_true (is_element first) (is_clear first) c.0 in
    ap (starts tag) h.2 ∙ starts_front tag h.0 h.1 (not_empty first h.0 v.0 d.0 h.3) ∙ apart tag first d.1 e h.0 v.0 h.3
apart tag (option other first rest) clear e text (None, w) h =
    let c = and_true (is_clear first && is_clear rest) (is_apart other rest) clear in
    let d = and_true (is_clear first) (is_clear rest) c.0 in
    let f = and_true (not (eqb other tag)) (is_apart tag rest) e in
    apart tag rest d.1 f.1 text w h
apart tag (option other first rest) clear e text (Some v, w) h =
    let f = and_true (not (eqb other tag)) (is_apart tag rest) e in
    ap (starts tag) (h.2 ∙ ap (λ (t : List ℕ). t ++ h.1) h.3.1.2) ∙ not-true _ f.0

no_rest : (rest : List ℕ) → (false ≡ true) ⊎ (rest ≡ []) → rest ≡ []
no_rest rest (inl e) = absurd cc
no_rest rest (inr e) = e

pub complete : (s : Shape) → is_clear s ≡ true → IsComplete (is_element s) (Spells s) (reads s)
unfolding reads
complete (primitive kind) clear place text v rest follows h =
    let e = element_again (tag_of kind) h.0 text place rest h.1 in
    let m = meaning_again kind place h.0 v h.2 in
    rw (e, m) refl
complete (tagged tag s) clear place text v rest follows h = inside_again tag (is_element s) (Spells s) (reads s) (complete s clear) place text v rest follows h
complete (many item) clear place text v rest follows h =
    let none = no_rest rest follows in
    let c = and_true (is_element item) (is_clear item) clear in
    let all : text ++ rest ≡ text = ap (λ (t : List ℕ). text ++ t) none ∙ append-nil text in
    let one = subst (λ (b : Bool). IsComplete b (Spells item) (reads item)) c.0 (complete item c.1) in
    let end = each_again (Spells item) (reads item) one (λ t w k. not_empty item t w c.0 k) (length text) place text v (omega arith) h in
    ap (λ (t : List ℕ). reads_each (reads item) (length t) (record { place = place; left = t })) all
    ∙ end ∙ ap (λ (t : List ℕ). Ok (v, record { place = place + length text; left = t })) (sym none)
complete (further low high) clear place text v rest follows h =
    let none = no_rest rest follows in
    let all : text ++ rest ≡ text = ap (λ (t : List ℕ). text ++ t) none ∙ append-nil text in
    let end = further_again low high (length text) place text h.0 (omega arith) h.1 in
    ap (λ (t : List ℕ). reads_further low high (length t) (record { place = place; left = t })) all
    ∙ end ∙ ap (λ (t : List ℕ). Ok (tt, record { place = place + length text; left = t })) (sym none)
complete nothing clear place text v rest follows h =
    rw (h, add-zero) refl
complete (field first rest) clear place text v after follows h =
    let none = no_rest after follows in
    let c = and_true (is_element first && is_clear first) (is_clear rest) clear in
    let d = and_true (is_element first) (is_clear first) c.0 in
    let regrouped : text ++ after ≡ h.0 ++ (h.1 ++ after) = ap (λ (t : List ℕ). t ++ after) h.2 ∙ append_assoc h.0 h.1 after in
    let one = complete first d.1 place h.0 v.0 (h.1 ++ after) (inl d.0) h.3 in
    let more = complete rest c.1 (place + length h.0) h.1 v.1 after (inr none) h.4 in
    let len : length text ≡ length h.0 + length h.1 = ap length h.2 ∙ length-append h.0 h.1 in
    let end : (place + length h.0) + length h.1 ≡ place + length text = omega (arith, len) in
    ap (λ (t : List ℕ). reads (field first rest) (record { place = place; left = t })) regrouped ∙ rw (one, more, end) refl
complete (option tag first rest) clear place text (None, w) after follows h =
    let none = no_rest after follows in
    let c = and_true (is_clear first && is_clear rest) (is_apart tag rest) clear in
    let d = and_true (is_clear first) (is_clear rest) c.0 in
    let not_there : starts tag (text ++ after) ≡ false = ap (λ (t : List ℕ). starts tag (text ++ t)) none
    ∙ ap (starts tag) (append-nil text) ∙ apart tag rest d.1 c.1 text w h in
    let more = complete rest d.1 place text w after (inr none) h in
    rw (not_there, more) refl
complete (option tag first rest) clear place text (Some v, w) after follows h =
    let none = no_rest after follows in
    let c = and_true (is_clear first && is_clear rest) (is_apart tag rest) clear in
    let d = and_true (is_clear first) (is_clear rest) c.0 in
    let regrouped : text ++ after ≡ h.0 ++ (h.1 ++ after) = ap (λ (t : List ℕ). t ++ after) h.2 ∙ append_assoc h.0 h.1 after in
    let there : starts tag (h.0 ++ (h.1 ++ after)) ≡ true = ap (λ (t : List ℕ). starts tag (t ++ (h.1 ++ after))) h.3.1.2 ∙ eq-eqb tag tag refl in
    let e = element_again tag h.3.0 h.0 place (h.1 ++ after) h.3.1 in
    let f = last_again (is_element first) (Spells first) (reads first) (complete first d.0) (place + (length h.0 - length h.3.0)) h.3.0 v h.3.2 in
    let more = complete rest d.1 (place + length h.0) h.1 w after (inr none) h.4 in
    let len : length text ≡ length h.0 + length h.1 = ap length h.2 ∙ length-append h.0 h.1 in
    let end : (place + length h.0) + length h.1 ≡ place + length text = omega (arith, len) in
    ap (λ (t : List ℕ). reads (option tag first rest) (record { place = place; left = t })) regrouped ∙ rw (there, e, f, more, end) refl

-- the whole of a text
pub all_again : (s : Shape) → is_clear s ≡ true → (text : List ℕ) (v : Value s) → Spells s text v → reads_all s text ≡ Ok v
unfolding reads_all
all_again s clear text v h =
    let e = last_again (is_element s) (Spells s) (reads s) (complete s clear) 0 text v h in
    rw e refl

-- the first of two texts of a shape is no proper prefix of the other, and has the same value where it is the other
pub no_prefix : (s : Shape) → is_legal s ≡ true → (text more : List ℕ) (v w : Value s) → Spells s text v → Spells s (text ++ more) w → more ≡ []
no_prefix s legal text more v w h k =
    let l = and_true (is_element s) (is_clear s) legal in
    let first = complete s l.1 0 text v more (inl l.0) h in
    let second = last_again (is_element s) (Spells s) (reads s) (complete s l.1) 0 (text ++ more) w k in
    ap (λ (x : Value s × Input). x.1.left) (ok_is (v, record { place = 0 + length text; left = more })
    (w, record { place = 0 + length (text ++ more); left = [] }) (sym first ∙ second))

pub one_value : (s : Shape) → is_legal s ≡ true → (text : List ℕ) (v w : Value s) → Spells s text v → Spells s text w → v ≡ w
one_value s legal text v w h k =
    let l = and_true (is_element s) (is_clear s) legal in
    ok_is v w (sym (all_again s l.1 text v h) ∙ all_again s l.1 text w k)
