-- Where the records of a journal stop: a text comes to one thing.
use Rattle.std.proofs.Common.{◌≡◌, ℕ, zero, suc, ◌+◌, ◌≤◌, ◌<◌, List, [], ◌∷◌, ◌++◌, length}
use Rattle.std.proofs.Common.{take, Bool, true, false, ⊎_elim, refl, sym, ◌∙◌}
use Rattle.std.proofs.Common.{ap, subst, arith, lit<, length-append, length-take, append_assoc}
use Rattle.std.specs.Prelude.{◌⊎◌, nat_lt}
use Rattle.std.specs.Int.{to_be_bytes, w16}
use Rattle.std.proofs.Math.Bool.{and-false}
use Rattle.std.proofs.lemmas.Bool.Decides.{nat_tests}
use Rattle.chpw_record.specs.declared.record.Record.{Record}
use Rattle.chpw_record.specs.declared.record.Record.TheVariants as record_of
use Rattle.chpw_record.specs.Records.{RecordFits, body_text, framed, record_text, records_text, stated_length, is_record_length}
use Rattle.chpw_record.proofs.LengthLemmas.{text_range}
use Rattle.chpw_record.proofs.RecordLemmas.{framed_is, same_record}
use Rattle.chpw_table.specs.State.{State, keys_held}
use Rattle.chpw_journal.specs.JournalText.{restored, is_lacked, may_follow, AreNext, IsNextRecord, IsOfUnknown, IsOfWrongVersion, with_record}
use Rattle.chpw_journal.specs.JournalText.{is_cut_off, HasBadLength, HasBadBody, Begins, Reading, whole}
use Rattle.chpw_journal.specs.JournalText.{bad_record, unknown_principal, wrong_version, IsReading}
use Rattle.chpw_journal.specs.Laws.{FrontsAreCutOff}
use Rattle.chpw_journal.proofs.CutLemmas.{header_states, cut_off_body, cut_off_header}

states : (c : Record) (left : List ℕ) → RecordFits c → stated_length (record_text c ++ left) ≡ length (body_text c)
states c left f =
    ap (λ (xs : List ℕ). stated_length (xs ++ left)) (sym (framed_is c))
    ∙ header_states (to_be_bytes w16 (length (body_text c))) (length (body_text c)) (body_text c ++ left) (refl, text_range c f)

-- ---- what is cut off, and what is not

not_below : (m n : ℕ) → n ≤ m → nat_lt m n ≡ false
not_below m n h = grind (arith, nat_tests)

there : (rest : List ℕ) → 2 + stated_length rest ≤ length rest → is_cut_off rest ≡ false
there rest h = rw (not_below (length rest) 2 (omega (arith, h)), not_below (length rest) (2 + stated_length rest) h)
    (and-false (is_record_length (stated_length rest)))

not_cut : (c : Record) (left : List ℕ) → RecordFits c → is_cut_off (record_text c ++ left) ≡ false
not_cut c left f =
    let st = states c left f in
    let size : length (record_text c ++ left) ≡ (2 + length (body_text c)) + length left =
    length-append (record_text c) left ∙ ap (λ n. n + length left)
    (ap length (sym (framed_is c)) ∙ length-append (to_be_bytes w16 (length (body_text c))) (body_text c)) in
    there (record_text c ++ left) (omega (arith, st, size))

apart : (b : Bool) → b ≡ true → b ≡ false → ⊥
apart b h k = cc

not_bad : (rest : List ℕ) → is_cut_off rest ≡ true → HasBadLength rest ⊎ HasBadBody rest → ⊥
not_bad rest cut bad =
    ⊎_elim
    (λ (h : HasBadLength rest). apart (is_cut_off rest) cut (rw (not_below (length rest) 2 h.0, h.1) refl))
    (λ (h : HasBadBody rest). apart (is_cut_off rest) cut (there rest h.0))
    bad

fronts_framed : (c : Record) (n : ℕ) → RecordFits c → n < length (framed (body_text c)) → is_cut_off (take n (framed (body_text c))) ≡ true
fronts_framed c zero f h = refl
fronts_framed c (suc zero) f h = cut_off_header (take 1 (framed (body_text c))) (lit< tt)
fronts_framed c (suc (suc m)) f h =
    let size : length (framed (body_text c)) ≡ 2 + length (body_text c) = length-append (to_be_bytes w16 (length (body_text c))) (body_text c) in
    cut_off_body (to_be_bytes w16 (length (body_text c)))
    (length (body_text c)) (take m (body_text c)) (refl, text_range c f) (simp length-take (omega (arith, size, h)))

pub fronts_are_cut_off : FrontsAreCutOff
fronts_are_cut_off c n f h =
    subst (λ (xs : List ℕ). is_cut_off (take n xs) ≡ true) (framed_is c)
    (fronts_framed c n f (subst (λ (xs : List ℕ). n < length xs) (sym (framed_is c)) h))

-- ---- records stop at one place

-- no record that goes on stands in front
abbrev Stops : State → List ℕ → Type 0
Stops s rest = (c : Record) (left : List ℕ) → RecordFits c → IsNextRecord s c → rest ≡ record_text c ++ left → ⊥

stops_cut : (s : State) (rest : List ℕ) → is_cut_off rest ≡ true → Stops s rest
stops_cut s rest cut c left f k e = apart (is_cut_off rest) cut (ap is_cut_off e ∙ not_cut c left f)

stops_bad : (s : State) (rest : List ℕ) → HasBadLength rest ⊎ HasBadBody rest → Stops s rest
stops_bad s rest bad c left f k e =
    ⊎_elim
    (λ (h : HasBadLength rest). apart (is_record_length (stated_length rest)) (ap (λ (xs : List ℕ).
    is_record_length (stated_length xs)) e ∙ (ap is_record_length (states c left f) ∙ text_range c f)) h.1)
    (λ (h : HasBadBody rest). h.1 c left f e)
    bad

-- a record of a principal that isn't held doesn't come next, nor does one of a wrong version
pub unknown_next : (s : State) (r : Record) → IsOfUnknown s r → IsNextRecord s r → ⊥
unknown_next s (record_of.Key kind c) none k = apart (is_lacked kind (keys_held s c.name)) none k.0
unknown_next s (record_of.Raise n) none k = none

wrong_next : (s : State) (r : Record) → IsOfWrongVersion s r → IsNextRecord s r → ⊥
wrong_next s (record_of.Key kind c) wrong k = apart (may_follow kind c.key.kvno (keys_held s c.name)) k.1 wrong.1
wrong_next s (record_of.Raise n) wrong k = wrong

stops_unknown : (s : State) (q : Record) (more : List ℕ) → RecordFits q → IsOfUnknown s q → Stops s (record_text q ++ more)
stops_unknown s q more g none r left f k e =
    unknown_next s q none (subst (IsNextRecord s) (sym (same_record q r more left g f e).0) k)

stops_version : (s : State) (q : Record) (more : List ℕ) → RecordFits q → IsOfWrongVersion s q → Stops s (record_text q ++ more)
stops_version s q more g wrong r left f k e =
    wrong_next s q wrong (subst (IsNextRecord s) (sym (same_record q r more left g f e).0) k)

same_stop : (s : State) (cs ds : List Record) (x y : List ℕ) → AreNext s cs → AreNext s ds → Stops (restored s cs) x
    → Stops (restored s ds) y → records_text cs ++ x ≡ records_text ds ++ y → (cs ≡ ds) × (x ≡ y)
same_stop s [] [] x y h g p q e = (refl, e)
same_stop s [] (d ∷ ds) x y h g p q e = absurd (p d (records_text ds ++ y) g.0 g.1 (e ∙ append_assoc (record_text d) (records_text ds) y))
same_stop s (c ∷ cs) [] x y h g p q e = absurd (q c (records_text cs ++ x) h.0 h.1 (sym e ∙ append_assoc (record_text c) (records_text cs) x))
same_stop s (c ∷ cs) (d ∷ ds) x y h g p q e =
    let t : record_text c ++ (records_text cs ++ x) ≡ record_text d ++ (records_text ds ++ y) =
    sym (append_assoc (record_text c) (records_text cs) x) ∙ (e ∙ append_assoc (record_text d) (records_text ds) y) in
    let r = same_record c d (records_text cs ++ x) (records_text ds ++ y) h.0 g.0 t in
    let g2 : AreNext (with_record c s) ds = subst (λ (z : Record). AreNext (with_record z s) ds) (sym r.0) g.2 in
    let q2 : Stops (restored (with_record c s) ds) y = subst (λ (z : Record). Stops (restored (with_record z s) ds) y) (sym r.0) q in
    let m = same_stop (with_record c s) cs ds x y h.2 g2 p q2 r.1 in
    (cc (r.0, m.0), m.1)

-- a text that comes to whole records and one that is cut off comes to nothing else
pub reads_one : (s : State) (text : List ℕ) (cs : List Record) (cut : List ℕ) → Begins s text cs cut
    → is_cut_off cut ≡ true → (reading : Reading) → IsReading s text reading → reading ≡ whole cs cut
reads_one s text cs cut b c (whole ds rest) h =
    let m = same_stop s ds cs rest cut h.0.next b.next (stops_cut (restored s ds) rest h.1) (stops_cut (restored s cs) cut c) (sym h.0.text_is ∙ b.text_is) in
    cc (m.0, m.1)
reads_one s text cs cut b c (bad_record n) h =
    let m = same_stop s h.0 cs h.1 cut h.2.next b.next (stops_bad (restored s h.0) h.1 h.3) (stops_cut (restored s cs) cut c) (sym h.2.text_is ∙ b.text_is) in
    absurd (not_bad h.1 (ap is_cut_off m.1 ∙ c) h.3)
reads_one s text cs cut b c (unknown_principal n) h =
    let rest = record_text h.1 ++ h.2.left in
    let m =
    same_stop s h.0 cs rest cut h.2.begins.next b.next (stops_unknown (restored s h.0) h.1 h.2.left h.2.fits h.3)
    (stops_cut (restored s cs) cut c) (sym h.2.begins.text_is ∙ b.text_is) in
    absurd (apart (is_cut_off rest) (ap is_cut_off m.1 ∙ c) (not_cut h.1 h.2.left h.2.fits))
reads_one s text cs cut b c (wrong_version n) h =
    let rest = record_text h.1 ++ h.2.left in
    let m =
    same_stop s h.0 cs rest cut h.2.begins.next b.next (stops_version (restored s h.0) h.1 h.2.left h.2.fits h.3)
    (stops_cut (restored s cs) cut c) (sym h.2.begins.text_is ∙ b.text_is) in
    absurd (apart (is_cut_off rest) (ap is_cut_off m.1 ∙ c) (not_cut h.1 h.2.left h.2.fits))
