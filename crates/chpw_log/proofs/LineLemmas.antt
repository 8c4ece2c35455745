-- Fields, and the line that they make.
use Rattle.std.proofs.Common.{◌≡◌, ◌∙◌, ℕ, ◌<◌, true, List, [], ◌∷◌, ◌++◌, length, length-append, append_assoc}
use Rattle.std.proofs.Common.{codes, ap, map, cond, Result, Ok, Err, is_ok, OnOk, ◌^◌, refl, arith}
use Rattle.std.specs.List.{join_with_byte}
use Rattle.std.specs.Fmt.{decimal}
use Rattle.std.proofs.lemmas.Bool.{and_from, and_parts}
use Rattle.std.proofs.lemmas.List.Folds.{list_all-append}
use Rattle.chpw_rules.specs.Limits.{range, is_in}
use Rattle.chpw_log.specs.declared.kind.HeldKind.{HeldKind}
use Rattle.chpw_log.specs.declared.kind.HeldKind.TheVariants.{Unopened, Skewed, Replayed}
use Rattle.chpw_log.specs.Summaries.{kind_words}
use Rattle.chpw_printing.specs.Quoting.{are_graphic, are_printed, is_field}
use Rattle.chpw_printing.proofs.QuotingLemmas.{decimal_graphic, field_of, graphic_printed}
use Rattle.chpw_log.specs.Lines.{IsRecord, Outcome, dotted, are_fields, outcome_fields}

pub address_field : (address : List ℕ) → length address ≡ 4 → are_graphic (dotted address) ≡ true → is_field (dotted address) ≡ true
address_field [] h g = absurd (cc)
address_field (a ∷ []) h g = absurd (cc)
address_field (a ∷ b ∷ rest) h g =
    let some : 0 < length (decimal a ++ 46 ∷ join_with_byte 46 (map decimal (b ∷ rest))) =
    omega (arith, length-append (decimal a) (46 ∷ join_with_byte 46 (map decimal (b ∷ rest)))) in
    field_of (dotted (a ∷ b ∷ rest)) some g

-- fields make a printed text
pub fields_printed : (fields : List (List ℕ)) → are_fields fields ≡ true → are_printed (join_with_byte 32 fields) ≡ true
fields_printed [] h = refl
fields_printed (text ∷ []) h = h
fields_printed (field ∷ next ∷ more) h =
    let parts = and_parts (is_field field) (are_fields (next ∷ more)) h in
    let front = graphic_printed field (and_parts _ _ parts.0).1 in
    list_all-append (is_in (range 0x20 0x7e)) field (32 ∷ join_with_byte 32 (next ∷ more))
    ∙ and_from _ _ front (fields_printed (next ∷ more) parts.1)

-- a line of them is a record
pub fields_record : (fields : List (List ℕ)) → are_fields fields ≡ true → IsRecord (join_with_byte 32 fields ++ 10 ∷ [])
fields_record fields h = (join_with_byte 32 fields, refl, fields_printed fields h)

-- ---- fields that are put one after the other

pub told_joined : (old a b c d e f : List ℕ)
    → old ++ codes " client " ++ a ++ codes " target " ++ b ++ codes " code " ++ c ++ codes " error " ++ d
    ++ codes " kvno " ++ e ++ codes " text " ++ f
    ≡ old ++ 32 ∷ join_with_byte 32 (codes "client" ∷ a ∷ codes "target" ∷ b ∷ codes "code" ∷ c ∷ codes "error" ∷ d
    ∷ codes "kvno" ∷ e ∷ codes "text" ∷ f ∷ [])
told_joined old a b c d e f = simp append_assoc refl

pub front_joined : (a b c : List ℕ) (o : Outcome)
    → [] ++ a ++ codes " worker " ++ b ++ codes " peer " ++ c ++ 32 ∷ join_with_byte 32 (outcome_fields o)
    ≡ join_with_byte 32 (a ∷ codes "worker" ∷ b ∷ codes "peer" ∷ c ∷ outcome_fields o)
front_joined a b c o = simp append_assoc refl

-- ---- the line of what was held back

pub held_joined : (a words : List ℕ)
    → [] ++ a ++ codes " worker - peer - client - target - code - error - kvno - text " ++ words
    ≡ join_with_byte 32 (a ∷ codes "worker" ∷ codes "-" ∷ codes "peer" ∷ codes "-" ∷ codes "client" ∷ codes "-"
    ∷ codes "target" ∷ codes "-" ∷ codes "code" ∷ codes "-" ∷ codes "error" ∷ codes "-" ∷ codes "kvno" ∷ codes "-"
    ∷ codes "text" ∷ words ∷ [])
held_joined a words = simp append_assoc refl

-- ---- the line of a change that isn't confirmed

pub unconfirmed_joined : (a b words : List ℕ)
    → [] ++ a ++ codes " worker - peer " ++ b ++ codes " client - target - code - error - kvno - text " ++ words
    ≡ join_with_byte 32 (a ∷ codes "worker" ∷ codes "-" ∷ codes "peer" ∷ b ∷ codes "client" ∷ codes "-"
    ∷ codes "target" ∷ codes "-" ∷ codes "code" ∷ codes "-" ∷ codes "error" ∷ codes "-" ∷ codes "kvno" ∷ codes "-"
    ∷ codes "text" ∷ words ∷ [])
unconfirmed_joined a b words = simp append_assoc refl

pub mark_joined : (old a : List ℕ)
    → old ++ codes "not confirmed by the KDC: change " ++ a
    ≡ old ++ (codes "not confirmed by the KDC: change " ++ a)
mark_joined old a = simp append_assoc refl

-- ---- the words of what was held back

pub words_joined : (old a kind b c : List ℕ)
    → old ++ a ++ kind ++ b ++ codes " from 127.0.0.0/8 or ::1, " ++ c ++ codes " from elsewhere"
    ≡ old ++ (a ++ kind ++ b ++ codes " from 127.0.0.0/8 or ::1, " ++ c ++ codes " from elsewhere")
words_joined old a kind b c = simp append_assoc refl

pub both_printed : (front back : List ℕ) → are_printed front ≡ true → are_printed back ≡ true → are_printed (front ++ back) ≡ true
both_printed front back h k =
    list_all-append (is_in (range 0x20 0x7e)) front back ∙ and_from _ _ h k

pub kind_printed : (kind : HeldKind) → are_printed (kind_words kind) ≡ true
kind_printed Unopened = refl
kind_printed Skewed = refl
kind_printed Replayed = refl

pub words_printed : (a one b c : List ℕ) → are_printed a ≡ true → are_printed one ≡ true → are_printed b ≡ true → are_printed c ≡ true
    → are_printed (a ++ one ++ b ++ codes " from 127.0.0.0/8 or ::1, " ++ c ++ codes " from elsewhere") ≡ true
words_printed a one b c h o k l =
    let two = codes " from 127.0.0.0/8 or ::1, " in
    let three = codes " from elsewhere" in
    let p : are_printed (a ++ one) ≡ true = both_printed a one h o in
    let q : are_printed (a ++ one ++ b) ≡ true = both_printed (a ++ one) b p k in
    let r : are_printed (a ++ one ++ b ++ two) ≡ true = both_printed (a ++ one ++ b) two q refl in
    let s : are_printed (a ++ one ++ b ++ two ++ c) ≡ true = both_printed (a ++ one ++ b ++ two) c r l in
    both_printed (a ++ one ++ b ++ two ++ c) three s refl

-- ---- the service's own events

pub one_joined : (old words a : List ℕ) → old ++ words ++ a ≡ old ++ (words ++ a)
one_joined old words a = append_assoc old words a

pub both_joined : (old words a further b : List ℕ) → old ++ (words ++ a) ++ (further ++ b) ≡ old ++ (words ++ a ++ further ++ b)
both_joined old words a further b = simp append_assoc refl

pub start_joined : (old both quiet : List ℕ) → old ++ both ++ codes " quiet-until " ++ quiet ≡ old ++ (both ++ codes " quiet-until " ++ quiet)
start_joined old both quiet = simp append_assoc refl

pub both_printed_too : (words a further b : List ℕ) → are_printed (words ++ a) ≡ true → are_printed (further ++ b) ≡ true
    → are_printed (words ++ a ++ further ++ b) ≡ true
both_printed_too words a further b h k =
    ap are_printed (append_assoc (words ++ a) further b) ∙ both_printed (words ++ a) (further ++ b) h k

pub event_record : (moment words : List ℕ) → are_printed moment ≡ true → are_printed words ≡ true
    → IsRecord (moment ++ codes " service " ++ words ++ codes "\n")
event_record moment words h k = (
  moment ++ codes " service " ++ words,
  refl,
  both_printed (moment ++ codes " service ") words (both_printed moment (codes " service ") h refl) k,
)

-- what was put, where it could be
pub put_so : {E : Type 0} (result : Result Unit E) (new old words : List ℕ) → new ≡ cond (is_ok result) (old ++ words) old → OnOk result (new ≡ old ++ words)
put_so (Ok done) new old words h = h
put_so (Err fault) new old words h = tt

pub always : {E : Type 0} {P : Type 0} (result : Result Unit E) → P → OnOk result P
always (Ok done) p = p
always (Err fault) p = tt

pub with_quiet : {E : Type 0} (result : Result Unit E) (both quiet : List ℕ) → are_printed both ≡ true → OnOk result (are_printed quiet ≡ true)
    → OnOk result (are_printed (both ++ codes " quiet-until " ++ quiet) ≡ true)
with_quiet (Ok done) both quiet h k = both_printed (both ++ codes " quiet-until ") quiet (both_printed both (codes " quiet-until ") h refl) k
with_quiet (Err fault) both quiet h k = tt

pub number_printed : (words : List ℕ) (number : ℕ) → number < 2 ^ 64 → are_printed words ≡ true → are_printed (words ++ decimal number) ≡ true
number_printed words number small h = both_printed words (decimal number) h (graphic_printed (decimal number) (decimal_graphic number small))

-- ---- updates from the KDC

pub named_printed : {E : Type 0} (result : Result Unit E) (word name : List ℕ) → OnOk result (are_graphic name ≡ true)
    → OnOk result (are_printed word ≡ true → are_printed (word ++ name) ≡ true)
named_printed (Ok done) word name g = λ h. both_printed word name h (graphic_printed name g)
named_printed (Err fault) word name g = tt

pub version_joined : (old named a : List ℕ) → old ++ named ++ codes " kvno " ++ a ≡ old ++ (named ++ codes " kvno " ++ a)
version_joined old named a = simp append_assoc refl

pub refusal_joined : (old refused words : List ℕ) → old ++ refused ++ codes " text " ++ words ≡ old ++ (refused ++ codes " text " ++ words)
refusal_joined old refused words = simp append_assoc refl

pub refusal_printed : {E : Type 0} (result : Result Unit E) (refused words : List ℕ) → are_printed refused ≡ true → OnOk result (are_printed words ≡ true)
    → OnOk result (are_printed (refused ++ codes " text " ++ words) ≡ true)
refusal_printed (Ok done) refused words h k =
    both_printed (refused ++ codes " text ") words (both_printed refused (codes " text ") h refl) k
refusal_printed (Err fault) refused words h k = tt
