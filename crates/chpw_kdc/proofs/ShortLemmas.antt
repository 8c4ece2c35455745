-- No request has more than 1,024 bytes.
use Rattle.std.proofs.Common.{◌≡◌, sym, subst, ℕ, ◌+◌, ◌≤◌, ◌<◌, nat_lt, nat_le, Bool, true, false, ◌&&◌, is_none, if◌then◌else◌}
use Rattle.std.proofs.Common.{List, [], ◌∷◌, ◌++◌, length, length-append, codes, Some, None, inl, inr, arith, lit<, lit≤}
use Rattle.std.proofs.lemmas.Bool.Decides.{nat_tests}
use Rattle.std.proofs.lemmas.Grind.{common_steps}
use Rattle.std.proofs.lemmas.Bool.{and_parts}
use Rattle.std.proofs.lemmas.Fmt.{length-decimal-le}
use Rattle.std.specs.List.{AllByRecursion, list_all}
use Rattle.std.specs.Fmt.{decimal}
use Rattle.hex.specs.Hex.{encode_lower, lower_digits}
use Rattle.hex.proofs.HexLemmas.{length-encode_with}
use Rattle.chpw_rules.specs.declared.name.Name.{Name}
use Rattle.chpw_record.specs.declared.key.KeyRow.{KeyRow}
use Rattle.chpw_kdc.specs.declared.put.Put.{Put}
use Rattle.chpw_kdc.specs.Lines.{Request, list_keys, get, put, is_sayable, is_filled, name_length, name_text, request_line}
use Rattle.chpw_kdc.specs.Mirrors.{Mirror}
use Rattle.chpw_kdc.specs.Paces.{may_ask}
use Rattle.chpw_kdc.specs.Dialogs.{State, at_start, request_by, first_request, put_in, get_in, or_else, is_list_due}
use Rattle.chpw_kdc.specs.Answering.{without_first, lacked_in, is_listed}
use Rattle.chpw_kdc.specs.Runs.{Event, holds, holds_none, fills, wants, loses_want, wants_comparison, connects, loses, asks, hears}
use Rattle.chpw_kdc.specs.Runs.{ticks, takes, decides, tells, behind, run, Tells, AsksFew, IsSayableKey, IsTakenIn, LinesAreShort}
use Rattle.chpw_kdc.proofs.MirrorLemmas.{AllKeys}
use Rattle.chpw_kdc.proofs.ToldLemmas.{AllPuts, Keeps, kept_behind, allowed}
use Rattle.chpw_kdc.proofs.GroundLemmas.{few_are_asked}

-- ---- how long names and lines are

text_length : (parts : List (List ℕ)) → 0 < length parts → length (name_text parts) + 1 ≡ name_length parts
text_length [] some = absurd (omega arith)
text_length (part ∷ []) some = omega (arith, length-encode_with lower_digits part)
text_length (part ∷ next ∷ parts) some =
    let rest = text_length (next ∷ parts) (omega arith) in
    omega (arith, length-encode_with lower_digits part, length-append (encode_lower part) (47 ∷ name_text (next ∷ parts)), rest)

name_short : (name : Name) → is_sayable name ≡ true → length (name_text name.parts) ≤ 900
name_short name h =
    let p = and_parts (nat_lt 0 (length name.parts) && list_all is_filled name.parts) (nat_le (name_length name.parts) 901) h in
    let q = and_parts (nat_lt 0 (length name.parts)) (list_all is_filled name.parts) p.0 in
    let some : 0 < length name.parts = grind (arith, nat_tests, common_steps, q.0) in
    let few : name_length name.parts ≤ 901 = grind (arith, nat_tests, common_steps, p.1) in
    omega (arith, text_length name.parts some)

get_short : (a : List ℕ) → length a ≤ 900 → length ((codes "get " ++ a) ++ codes "\n") ≤ 1024
get_short a h = simp length-append (omega arith)

put_short : (a b c d : List ℕ) → length a ≤ 900 → length b ≤ 10 → length c ≡ 64 → length d ≡ 32
    → length ((codes "put " ++ a ++ codes " " ++ b ++ codes " " ++ c ++ codes " " ++ d) ++ codes "\n") ≤ 1024
put_short a b c d h i j k = simp length-append (omega arith)

line_short : (name : Name) (key : KeyRow) → IsSayableKey name key → length (request_line (put name key)) ≤ 1024
line_short name key s =
    put_short (name_text name.parts) (decimal key.kvno) (encode_lower key.aes256) (encode_lower key.aes128) (name_short name s.0)
    (length-decimal-le 10 key.kvno (lit< tt) (omega arith) (omega arith))
    (omega (arith, length-encode_with lower_digits key.aes256, s.2)) (omega (arith, length-encode_with lower_digits key.aes128, s.3))

-- ---- what is kept

abbrev AllNames : List Name → Type 0
AllNames names = AllByRecursion (λ (n : Name). is_sayable n ≡ true) names

less_names : (names : List Name) → AllNames names → AllNames (without_first names)
less_names [] all = tt
less_names (n ∷ ns) all = all.1

lacked_if : (b : Bool) (name : Name) (names : List Name) → is_sayable name ≡ true → AllNames names → AllNames (if b then names else name ∷ names)
lacked_if true name names s all = all
lacked_if false name names s all = (s, all)

lacked_names : (listed : List Name) (es : Mirror) → AllKeys IsSayableKey es → AllNames (lacked_in listed es)
lacked_names listed [] all = tt
lacked_names listed (e ∷ es) all = lacked_if (is_listed listed e.0) e.0 (lacked_in listed es) all.0.0 (lacked_names listed es all.1)

few_names : (s t : State) → AllKeys IsSayableKey s.mirror → AllNames s.gets → AsksFew s t → AllNames t.gets
few_names s t keys names (inl same) = subst AllNames (sym same) names
few_names s t keys names (inr (inl less)) = subst AllNames (sym less) (less_names s.gets names)
few_names s t keys names (inr (inr (inl none))) = subst AllNames (sym none) tt
few_names s t keys names (inr (inr (inr lacked))) = subst AllNames (sym lacked.0) (lacked_names s.listed s.mirror keys)

told_of : (e : Event) → IsTakenIn e → (n : Name) (k : KeyRow) → Tells e n k → IsSayableKey n k
told_of (holds name key) taken n k t = subst (λ (m : Name). IsSayableKey m k) t.0 (subst (λ (l : KeyRow). IsSayableKey name l) t.1 taken)
told_of (wants now name key) taken n k t = subst (λ (m : Name). IsSayableKey m k) t.0 (subst (λ (l : KeyRow). IsSayableKey name l) t.1 taken)
told_of (holds_none name) taken n k t = absurd t
told_of (fills name) taken n k t = absurd t
told_of loses_want taken n k t = absurd t
told_of wants_comparison taken n k t = absurd t
told_of (connects now) taken n k t = absurd t
told_of (loses now) taken n k t = absurd t
told_of (asks now) taken n k t = absurd t
told_of (hears ours now byte) taken n k t = absurd t
told_of (ticks now) taken n k t = absurd t
told_of takes taken n k t = absurd t
told_of decides taken n k t = absurd t
told_of tells taken n k t = absurd t

record IsSaid (s : State) : Type 0 where
  keys : Keeps IsSayableKey s
  names : AllNames s.gets

said_on : (s : State) (es : List Event) → AllByRecursion IsTakenIn es → IsSaid s → IsSaid (run s es)
said_on s [] taken i = i
said_on s (e ∷ es) taken i = said_on (behind s e) es taken.1 (record {
  keys = kept_behind IsSayableKey s e (told_of e taken.0) i.keys;
  names = few_names s (behind s e) i.keys.mirror i.names (few_are_asked s e);
})

-- ---- what is asked

list_short : (b : Bool) (r : Request) → (if b then Some list_keys else None) ≡ Some r → length (request_line r) ≤ 1024
list_short true r h =
    let same : list_keys ≡ r = cc in
    subst (λ (q : Request). length (request_line q) ≤ 1024) same (lit≤ tt)
list_short false r h = absurd cc

gets_short : (names : List Name) (b : Bool) (r : Request) → AllNames names → or_else (get_in names) (if b then Some list_keys else None) ≡ Some r
    → length (request_line r) ≤ 1024
gets_short [] b r all h = list_short b r h
gets_short (n ∷ ns) b r all h =
    let same : get n ≡ r = cc in
    subst (λ (q : Request). length (request_line q) ≤ 1024) same (get_short (name_text n.parts) (name_short n all.0))

puts_short : (ps : List Put) (names : List Name) (b : Bool) (r : Request) → AllPuts IsSayableKey ps → AllNames names
    → or_else (put_in ps) (or_else (get_in names) (if b then Some list_keys else None)) ≡ Some r → length (request_line r) ≤ 1024
puts_short [] names b r puts all h = gets_short names b r all h
puts_short (p ∷ ps) names b r puts all h =
    let same : put p.name p.key ≡ r = cc in
    subst (λ (q : Request). length (request_line q) ≤ 1024) same
    (line_short p.name p.key puts.0)

pub lines_are_short : LinesAreShort
lines_are_short start events now r taken h =
    done (run (at_start start) events) (said_on (at_start start) events taken (record { keys = record { mirror = tt; puts = tt }; names = tt })) h
  where
    done : (s : State) → IsSaid s → request_by now s ≡ Some r → length (request_line r) ≤ 1024
    done s i g =
        puts_short s.puts s.gets (is_list_due s && nat_le s.pace.compare_at now) r i.keys.puts i.names
        (allowed (is_none s.asked && may_ask now s.pace) (first_request now s) r g)
