-- A whole list puts right each name in which table and KDC differ, once.
use Rattle.std.proofs.Common.{◌≡◌, ℕ, List, [], ◌∷◌, ◌++◌, map, length, Bool, true, false, not, ◌||◌, ◌==◌, Option, Some, None, is_some}
use Rattle.std.proofs.Common.{Result, Ok, Err, refl, sym, ◌∙◌, ap, subst, append_assoc, if◌then◌else◌}
use Rattle.std.specs.List.{list_any}
use Rattle.std.specs.BTreeMap.{is_at}
use Rattle.std.specs.BTreeSet.{insert_key}
use Rattle.std.specs.Ordering.{is_eq, match_ordering}
use Rattle.std.specs.declared.cmp.Ordering.{Ordering}
use Rattle.std.specs.declared.cmp.Ordering.TheVariants.{Less, Equal, Greater}
use Rattle.std.proofs.lemmas.List.{append-nil}
use Rattle.std.proofs.lemmas.List.Folds.{list_any-append}
use Rattle.chpw_rules.specs.declared.name.Name.{Name}
use Rattle.chpw_rules.specs.Names.{name_cmp}
use Rattle.chpw_kdc.specs.declared.fault.ProtocolFault.{ProtocolFault}
use Rattle.chpw_kdc.specs.declared.fault.ProtocolFault.TheVariants as fault
use Rattle.chpw_kdc.specs.declared.judging.Judgement.{Judgement}
use Rattle.chpw_kdc.specs.declared.judging.Judgement.TheVariants as judged
use Rattle.chpw_kdc.specs.declared.answer.Answer.TheVariants as answer
use Rattle.chpw_kdc.specs.declared.answer.Reason.{Reason}
use Rattle.chpw_kdc.specs.declared.put.Put.{Put}
use Rattle.chpw_kdc.specs.declared.put.UnderWay.{UnderWay}
use Rattle.chpw_kdc.specs.declared.put.UnderWay.TheVariants as asked
use Rattle.chpw_kdc.specs.declared.update.KdcUpdate.{KdcUpdate}
use Rattle.chpw_kdc.specs.Mirrors.{Mirror, key_of}
use Rattle.chpw_record.specs.declared.key.KeyRow.{KeyRow}
use Rattle.chpw_kdc.specs.declared.update.Notice.{Notice}
use Rattle.chpw_kdc.specs.declared.update.Notice.TheVariants.{TooManyGone}
use Rattle.chpw_kdc.specs.Tellings.{Tellings, after_missing, after_few, after_told, with_refusal, is_told}
use Rattle.chpw_kdc.specs.Paces.{pace_ended}
use Rattle.chpw_kdc.specs.Dialogs.{State}
use Rattle.chpw_kdc.specs.Answering.{after_answer, after_judgement, awaiting, each, and_then, is_listed, is_many, lacked_in, of_asked, of_list, refused}
use Rattle.chpw_kdc.specs.Answering.{succeeded, with_lacked, with_listed, brings, is_on_its_way}
use Rattle.chpw_kdc.specs.Lists.{Row, has, other, name_of, names_of, line_of, AreNew, judgement_of, put_by, adoption_by}
use Rattle.chpw_kdc.specs.Lists.{puts_for, adoptions_for, AskedAlone, ListsPutRight}
use Rattle.chpw_kdc.proofs.EffectLemmas.{from_test, internal}
use Rattle.chpw_kdc.proofs.HearingLemmas.{each-append}
use Rattle.chpw_kdc.proofs.MirrorLemmas.{at_exact}

-- ---- the names that were listed

either_again : (a b : Bool) → (a || b) ≡ (a || (a || b))
either_again true b = refl
either_again false b = refl

either_first : (a b c : Bool) → (a || (b || c)) ≡ (b || (a || c))
either_first true true c = refl
either_first true false c = refl
either_first false b c = refl

any_if : (test : Name → Bool) (name x : Name) (xs more : List Name) (r : Ordering) → (is_eq r ≡ true → name ≡ x)
    → list_any test more ≡ (test name || list_any test xs)
    → list_any test (match_ordering r (name ∷ x ∷ xs) (x ∷ xs) (x ∷ more)) ≡ (test name || list_any test (x ∷ xs))
any_if test name x xs more Less same more_is = refl
any_if test name x xs more Equal same more_is =
    subst (λ (n : Name). (test x || list_any test xs) ≡ (test n || (test x || list_any test xs))) (sym (same refl))
    (either_again (test x) (list_any test xs))
any_if test name x xs more Greater same more_is =
    ap (λ b. test x || b) more_is ∙ either_first (test x) (test name) (list_any test xs)

-- one more name is listed
any_inserted : (test : Name → Bool) (name : Name) (xs : List Name) → list_any test (insert_key name_cmp xs name) ≡ (test name || list_any test xs)
any_inserted test name [] = refl
any_inserted test name (x ∷ xs) =
    any_if test name x xs (insert_key name_cmp xs name) (name_cmp name x) (at_exact name x) (any_inserted test name xs)

either_swapped : (a b : Bool) → (a || b) ≡ (b || (a || false))
either_swapped true true = refl
either_swapped true false = refl
either_swapped false true = refl
either_swapped false false = refl

-- the same names were listed as stand in the list
abbrev AreListed : List Name → List Name → Type 0
AreListed listed names = (name : Name) → is_listed listed name ≡ is_listed names name

one_more : (listed names : List Name) (name : Name) → AreListed listed names → AreListed (insert_key name_cmp listed name) (names ++ name ∷ [])
one_more listed names name are n =
    any_inserted (is_at (name_cmp n)) name listed
    ∙ ap (λ b. is_at (name_cmp n) name || b) (are n)
    ∙ either_swapped (is_at (name_cmp n) name) (is_listed names n)
    ∙ sym (list_any-append (is_at (name_cmp n)) names (name ∷ []))

same_lacked : (listed names : List Name) (es : Mirror) → AreListed listed names → lacked_in listed es ≡ lacked_in names es
same_lacked listed names [] are = refl
same_lacked listed names (e ∷ es) are =
    ap (λ b. if b then lacked_in listed es else e.0 ∷ lacked_in listed es) (are e.0)
    ∙ ap (λ l. if is_listed names e.0 then l else e.0 ∷ l) (same_lacked listed names es are)

-- ---- a row

-- what a row does
record IsRow (ours : Name → Bool) (s : State) (row : Row) (t : State) : Type 0 where
  new : is_listed s.listed (name_of row) ≡ false
  listed : t.listed ≡ insert_key name_cmp s.listed (name_of row)
  mirror : t.mirror ≡ s.mirror
  puts : t.puts ≡ s.puts ++ put_by s.puts s.pace.began (name_of row) (judgement_of ours s.mirror row)
  updates : t.updates ≡ s.updates ++ adoption_by (name_of row) (judgement_of ours s.mirror row)
  gets : t.gets ≡ s.gets
  began : t.pace.began ≡ s.pace.began
  many : t.tellings.is_many_told ≡ s.tellings.is_many_told
  asked : t.asked ≡ s.asked

-- a put, unless this is so
abbrev with_unless : Bool → Put → State → State
with_unless b p s = if b then s else record s { puts = s.puts ++ p ∷ [] }

puts_unless : (b : Bool) (p : Put) (s : State) → (with_unless b p s).puts ≡ s.puts ++ (if b then [] else p ∷ [])
puts_unless true p s = sym (append-nil s.puts)
puts_unless false p s = refl

judged_puts : (name : Name) (j : Judgement) (s : State) → (after_judgement name j s).puts ≡ s.puts ++ put_by s.puts s.pace.began name j
judged_puts name judged.Leave s = sym (append-nil s.puts)
judged_puts name (judged.Adopt key) s = sym (append-nil s.puts)
judged_puts name (judged.Put key) s = puts_unless (is_on_its_way s.puts name key) (internal s.pace.began name key) s

updates_unless : (b : Bool) (p : Put) (s : State) → (with_unless b p s).updates ≡ s.updates ++ []
updates_unless true p s = sym (append-nil s.updates)
updates_unless false p s = sym (append-nil s.updates)

judged_updates : (name : Name) (j : Judgement) (s : State) → (after_judgement name j s).updates ≡ s.updates ++ adoption_by name j
judged_updates name judged.Leave s = sym (append-nil s.updates)
judged_updates name (judged.Adopt key) s = refl
judged_updates name (judged.Put key) s = updates_unless (is_on_its_way s.puts name key) (internal s.pace.began name key) s

-- no more than that
record IsBeside (s t : State) : Type 0 where
  listed : t.listed ≡ s.listed
  mirror : t.mirror ≡ s.mirror
  gets : t.gets ≡ s.gets
  began : t.pace.began ≡ s.pace.began
  many : t.tellings.is_many_told ≡ s.tellings.is_many_told
  asked : t.asked ≡ s.asked

beside_unless : (b : Bool) (p : Put) (s : State) → IsBeside s (with_unless b p s)
beside_unless true p s = record { listed = refl; mirror = refl; gets = refl; began = refl; many = refl; asked = refl }
beside_unless false p s = record { listed = refl; mirror = refl; gets = refl; began = refl; many = refl; asked = refl }

judged_beside : (name : Name) (j : Judgement) (s : State) → IsBeside s (after_judgement name j s)
judged_beside name judged.Leave s = record { listed = refl; mirror = refl; gets = refl; began = refl; many = refl; asked = refl }
judged_beside name (judged.Adopt key) s = record { listed = refl; mirror = refl; gets = refl; began = refl; many = refl; asked = refl }
judged_beside name (judged.Put key) s = beside_unless (is_on_its_way s.puts name key) (internal s.pace.began name key) s

refused_many : (b : Bool) (name : Name) (why : Reason) (t : Tellings)
    → (with_refusal name why (if b then t else after_told name why t)).is_many_told ≡ t.is_many_told
refused_many true name why t = refl
refused_many false name why t = refl

left_row : (ours : Name → Bool) (b : Bool) (name : Name) (why : Reason) (s : State) → is_listed s.listed name ≡ false
    → IsRow ours s (other name why) (if b then refused name why (with_listed name s) else with_listed name s)
left_row ours true name why s new = record {
  new = new;
  listed = refl;
  mirror = refl;
  puts = sym (append-nil s.puts);
  updates = sym (append-nil s.updates);
  gets = refl;
  began = refl;
  many = refused_many (is_told s.tellings name why) name why s.tellings;
  asked = refl;
}
left_row ours false name why s new = record {
  new = new;
  listed = refl;
  mirror = refl;
  puts = sym (append-nil s.puts);
  updates = sym (append-nil s.updates);
  gets = refl;
  began = refl;
  many = refl;
  asked = refl;
}

row_of_list : (ours : Name → Bool) (now : ℕ) (s t : State) (row : Row) → of_list ours now s (line_of row) ≡ Ok t → IsRow ours s row t
row_of_list ours now s t (has name kvno keys) h =
    let j : Judgement = judgement_of ours s.mirror (has name kvno keys) in
    let u : State = with_listed name s in
    let d = from_test (is_listed s.listed name) fault.NamedTwice (after_judgement name j u) t h in
    let b = judged_beside name j u in
    subst (λ (x : State). IsRow ours s (has name kvno keys) x) d.1 (record {
      new = d.0;
      listed = b.listed;
      mirror = b.mirror;
      puts = judged_puts name j u;
      updates = judged_updates name j u;
      gets = b.gets;
      began = b.began;
      many = b.many;
      asked = b.asked;
    })
row_of_list ours now s t (other name why) h =
    let u : State = with_listed name s in
    let b : Bool = is_some (key_of s.mirror name) in
    let d = from_test (is_listed s.listed name) fault.NamedTwice (if b then refused name why u else u) t h in
    subst (λ (x : State). IsRow ours s (other name why) x) d.1 (left_row ours b name why s d.0)

row_answered : (ours : Name → Bool) (now : ℕ) (s : State) (row : Row) → s.asked ≡ Some asked.List
    → after_answer ours now s (line_of row) ≡ of_list ours now (awaiting now s) (line_of row)
row_answered ours now s (has name kvno keys) list =
    ap (λ (o : Option UnderWay). of_asked ours now o (awaiting now s) (line_of (has name kvno keys))) list
row_answered ours now s (other name why) list =
    ap (λ (o : Option UnderWay). of_asked ours now o (awaiting now s) (line_of (other name why))) list

-- ---- what is on its way

-- the same keys are on their way by changes
abbrev SameWay : List Put → List Put → Type 0
SameWay ps qs = (name : Name) (key : KeyRow) → is_on_its_way ps name key ≡ is_on_its_way qs name key

or_false : (b : Bool) → (b || false) ≡ b
or_false true = refl
or_false false = refl

-- what a list puts is of no change
same_with_put : (b : Bool) (ps : List Put) (since : ℕ) (name : Name) (key : KeyRow)
    → SameWay (ps ++ (if b then [] else internal since name key ∷ [])) ps
same_with_put true ps since name key n k = ap (λ (qs : List Put). is_on_its_way qs n k) (append-nil ps)
same_with_put false ps since name key n k =
    list_any-append (brings n k) ps (internal since name key ∷ []) ∙ or_false (list_any (brings n k) ps)

same_with : (ps : List Put) (since : ℕ) (name : Name) (j : Judgement) → SameWay (ps ++ put_by ps since name j) ps
same_with ps since name judged.Leave n k = ap (λ (qs : List Put). is_on_its_way qs n k) (append-nil ps)
same_with ps since name (judged.Adopt key) n k = ap (λ (qs : List Put). is_on_its_way qs n k) (append-nil ps)
same_with ps since name (judged.Put key) n k = same_with_put (is_on_its_way ps name key) ps since name key n k

same_put_by : (ps qs : List Put) (since : ℕ) (name : Name) (j : Judgement) → SameWay ps qs → put_by ps since name j ≡ put_by qs since name j
same_put_by ps qs since name judged.Leave same = refl
same_put_by ps qs since name (judged.Adopt key) same = refl
same_put_by ps qs since name (judged.Put key) same =
    ap (λ (b : Bool). if b then [] else internal since name key ∷ []) (same name key)

same_puts_for : (ours : Name → Bool) (ps qs : List Put) (since : ℕ) (mirror : Mirror) (rows : List Row) → SameWay ps qs
    → puts_for ours ps since mirror rows ≡ puts_for ours qs since mirror rows
same_puts_for ours ps qs since mirror [] same = refl
same_puts_for ours ps qs since mirror (row ∷ rows) same =
    ap (λ (l : List Put). l ++ puts_for ours ps since mirror rows)
    (same_put_by ps qs since (name_of row) (judgement_of ours mirror row) same)
    ∙ ap (λ (l : List Put). put_by qs since (name_of row) (judgement_of ours mirror row) ++ l)
    (same_puts_for ours ps qs since mirror rows same)

-- ---- rows, one after the other

record AreRows (ours : Name → Bool) (before : List Name) (s : State) (rows : List Row) (t : State) : Type 0 where
  once : AreNew before rows
  listed : AreListed t.listed (before ++ names_of rows)
  mirror : t.mirror ≡ s.mirror
  puts : t.puts ≡ s.puts ++ puts_for ours s.puts s.pace.began s.mirror rows
  updates : t.updates ≡ s.updates ++ adoptions_for ours s.mirror rows
  gets : t.gets ≡ s.gets
  many : t.tellings.is_many_told ≡ s.tellings.is_many_told
  asked : t.asked ≡ s.asked

parted : (r : Result State ProtocolFault) (f : State → Result State ProtocolFault) (t : State)
    → and_then r f ≡ Ok t → (u : State) × (r ≡ Ok u) × (f u ≡ Ok t)
parted (Ok u) f t h = (u, refl, h)
parted (Err why) f t h = absurd cc

rows_heard : (ours : Name → Bool) (now : ℕ) (rows : List Row) (before : List Name) (s t : State) → s.asked ≡ Some asked.List
    → AreListed s.listed before → each (after_answer ours now) s (map line_of rows) ≡ Ok t → AreRows ours before s rows t
rows_heard ours now [] before s t list are h =
    subst (λ (x : State). AreRows ours before s [] x) ((from_test false fault.NamedTwice s t h).1) (record {
      once = tt;
      listed = subst (λ (ns : List Name). AreListed s.listed ns) (sym (append-nil before)) are;
      mirror = refl;
      puts = sym (append-nil s.puts);
      updates = sym (append-nil s.updates);
      gets = refl;
      many = refl;
      asked = refl;
    })
rows_heard ours now (row ∷ rows) before s t list are h =
    let f = parted (after_answer ours now s (line_of row)) (λ u. each (after_answer ours now) u (map line_of rows)) t h in
    let u : State = f.0 in
    let one = row_of_list ours now (awaiting now s) u row (sym (row_answered ours now s row list) ∙ f.1) in
    let own = put_by s.puts s.pace.began (name_of row) (judgement_of ours s.mirror row) in
    let more = rows_heard ours now rows (before ++ name_of row ∷ []) u t (one.asked ∙ list)
    (subst (λ (ns : List Name). AreListed ns (before ++ name_of row ∷ [])) (sym one.listed) (one_more s.listed before (name_of row) are)) f.2 in
    record {
      once = (sym (are (name_of row)) ∙ one.new, more.once);
      listed = subst (λ (ns : List Name). AreListed t.listed ns) (append_assoc before (name_of row ∷ []) (names_of rows)) more.listed;
      mirror = more.mirror ∙ one.mirror;
      puts =
          more.puts
          ∙ ap (λ (ps : List Put). ps ++ puts_for ours ps u.pace.began u.mirror rows) one.puts
          ∙ ap (λ (l : List Put). (s.puts ++ own) ++ l)
          (same_puts_for ours (s.puts ++ own) s.puts u.pace.began u.mirror rows
          (same_with s.puts s.pace.began (name_of row) (judgement_of ours s.mirror row)))
          ∙ ap (λ (n : ℕ). (s.puts ++ own) ++ puts_for ours s.puts n u.mirror rows) one.began
          ∙ ap (λ (m : Mirror). (s.puts ++ own) ++ puts_for ours s.puts s.pace.began m rows) one.mirror
          ∙ append_assoc s.puts own (puts_for ours s.puts s.pace.began s.mirror rows);
      updates =
          more.updates
          ∙ ap (λ (us : List KdcUpdate). us ++ adoptions_for ours u.mirror rows) one.updates
          ∙ ap (λ (m : Mirror). (s.updates ++ adoption_by (name_of row) (judgement_of ours s.mirror row)) ++ adoptions_for ours m rows) one.mirror
          ∙ append_assoc s.updates (adoption_by (name_of row) (judgement_of ours s.mirror row)) (adoptions_for ours s.mirror rows);
      gets = more.gets ∙ one.gets;
      many = more.many ∙ one.many;
      asked = more.asked ∙ one.asked;
    }

-- ---- the end

record IsEnded (many : Bool) (names : List Name) (s t : State) : Type 0 where
  mirror : t.mirror ≡ s.mirror
  puts : t.puts ≡ s.puts
  updates : t.updates ≡ s.updates
  lacked : AskedAlone many names s t
  over : t.asked ≡ None

abbrev ended : ℕ → State → State
ended now s = succeeded (record s { listed = []; pace = pace_ended now s.pace })

many_told : (b : Bool) (gone of : ℕ) (t : Tellings) → t.is_many_told ≡ b
    → (if b then t else record t { notices = t.notices ++ TooManyGone gone of ∷ []; is_many_told = true }).is_many_told ≡ true
many_told true gone of t is = is
many_told false gone of t is = refl

many_first : (b : Bool) (gone of : ℕ) (t : Tellings) → b ≡ false
    → (before : List Notice) × ((if b then t else record t { notices = t.notices ++ TooManyGone gone of ∷ []; is_many_told = true }).notices
    ≡ before ++ TooManyGone gone of ∷ [])
many_first true gone of t is = absurd cc
many_first false gone of t is = (t.notices, refl)

ended_if : (many : Bool) (names : List Name) (now : ℕ) (s : State)
    → IsEnded many names s
    (ended now (if many then record s { tellings = after_missing (length names) (length s.mirror) s.tellings }
    else record s { gets = names; tellings = after_few s.tellings }))
ended_if true names now s = record {
  mirror = refl;
  puts = refl;
  updates = refl;
  lacked = (
    refl,
    (
      many_told s.tellings.is_many_told (length names) (length s.mirror) s.tellings refl,
      many_first s.tellings.is_many_told (length names) (length s.mirror) s.tellings,
    ),
  );
  over = refl;
}
ended_if false names now s = record { mirror = refl; puts = refl; updates = refl; lacked = refl; over = refl }

end_of_list : (ours : Name → Bool) (now count : ℕ) (s t : State) → of_list ours now s (answer.End count) ≡ Ok t
    → let names = lacked_in s.listed s.mirror in IsEnded (is_many (length names) (length s.mirror)) names s t
end_of_list ours now count s t h =
    let names = lacked_in s.listed s.mirror in
    let d = from_test (not (length s.listed == count)) fault.WrongCount (ended now (with_lacked names s)) t h in
    subst (λ (x : State). IsEnded (is_many (length names) (length s.mirror)) names s x) d.1
    (ended_if (is_many (length names) (length s.mirror)) names now s)

alone_over : (many : Bool) (names : List Name) (s u t : State) → u.mirror ≡ s.mirror → u.gets ≡ s.gets
    → u.tellings.is_many_told ≡ s.tellings.is_many_told → AskedAlone many names u t → AskedAlone many names s t
alone_over false names s u t mirror gets told h = h
alone_over true names s u t mirror gets told h = (
  h.0 ∙ gets,
  (
    h.1.0,
    λ first. subst (λ (n : ℕ). (before : List Notice) × (t.tellings.notices ≡ before ++ TooManyGone (length names) n ∷ [])) (ap length mirror)
        (h.1.1 (told ∙ first)),
  ),
)

pub lists_put_right : ListsPutRight
lists_put_right ours now s t rows count list none h =
    let step = after_answer ours now in
    let both = parted (each step s (map line_of rows)) (λ u. each step u (answer.End count ∷ [])) t
    (sym (each-append step s (map line_of rows) (answer.End count ∷ [])) ∙ h) in
    let u : State = both.0 in
    let all = rows_heard ours now rows [] s u list (λ n. ap (λ (l : List Name). is_listed l n) none) both.1 in
    let v : State = awaiting now u in
    let last = parted (step u (answer.End count)) (λ v. Ok v) t both.2 in
    let list_still : u.asked ≡ Some asked.List = all.asked ∙ list in
    let said = sym (ap (λ (o : Option UnderWay). of_asked ours now o v (answer.End count)) list_still) ∙ last.1 ∙ last.2 in
    let end = end_of_list ours now count v t said in
    let names = names_of rows in
    let by_names : AskedAlone (is_many (length (lacked_in names u.mirror)) (length u.mirror)) (lacked_in names u.mirror) v t =
    subst (λ (l : List Name). AskedAlone (is_many (length l) (length u.mirror)) l v t) (same_lacked u.listed names u.mirror all.listed) end.lacked in
    record {
      once = all.once;
      mirror = end.mirror ∙ all.mirror;
      puts = end.puts ∙ all.puts;
      updates = end.updates ∙ all.updates;
      lacked = subst (λ (m : Mirror). AskedAlone (is_many (length (lacked_in names m)) (length m)) (lacked_in names m) s t) all.mirror
          (alone_over (is_many (length (lacked_in names u.mirror)) (length u.mirror)) (lacked_in names u.mirror) s v t all.mirror all.gets all.many by_names);
      over = end.over;
    }
