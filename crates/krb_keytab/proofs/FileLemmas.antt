-- Records that were written are read again, and a file that ends within one is cut off.
use Rattle.std.proofs.Common.{◌≡◌, ℕ, zero, suc, ◌-◌, ◌+◌, ◌^◌, ◌≤◌, ◌<◌, Bool, true, false}
use Rattle.std.proofs.Common.{List, [], ◌∷◌, ◌++◌, length, take, drop, Some, None, Result}
use Rattle.std.proofs.Common.{Ok, Err, refl, sym, ap, ◌∙◌, append_assoc, arith, inl, inr}
use Rattle.std.specs.Prelude.{nat_lt, ◌==◌}
use Rattle.std.specs.Int.{from_be_bytes, to_be_bytes, w16, w32}
use Rattle.std.proofs.lemmas.Bool.{cases_lt, le-ltb, lt-ltb, ne_eqb}
use Rattle.std.proofs.lemmas.List.{take_at, drop_at, take-append-le, length-append, length-drop, append-nil}
use Rattle.std.proofs.lemmas.List.Concat.{flat_map-cons}
use Rattle.std.proofs.lemmas.Nat.{from_be_bytes-to_be_bytes_4}
use Rattle.krb_keytab.specs.declared.fault.KeytabFault.{KeytabFault}
use Rattle.krb_keytab.specs.declared.fault.KeytabFault.TheVariants.{CutOff}
use Rattle.krb_keytab.specs.Entries.{Entry, entry_at}
use Rattle.krb_keytab.specs.Keytabs.{◌>>=◌, length_at, is_positive, size_of, record_at, from_place, keytab}
use Rattle.krb_keytab.specs.Written.{KeytabRecord, an_entry, a_hole, content, stated, record_bytes}
use Rattle.krb_keytab.specs.Written.{records_bytes, file_bytes, entries_of, fields, StandsAt, StandFrom}
use Rattle.krb_keytab.specs.Laws.{WholeIsRead, EndedIsRead, CutIsTold}
use Rattle.krb_keytab.proofs.RecordLemmas.{at_end}
use Rattle.krb_keytab.proofs.WrittenLemmas.{entry_again}

is_entry : KeytabRecord → Bool
is_entry (an_entry e short after_key) = true
is_entry (a_hole bytes) = false

-- what the number of a record's length says
record IsStated (r : KeytabRecord) : Type 0 where
  small : stated r < 2 ^ 32
  some : 0 < stated r
  other : stated r ≡ 2 ^ 31 → ⊥
  size : size_of (stated r) ≡ length (content r)
  sign : is_positive (stated r) ≡ is_entry r

stated_of : (place : ℕ) (r : KeytabRecord) → StandsAt place r → IsStated r
unfolding is_entry
stated_of place (an_entry e short after_key) h =
    let fits = h.1 in
    let below : length (fields e short after_key) < 2 ^ 31 = fits.size in
    let is : is_positive (length (fields e short after_key)) ≡ true = lt-ltb _ _ below in
    let some : 0 < length (fields e short after_key) = omega arith in
    record { small = omega arith; some = some; other = λ q. omega arith; size = rw is refl; sign = is }
stated_of place (a_hole bytes) h =
    let some : 0 < length bytes = h.0 in
    let below : length bytes < 2 ^ 31 = h.1 in
    let is : is_positive (2 ^ 32 - length bytes) ≡ false = le-ltb _ _ (omega arith) in
    record { small = omega arith; some = omega arith; other = λ q. omega arith; size = rw is (omega arith); sign = is }

-- a record whose length and bytes are there
there : (place : ℕ) (bytes rest : List ℕ) (r : KeytabRecord) → IsStated r → 4 ≤ length bytes → length_at bytes ≡ stated r → drop 4 bytes ≡ content r ++ rest
    → record_at place bytes ≡ Ok (Some (record { is_entry = is_entry r; bytes = content r; rest = rest }))
unfolding record_at
there place bytes rest r is four number behind =
    let a : (length bytes == 0) ≡ false = ne_eqb _ _ (λ q. omega arith) in
    let b : nat_lt (length bytes) 4 ≡ false = le-ltb _ _ four in
    let c : (stated r == 0) ≡ false = ne_eqb _ _ (λ q. let s = is.some in omega arith) in
    let d : (stated r == 2 ^ 31) ≡ false = ne_eqb _ _ is.other in
    let e : nat_lt (length (content r ++ rest)) (length (content r)) ≡ false = le-ltb _ _ (omega (arith, length-append (content r) rest)) in
    rw (
      a,
      b,
      number,
      c,
      d,
      behind,
      is.size,
      e,
      is.sign,
      take_at (content r) rest (length (content r)) refl,
      drop_at (content r) rest (length (content r)) refl,
    ) refl

-- one that ends after the bytes
short_of : (place : ℕ) (bytes : List ℕ) (r : KeytabRecord) → IsStated r → 4 ≤ length bytes → length_at bytes ≡ stated r → length bytes < 4 + length (content r)
    → record_at place bytes ≡ Err (CutOff place)
unfolding record_at
short_of place bytes r is four number short =
    let a : (length bytes == 0) ≡ false = ne_eqb _ _ (λ q. omega arith) in
    let b : nat_lt (length bytes) 4 ≡ false = le-ltb _ _ four in
    let c : (stated r == 0) ≡ false = ne_eqb _ _ (λ q. let s = is.some in omega arith) in
    let d : (stated r == 2 ^ 31) ≡ false = ne_eqb _ _ is.other in
    let e : nat_lt (length (drop 4 bytes)) (length (content r)) ≡ true = lt-ltb _ _ (omega (arith, length-drop 4 bytes)) in
    rw (a, b, number, c, d, is.size, e) refl

within_length : (place : ℕ) (bytes : List ℕ) → 0 < length bytes → length bytes < 4 → record_at place bytes ≡ Err (CutOff place)
unfolding record_at
within_length place bytes some few =
    let a : (length bytes == 0) ≡ false = ne_eqb _ _ (λ q. omega arith) in
    let b : nat_lt (length bytes) 4 ≡ true = lt-ltb _ _ few in
    rw (a, b) refl

zero_at : (place : ℕ) (bytes : List ℕ) → 4 ≤ length bytes → length_at bytes ≡ 0 → record_at place bytes ≡ Ok None
unfolding record_at
zero_at place bytes four number =
    let a : (length bytes == 0) ≡ false = ne_eqb _ _ (λ q. omega arith) in
    let b : nat_lt (length bytes) 4 ≡ false = le-ltb _ _ four in
    rw (a, b, number) refl

-- a record that was written, with others after it
stands : (place : ℕ) (r : KeytabRecord) (rest : List ℕ) → StandsAt place r → record_at place (record_bytes r ++ rest)
    ≡ Ok (Some (record { is_entry = is_entry r; bytes = content r; rest = rest }))
stands place r rest h =
    let is = stated_of place r h in
    there place (record_bytes r ++ rest) rest r is (omega arith) (from_be_bytes-to_be_bytes_4 (stated r) is.small) refl

record_length : (place : ℕ) (r : KeytabRecord) → place + (4 + length (content r)) ≡ place + length (record_bytes r)
record_length place r = omega arith

past_entry : (place b : ℕ) (bytes rest : List ℕ) (e : Entry) (short : ℕ) (after_key : List ℕ) → StandsAt place (an_entry e short after_key)
    → record_at place bytes ≡ Ok (Some (record { is_entry = true; bytes = fields e short after_key; rest = rest }))
    → from_place (suc b) place bytes ≡ (from_place b (place + length (record_bytes (an_entry e short after_key))) rest >>= λ es. Ok (e ∷ es))
past_entry place b bytes rest e short after_key h next =
    let one : entry_at place (fields e short after_key) ≡ Some e =
    ap (λ (p : ℕ). entry_at p (fields e short after_key)) (sym h.0) ∙ entry_again e short after_key h.1 in
    let step : from_place (suc b) place bytes
    ≡ (from_place b (place + (4 + length (fields e short after_key))) rest >>= λ es. Ok (e ∷ es)) =
    rw (next, one) refl in
    step ∙ ap (λ (p : ℕ). from_place b p rest >>= λ es. Ok (e ∷ es)) (record_length place (an_entry e short after_key))

past_hole : (place b : ℕ) (bytes rest hole : List ℕ) → record_at place bytes ≡ Ok (Some (record { is_entry = false; bytes = hole; rest = rest }))
    → from_place (suc b) place bytes ≡ from_place b (place + length (record_bytes (a_hole hole))) rest
past_hole place b bytes rest hole next =
    let step : from_place (suc b) place bytes ≡ from_place b (place + (4 + length hole)) rest = rw next refl in
    step ∙ ap (λ (p : ℕ). from_place b p rest) (record_length place (a_hole hole))

-- what is read, after entries that were
behind : List Entry → Result (List Entry) KeytabFault → Result (List Entry) KeytabFault
behind front read = read >>= λ es. Ok (front ++ es)

after_none : (read : Result (List Entry) KeytabFault) → read ≡ behind [] read
unfolding behind
after_none (Ok es) = refl
after_none (Err fault) = refl

after_one : (e : Entry) (front : List Entry) (read : Result (List Entry) KeytabFault) → (behind front read >>= λ es. Ok (e ∷ es)) ≡ behind (e ∷ front) read
unfolding behind
after_one e front (Ok es) = refl
after_one e front (Err fault) = refl

regrouped : (r : KeytabRecord) (rs : List KeytabRecord) (rest : List ℕ) → records_bytes (r ∷ rs) ++ rest ≡ record_bytes r ++ (records_bytes rs ++ rest)
regrouped r rs rest = ap (λ (x : List ℕ). x ++ rest) (flat_map-cons record_bytes r rs) ∙ append_assoc (record_bytes r) (records_bytes rs) rest

records_length : (place : ℕ) (r : KeytabRecord) (rs : List KeytabRecord)
    → place + length (record_bytes r) + length (records_bytes rs) ≡ place + length (records_bytes (r ∷ rs))
records_length place r rs =
    let e : length (records_bytes (r ∷ rs)) ≡ length (record_bytes r) + length (records_bytes rs) =
    ap length (flat_map-cons record_bytes r rs) ∙ length-append (record_bytes r) (records_bytes rs) in
    omega (arith, e)

-- what the records and the rest of a file read as
record ReadsOn (rs : List KeytabRecord) (place budget : ℕ) (rest : List ℕ) : Type 0 where
  left : ℕ
  enough : length rest ≤ left
  reads : from_place budget place (records_bytes rs ++ rest) ≡ behind (entries_of rs) (from_place left (place + length (records_bytes rs)) rest)

reads_on : (rs : List KeytabRecord) (place budget : ℕ) (rest : List ℕ)
    → StandFrom place rs → length (records_bytes rs ++ rest) ≤ budget → ReadsOn rs place budget rest
unfolding is_entry
reads_on [] place budget rest h enough = record {
  left = budget;
  enough = enough;
  reads = after_none (from_place budget place rest) ∙ ap (λ (p : ℕ). behind [] (from_place budget p rest)) (omega arith);
}
reads_on (r ∷ rs) place zero rest h enough =
    let size = ap length (regrouped r rs rest) in
    let parts = length-append (record_bytes r) (records_bytes rs ++ rest) in
    absurd (omega (arith, size, parts, enough))
reads_on (an_entry e short after_key ∷ rs) place (suc b) rest h enough =
    let r : KeytabRecord = an_entry e short after_key in
    let size = ap length (regrouped r rs rest) in
    let parts = length-append (record_bytes r) (records_bytes rs ++ rest) in
    let more = reads_on rs (place + length (record_bytes r)) b rest h.1 (omega (arith, size, parts, enough)) in
    let one = past_entry place b (record_bytes r ++ (records_bytes rs ++ rest))
    (records_bytes rs ++ rest) e short after_key h.0 (stands place r (records_bytes rs ++ rest) h.0) in
    record {
      left = more.left;
      enough = more.enough;
      reads = ap (from_place (suc b) place) (regrouped r rs rest) ∙ one ∙ ap (λ (x : Result (List Entry) KeytabFault). x >>= λ es. Ok (e ∷ es)) more.reads
          ∙ after_one e (entries_of rs) _ ∙ ap (λ (p : ℕ). behind (e ∷ entries_of rs) (from_place more.left p rest)) (records_length place r rs);
    }
reads_on (a_hole hole ∷ rs) place (suc b) rest h enough =
    let r : KeytabRecord = a_hole hole in
    let size = ap length (regrouped r rs rest) in
    let parts = length-append (record_bytes r) (records_bytes rs ++ rest) in
    let more = reads_on rs (place + length (record_bytes r)) b rest h.1 (omega (arith, size, parts, enough)) in
    let one = past_hole place b (record_bytes r ++ (records_bytes rs ++ rest))
    (records_bytes rs ++ rest) hole (stands place r (records_bytes rs ++ rest) h.0) in
    record {
      left = more.left;
      enough = more.enough;
      reads = ap (from_place (suc b) place) (regrouped r rs rest) ∙ one ∙ more.reads
          ∙ ap (λ (p : ℕ). behind (entries_of rs) (from_place more.left p rest)) (records_length place r rs);
    }

-- ---- whole files

opened : (bytes : List ℕ) → 2 ≤ length bytes → from_be_bytes w16 (take 2 bytes) ≡ 0x0502 → keytab bytes ≡ from_place (length bytes) 2 (drop 2 bytes)
opened bytes two number =
    let a : nat_lt (length bytes) 2 ≡ false = le-ltb _ _ two in
    rw (a, number) refl

file_reads : (rs : List KeytabRecord) (rest : List ℕ) → StandFrom 2 rs → (left : ℕ) × (length rest ≤ left)
    × (keytab (file_bytes rs ++ rest) ≡ behind (entries_of rs) (from_place left (2 + length (records_bytes rs)) rest))
file_reads rs rest h =
    let file : List ℕ = file_bytes rs ++ rest in
    let on = reads_on rs 2 (length file) rest h (omega arith) in
    (on.left, on.enough, opened file (omega arith) refl ∙ on.reads)

ends_well : (left place : ℕ) (rest : List ℕ) → record_at place rest ≡ Ok None → from_place left place rest ≡ Ok []
ends_well zero place rest none = refl
ends_well (suc b) place rest none = rw none refl

ends_cut : (left place : ℕ) (rest : List ℕ) → length rest ≤ left
    → 0 < length rest → record_at place rest ≡ Err (CutOff place) → from_place left place rest ≡ Err (CutOff place)
ends_cut zero place rest enough some cut = absurd (omega arith)
ends_cut (suc b) place rest enough some cut = rw cut refl

well : (front : List Entry) (read : Result (List Entry) KeytabFault) → read ≡ Ok [] → behind front read ≡ Ok front
unfolding behind
well front read h = rw h (ap (λ (es : List Entry). Ok es) (append-nil front))

ill : (front : List Entry) (read : Result (List Entry) KeytabFault) (fault : KeytabFault) → read ≡ Err fault → behind front read ≡ Err fault
unfolding behind
ill front read fault h = rw h refl

pub whole_is_read : WholeIsRead
whole_is_read rs h =
    let f = file_reads rs [] h in
    ap keytab (sym (append-nil (file_bytes rs))) ∙ f.2 ∙ well (entries_of rs) _ (ends_well f.0 _ [] (at_end _ [] (omega arith)))

pub ended_is_read : EndedIsRead
ended_is_read rs more h =
    let f = file_reads rs (0 ∷ 0 ∷ 0 ∷ 0 ∷ more) h in
    f.2 ∙ well (entries_of rs) _ (ends_well f.0 _ (0 ∷ 0 ∷ 0 ∷ 0 ∷ more) (zero_at _ _ (omega arith) refl))

-- the front of a record alone
front_cut : (place : ℕ) (r : KeytabRecord) (front lost : List ℕ) → IsStated r
    → record_bytes r ≡ front ++ lost → 0 < length front → 0 < length lost → record_at place front ≡ Err (CutOff place)
front_cut place r front lost is parts some gone =
    elim (cases_lt (length front) 4) [
      | inl few ↦ within_length place front some few
      | inr four ↦
          let head : take 4 front ≡ to_be_bytes w32 (stated r) = sym (take-append-le 4 front lost four) ∙ ap (take 4) (sym parts) in
          let number : length_at front ≡ stated r = ap (from_be_bytes w32) head ∙ from_be_bytes-to_be_bytes_4 (stated r) is.small in
          let size = ap length parts ∙ length-append front lost in
          short_of place front r is four number (omega (arith, size, gone))
    ]

pub cut_is_told : CutIsTold
cut_is_told rs r front lost h s parts some gone =
    let f = file_reads rs front h in
    let place : ℕ = 2 + length (records_bytes rs) in
    let same : place ≡ length (file_bytes rs) = omega arith in
    let cut = ends_cut f.0 place front f.1 some (front_cut place r front lost (stated_of _ r s) parts some gone) in
    f.2 ∙ ill (entries_of rs) _ _ cut ∙ ap (λ (p : ℕ). Err (CutOff p)) same
