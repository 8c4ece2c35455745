-- A table restored record by record.
use Rattle.std.proofs.Common.{◌≡◌, ◌≢◌, ℕ, ◌+◌, ◌^◌, ◌<◌, List, [], ◌∷◌, ◌++◌, length, true, false, inl}
use Rattle.std.proofs.Common.{inr, Option, refl, sym, ◌∙◌, ap, subst, arith, length-append, append_assoc}
use Rattle.std.specs.Int.{from_be_bytes, to_be_bytes, w16}
use Rattle.std.specs.Io.KnownBytes.{Consumes, IsAtEnd}
use Rattle.std.proofs.lemmas.List.{take-append-le}
use Rattle.chpw_table.specs.State.{State}
use Rattle.chpw_table.specs.Agreement.{Held, Agrees}
use Rattle.chpw_record.specs.declared.record.KeyKind.TheVariants as kind
use Rattle.chpw_record.specs.declared.record.Record.{Record}
use Rattle.chpw_record.specs.declared.record.Record.TheVariants as record_of
use Rattle.chpw_journal.specs.declared.fault.RestoreFault.{RestoreFault}
use Rattle.chpw_journal.specs.declared.fault.RestoreFault.TheVariants.{BadRecord, WrongVersion, UnknownPrincipal, TooMany, OtherRealm, CannotRead, Memory}
use Rattle.chpw_journal.specs.declared.restoring.Restored.{Restored}
use Rattle.chpw_record.specs.Records.{RecordFits, body_text, record_text, records_text, stated_length, is_record_length, framed}
use Rattle.chpw_journal.specs.JournalText.{restored, is_cut_off, HasBadLength, HasBadBody, Begins}
use Rattle.chpw_journal.specs.Restoring.{is_there, IsRestored, IsTooMany, IsRefused}
use Rattle.chpw_journal.specs.Taking.{TakesRecord, IsOneTooMany, IsRecordFault, IsSoFar}
use Rattle.chpw_record.proofs.LengthLemmas.{length_short, text_short}
use Rattle.chpw_journal.proofs.CutLemmas.{header_states}
use Rattle.chpw_read_fully.proofs.FillingLemmas.{consumes_none, consumes_more}
use Rattle.chpw_record.proofs.RecordLemmas.{records_more, framed_is, framed_same}
use Rattle.chpw_journal.proofs.RecordsLemmas.{restored_joined, next_more}

abbrev pub start_of : Held → Restored
start_of before = record { table = before; records = 0; kept = 0; torn = false }

pub so_far_start : (before : Held) (old : Option (List ℕ)) → IsSoFar before old old (start_of before)
so_far_start before old = record {
  whole_records = [];
  read = consumes_none old;
  table = λ s a. (tt, a);
  events = refl;
  seen = refl;
  max_entries = refl;
  records = refl;
  kept = refl;
  torn = refl;
}

pub so_far_next : (before : Held) (old now new : Option (List ℕ)) (r later : Restored) (body : List ℕ)
    → IsSoFar before old now r
    → Consumes now new (framed body) → TakesRecord r later body → IsSoFar before old new later
so_far_next before old now new r later body h d t =
    let text : framed body ≡ record_text t.taken = ap framed t.text ∙ framed_is t.taken in
    let more : records_text (h.whole_records ++ t.taken ∷ []) ≡ records_text h.whole_records ++ framed body =
    records_more h.whole_records t.taken ∙ ap (λ (xs : List ℕ). records_text h.whole_records ++ xs) (sym text) in
    let size : length (framed body) ≡ 2 + length body = length-append (to_be_bytes w16 (length body)) body in
    record {
      whole_records = h.whole_records ++ t.taken ∷ [];
      read = subst (Consumes old new) (sym more) (consumes_more old now new (records_text h.whole_records) (framed body) h.read d);
      table = λ s a.
          let g = h.table s a in
          let u = t.table (restored s h.whole_records) g.1 in
          (next_more s h.whole_records t.taken g.0 t.fits u.0, subst (Agrees later.table.state) (sym (restored_joined s h.whole_records (t.taken ∷ []))) u.1);
      events = t.events ∙ h.events;
      seen = t.seen ∙ h.seen;
      max_entries = t.max_entries ∙ h.max_entries;
      records = t.records ∙ (ap (λ n. n + 1) h.records ∙ sym (length-append h.whole_records (t.taken ∷ [])));
      kept = t.kept ∙ (ap (λ n. n + (2 + length body)) h.kept ∙ (ap (λ n. length (records_text h.whole_records) + n)
          (sym size) ∙ (sym (length-append (records_text h.whole_records) (framed body)) ∙ ap length (sym more))));
      torn = t.torn ∙ h.torn;
    }

-- the end, with this after the last whole record
pub ended_with : (before : Held) (old now new : Option (List ℕ)) (r : Restored) (rest : List ℕ)
    → IsSoFar before old now r → Consumes now new rest
    → IsAtEnd new → is_cut_off rest ≡ true → IsRestored before old new (record r { torn = is_there rest })
ended_with before old now new r rest h d e cut = record {
  whole_records = h.whole_records;
  rest = rest;
  read = consumes_more old now new (records_text h.whole_records) rest h.read d;
  end = e;
  reading = λ s a. (record { text_is = refl; next = (h.table s a).0 }, cut);
  table = λ s a. (h.table s a).1;
  events = h.events;
  seen = h.seen;
  max_entries = h.max_entries;
  records = h.records;
  kept = h.kept;
  torn = refl;
}

pub ended : (before : Held) (old now new : Option (List ℕ)) (r : Restored)
    → IsSoFar before old now r → Consumes now new [] → IsAtEnd new → IsRestored before old new r
ended before old now new r h d e =
    let same : record r { torn = false } ≡ r = λ i. record r { torn = sym h.torn i } in
    subst (IsRestored before old new) same (ended_with before old now new r [] h d e refl)

pub cannot_read : (before : Held) (old now new : Option (List ℕ)) (r : Restored) (rest : List ℕ)
    → IsSoFar before old now r → Consumes now new rest → is_cut_off rest ≡ true → IsRefused before old new CannotRead
cannot_read before old now new r rest h d cut = (
  h.whole_records,
  rest,
  consumes_more old now new (records_text h.whole_records) rest h.read d,
  λ s a. (record { text_is = refl; next = (h.table s a).0 }, cut),
)

-- what was read, and more after it
begins : (before : Held) (old now : Option (List ℕ))
    (r : Restored) (h : IsSoFar before old now r) (s : State) (a : Agrees before.state s) (rest more : List ℕ)
    → Begins s ((records_text h.whole_records ++ rest) ++ more) h.whole_records (rest ++ more)
begins before old now r h s a rest more = record { text_is = append_assoc (records_text h.whole_records) rest more; next = (h.table s a).0 }

length_stays : (header more : List ℕ) → HasBadLength header → HasBadLength (header ++ more)
length_stays header more h =
    let same : stated_length (header ++ more) ≡ stated_length header = ap (from_be_bytes w16) (take-append-le 2 header more h.0) in
    let size = length-append header more in
    (omega (arith, size, h.0), ap is_record_length same ∙ h.1)

pub bad_length : (before : Held) (old now new : Option (List ℕ)) (r : Restored) (header : List ℕ)
    → IsSoFar before old now r
    → Consumes now new header → HasBadLength header → IsRefused before old new (BadRecord (r.records + 1))
bad_length before old now new r header h d bad = (
  records_text h.whole_records ++ header,
  consumes_more old now new (records_text h.whole_records) header h.read d,
  λ s more a. (h.whole_records, header ++ more, begins before old now r h s a header more, inl (length_stays header more bad), ap (λ n. n + 1) h.records),
)

bad_body : (body more : List ℕ) → is_record_length (length body) ≡ true → ((c : Record) → RecordFits c → body ≢ body_text c) → HasBadBody (framed body ++ more)
bad_body body more range none =
    let st : stated_length (framed body ++ more) ≡ length body = header_states (to_be_bytes w16 (length body)) (length body) (body ++ more) (refl, range) in
    let size : length (framed body ++ more) ≡ (2 + length body) + length more = length-append (framed body) more
    ∙ ap (λ n. n + length more) (length-append (to_be_bytes w16 (length body)) body) in (
      omega (arith, st, size),
      λ c left f e. none c f (framed_same body more (body_text c) left
          (length_short (length body) range) (small c f) (e ∙ ap (λ (xs : List ℕ). xs ++ left) (sym (framed_is c)))).0,
    )
  where
    small : (c : Record) → RecordFits c → length (body_text c) < 2 ^ 16
    small c f = omega (arith, text_short c f)

-- the text of a record within the limits
of_record : (before : Held) (old now : Option (List ℕ)) (r : Restored) (h : IsSoFar before old now r)
    (s : State) (a : Agrees before.state s) (body more : List ℕ) (c : Record) → body ≡ body_text c
    → Begins s ((records_text h.whole_records ++ framed body) ++ more) h.whole_records (record_text c ++ more)
of_record before old now r h s a body more c e =
    subst (λ (xs : List ℕ). Begins s ((records_text h.whole_records ++ framed body) ++ more) h.whole_records (xs
    ++ more)) (ap framed e ∙ framed_is c) (begins before old now r h s a (framed body) more)

-- the table has no room for the principal that a record adopts
too_many : (before : Held) (old now : Option (List ℕ)) (r : Restored) (body : List ℕ) (n : ℕ) (h : IsSoFar before old now r)
    → n ≡ r.records + 1 → (q : Record) → RecordFits q → body ≡ body_text q → IsOneTooMany r.table q
    → IsTooMany before (records_text h.whole_records ++ framed body) n
too_many before old now r body n h e (record_of.Key kind.Adopt c) f text full = record {
  whole_records = h.whole_records;
  joining = c;
  table = r.table;
  given = λ s a. (h.table s a).1;
  text = λ s more a. record {
    left = more;
    begins = of_record before old now r h s a body more (record_of.Key kind.Adopt c) text;
    fits = f;
  };
  none_held = full.0;
  full = full.1;
  number = e ∙ ap (λ k. k + 1) h.records;
}
too_many before old now r body n h e q f text full = absurd full

-- a record's fault
pub record_fault : (before : Held) (old now new : Option (List ℕ)) (r : Restored) (body : List ℕ) (fault : RestoreFault)
    → IsSoFar before old now r → Consumes now new (framed body)
    → is_record_length (length body) ≡ true → IsRecordFault r body fault → IsRefused before old new fault
record_fault before old now new r body (BadRecord n) h d range f = (
  records_text h.whole_records ++ framed body,
  consumes_more old now new (records_text h.whole_records) (framed body) h.read d,
  λ s more a. (
    h.whole_records,
    framed body ++ more,
    begins before old now r h s a (framed body) more,
    inr (bad_body body more range f.1),
    f.0 ∙ ap (λ k. k + 1) h.records,
  ),
)
record_fault before old now new r body (UnknownPrincipal n) h d range f = (
  records_text h.whole_records ++ framed body,
  consumes_more old now new (records_text h.whole_records) (framed body) h.read d,
  λ s more a. (
    h.whole_records,
    f.1,
    record {
      left = more;
      begins = of_record before old now r h s a body more f.1 f.3;
      fits = f.2;
    },
    f.4 (restored s h.whole_records) (h.table s a).1,
    f.0 ∙ ap (λ k. k + 1) h.records,
  ),
)
record_fault before old now new r body (WrongVersion n) h d range f = (
  records_text h.whole_records ++ framed body,
  consumes_more old now new (records_text h.whole_records) (framed body) h.read d,
  λ s more a. (
    h.whole_records,
    f.1,
    record {
      left = more;
      begins = of_record before old now r h s a body more f.1 f.3;
      fits = f.2;
    },
    f.4 (restored s h.whole_records) (h.table s a).1,
    f.0 ∙ ap (λ k. k + 1) h.records,
  ),
)
record_fault before old now new r body (TooMany n) h d range f = (
  records_text h.whole_records ++ framed body,
  consumes_more old now new (records_text h.whole_records) (framed body) h.read d,
  too_many before old now r body n h f.0 f.1 f.2 f.3 f.4,
)
record_fault before old now new r body OtherRealm h d range f = absurd f
record_fault before old now new r body CannotRead h d range f = absurd f
record_fault before old now new r body Memory h d range f = tt
