-- What is said of the record at which restoring ends.
use Rattle.std.proofs.Common.{◌≡◌, ◌≢◌, ℕ, ◌+◌, List, [], ◌∷◌, ◌++◌, length, true, false, Option, None, Some, IfSome, refl, sym, ◌∙◌, ap, subst}
use Rattle.std.specs.Fmt.{option_append}
use Rattle.std.specs.Io.KnownBytes.{Consumes}
use Rattle.chpw_table.specs.State.{State}
use Rattle.chpw_table.specs.Agreement.{Held, Agrees}
use Rattle.chpw_record.specs.declared.record.Record.{Record}
use Rattle.chpw_record.specs.declared.record.Record.TheVariants as record_of
use Rattle.chpw_record.specs.Records.{framed, record_text, records_text}
use Rattle.chpw_record.proofs.RecordLemmas.{records_more, framed_is}
use Rattle.chpw_read_fully.proofs.FillingLemmas.{consumes_more}
use Rattle.chpw_journal.specs.declared.explaining.Explanation.{Explanation}
use Rattle.chpw_journal.specs.declared.explaining.Explanation.TheVariants as told
use Rattle.chpw_journal.specs.declared.explaining.RefusedRecord.{RefusedRecord}
use Rattle.chpw_journal.specs.declared.fault.RestoreFault.{RestoreFault}
use Rattle.chpw_journal.specs.declared.restoring.Restored.{Restored}
use Rattle.chpw_journal.specs.Explaining.{wanted_of, Tells, IsToldIn, IsToldOf, IsExplained, IsExplainedBehind}
use Rattle.chpw_journal.specs.Headings.{begins_as_heading, realm_record}
use Rattle.chpw_journal.specs.JournalText.{restored}
use Rattle.chpw_journal.specs.Taking.{IsSoFar}

-- the same is told in states that agree
pub told_agrees : (s t : State) (refused : Record) (r : RefusedRecord) → Agrees s t → Tells s refused r → Tells t refused r
told_agrees s t (record_of.Key kind c) r a h = (h.0, h.1, ap (wanted_of kind) (sym (a.principals c.name)) ∙ h.2)
told_agrees s t (record_of.Raise count) r a h = absurd h

-- told of the record that follows those read so far
pub told_there : (before : Held) (old now new : Option (List ℕ)) (so : Restored) (body : List ℕ) (number : ℕ) (r : RefusedRecord)
    → IsSoFar before old now so → Consumes now new (framed body) → number ≡ so.records + 1 → IsToldIn so.table.state body r
    → IsToldOf before old number r
told_there before old now new so body number r h d e t =
    let text : framed body ≡ record_text t.0 = ap framed t.2 ∙ framed_is t.0 in
    let more : records_text (h.whole_records ++ t.0 ∷ []) ≡ records_text h.whole_records ++ framed body =
    records_more h.whole_records t.0 ∙ ap (λ (xs : List ℕ). records_text h.whole_records ++ xs) (sym text) in
    record {
      whole_records = h.whole_records;
      refused = t.0;
      left = new;
      read = subst (Consumes old new) (sym more) (consumes_more old now new (records_text h.whole_records) (framed body) h.read d);
      fits = t.1;
      number_is = e ∙ ap (λ n. n + 1) h.records;
      told = λ s a. let g = h.table s a in (g.0, told_agrees so.table.state (restored s h.whole_records) t.0 r g.1 t.3);
    }

pub told_if_any : (before : Held) (old now new : Option (List ℕ)) (so : Restored) (body : List ℕ) (number : ℕ)
    → IsSoFar before old now so → Consumes now new (framed body) → number ≡ so.records + 1
    → (found : Option RefusedRecord) → IfSome found (IsToldIn so.table.state body) → IfSome found (IsToldOf before old number)
told_if_any before old now new so body number h d e None t = tt
told_if_any before old now new so body number h d e (Some r) t = told_there before old now new so body number r h d e t

-- ---- after the heading

-- of bytes that aren't known
forget_told : (before : Held) (given : Option (List ℕ)) (number : ℕ) (r : RefusedRecord) → IsToldOf before given number r → IsToldOf before None number r
forget_told before given number r h = record {
  whole_records = h.whole_records;
  refused = h.refused;
  left = h.left;
  read = tt;
  fits = h.fits;
  number_is = h.number_is;
  told = h.told;
}

pub unnamed_explained : (before : Held) (old mid given : Option (List ℕ)) (head : List ℕ) (f : RestoreFault) (e : Explanation)
    → given ≡ option_append (Some head) mid → Consumes old mid head → IfSome old (λ text. begins_as_heading text ≡ false)
    → IsExplainedBehind before given f e → IsExplained before old f e
unnamed_explained before old mid given head f (told.Realm found held) is d none h = absurd h
unnamed_explained before None mid given head f (told.Record number r) is d none h =
    (false, None, (refl, tt), (h.0, h.1, forget_told before given number r h.2))
unnamed_explained before (Some xs) None given head f (told.Record number r) is d none h = absurd d
unnamed_explained before (Some xs) (Some ys) given head f (told.Record number r) is d none h = (
  false,
  Some xs,
  (refl, none),
  subst (λ (o : Option (List ℕ)). IsExplainedBehind before o f (told.Record number r)) (is ∙ ap Some (sym d)) h,
)

pub named_explained : (before : Held) (old mid : Option (List ℕ)) (realm : List ℕ) (f : RestoreFault) (e : Explanation)
    → realm ≡ before.state.fixed.realm → Consumes old mid (realm_record realm) → IsExplainedBehind before mid f e → IsExplained before old f e
named_explained before old mid realm f (told.Record number r) same d h =
    (true, mid, subst (λ (xs : List ℕ). Consumes old mid (realm_record xs)) same d, h)
named_explained before old mid realm f (told.Realm found held) same d h = absurd h
