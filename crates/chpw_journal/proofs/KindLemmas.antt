-- What putting back a key does, kind by kind, and why it isn't put back.
use Rattle.std.proofs.Common.{◌≡◌, ◌≢◌, ℕ, ◌+◌, ◌<◌, List, length, true, false, ◌==◌, Option, Some, None}
use Rattle.std.proofs.Common.{is_none, refl, sym, ◌∙◌, ap, subst, arith}
use Rattle.std.specs.Prelude.{IsSome, nat_lt}
use Rattle.std.proofs.lemmas.Bool.Decides.{nat_tests}
use Rattle.chpw_record.specs.declared.key.KeyRow.{KeyRow}
use Rattle.chpw_record.specs.declared.record.PrincipalKey.{PrincipalKey}
use Rattle.chpw_record.specs.declared.record.KeyKind.TheVariants as kind
use Rattle.chpw_record.specs.declared.record.Record.TheVariants as record_of
use Rattle.chpw_table.specs.declared.table.restoring.KeyFault.{KeyFault}
use Rattle.chpw_table.specs.declared.table.restoring.KeyFault.TheVariants.{UnknownPrincipal, WrongVersion, TooMany, Memory}
use Rattle.chpw_table.specs.State.{State, keys_held, kept_count}
use Rattle.chpw_table.specs.Agreement.{Held, Agrees}
use Rattle.chpw_table.specs.BaseKeys.{with_base_key, IsBaseRefused}
use Rattle.chpw_table.specs.Decision.{newest_kvno}
use Rattle.chpw_table.specs.Restoring.{with_kept_key, IsNextKey, IsKeyRefused, IsHigherKey, IsUpdateKeyRefused}
use Rattle.chpw_table.proofs.AgreementLemmas.{agrees_itself}
use Rattle.chpw_table.proofs.BaseLemmas.{keys_based}
use Rattle.chpw_table.proofs.KeyLemmas.{keys_put}
use Rattle.chpw_journal.specs.JournalText.{is_lacked, may_follow, with_record, IsNextRecord}
use Rattle.chpw_journal.specs.Taking.{IsRecordRefused}
use Rattle.chpw_journal.proofs.CoverLemmas.{record_keys}

equal : (m n : ℕ) → m ≡ n → (m == n) ≡ true
equal m n h = grind (arith, nat_tests)

unequal : (m n : ℕ) → m ≢ n → (m == n) ≡ false
unequal m n h = grind (arith, nat_tests)

above : (m n : ℕ) → m < n → nat_lt m n ≡ true
above m n h = grind (arith, nat_tests)

not_none : (x : Option (List KeyRow)) → IsSome x → is_none x ≡ false
not_none None h = absurd (cc)
not_none (Some keys) h = refl

-- ---- what may come next

pub next_change : (s : State) (c : PrincipalKey) → IsNextKey s c.name c.key → IsNextRecord s (record_of.Key kind.Change c)
next_change s c k = (
  ap (λ (x : Option (List KeyRow)). is_lacked kind.Change x) k.held,
  subst (λ (x : Option (List KeyRow)). may_follow kind.Change c.key.kvno x ≡ true) (sym k.held) (equal c.key.kvno (newest_kvno k.keys + 1) k.next),
)

pub next_base : (s : State) (c : PrincipalKey) → IsSome (keys_held s c.name) → IsNextRecord s (record_of.Key kind.Base c)
next_base s c h = (not_none (keys_held s c.name) h, refl)

pub next_lift : (s : State) (c : PrincipalKey) → IsHigherKey s c.name c.key → IsNextRecord s (record_of.Key kind.Lift c)
next_lift s c k = (
  ap (λ (x : Option (List KeyRow)). is_lacked kind.Lift x) k.held,
  subst (λ (x : Option (List KeyRow)). may_follow kind.Lift c.key.kvno x ≡ true) (sym k.held) (above (newest_kvno k.keys) c.key.kvno k.higher),
)

pub next_remove : (s : State) (c : PrincipalKey) → IsSome (keys_held s c.name) → IsNextRecord s (record_of.Key kind.Remove c)
next_remove s c h = (not_none (keys_held s c.name) h, refl)

-- ---- what is left

pub agrees_change : (t s : State) (c : PrincipalKey) → Agrees t (with_kept_key c.name c.key s) → Agrees t (with_record (record_of.Key kind.Change c) s)
agrees_change t s c a = record {
  fixed = a.fixed;
  principals = λ name.
      a.principals name
      ∙ (keys_put (kept_count s) c.name c.key s.principals name ∙ sym (record_keys s kind.Change c name));
  clock = a.clock;
  broken = a.broken;
  count = a.count;
  ids = a.ids;
}

pub agrees_base : (t s : State) (c : PrincipalKey) → Agrees t (with_base_key c.name c.key s) → Agrees t (with_record (record_of.Key kind.Base c) s)
agrees_base t s c a = record {
  fixed = a.fixed;
  principals = λ name. a.principals name ∙ (keys_based s c.name c.key name ∙ sym (record_keys s kind.Base c name));
  clock = a.clock;
  broken = a.broken;
  count = a.count;
  ids = a.ids;
}

-- ---- why a record isn't put back

module _ (t : Held) (c : PrincipalKey) where
  pub refused_change : (fault : KeyFault) → ((s : State) → Agrees t.state s → IsKeyRefused s c.name c.key fault)
      → IsRecordRefused t (record_of.Key kind.Change c) fault
  refused_change UnknownPrincipal h = λ s a. ap (λ (x : Option (List KeyRow)). is_lacked kind.Change x) (h s a)
  refused_change WrongVersion h = λ s a.
      let k = h s a in (
        ap (λ (x : Option (List KeyRow)). is_lacked kind.Change x) k.1,
        subst (λ (x : Option (List KeyRow)). may_follow kind.Change c.key.kvno x ≡ false) (sym k.1) (unequal c.key.kvno (newest_kvno k.0 + 1) k.2),
      )
  refused_change TooMany h = absurd (h t.state (agrees_itself t.state))
  refused_change Memory h = tt

  pub refused_base : (fault : KeyFault) → ((s : State) → Agrees t.state s → IsBaseRefused s c.name fault)
      → IsRecordRefused t (record_of.Key kind.Base c) fault
  refused_base UnknownPrincipal h = λ s a. ap (λ (x : Option (List KeyRow)). is_lacked kind.Base x) (h s a)
  refused_base WrongVersion h = absurd (h t.state (agrees_itself t.state))
  refused_base TooMany h = absurd (h t.state (agrees_itself t.state))
  refused_base Memory h = tt

  pub refused_adopt : (many : ℕ) (fault : KeyFault) → many ≡ length t.state.principals
      → ((s : State) → Agrees t.state s → IsUpdateKeyRefused many kind.Adopt s c.name c.key fault)
      → IsRecordRefused t (record_of.Key kind.Adopt c) fault
  refused_adopt many UnknownPrincipal e h = absurd (h t.state (agrees_itself t.state))
  refused_adopt many WrongVersion e h = λ s a. (refl, (h s a).1)
  refused_adopt many TooMany e h = let k = h t.state (agrees_itself t.state) in (k.0, sym e ∙ k.1)
  refused_adopt many Memory e h = tt

  pub refused_lift : (many : ℕ) (fault : KeyFault)
      → ((s : State) → Agrees t.state s → IsUpdateKeyRefused many kind.Lift s c.name c.key fault)
      → IsRecordRefused t (record_of.Key kind.Lift c) fault
  refused_lift many UnknownPrincipal h = λ s a. ap (λ (x : Option (List KeyRow)). is_lacked kind.Lift x) (h s a)
  refused_lift many WrongVersion h = λ s a. (not_none (keys_held s c.name) (h s a).0, (h s a).1)
  refused_lift many TooMany h = absurd (h t.state (agrees_itself t.state))
  refused_lift many Memory h = tt

  pub refused_remove : (many : ℕ) (key : KeyRow) (fault : KeyFault)
      → ((s : State) → Agrees t.state s → IsUpdateKeyRefused many kind.Remove s c.name key fault)
      → IsRecordRefused t (record_of.Key kind.Remove c) fault
  refused_remove many key UnknownPrincipal h = λ s a. ap (λ (x : Option (List KeyRow)). is_lacked kind.Remove x) (h s a)
  refused_remove many key WrongVersion h = absurd (h t.state (agrees_itself t.state))
  refused_remove many key TooMany h = absurd (h t.state (agrees_itself t.state))
  refused_remove many key Memory h = tt
