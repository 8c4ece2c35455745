use Rattle.std.proofs.Common.{◌≡◌, ℕ, List, ◌++◌, if◌then◌else◌, Result, Ok, Err, sym, ◌∙◌, ap}
use Rattle.std.specs.Prelude.{OnOk}
use Rattle.std.specs.Result.{is_ok}
use Rattle.chpw_reload.specs.Reasons.{fault_text}
use Rattle.chpw_reload.proofs.fault.put_fault.Goals as goal

-- words that were put at the end, unless memory ran out
words_put : {A E : Type 0} (result : Result A E) (old new words text : List ℕ)
    → new ≡ (if is_ok result then old ++ words else old) → words ≡ text → OnOk result (new ≡ old ++ text)
words_put (Ok x) old new words text h e = h ∙ ap (λ xs. old ++ xs) e
words_put (Err x) old new words text h e = tt

pub returns-in-Limits : goal.returns-in-Limits
returns-in-Limits c = record {
  value = words_put c.extend_from_slice.result c.args.text.now.items c.extend_from_slice.new.self.items _ (fault_text c.args.fault.now)
      c.extend_from_slice.ensures.items (ap fault_text (sym c.in-Limits.is));
}
