use Rattle.std.proofs.Common.{◌≡◌, ℕ, List, true, false, sym, ◌∙◌, ap}
use Rattle.chpw_rules.specs.Names.{is_name, name_from}
use Rattle.chpw_record.proofs.PartsLemmas.{other_name}
use Rattle.chpw_record.proofs.record.name_in.Goals as goal
use Rattle.chpw_record.proofs.record.name_in.Goals.{else-whole-via-then-whole+else-fits, else-whole-via-else-whole}

pub returns-else-whole : goal.returns-else-whole
returns-else-whole c = record {
  value = λ n f e.
      let r = other_name c.args.bytes.now c.in-Some.parts.items n c.in-len1-up.len_at_least (rw c.in-Some.is at c.in_ok-parts.ensures.value) e in
      let g : is_name (name_from c.in-Some.parts.items) ≡ true = ap (λ (parts : List (List ℕ)). is_name (name_from parts)) r.1 ∙ f in
      let many : c.len.result ≡ c.from.result = c.len.ensures ∙ (c.in-Some.parts.ok.0 ∙ (r.0 ∙ sym c.from.ensures)) in
      elim c.else-whole.branch [
        | else-whole-via-then-whole+else-fits w ↦ let q : false ≡ true = sym w.if-fits.false ∙ (w.fits.ensures.value
            ∙ (ap (λ (parts : List (List ℕ)). is_name (name_from parts)) c.of.ensures.value ∙ g)) in cc
        | else-whole-via-else-whole w ↦ w.if-whole.false many
      ];
}
