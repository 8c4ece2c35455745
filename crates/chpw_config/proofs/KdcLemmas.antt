-- The patterns that are read are within the limits.
use Rattle.std.proofs.Common.{◌≡◌, true, List, [], ◌∷◌, length, Option, Some, None, Result}
use Rattle.std.proofs.Common.{Ok, Err, codes, refl, arith, IfOk, ℕ, inl, inr}
use Rattle.std.specs.List.{list_all}
use Rattle.std.specs.Option.{ok_or}
use Rattle.std.proofs.lemmas.Bool.{cases_Bool}
use Rattle.std.proofs.lemmas.List.Folds.{list_all-append}
use Rattle.toml.specs.Data.{Data, Items, Members, get_member, as_str}
use Rattle.chpw_rules.specs.declared.pattern.NamePatterns.{NamePatterns}
use Rattle.chpw_rules.specs.Limits.{is_in, pattern_counts}
use Rattle.chpw_rules.specs.Patterns.{is_pattern, of_one_component, pattern_of, patterns_fit}
use Rattle.chpw_config.specs.declared.fault.ConfigError.{ConfigError}
use Rattle.chpw_config.specs.declared.fault.ConfigFaultKind.TheVariants.{OutOfRange}
use Rattle.chpw_config.specs.declared.fault.Part.{Part}
use Rattle.chpw_config.specs.declared.fault.Part.TheVariants.{Kdc, KdcInclude, KdcExclude}
use Rattle.chpw_config.specs.Faults.{UnlessMemory, location, placed}
use Rattle.chpw_config.specs.Kdc.{a_pattern, pattern_row, pattern_list, kdc_table, kdc_settings}
use Rattle.chpw_config.specs.Kinds.{a_list, a_table, item_count}
use Rattle.chpw_config.specs.Rows.{walk}
use Rattle.chpw_config.proofs.GivesLemmas.{Gives, gives_any, gives_err, gives_list, gives_of_kind, gives_ok}
use Rattle.chpw_config.proofs.GivesLemmas.{gives_placed, gives_then, gives_walk, gives_walk_length}

gives_parsed : (text : List ℕ) → Gives (ok_or (pattern_of text) OutOfRange) (λ p. is_pattern p ≡ true)
gives_parsed text =
    elim (cases_Bool (is_pattern text)) [
      | inl fits ↦ rw fits (gives_ok (λ p. is_pattern p ≡ true) text fits)
      | inr other ↦ rw other (gives_err (λ p. is_pattern p ≡ true) OutOfRange)
    ]

gives_pattern : (part : Part) (before : List (List ℕ)) (value : Data)
    → Gives (pattern_row part before value) (λ p. is_pattern p ≡ true)
gives_pattern part before value =
    gives_placed (location part (length before)) (a_pattern value) (gives_of_kind (as_str value) _ gives_parsed)

walked_fit : (part : Part) (items : Items) → is_in pattern_counts (item_count items) ≡ true
    → Gives (walk (pattern_row part) [] items) (λ ps. patterns_fit ps ≡ true)
walked_fit part items in_counts =
    let all : Gives (walk (pattern_row part) [] items) (λ ps. list_all is_pattern ps ≡ true)
    = gives_walk (pattern_row part) [] items (λ rows value so_far. record {
      at = λ p same. let fits : is_pattern p ≡ true = (gives_pattern part rows value).at p same in
          rw (list_all-append is_pattern rows (p ∷ []), so_far, fits);
    }) refl in
    record {
      at = λ ps same.
          let long : length ps ≡ item_count items = omega (arith, (gives_walk_length (pattern_row part) [] items).at ps same) in
          let counted : is_in pattern_counts (length ps) ≡ true = rw long in_counts in
          rw (counted, all.at ps same);
    }

list_fits : (part : Part) (default : List (List ℕ)) (value : Option Data) → patterns_fit default ≡ true
    → Gives (pattern_list part default value) (λ ps. patterns_fit ps ≡ true)
list_fits part default None fits = gives_ok _ default fits
list_fits part default (Some value) fits =
    gives_then (placed (location part 0) (a_list pattern_counts value)) (λ items. walk (pattern_row part) [] items)
    (gives_placed (location part 0) (a_list pattern_counts value) (gives_list pattern_counts value)) (walked_fit part)

abbrev Fit : NamePatterns → Type 0
Fit patterns = (patterns_fit patterns.include ≡ true) × (patterns_fit patterns.exclude ≡ true)

table_fits : (kdc : Members) → Gives (kdc_table kdc) Fit
table_fits kdc =
    gives_then (pattern_list KdcInclude of_one_component.include (get_member (codes "include") kdc)) _
    (list_fits KdcInclude of_one_component.include (get_member (codes "include") kdc) refl) (λ include included.
    gives_then (pattern_list KdcExclude of_one_component.exclude (get_member (codes "exclude") kdc)) _
    (list_fits KdcExclude of_one_component.exclude (get_member (codes "exclude") kdc) refl) (λ exclude excluded.
    gives_ok Fit (record { include = include; exclude = exclude }) (included, excluded)))

settings_fit : (value : Option Data) → Gives (kdc_settings value) Fit
settings_fit None = gives_ok Fit of_one_component (refl, refl)
settings_fit (Some value) = gives_then (placed (location Kdc 0) (a_table value)) kdc_table (gives_any _) (λ kdc _. table_fits kdc)

-- what a reading that agrees with the settings gives
pub fits_from_kdc : (value : Option Data) (r : Result NamePatterns ConfigError) → UnlessMemory r (kdc_settings value)
    → IfOk r (λ patterns. (patterns_fit patterns.include ≡ true) × (patterns_fit patterns.exclude ≡ true))
fits_from_kdc value (Ok patterns) same = (settings_fit value).at patterns same
fits_from_kdc value (Err error) same = tt
