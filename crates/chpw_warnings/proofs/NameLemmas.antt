-- Names in a set.
use mathlib.Core.Path.{fun_ext}
use Rattle.std.proofs.Common.{◌≡◌, ◌∙◌, sym, ap, refl, ◌<◌, ◌+◌, ℕ, length, get_or, take, Bool, true, false, cond, ◌||◌, List}
use Rattle.std.specs.Bool.{one_answer}
use Rattle.std.specs.BTreeSet.{BTreeSet, contains}
use Rattle.std.specs.Cmp.Lexicographic.{slice_cmp, lists_ties, texts_ties}
use Rattle.std.specs.Ordering.{is_eq, nat_cmp}
use Rattle.std.proofs.lemmas.Bool.Decides.{Decides-like}
use Rattle.std.proofs.lemmas.List.Folds.{list_any_more}
use Rattle.chpw_rules.specs.declared.config.PrincipalRow.{PrincipalRow}
use Rattle.chpw_rules.specs.declared.name.Name.{Name}
use Rattle.chpw_rules.specs.declared.rules.Rule.{Rule}
use Rattle.chpw_rules.specs.Names.{is_same_name, name_cmp}
use Rattle.chpw_rules.proofs.NameLemmas.{is_same_name-Decides}
use Rattle.chpw_warnings.specs.Rules.{is_listed, rule_warnings}

ties : (a b : Name) → is_eq (name_cmp a b) ≡ is_same_name a b
ties a b = sym (lists_ties (slice_cmp nat_cmp) texts_ties a.parts b.parts)

same_back : (a b : Name) → is_same_name a b ≡ is_same_name b a
same_back a b =
    one_answer (is_same_name a b) (is_same_name b a) (is_same_name-Decides a b)
    (Decides-like (is_same_name b a) sym sym (is_same_name-Decides b a))

among : (here before : Bool) → cond here true before ≡ (before || here)
among true true = refl
among true false = refl
among false true = refl
among false false = refl

-- a set that has the names of some principals gets that of the next one
pub names_more : (old new : BTreeSet Name) (rows : List PrincipalRow) (i : ℕ) (row : PrincipalRow) (key : Name)
    → i < length rows → row ≡ get_or rows i row → key ≡ row.name
    → ((q : Name) → contains name_cmp old q ≡ is_listed (take i rows) q)
    → ((q : Name) → contains name_cmp new q ≡ cond (is_eq (name_cmp key q)) true (contains name_cmp old q))
    → (name : Name) → contains name_cmp new name ≡ is_listed (take (i + 1) rows) name
names_more old new rows i row key below here same knows updates name =
    let t : is_eq (name_cmp key name) ≡ is_same_name name row.name
    = ties key name ∙ (same_back key name ∙ ap (λ (k : Name). is_same_name name k) same) in
    let e : is_listed (take (i + 1) rows) name ≡ (is_listed (take i rows) name || is_same_name name row.name)
    = list_any_more (λ (r : PrincipalRow). is_same_name name r.name) rows i row below
    ∙ ap (λ (r : PrincipalRow). is_listed (take i rows) name || is_same_name name r.name) (sym here) in
    updates name ∙ (ap (λ (b : Bool). cond b true (contains name_cmp old name)) t
    ∙ (ap (λ (b : Bool). cond (is_same_name name row.name) true b) (knows name)
    ∙ (among (is_same_name name row.name) (is_listed (take i rows) name) ∙ sym e)))

-- rules are warned of alike by a set and by a list with the same names
pub rules_alike : (names : BTreeSet Name) (rows : List PrincipalRow) (rules : List Rule)
    → ((name : Name) → contains name_cmp names name ≡ is_listed rows name)
    → rule_warnings (contains name_cmp names) 1 rules ≡ rule_warnings (is_listed rows) 1 rules
rules_alike names rows rules h = ap (λ (f : Name → Bool). rule_warnings f 1 rules) (fun_ext h)
