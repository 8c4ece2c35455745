-- Names that compare as equal are, and what is found in a mirror is in it.
use Rattle.std.proofs.Common.{◌≡◌, ◌∙◌, sym, ap, refl, subst, Bool, true, false, nat_lt, if◌then◌else◌, [], ◌∷◌, Option, Some, None, cond}
use Rattle.std.specs.List.{AllByRecursion}
use Rattle.std.specs.Map.{lookup}
use Rattle.std.specs.BTreeMap.{is_at}
use Rattle.std.specs.Cmp.Lexicographic.{slice_cmp, lists_ties, texts_ties}
use Rattle.std.specs.Ordering.{nat_cmp, is_eq, match_ordering}
use Rattle.std.specs.declared.cmp.Ordering.{Ordering}
use Rattle.std.specs.declared.cmp.Ordering.TheVariants.{Less, Equal, Greater}
use Rattle.chpw_rules.specs.declared.name.Name.{Name}
use Rattle.chpw_rules.specs.Names.{is_same_name, name_cmp, name_from}
use Rattle.chpw_rules.proofs.NameLemmas.{is_same_name-Decides}
use Rattle.chpw_record.specs.declared.key.KeyRow.{KeyRow}
use Rattle.chpw_kdc.specs.Mirrors.{Mirror, key_of, with_key, without, newer_of, newest, told}

pub name_exact : (a b : Name) → is_same_name a b ≡ true → a ≡ b
name_exact a b h = ap name_from ((is_same_name-Decides a b).0 h)

ties : (a b : Name) → is_at (name_cmp a) b ≡ is_same_name a b
ties a b = sym (lists_ties (slice_cmp nat_cmp) texts_ties a.parts b.parts)

pub at_exact : (a b : Name) → is_at (name_cmp a) b ≡ true → a ≡ b
at_exact a b h = name_exact a b (sym (ties a b) ∙ h)

-- what holds of each name and its key
abbrev pub AllKeys : (Name → KeyRow → Type 0) → Mirror → Type 0
AllKeys Q es = AllByRecursion (λ (e : Name × KeyRow). Q e.0 e.1) es

found : (Q : Name → KeyRow → Type 0) (name : Name) (e : Name × KeyRow) (es : Mirror) (b : Bool) (key : KeyRow)
    → is_at (name_cmp name) e.0 ≡ b → Q e.0 e.1 → ((lookup (is_at (name_cmp name)) es ≡ Some key) → Q name key)
    → cond b (Some e.1) (lookup (is_at (name_cmp name)) es) ≡ Some key → Q name key
found Q name e es true key at q others h =
    let same : e.1 ≡ key = cc in
    subst (λ (n : Name). Q n key) (sym (at_exact name e.0 at)) (subst (λ (k : KeyRow). Q e.0 k) same q)
found Q name e es false key at q others h = others h

-- it holds of what is found
pub of_found : (Q : Name → KeyRow → Type 0) (es : Mirror) (name : Name) (key : KeyRow) → AllKeys Q es → key_of es name ≡ Some key → Q name key
of_found Q [] name key all h = absurd cc
of_found Q (e ∷ es) name key all h =
    found Q name e es (is_at (name_cmp name) e.0) key refl all.0 (of_found Q es name key all.1) h

inserted : (Q : Name → KeyRow → Type 0) (name : Name) (key : KeyRow) (e : Name × KeyRow) (es new : Mirror) (r : Ordering)
    → name_cmp name e.0 ≡ r → Q name key → Q e.0 e.1 → AllKeys Q es → AllKeys Q new
    → AllKeys Q (match_ordering r ((name, key) ∷ e ∷ es) ((e.0, key) ∷ es) (e ∷ new))
inserted Q name key e es new Less is q p all more = (q, (p, all))
inserted Q name key e es new Equal is q p all more = (subst (λ (n : Name). Q n key) (at_exact name e.0 (ap is_eq is)) q, all)
inserted Q name key e es new Greater is q p all more = (p, more)

-- it holds with one more
pub of_with_key : (Q : Name → KeyRow → Type 0) (es : Mirror) (name : Name) (key : KeyRow) → AllKeys Q es → Q name key → AllKeys Q (with_key es name key)
of_with_key Q [] name key all q = (q, tt)
of_with_key Q (e ∷ es) name key all q =
    inserted Q name key e es (with_key es name key) (name_cmp name e.0) refl q all.0 all.1 (of_with_key Q es name key all.1 q)

kept : (Q : Name → KeyRow → Type 0) (b : Bool) (e : Name × KeyRow) (es less : Mirror) → Q e.0 e.1 → AllKeys Q es → AllKeys Q less
    → AllKeys Q (cond b es (e ∷ less))
kept Q true e es less q all more = all
kept Q false e es less q all more = (q, more)

-- and with one less
pub of_without : (Q : Name → KeyRow → Type 0) (es : Mirror) (name : Name) → AllKeys Q es → AllKeys Q (without es name)
of_without Q [] name all = tt
of_without Q (e ∷ es) name all = kept Q (is_at (name_cmp name) e.0) e es (without es name) all.0 all.1 (of_without Q es name all.1)

-- ---- the newer of two keys

newer_from : (Q : Name → KeyRow → Type 0) (name : Name) (b : Bool) (held key : KeyRow) → Q name held → Q name key → Q name (if b then held else key)
newer_from Q name true held key p q = p
newer_from Q name false held key p q = q

newer_of_found : (Q : Name → KeyRow → Type 0) (name : Name) (o : Option KeyRow) (key : KeyRow) → ((held : KeyRow) → o ≡ Some held → Q name held)
    → Q name key → Q name (newer_of o key)
newer_of_found Q name None key held q = q
newer_of_found Q name (Some k) key held q = newer_from Q name (nat_lt key.kvno k.kvno) k key (held k refl) q

pub of_newest : (Q : Name → KeyRow → Type 0) (es : Mirror) (name : Name) (key : KeyRow) → AllKeys Q es → Q name key → Q name (newest es name key)
of_newest Q es name key all q = newer_of_found Q name (key_of es name) key (λ held h. of_found Q es name held all h) q

pub of_told : (Q : Name → KeyRow → Type 0) (es : Mirror) (name : Name) (key : KeyRow) → AllKeys Q es → Q name key → AllKeys Q (told es name key)
of_told Q es name key all q = of_with_key Q es name (newest es name key) all (of_newest Q es name key all q)
