-- A change, put together from what was read of it.
use Rattle.std.proofs.Common.{◌≡◌, ℕ, ◌≤◌, List, ◌∷◌, ◌++◌, length, take, drop, get_or, true, sym, ◌∙◌, ap, subst, arith, length-drop}
use Rattle.std.proofs.lemmas.Bool.{and_parts}
use Rattle.std.proofs.lemmas.List.{take-append-drop, length-take-le}
use Rattle.chpw_rules.specs.declared.name.Name.{Name}
use Rattle.chpw_rules.specs.Names.{is_name}
use Rattle.chpw_record.specs.declared.key.KeyRow.{KeyRow}
use Rattle.chpw_record.specs.declared.record.PrincipalKey.{PrincipalKey}
use Rattle.chpw_record.specs.RecordKeys.{key_at, key_fits}
use Rattle.chpw_record.specs.Records.{ChangeFits, key_text, name_bytes, version_bytes}
use Rattle.chpw_record.proofs.ListLemmas.{AreBytes, bytes_taken}
use Rattle.chpw_record.proofs.VersionLemmas.{version_whole, version_read}

abbrev change_of : Name → KeyRow → PrincipalKey
change_of n k = record { name = n; key = k }

keys_fit : (n : Name) (v : List ℕ) → length v ≡ 57 → key_fits (key_at v) ≡ true → is_name n ≡ true → ChangeFits (change_of n (key_at v))
keys_fit n v l f h = record {
  name = h;
  kvno = (and_parts _ _ f).0;
  count = (and_parts _ _ f).1;
  aes128 = length-take-le 16 (drop 9 v) (simp length-drop (omega (arith, l)));
  aes256 = length-take-le 32 (drop 25 v) (simp length-drop (omega (arith, l)));
}

-- a version and a name that were read make up the body
pub change_whole : (kind : ℕ) (body v left : List ℕ) (k : KeyRow) (n : Name) → 57 ≤ length body → AreBytes body → v ≡ take 57 body → left ≡ drop 57 body
    → get_or v 0 0 ≡ kind → k ≡ key_at v → key_fits k ≡ true → is_name n ≡ true → left ≡ name_bytes n
    → ChangeFits (change_of n k) × (body ≡ key_text kind n k)
change_whole kind body v left k n l b e d first at f h m =
    let size : length v ≡ 57 = ap length e ∙ length-take-le 57 body l in
    let bytes : AreBytes v = subst AreBytes (sym e) (bytes_taken 57 body b) in
    let fits : ChangeFits (change_of n (key_at v)) = keys_fit n v size (subst (λ (x : KeyRow). key_fits x ≡ true) at f) h in (
      subst (λ (x : KeyRow). ChangeFits (change_of n x)) (sym at) fits,
      sym (take-append-drop 57 body)
          ∙ (ap (λ (xs : List ℕ). xs ++ drop 57 body) (sym e ∙ (version_whole kind v size bytes first ∙ ap (λ (x : KeyRow). version_bytes kind x) (sym at)))
          ∙ ap (λ (xs : List ℕ). version_bytes kind k ++ xs) (sym d ∙ m)),
    )

-- where no name follows the version, the body is that of no change, of whatever kind
pub change_none : (kind : ℕ) (body v left : List ℕ) (c : PrincipalKey) → 57 ≤ length body → v ≡ take 57 body → left ≡ drop 57 body
    → ((n : Name) → is_name n ≡ true → left ≡ name_bytes n → ⊥) → ChangeFits c → body ≡ key_text kind c.name c.key → ⊥
change_none kind body v left c l e d none fits h =
    let size : length v ≡ 57 = ap length e ∙ length-take-le 57 body l in
    let whole : v ++ left ≡ body = ap (λ (xs : List ℕ). xs ++ left) e ∙ (ap (λ (xs : List ℕ). take 57 body ++ xs) d ∙ take-append-drop 57 body) in
    none c.name fits.name (version_read kind v left (name_bytes c.name) c.key size fits.kvno fits.count fits.aes128 fits.aes256 (whole ∙ h)).2
