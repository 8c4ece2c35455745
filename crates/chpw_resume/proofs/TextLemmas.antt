-- The text of a resume file.
use Rattle.std.proofs.Common.{◌≡◌, ℕ, Bool, true, false, zero, suc, ◌-◌, get_or, add-one, Option, Some, None, Result, Ok, Err, IfOk, ◌+◌, ◌<◌, ◌≤◌}
use Rattle.std.proofs.Common.{List, [], ◌∷◌, ◌++◌, length, map, take, drop, append_assoc, append-nil, refl, sym, ◌∙◌, ap, subst, arith, length-append}
use Rattle.std.specs.Prelude.{ℤ}
use Rattle.std.specs.Int.{to_be_bytes, w32}
use Rattle.std.specs.List.{AllByRecursion}
use Rattle.std.proofs.lemmas.List.{take-append-drop, take_all, map-append}
use Rattle.std.proofs.lemmas.Grind.{flat_map-append}
use Rattle.std.proofs.Math.Seq.{take-suc}
use Rattle.std.specs.declared.alloc.AllocError.{AllocError}
use Rattle.sha1.specs.Sha1.{sha1, digest_bytes}
use Rattle.chpw_blocks.specs.Blocks.{block, joined, IsShort, AreShort}
use Rattle.chpw_blocks.proofs.BlockLemmas.{front_same, is_one_way}
use Rattle.chpw_table.specs.declared.request.RequestId.{RequestId}
use Rattle.chpw_resume.specs.Laws.{HasOneText}
use Rattle.chpw_resume.specs.ResumeText.{header, state_bytes, state_text, times_bytes, id_text, blocks_of, body_of, resume_text, IdFits, IsOfResume, ResumeFits}
use Rattle.chpw_resume.specs.declared.mark.JournalMark.{JournalMark}
use Rattle.chpw_resume.specs.declared.resume.Resume.{Resume}

-- ---- the checksum

pub sum_length : (m : List ℕ) → length (sha1 m) ≡ 20
unfolding sha1 digest_bytes
sum_length m = simp length-append (omega arith)

-- two lists alike whose ends are as long
back_same : (a b c d : List ℕ) → length b ≡ length d → a ++ b ≡ c ++ d → (a ≡ c) × (b ≡ d)
back_same a b c d l h =
    let n : length a + length b ≡ length c + length d = sym (length-append a b) ∙ (ap length h ∙ length-append c d) in
    front_same a b c d (omega (arith, l, n)) h

pub summed_same : (a c : List ℕ) → a ++ sha1 a ≡ c ++ sha1 c → a ≡ c
summed_same a c h = (back_same a (sha1 a) c (sha1 c) (sum_length a ∙ sym (sum_length c)) h).0

-- where the end isn't the sum of what stands before it, no text is summed so
pub unsummed : (text front end body : List ℕ) → text ≡ front ++ end → length end ≡ 20 → (end ≡ sha1 front → ⊥) → text ≡ body ++ sha1 body → ⊥
unsummed text front end body e l not h =
    let r = back_same front end body (sha1 body) (l ∙ sym (sum_length body)) (sym e ∙ h) in
    not (r.1 ∙ ap sha1 (sym r.0))

pub too_short : (text body : List ℕ) → length text < 20 → text ≡ body ++ sha1 body → ⊥
too_short text body l h = omega (arith, l, ap length h, length-append body (sha1 body), sum_length body)

-- ---- the first line

pub header_same : (a b : List ℕ) → header ++ a ≡ header ++ b → a ≡ b
header_same a b h = (front_same header a header b refl h).1

pub other_line : (text line rest more : List ℕ) → length line ≡ 19 → text ≡ line ++ rest → (line ≡ header → ⊥) → text ≡ header ++ more → ⊥
other_line text line rest more l e not h = not (front_same line rest header more l (sym e ∙ h)).0

pub no_line : (text more : List ℕ) → length text < 19 → text ≡ header ++ more → ⊥
no_line text more l h = omega (arith, l, ap length h, length-append header more)

-- ---- the blocks

pub state_length : (mark : JournalMark) (clock quiet_until : ℤ) → length mark.sum ≡ 20 → length (state_bytes mark clock quiet_until) ≡ 44
state_length mark clock quiet_until l = simp length-append (omega (arith, l))

pub times_length : (ctime : ℤ) (cusec : ℕ) → length (times_bytes ctime cusec) ≡ 12
times_length ctime cusec = simp length-append (omega arith)

pub ids_short : (ids : List RequestId) → AllByRecursion IdFits ids → AreShort (map id_text ids)
ids_short [] h = tt
ids_short (id ∷ ids) h = (h.0.1, ids_short ids h.1)

pub blocks_short : (r : Resume) → ResumeFits r → AreShort (blocks_of r)
blocks_short r f = (
  f.realm,
  (
    (let l = state_length r.journal r.carried.clock r.carried.quiet_until f.sum in omega (arith, l)),
    ids_short r.carried.ids f.ids,
  ),
)

pub id_blocks_short : (id : RequestId) → IdFits id → AreShort (times_bytes id.ctime id.cusec ∷ id.crealm ∷ id.client.parts)
id_blocks_short id f = ((let l = times_length id.ctime id.cusec in omega (arith, l)), f.0)

pub has_one_text : HasOneText
has_one_text r q f g h =
    is_one_way (blocks_of r) (blocks_of q) (blocks_short r f) (blocks_short q g)
    (header_same (joined (blocks_of r)) (joined (blocks_of q)) (summed_same (body_of r) (body_of q) h))

-- ---- what is put together, piece by piece

pub two : (s t a b x y : List ℕ) → s ≡ x → x ≡ a → t ≡ s ++ y → y ≡ b → t ≡ a ++ b
two s t a b x y e f g h = g ∙ (ap (λ l. l ++ y) (e ∙ f) ∙ ap (λ l. a ++ l) h)

pub four : (s t u v a b c d x y z w : List ℕ) → s ≡ x → x ≡ a → t ≡ s ++ y → y ≡ b → u ≡ t ++ z → z ≡ c → v ≡ u ++ w → w ≡ d
    → v ≡ a ++ (b ++ (c ++ d))
four s t u v a b c d x y z w e f g h i j k l =
    two u v ((a ++ b) ++ c) d u w refl (two t u (a ++ b) c t z refl (two s t a b x y e f g h) i j) k l
    ∙ (append_assoc (a ++ b) c d ∙ append_assoc a b (c ++ d))

-- ---- what is cut

pub cut_two : (n : ℕ) (text p q a b : List ℕ) → p ≡ take n text → q ≡ drop n text → p ≡ a → q ≡ b → text ≡ a ++ b
cut_two n text p q a b e f g h =
    sym (take-append-drop n text) ∙ (ap (λ l. l ++ drop n text) (sym e ∙ g) ∙ ap (λ l. a ++ l) (sym f ∙ h))

-- an id's blocks
pub id_same : (text : List ℕ) (blocks : List (List ℕ)) (id : RequestId) → IdFits id → AreShort blocks → text ≡ joined blocks → text ≡ id_text id
    → blocks ≡ times_bytes id.ctime id.cusec ∷ id.crealm ∷ id.client.parts
id_same text blocks id f s e h = is_one_way blocks (times_bytes id.ctime id.cusec ∷ id.crealm ∷ id.client.parts) s (id_blocks_short id f) (sym e ∙ h)

-- ---- ids, one by one

pub ids_more : (texts : List (List ℕ)) (i : ℕ) (ids : List RequestId) (id : RequestId) (text : List ℕ) → i < length texts → text ≡ get_or texts i text
    → take i texts ≡ map id_text ids → text ≡ id_text id → take (i + 1) texts ≡ map id_text (ids ++ id ∷ [])
ids_more texts i ids id text within item inv e =
    ap (λ n. take n texts) (add-one i)
    ∙ (take-suc texts i text within
    ∙ (ap (λ t. take i texts ++ t ∷ []) (sym item)
    ∙ (ap (λ l. l ++ text ∷ []) inv
    ∙ (ap (λ t. map id_text ids ++ t ∷ []) e ∙ sym (map-append id_text ids (id ∷ []))))))

pub fits_more : (ids : List RequestId) (id : RequestId) → AllByRecursion IdFits ids → IdFits id → AllByRecursion IdFits (ids ++ id ∷ [])
fits_more [] id h f = (f, tt)
fits_more (x ∷ xs) id h f = (h.0, fits_more xs id h.1 f)

pub short_at : (texts : List (List ℕ)) (i : ℕ) (text : List ℕ) → AreShort texts → i < length texts → text ≡ get_or texts i text → IsShort text
short_at [] i text s h e = absurd (omega (arith, h))
short_at (t ∷ ts) zero text s h e = subst IsShort (sym e) s.0
short_at (t ∷ ts) (suc i) text s h e = short_at ts i text s.1 (omega (arith, h)) e

pub at_map : (ids : List RequestId) (i : ℕ) (text : List ℕ) → AllByRecursion IdFits ids → i < length (map id_text ids)
    → text ≡ get_or (map id_text ids) i text → (id : RequestId) × IdFits id × (text ≡ id_text id)
at_map [] i text f h e = absurd (omega (arith, h))
at_map (id ∷ ids) zero text f h e = (id, f.0, e)
at_map (id ∷ ids) (suc i) text f h e = at_map ids i text f.1 (omega (arith, h)) e

pub none_at : (texts : List (List ℕ)) (i : ℕ) (text : List ℕ) (ids : List RequestId) → i < length texts → text ≡ get_or texts i text
    → ((id : RequestId) → IdFits id → text ≡ id_text id → ⊥) → AllByRecursion IdFits ids → texts ≡ map id_text ids → ⊥
none_at texts i text ids within item none f e =
    let m = at_map ids i text f (subst (λ l. i < length l) e within) (item ∙ ap (λ l. get_or l i text) e) in
    none m.0 m.1 m.2

-- ---- the whole

pub rest_of_body : (r : Resume) (body rest : List ℕ) → body ≡ header ++ rest → body ≡ body_of r → rest ≡ joined (blocks_of r)
rest_of_body r body rest e h = header_same rest (joined (blocks_of r)) (sym e ∙ h)

pub blocks_of_body : (r : Resume) (body rest : List ℕ) (items : List (List ℕ)) → ResumeFits r → body ≡ header ++ rest → AreShort items → rest ≡ joined items
    → body ≡ body_of r → items ≡ blocks_of r
blocks_of_body r body rest items f e s j h =
    is_one_way items (blocks_of r) s (blocks_short r f) (sym j ∙ rest_of_body r body rest e h)

pub few_blocks : (r : Resume) (items : List (List ℕ)) → length items < 2 → items ≡ blocks_of r → ⊥
few_blocks r items l e = omega (arith, l, ap length e)

-- a list by its first two and the others
pub split_two : (xs : List (List ℕ)) (a b s : List ℕ) → 2 ≤ length xs → a ≡ get_or xs 0 a → s ≡ get_or xs 1 s → b ≡ s
    → xs ≡ a ∷ b ∷ take (length xs - 2) (drop 2 xs)
split_two [] a b s l e f g = absurd (omega (arith, l))
split_two (x ∷ []) a b s l e f g = absurd (omega (arith, l))
split_two (x ∷ y ∷ zs) a b s l e f g =
    let t : take (length (x ∷ y ∷ zs) - 2) zs ≡ zs = take_all (length (x ∷ y ∷ zs) - 2) zs (omega arith) in
    ap (λ u. u ∷ y ∷ zs) (sym e) ∙ (ap (λ u. a ∷ u ∷ zs) (sym (g ∙ f)) ∙ ap (λ u. a ∷ b ∷ u) (sym t))

found_in : (body rest : List ℕ) (items parts : List (List ℕ)) (found : Option Resume) → body ≡ header ++ rest → AreShort items → rest ≡ joined items
    → items ≡ parts → IsOfResume (λ r. blocks_of r ≡ parts) found → IsOfResume (λ r. body ≡ body_of r) found
found_in body rest items parts None e s j p h = λ r f b. h r f (sym (blocks_of_body r body rest items f e s j b) ∙ p)
found_in body rest items parts (Some r) e s j p h = (h.0, e ∙ (ap (λ t. header ++ t) j ∙ ap (λ bs. header ++ joined bs) (p ∙ sym h.1)))

pub body_found : (body rest : List ℕ) (items parts : List (List ℕ)) (found : Result (Option Resume) AllocError) → body ≡ header ++ rest → AreShort items
    → rest ≡ joined items → items ≡ parts → IfOk found (IsOfResume (λ r. blocks_of r ≡ parts)) → IfOk found (IsOfResume (λ r. body ≡ body_of r))
body_found body rest items parts (Ok found) e s j p h = found_in body rest items parts found e s j p h
body_found body rest items parts (Err fault) e s j p h = tt

pub none_resumed : (r : Resume) (text : List ℕ) → ((rest : List ℕ) → text ≡ header ++ rest → ⊥) → text ≡ resume_text r → ⊥
none_resumed r text none h =
    none (joined (blocks_of r) ++ sha1 (body_of r)) (h ∙ append_assoc header (joined (blocks_of r)) (sha1 (body_of r)))

pub body_of_text : (r : Resume) (text body : List ℕ) → text ≡ body ++ sha1 body → text ≡ resume_text r → body ≡ body_of r
body_of_text r text body e h = summed_same body (body_of r) (sym e ∙ h)

pub text_of_body : (r : Resume) (text body : List ℕ) → text ≡ body ++ sha1 body → body ≡ body_of r → text ≡ resume_text r
text_of_body r text body e h = e ∙ ap (λ b. b ++ sha1 b) h

-- ---- what is written, block by block

pub block_more : (text new : List ℕ) (bs : List (List ℕ)) (b : List ℕ) → text ≡ joined bs → new ≡ text ++ block b → new ≡ joined (bs ++ b ∷ [])
block_more text new bs b e h =
    h ∙ (ap (λ t. t ++ block b) e ∙ (ap (λ t. joined bs ++ t) (sym (append-nil (block b))) ∙ sym (flat_map-append block bs (b ∷ []))))

pub id_more : (text new : List ℕ) (x y : List ℕ) (ids : List RequestId) (i : ℕ) (id : RequestId) → i < length ids → id ≡ get_or ids i id
    → text ≡ header ++ joined (x ∷ y ∷ map id_text (take i ids)) → new ≡ text ++ block (id_text id)
    → new ≡ header ++ joined (x ∷ y ∷ map id_text (take (i + 1) ids))
id_more text new x y ids i id within item e h =
    let more : map id_text (take (i + 1) ids) ≡ map id_text (take i ids) ++ id_text id ∷ [] =
    ap (λ n. map id_text (take n ids)) (add-one i)
    ∙ (ap (map id_text) (take-suc ids i id within)
    ∙ (map-append id_text (take i ids) (get_or ids i id ∷ []) ∙ ap (λ z. map id_text (take i ids) ++ id_text z ∷ []) (sym item))) in
    let b = block (id_text id) in
    let bs = x ∷ y ∷ map id_text (take i ids) in
    h ∙ (ap (λ t. t ++ b) e ∙ (append_assoc header (joined bs) b
    ∙ (ap (λ t. header ++ t) (block_more (joined bs) (joined bs ++ b) bs (id_text id) refl refl)
    ∙ ap (λ l. header ++ joined (x ∷ y ∷ l)) (sym more))))

-- ---- what is too long

first_longer : (n : ℕ) (b : List ℕ) (bs : List (List ℕ)) → n < length b → n < length (joined (b ∷ bs))
first_longer n b bs h = let l = length-append (block b) (joined bs) in let k = length-append (to_be_bytes w32 (length b)) b in omega (arith, h, l, k)

later_longer : (n : ℕ) (b : List ℕ) (bs : List (List ℕ)) → n < length (joined bs) → n < length (joined (b ∷ bs))
later_longer n b bs h = let l = length-append (block b) (joined bs) in omega (arith, h, l)

-- blocks are no shorter than one of them
pub longer_at : (n : ℕ) (bs : List (List ℕ)) (i : ℕ) (b : List ℕ) → i < length bs → b ≡ get_or bs i b → n < length b → n < length (joined bs)
longer_at n [] i b within item h = absurd (omega (arith, within))
longer_at n (x ∷ bs) zero b within item h = first_longer n x bs (subst (λ y. n < length y) item h)
longer_at n (x ∷ bs) (suc i) b within item h = later_longer n x bs (longer_at n bs i b (omega (arith, within)) item h)

pub longer_part : (n : ℕ) (id : RequestId) (i : ℕ) (part : List ℕ) → i < length id.client.parts → part ≡ get_or id.client.parts i part → n < length part
    → n < length (id_text id)
longer_part n id i part within item h =
    later_longer n (times_bytes id.ctime id.cusec) (id.crealm ∷ id.client.parts)
    (later_longer n id.crealm id.client.parts (longer_at n id.client.parts i part within item h))

-- a text is longer than its blocks
longer_text : (n : ℕ) (r : Resume) → n < length (joined (blocks_of r)) → n < length (resume_text r)
longer_text n r h =
    let l = length-append (body_of r) (sha1 (body_of r)) in
    let k = length-append header (joined (blocks_of r)) in
    omega (arith, h, l, k)

ids_longer : (n : ℕ) (ids : List RequestId) (i : ℕ) (id : RequestId) → i < length ids → id ≡ get_or ids i id → n < length (id_text id)
    → n < length (joined (map id_text ids))
ids_longer n [] i id within item h = absurd (omega (arith, within))
ids_longer n (x ∷ ids) zero id within item h = first_longer n (id_text x) (map id_text ids) (subst (λ (y : RequestId). n < length (id_text y)) item h)
ids_longer n (x ∷ ids) (suc i) id within item h =
    later_longer n (id_text x) (map id_text ids) (ids_longer n ids i id (omega (arith, within)) item h)

pub text_longer_id : (n : ℕ) (r : Resume) (i : ℕ) (id : RequestId) → i < length r.carried.ids → id ≡ get_or r.carried.ids i id → n < length (id_text id)
    → n < length (resume_text r)
text_longer_id n r i id within item h =
    longer_text n r (later_longer n r.realm (state_text r ∷ map id_text r.carried.ids)
    (later_longer n (state_text r) (map id_text r.carried.ids) (ids_longer n r.carried.ids i id within item h)))

pub text_whole : (r : Resume) (text new sum d : List ℕ) (i : ℕ) → length r.carried.ids ≤ i
    → text ≡ header ++ joined (r.realm ∷ state_text r ∷ map id_text (take i r.carried.ids)) → d ≡ text → sum ≡ sha1 d → new ≡ text ++ sum
    → new ≡ resume_text r
text_whole r text new sum d i l inv e h k =
    let body : text ≡ body_of r =
    inv ∙ ap (λ ids. header ++ joined (r.realm ∷ state_text r ∷ map id_text ids)) (take_all i r.carried.ids l) in
    k ∙ (ap (λ s. text ++ s) (h ∙ ap sha1 e) ∙ ap (λ b. b ++ sha1 b) body)

pub apart : (b : Bool) → b ≡ true → b ≡ false → ⊥
apart b u v = cc
