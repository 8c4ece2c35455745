-- Whether the append of a request failed, from what the request's sink tells.
use Rattle.std.proofs.Common.{◌≡◌, ℕ, ◌+◌, ◌<◌, List, [], ◌∷◌, ◌++◌, length, Bool, true, false, ◌&&◌, ◌||◌}
use Rattle.std.proofs.Common.{not, if◌then◌else◌, Option, Some, None, refl, sym, ◌∙◌, ap, arith, length-append}
use Rattle.std.specs.Prelude.{option_map}
use Rattle.chpw_table.specs.declared.times.Moment.{Moment}
use Rattle.chpw_table.specs.declared.request.Opened.{Opened}
use Rattle.chpw_table.specs.declared.verdict.Verdict.{Verdict}
use Rattle.chpw_table.specs.declared.verdict.Verdict.TheVariants.{Skew, Replay, NotYet, Expired, BadPrivate}
use Rattle.chpw_table.specs.declared.verdict.Verdict.TheVariants.{BadBody, Denied, NeedInitial, Unknown, Short}
use Rattle.chpw_table.specs.declared.verdict.Verdict.TheVariants.{Classes, Reused, LastVersion, Broken, Done}
use Rattle.chpw_table.specs.State.{State}
use Rattle.chpw_table.specs.Verdicts.{is_done, is_broken}
use Rattle.chpw_table.specs.Entering.{with_append}
use Rattle.chpw_table.specs.Decision.{verdict}
use Rattle.chpw_table.specs.History.{IsDecided}
use Rattle.chpw_record.specs.declared.key.KeyRow.{KeyRow}
use Rattle.chpw_rules.specs.declared.name.Name.{Name}
use Rattle.std.specs.Int.{w16, to_be_bytes}
use Rattle.chpw_table.specs.Requests.{target_of}
use Rattle.chpw_table.specs.Step.{new_key}
use Rattle.chpw_record.specs.Records.{key_text, record_bytes}
use Rattle.chpw_table.specs.Journal.{appended}
use Rattle.chpw_table.proofs.AppendLemmas.{verdict_written}
use Rattle.chpw_commands.specs.declared.drill.sink.RequestSink.{RequestSink}

-- what the request's sink counts and tells
abbrev pub failed_of : RequestSink → ℕ
failed_of s = if s.fails then s.failed else 0

abbrev pub told_of : RequestSink → Option (List ℕ)
told_of s = if s.fails then Some [] else None

-- a record is not empty
pub not_empty : (n : ℕ) (xs ys : List ℕ) → [] ≡ xs ++ n ∷ ys → ⊥
not_empty n [] ys h = cc
not_empty n (x ∷ xs) ys h = cc

not_recorded : (b : Bool) (name : Name) (k : KeyRow) → [] ≡ (if b then record_bytes name k else []) → b ≡ false
not_recorded true name k h = absurd (not_empty 1 (to_be_bytes w16 (length (key_text 1 name k))) _ h)
not_recorded false name k h = refl

-- only a broken journal answers so where no append fails
record BrokenOnly (b : Bool) (v : Verdict) : Type 0 where
  holds : is_broken v ≡ true → b ≡ true

only : (b c : Bool) (v more : Verdict) → is_broken v ≡ false → BrokenOnly b more → BrokenOnly b (if c then v else more)
only b true v more e r = record { holds = λ h. cc }
only b false v more e r = r

only_end : (b : Bool) → BrokenOnly b (if b || false then Broken else Done)
only_end true = record { holds = λ h. refl }
only_end false = record { holds = λ h. h }

only_broken : (s : State) (now : Moment) (o : Opened) → BrokenOnly s.broken (verdict s now o false)
only_broken s now o =
    only s.broken _ Skew _ refl (only s.broken _ Replay _ refl (only s.broken _ NotYet _ refl (only s.broken _ Expired _ refl (only s.broken _ BadPrivate _ refl
    (only s.broken _ BadBody _ refl (only s.broken _ Denied _ refl
    (only s.broken _ NeedInitial _ refl (only s.broken _ Unknown _ refl (only s.broken _ Short _ refl
    (only s.broken _ Classes _ refl (only s.broken _ Reused _ refl (only s.broken _ LastVersion _ refl (only_end s.broken)))))))))))))

abbrev pub nothing : List ℕ
nothing = []

-- a sink that takes all: no append failed
pub io_taken : (b : Bool) (n : ℕ) (io : Bool) → (if b then Some nothing else None) ≡ None → (if b then n else 0) ≡ (if io then 0 + 1 else 0) → io ≡ false
io_taken true n io e h = cc
io_taken false n true e h = absurd (omega arith)
io_taken false n false e h = refl

-- a sink that fails: nothing was taken
pub io_failing : (b : Bool) (xs : List ℕ) → (if b then Some nothing else None) ≡ Some xs → [] ≡ xs
io_failing true xs e = cc
io_failing false xs e = cc

io_of_row : (s : State) (now : Moment) (o : Opened) (io : Bool) (v : Verdict)
    → IsDecided s now o io v → is_done v ≡ false → (b : Bool) → is_done (verdict s now o false) ≡ b → io ≡ b
io_of_row s now o true v d e true f = refl
io_of_row s now o false v d e false f = refl
io_of_row s now o false v d e true f = cc (d.verdict_is, ap is_done d.verdict_is)
io_of_row s now o true v d e false f =
    let same : verdict s now o true ≡ verdict s now o false = verdict_written s now o true ∙ not_written (verdict s now o false) f in
    let row : verdict s now o false ≡ Broken = sym same ∙ (sym d.verdict_is ∙ (d.append refl).0) in
    let was : s.broken ≡ true = (only_broken s now o).holds (ap is_broken row) in
    cc (was, (d.append refl).1)
  where
    not_written : (w : Verdict) → is_done w ≡ false → with_append true w ≡ w
    not_written w g = rw g refl

-- the append failed exactly where one was made and the sink fails
pub io_is : (fails io : Bool) (k : RequestSink) (s : State) (now : Moment) (o : Opened) (v : Verdict) → IsDecided s now o io v →
    failed_of k ≡ (if io then failed_of (record { fails = fails; failed = 0 }) + 1 else failed_of (record { fails = fails; failed = 0 })) →
    told_of k ≡ option_map (λ xs. xs ++ appended s o v) (told_of (record { fails = fails; failed = 0 })) →
    io ≡ (fails && is_done (verdict s now o false))
io_is false io k s now o v d h e = io_taken k.fails k.failed io e h
io_is true io k s now o v d h e =
    io_of_row s now o io v d (not_recorded (is_done v)
    (target_of o).name (new_key s o) (io_failing k.fails (appended s o v) e)) (is_done (verdict s now o false)) refl
