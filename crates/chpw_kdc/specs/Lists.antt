-- What one whole list does: each name in which table and KDC differ is put right, once.
use Rattle.std.specs.Prelude.{◌≡◌, ℕ, List, [], ◌∷◌, ◌++◌, map, length, Bool, true, false, Ok, None, Some, if◌then◌else◌}
use Rattle.chpw_rules.specs.declared.name.Name.{Name}
use Rattle.chpw_kdc.specs.declared.fields.KeyPair.{KeyPair}
use Rattle.chpw_kdc.specs.declared.answer.Reason.{Reason}
use Rattle.chpw_kdc.specs.declared.answer.Answer.{Answer}
use Rattle.chpw_kdc.specs.declared.answer.Answer.TheVariants as answer
use Rattle.chpw_kdc.specs.declared.judging.Judgement.{Judgement}
use Rattle.chpw_kdc.specs.declared.judging.Judgement.TheVariants as judged
use Rattle.chpw_kdc.specs.declared.put.Put.{Put}
use Rattle.chpw_kdc.specs.declared.put.UnderWay.TheVariants as asked
use Rattle.chpw_kdc.specs.declared.update.KdcUpdate.{KdcUpdate}
use Rattle.chpw_kdc.specs.declared.update.KdcUpdate.TheVariants as update
use Rattle.chpw_kdc.specs.declared.update.Notice.{Notice}
use Rattle.chpw_kdc.specs.declared.update.Notice.TheVariants.{TooManyGone}
use Rattle.chpw_kdc.specs.Mirrors.{Mirror, key_of, judgement}
use Rattle.chpw_kdc.specs.Dialogs.{State}
use Rattle.chpw_kdc.specs.Answering.{after_answer, each, is_listed, is_many, is_on_its_way, lacked_in}

-- ---- what the KDC has

-- a name with its newest version and that version's keys, or a name whose keys the agent doesn't give
pub data Row : Type 0 where
  has : Name → ℕ → KeyPair → Row
  other : Name → Reason → Row

abbrev pub name_of : Row → Name
name_of (has name kvno keys) = name
name_of (other name why) = name

abbrev pub names_of : List Row → List Name
names_of rows = map name_of rows

abbrev pub line_of : Row → Answer
line_of (has name kvno keys) = answer.Has name kvno keys
line_of (other name why) = answer.Other name why

-- the answer to `list keys`, line by line
abbrev pub lines_of : List Row → ℕ → List Answer
lines_of rows count = map line_of rows ++ answer.End count ∷ []

-- ---- what is to be done

-- none of the names before it is this row's
abbrev pub AreNew : List Name → List Row → Type 0
AreNew before [] = Unit {0}
AreNew before (row ∷ rows) = (is_listed before (name_of row) ≡ false) × AreNew (before ++ name_of row ∷ []) rows

-- what becomes of a row's name; nothing if its keys aren't told
abbrev pub judgement_of : (Name → Bool) → Mirror → Row → Judgement
judgement_of ours mirror (has name kvno keys) = judgement ours (key_of mirror name) name kvno keys
judgement_of ours mirror (other name why) = judged.Leave

-- the key that the KDC gets, unless a change's put of it is on its way already
abbrev pub put_by : List Put → ℕ → Name → Judgement → List Put
put_by ps now name judged.Leave = []
put_by ps now name (judged.Adopt key) = []
put_by ps now name (judged.Put key) =
    if is_on_its_way ps name key then [] else record { name = name; key = key; ticket = None; since = now } ∷ []

-- the key that the table gets
abbrev pub adoption_by : Name → Judgement → List KdcUpdate
adoption_by name judged.Leave = []
adoption_by name (judged.Adopt key) = update.Adopt name key ∷ []
adoption_by name (judged.Put key) = []

abbrev pub puts_for : (Name → Bool) → List Put → ℕ → Mirror → List Row → List Put
puts_for ours ps now mirror [] = []
puts_for ours ps now mirror (row ∷ rows) = put_by ps now (name_of row) (judgement_of ours mirror row) ++ puts_for ours ps now mirror rows

abbrev pub adoptions_for : (Name → Bool) → Mirror → List Row → List KdcUpdate
adoptions_for ours mirror [] = []
adoptions_for ours mirror (row ∷ rows) = adoption_by (name_of row) (judgement_of ours mirror row) ++ adoptions_for ours mirror rows

-- that so many are gone is reported, unless it was reported of the list before
abbrev pub IsManyTold : ℕ → ℕ → State → State → Type 0
IsManyTold gone of s t =
    (t.tellings.is_many_told ≡ true)
    × (s.tellings.is_many_told ≡ false → (before : List Notice) × (t.tellings.notices ≡ before ++ TooManyGone gone of ∷ []))

-- the names that the KDC lacks are asked for alone; or they are too many, which is reported
abbrev pub AskedAlone : Bool → List Name → State → State → Type 0
AskedAlone false names s t = t.gets ≡ names
AskedAlone true names s t = (t.gets ≡ s.gets) × IsManyTold (length names) (length s.mirror) s t

-- after the whole list of these rows, which was asked for at this moment
pub record IsPutRight (ours : Name → Bool) (s : State) (rows : List Row) (count : ℕ) (t : State) : Type 0 where
  -- no name is in the list twice
  pub once : AreNew [] rows
  pub mirror : t.mirror ≡ s.mirror
  -- for each row what is to be done for its name, and no more
  pub puts : t.puts ≡ s.puts ++ puts_for ours s.puts s.pace.began s.mirror rows
  pub updates : t.updates ≡ s.updates ++ adoptions_for ours s.mirror rows
  pub lacked : let names = lacked_in (names_of rows) s.mirror in AskedAlone (is_many (length names) (length s.mirror)) names s t
  pub over : t.asked ≡ None

-- ---- the law

abbrev pub ListsPutRight : Type 0
ListsPutRight =
    (ours : Name → Bool) (now : ℕ) (s t : State) (rows : List Row) (count : ℕ)
    → s.asked ≡ Some asked.List → s.listed ≡ [] → each (after_answer ours now) s (lines_of rows count) ≡ Ok t
    → IsPutRight ours s rows count t
