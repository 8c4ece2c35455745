-- What an agent answers to `list keys` (agent/README.md): the principals in its lines, or the first fault.
use Rattle.std.specs.Prelude.{◌≡◌, ◌⊎◌, ℕ, Bool, false, not, ◌&&◌, ◌==◌, nat_lt, nat_le, ◌-◌, take, slice_index_or}
use Rattle.std.specs.Prelude.{List, [], ◌∷◌, ◌++◌, length, map, codes, Option, Some, None, Result, Ok, Err}
use Rattle.std.specs.Prelude.{if◌then◌else◌}
use Rattle.std.specs.List.{list_any, slice_split}
use Rattle.chpw_rules.specs.declared.name.Name.{Name}
use Rattle.chpw_rules.specs.Names.{is_same_name}
use Rattle.chpw_kdc.specs.declared.answer.Answer.{Answer}
use Rattle.chpw_kdc.specs.declared.answer.Answer.TheVariants as answer
use Rattle.chpw_kdc.specs.declared.fault.LineFault.{LineFault}
use Rattle.chpw_kdc.specs.Lines.{answer_of}
use Rattle.chpw_import.specs.declared.kdc.fault.ListFault.{ListFault}
use Rattle.chpw_import.specs.declared.kdc.fault.ListFault.TheVariants.{NoAnswer, TooLong, CutOff, LongLine, BadLine}
use Rattle.chpw_import.specs.declared.kdc.fault.ListFault.TheVariants.{OutOfTurn, NamedTwice, WrongCount, Failed}
use Rattle.chpw_import.specs.declared.kdc.fault.ListFault.TheVariants.{Memory}
use Rattle.chpw_import.specs.declared.kdc.listing.Listed.{Listed}
use Rattle.chpw_import.specs.declared.kdc.listing.ListLine.{ListLine}
use Rattle.chpw_import.specs.declared.kdc.listing.ListLine.TheVariants.{Principal, End, Changed}

-- the fault is the defined one, or want of memory
abbrev pub IsListFault : {A : Type 0} → Result A ListFault → ListFault → Type 0
IsListFault defined fault = (fault ≡ Memory) ⊎ (defined ≡ Err fault)

-- what is defined, or want of memory
abbrev pub ListedUnlessMemory : {A : Type 0} → Result A ListFault → Result A ListFault → Type 0
ListedUnlessMemory result defined = (result ≡ Err Memory) ⊎ (result ≡ defined)

-- a step, and then those after it if it has no fault
infixl 10 ◌>>=◌
abbrev pub ◌>>=◌ : {A B : Type 0} → Result A ListFault → (A → Result B ListFault) → Result B ListFault
(Ok a) >>= next = next a
(Err fault) >>= next = Err fault

-- ---- a line

abbrev pub of_answer : Result Answer LineFault → Result ListLine ListFault
of_answer (Ok (answer.Has name kvno keys)) =
    Ok (Principal (record { name = name; found = Ok (record { kvno = kvno; keys = keys }) }))
of_answer (Ok (answer.Other name reason)) = Ok (Principal (record { name = name; found = Err reason }))
of_answer (Ok (answer.End count)) = Ok (End count)
of_answer (Ok answer.Changed) = Ok Changed
of_answer (Ok (answer.ListFailed text)) = Err Failed
of_answer (Ok _) = Err OutOfTurn
of_answer (Err fault) = Err (BadLine fault)

-- a line without its newline, with which it has at most 1,024 bytes
abbrev pub line_of : List ℕ → Result ListLine ListFault
line_of line = if nat_le 1024 (length line) then Err LongLine else of_answer (answer_of line)

-- ---- the list

abbrev pub names_in : List Listed → List Name
names_in listed = map (λ p. p.name) listed

-- no name is listed twice
abbrev pub is_new : List Listed → Name → Result (Unit {0}) ListFault
is_new before name = if list_any (is_same_name name) (names_in before) then Err NamedTwice else Ok tt

-- what was read: the principals so far, and the number of names that the end said
pub record State : Type 0 where
  pub listed : List Listed
  pub said : Option ℕ

abbrev pub start : State
start = record { listed = []; said = None }

-- nothing but `changed` follows the end
abbrev pub if_open : Option ℕ → Result State ListFault → Result State ListFault
if_open None r = r
if_open (Some said) r = Err OutOfTurn

abbrev pub after_heard : State → ListLine → Result State ListFault
after_heard s Changed = Ok s
after_heard s (End count) = if_open s.said (Ok (record s { said = Some count }))
after_heard s (Principal p) = if_open s.said (is_new s.listed p.name >>= (λ _. Ok (record s { listed = s.listed ++ p ∷ [] })))

abbrev pub after_line : State → List ℕ → Result State ListFault
after_line s line = line_of line >>= after_heard s

-- lines one after the other
abbrev pub heard_from : State → List (List ℕ) → Result State ListFault
heard_from s [] = Ok s
heard_from s (line ∷ lines) = after_line s line >>= (λ t. heard_from t lines)

-- the list has ended, with the number of its names, and nothing follows the last newline
abbrev pub if_said : Option ℕ → List Listed → List ℕ → Result (List Listed) ListFault
if_said None listed rest = Err CutOff
if_said (Some said) listed rest =
    if not (length rest == 0) then Err CutOff
    else if not (length listed == said) then Err WrongCount
    else Ok listed

abbrev pub at_end : State → List ℕ → Result (List Listed) ListFault
at_end s rest = if_said s.said s.listed rest

-- the lines are between the newlines, and the last piece behind the last of them
abbrev pub listing_of_pieces : List (List ℕ) → Result (List Listed) ListFault
listing_of_pieces pieces =
    heard_from start (take (length pieces - 1) pieces) >>= (λ s. at_end s (slice_index_or pieces (length pieces - 1) []))

abbrev pub listing_in : List ℕ → Result (List Listed) ListFault
listing_in bytes =
    if length bytes == 0 then Err NoAnswer else listing_of_pieces (slice_split (λ byte. byte == 10) bytes)

-- ---- the words of a fault

abbrev pub fault_words : ListFault → List ℕ
fault_words NoAnswer = codes "no answer: the agent serves another connection or another user"
fault_words TooLong = codes "the answer is too long"
fault_words CutOff = codes "the answer is cut off"
fault_words LongLine = codes "a line of the answer is too long"
fault_words (BadLine fault) = codes "a line of the answer can't be read"
fault_words OutOfTurn = codes "a line of the answer is out of turn"
fault_words NamedTwice = codes "a name is listed twice"
fault_words WrongCount = codes "the list has another number of names than it says"
fault_words Failed = codes "the KDC's database can't be read at the moment"
fault_words Memory = codes "memory"
