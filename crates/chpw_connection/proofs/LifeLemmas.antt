-- Whatever happens to a connection, its messages and replies stay in order.
use Rattle.std.proofs.Common.{◌≡◌, ℕ, ◌+◌, ◌<◌, ◌≤◌, List, [], ◌∷◌, ◌++◌, length, take, drop, sym, ◌∙◌, ap, subst, refl, arith, Bool, true, false, ◌==◌, cond}
use Rattle.std.proofs.Common.{append_assoc}
use Rattle.std.proofs.Math.Logic.{⊎_elim}
use Rattle.std.proofs.lemmas.Bool.{cases_lt}
use Rattle.std.proofs.lemmas.Bool.Decides.{nat_tests}
use Rattle.std.proofs.lemmas.List.{take-append-drop, length-append, append-nil, map-append, nil_from_length}
use Rattle.std.proofs.lemmas.List.Elements.{All-append, All-cons}
use Rattle.chpw_connection.specs.Messages.{wanted_after, IsPiece}
use Rattle.chpw_connection.specs.Stages.{Stage, reading, queued, answering, confirming, writing, lingering, abandoned, ended, Event, came, taken, replied}
use Rattle.chpw_connection.specs.Stages.{deferred, unanswered, released, wrote, closed, failed, received, read_to, written_to, is_over, is_last_reply}
use Rattle.chpw_connection.specs.Lives.{Life, accepted, behind, life, joined, messages_of, replies_of, IsOrderly, Orderly}
use Rattle.chpw_connection.proofs.PieceLemmas.{piece_is_whole}
use Rattle.chpw_connection.proofs.CountLemmas.{joined-append, as_many, none_is_few, one_is_few, bool_cases}

-- what waits is a whole message, and what is read isn't yet
abbrev IsWaiting : Stage → Type 0
IsWaiting (reading bytes) = 0 < wanted_after bytes
IsWaiting (queued message) = IsPiece message
IsWaiting stage = Unit {0}

-- a connection that goes on counts its replies
abbrev IsCounted : Stage → ℕ → ℕ → Type 0
IsCounted (confirming reply last ticket) count replies = last ≡ false → count ≡ replies
IsCounted (writing left last) count replies = last ≡ false → count ≡ replies
IsCounted lingering count replies = Unit {0}
IsCounted abandoned count replies = Unit {0}
IsCounted ended count replies = Unit {0}
IsCounted stage count replies = count ≡ replies

record Holds (l : Life) : Type 0 where
  orderly : IsOrderly l
  waiting : IsWaiting l.stage
  counted : IsCounted l.stage l.count (length l.turns)
  small : l.count ≤ 65535

abbrev pub made : List ℕ → List (List ℕ) → List (List ℕ × List ℕ) → List ℕ → ℕ → Stage → Life
made c h r w n s = record { came = c; handed = h; turns = r; written = w; count = n; stage = s }

-- nothing came of it
same : (c : List ℕ) (h : List (List ℕ)) (r : List (List ℕ × List ℕ)) (w : List ℕ) (n : ℕ) (s : Stage) → Holds (made c h r w n s)
    → Holds (made (c ++ []) (h ++ []) (r ++ []) (w ++ []) n s)
same c h r w n s o =
    rw (append-nil c, append-nil h, append-nil r, append-nil w) o

-- a fact for either place after more bytes
read_cases : (P : Stage → Type 0) (all : List ℕ) → (wanted_after all ≡ 0 → P (queued all)) → (0 < wanted_after all → P (reading all)) → P (read_to all)
read_cases P all whole part =
    ⊎_elim
    (λ (some : 0 < wanted_after all). let e : (wanted_after all == 0) ≡ false = grind (arith, nat_tests) in
    subst (λ (t : Bool). P (cond t (queued all) (reading all))) (sym e) (part some))
    (λ (none : wanted_after all ≤ 0). let zero : wanted_after all ≡ 0 = omega arith in
    let e : (wanted_after all == 0) ≡ true = grind (arith, nat_tests) in
    subst (λ (t : Bool). P (cond t (queued all) (reading all))) (sym e) (whole zero))
    (cases_lt 0 (wanted_after all))

-- more bytes of a message
reads : (c : List ℕ) (h : List (List ℕ)) (r : List (List ℕ × List ℕ)) (w : List ℕ) (n : ℕ) (b more : List ℕ) → Holds (made c h r w n (reading b))
    → Holds (made (c ++ received b more) (h ++ []) (r ++ []) (w ++ []) n (read_to (b ++ received b more)))
reads c h r w n b more o =
    let part = received b more in
    let all = b ++ part in
    let p = o.orderly in
    let messages : c ++ part ≡ joined h ++ all =
    ap (λ (l : List ℕ). l ++ part) (p.messages ∙ ap (λ (l : List ℕ). joined h ++ l) p.held) ∙ append_assoc (joined h) b part in
    let P : Stage → Type 0 = λ s. Holds (made (c ++ part) h r w n s) in
    let step : P (read_to all) = read_cases P all
    (λ none. record {
      orderly = record {
        rest = all;
        messages = messages;
        held = refl;
        pieces = p.pieces;
        left = p.left;
        replies = p.replies;
        unwritten = p.unwritten;
        unreplied = p.unreplied;
        turns = p.turns;
        answered = p.answered;
        few = p.few;
      };
      waiting = piece_is_whole b more o.waiting none;
      counted = o.counted;
      small = o.small;
    })
    (λ some. record {
      orderly = record {
        rest = all;
        messages = messages;
        held = refl;
        pieces = p.pieces;
        left = p.left;
        replies = p.replies;
        unwritten = p.unwritten;
        unreplied = p.unreplied;
        turns = p.turns;
        answered = p.answered;
        few = p.few;
      };
      waiting = some;
      counted = o.counted;
      small = o.small;
    }) in
    rw (append-nil h, append-nil r, append-nil w) step

-- a message goes to a worker
takes : (c : List ℕ) (h : List (List ℕ)) (r : List (List ℕ × List ℕ)) (w : List ℕ) (n : ℕ) (m : List ℕ) → Holds (made c h r w n (queued m))
    → Holds (made (c ++ []) (h ++ m ∷ []) (r ++ []) (w ++ []) n (answering m))
takes c h r w n m o =
    let p = o.orderly in
    let len : length (h ++ m ∷ []) ≡ length h + 1 = length-append h (m ∷ []) in
    let none : length p.unreplied ≡ 0 = ap length p.answered in
    let step : Holds (made c (h ++ m ∷ []) r w n (answering m)) = record {
      orderly = record {
        rest = [];
        messages = p.messages ∙ (ap (λ (l : List ℕ). joined h ++ l) (p.held ∙ sym (append-nil m))
            ∙ (sym (joined-append h (m ∷ [])) ∙ sym (append-nil (joined (h ++ m ∷ [])))));
        held = refl;
        pieces = All-append IsPiece h (m ∷ []) p.pieces (All-cons IsPiece m [] o.waiting (λ k d lt. absurd (omega arith)));
        left = p.left;
        replies = p.replies;
        unwritten = p.unwritten;
        unreplied = m ∷ [];
        turns = ap (λ (l : List (List ℕ)). l ++ m ∷ [])
            (p.turns ∙ (ap (λ (l : List (List ℕ)). messages_of r ++ l) p.answered ∙ append-nil (messages_of r)));
        answered = refl;
        few = (let a = as_many h r p.unreplied p.turns in let k = o.counted in let l = o.small in omega arith);
      };
      waiting = tt;
      counted = o.counted;
      small = o.small;
    } in
    rw (append-nil c, append-nil r, append-nil w) step

-- either value of a test
-- after a reply that isn't the last
below_last : (n : ℕ) (last : Bool) → is_last_reply n last ≡ false → n + 1 ≤ 65535
below_last n true is = absurd cc
below_last n false is = grind (arith, nat_tests)

-- a worker replied
replies_to : (c : List ℕ) (h : List (List ℕ)) (r : List (List ℕ × List ℕ)) (w : List ℕ) (n : ℕ) (m reply : List ℕ) (last : Bool)
    → Holds (made c h r w n (answering m))
    → Holds (made (c ++ []) (h ++ []) (r ++ (m, reply) ∷ []) (w ++ [])
    (cond (is_last_reply n last) n (n + 1)) (writing reply (is_last_reply n last)))
replies_to c h r w n m reply last o =
    let p = o.orderly in
    let turn : List (List ℕ × List ℕ) = (m, reply) ∷ [] in
    let len : length (r ++ turn) ≡ length r + 1 = length-append r turn in
    let front : joined (replies_of r) ≡ w = p.replies ∙ (ap (λ (l : List ℕ). w ++ l) p.unwritten ∙ append-nil w) in
    let replied_is : joined (replies_of (r ++ turn)) ≡ w ++ reply =
    ap joined (map-append (λ (t : List ℕ × List ℕ). t.1) r turn) ∙ (joined-append (replies_of r) (reply ∷ [])
    ∙ (ap (λ (l : List ℕ). joined (replies_of r) ++ l) (append-nil reply) ∙ ap (λ (l : List ℕ). l ++ reply) front)) in
    let turns_are : h ≡ messages_of (r ++ turn) ++ [] =
    p.turns ∙ (ap (λ (l : List (List ℕ)). messages_of r ++ l) p.answered
    ∙ (sym (map-append (λ (t : List ℕ × List ℕ). t.0) r turn) ∙ sym (append-nil (messages_of (r ++ turn))))) in
    let orderly : (flag : Bool) (k : ℕ) → IsOrderly (made c h (r ++ turn) w k (writing reply flag)) = λ flag k. record {
      rest = p.rest;
      messages = p.messages;
      held = p.held;
      pieces = p.pieces;
      left = reply;
      replies = replied_is;
      unwritten = refl;
      unreplied = [];
      turns = turns_are;
      answered = refl;
      few = p.few;
    } in
    let P : Bool → Type 0 = λ flag. Holds (made c h (r ++ turn) w (cond flag n (n + 1)) (writing reply flag)) in
    let step : P (is_last_reply n last) = bool_cases P (is_last_reply n last)
    (λ is. record { orderly = orderly true n; waiting = tt; counted = (λ not. absurd (cc)); small = o.small })
    (λ is. record {
      orderly = orderly false (n + 1);
      waiting = tt;
      counted = (λ not. ap (λ (k : ℕ). k + 1) o.counted ∙ sym len);
      small = below_last n last is;
    }) in
    rw (append-nil c, append-nil h, append-nil w) step

-- what is said of a reply that isn't confirmed is said of one of which nothing is written
waits_as : (c : List ℕ) (h : List (List ℕ)) (r : List (List ℕ × List ℕ)) (w : List ℕ) (n : ℕ) (reply : List ℕ) (last : Bool) (ticket : ℕ)
    → Holds (made c h r w n (writing reply last))
    → Holds (made c h r w n (confirming reply last ticket))
waits_as c h r w n reply last ticket o =
    let p = o.orderly in
    record {
      orderly = record {
        rest = p.rest;
        messages = p.messages;
        held = p.held;
        pieces = p.pieces;
        left = p.left;
        replies = p.replies;
        unwritten = p.unwritten;
        unreplied = p.unreplied;
        turns = p.turns;
        answered = p.answered;
        few = p.few;
      };
      waiting = tt;
      counted = o.counted;
      small = o.small;
    }

written_as : (c : List ℕ) (h : List (List ℕ)) (r : List (List ℕ × List ℕ)) (w : List ℕ) (n : ℕ) (reply : List ℕ) (last : Bool) (ticket : ℕ)
    → Holds (made c h r w n (confirming reply last ticket)) → Holds (made c h r w n (writing reply last))
written_as c h r w n reply last ticket o =
    let p = o.orderly in
    record {
      orderly = record {
        rest = p.rest;
        messages = p.messages;
        held = p.held;
        pieces = p.pieces;
        left = p.left;
        replies = p.replies;
        unwritten = p.unwritten;
        unreplied = p.unreplied;
        turns = p.turns;
        answered = p.answered;
        few = p.few;
      };
      waiting = tt;
      counted = o.counted;
      small = o.small;
    }

-- a worker's reply is deferred
defers_to : (c : List ℕ) (h : List (List ℕ)) (r : List (List ℕ × List ℕ)) (w : List ℕ) (n : ℕ) (m reply : List ℕ) (last : Bool) (ticket : ℕ)
    → Holds (made c h r w n (answering m))
    → Holds (made (c ++ []) (h ++ []) (r ++ (m, reply) ∷ []) (w ++ [])
    (cond (is_last_reply n last) n (n + 1)) (confirming reply (is_last_reply n last) ticket))
defers_to c h r w n m reply last ticket o =
    waits_as (c ++ []) (h ++ []) (r ++ (m, reply) ∷ []) (w ++ []) (cond (is_last_reply n last) n (n + 1)) reply (is_last_reply n last) ticket
    (replies_to c h r w n m reply last o)

-- and released
releases : (c : List ℕ) (h : List (List ℕ)) (r : List (List ℕ × List ℕ)) (w : List ℕ) (n : ℕ) (reply : List ℕ) (last : Bool) (ticket : ℕ)
    → Holds (made c h r w n (confirming reply last ticket)) → Holds (made (c ++ []) (h ++ []) (r ++ []) (w ++ []) n (writing reply last))
releases c h r w n reply last ticket o = same c h r w n (writing reply last) (written_as c h r w n reply last ticket o)

-- bytes of the reply went out
writes : (c : List ℕ) (h : List (List ℕ)) (r : List (List ℕ × List ℕ)) (w : List ℕ) (n : ℕ) (left : List ℕ) (last : Bool) (k : ℕ)
    → Holds (made c h r w n (writing left last))
    → Holds (made (c ++ []) (h ++ []) (r ++ []) (w ++ take k left) n (written_to (drop k left) last))
writes c h r w n left last k o =
    let p = o.orderly in
    let out : joined (replies_of r) ≡ (w ++ take k left) ++ drop k left =
    p.replies ∙ (ap (λ (l : List ℕ). w ++ l) (p.unwritten ∙ sym (take-append-drop k left)) ∙ sym (append_assoc w (take k left) (drop k left))) in
    let P : Stage → Type 0 = λ s. Holds (made c h r (w ++ take k left) n s) in
    let whole_out : is_over (drop k left) ≡ true → drop k left ≡ [] = λ is. nil_from_length (drop k left) (grind (arith, nat_tests)) in
    let step : P (written_to (drop k left) last) =
    bool_cases (λ t. P (cond t (cond last lingering (reading [])) (writing (drop k left) last)))
    (is_over (drop k left))
    (λ is. bool_cases (λ t. (t ≡ false → n ≡ length r) → P (cond t lingering (reading []))) last
    (λ ends count. record {
      orderly = record {
        rest = p.rest;
        messages = p.messages;
        held = p.held;
        pieces = p.pieces;
        left = [];
        replies = out ∙ ap (λ (l : List ℕ). (w ++ take k left) ++ l) (whole_out is);
        unwritten = refl;
        unreplied = p.unreplied;
        turns = p.turns;
        answered = none_is_few p.unreplied p.answered;
        few = p.few;
      };
      waiting = tt;
      counted = tt;
      small = o.small;
    })
    (λ goes count. record {
      orderly = record {
        rest = p.rest;
        messages = p.messages;
        held = p.held;
        pieces = p.pieces;
        left = [];
        replies = out ∙ ap (λ (l : List ℕ). (w ++ take k left) ++ l) (whole_out is);
        unwritten = refl;
        unreplied = p.unreplied;
        turns = p.turns;
        answered = p.answered;
        few = p.few;
      };
      waiting = omega arith;
      counted = count refl;
      small = o.small;
    })
    o.counted)
    (λ not. record {
      orderly = record {
        rest = p.rest;
        messages = p.messages;
        held = p.held;
        pieces = p.pieces;
        left = drop k left;
        replies = out;
        unwritten = refl;
        unreplied = p.unreplied;
        turns = p.turns;
        answered = p.answered;
        few = p.few;
      };
      waiting = tt;
      counted = o.counted;
      small = o.small;
    }) in
    rw (append-nil c, append-nil h, append-nil r) step

-- it ends, with what it holds
ends : (c : List ℕ) (h : List (List ℕ)) (r : List (List ℕ × List ℕ)) (w : List ℕ) (n : ℕ) (s : Stage) (o : Holds (made c h r w n s))
    → length o.orderly.unreplied ≤ 1
    → Holds (made (c ++ []) (h ++ []) (r ++ []) (w ++ []) n ended)
ends c h r w n s o one =
    let p = o.orderly in
    let step : Holds (made c h r w n ended) = record {
      orderly = record {
        rest = p.rest;
        messages = p.messages;
        held = tt;
        pieces = p.pieces;
        left = p.left;
        replies = p.replies;
        unwritten = tt;
        unreplied = p.unreplied;
        turns = p.turns;
        answered = one;
        few = p.few;
      };
      waiting = tt;
      counted = tt;
      small = o.small;
    } in
    rw (append-nil c, append-nil h, append-nil r, append-nil w) step

-- it is gone while its message is answered
leaves : (c : List ℕ) (h : List (List ℕ)) (r : List (List ℕ × List ℕ)) (w : List ℕ) (n : ℕ) (m : List ℕ)
    → Holds (made c h r w n (answering m))
    → Holds (made (c ++ []) (h ++ []) (r ++ []) (w ++ []) n abandoned)
leaves c h r w n m o =
    let p = o.orderly in
    let step : Holds (made c h r w n abandoned) = record {
      orderly = record {
        rest = p.rest;
        messages = p.messages;
        held = tt;
        pieces = p.pieces;
        left = p.left;
        replies = p.replies;
        unwritten = tt;
        unreplied = p.unreplied;
        turns = p.turns;
        answered = ap length p.answered;
        few = p.few;
      };
      waiting = tt;
      counted = tt;
      small = o.small;
    } in
    rw (append-nil c, append-nil h, append-nil r, append-nil w) step

-- its worker had no reply
lingers : (c : List ℕ) (h : List (List ℕ)) (r : List (List ℕ × List ℕ)) (w : List ℕ) (n : ℕ) (m : List ℕ)
    → Holds (made c h r w n (answering m))
    → Holds (made (c ++ []) (h ++ []) (r ++ []) (w ++ []) n lingering)
lingers c h r w n m o =
    let p = o.orderly in
    let step : Holds (made c h r w n lingering) = record {
      orderly = record {
        rest = p.rest;
        messages = p.messages;
        held = p.held;
        pieces = p.pieces;
        left = p.left;
        replies = p.replies;
        unwritten = p.unwritten;
        unreplied = p.unreplied;
        turns = p.turns;
        answered = one_is_few p.unreplied m p.answered;
        few = p.few;
      };
      waiting = tt;
      counted = tt;
      small = o.small;
    } in
    rw (append-nil c, append-nil h, append-nil r, append-nil w) step

-- each event keeps it
keeps_at : (c : List ℕ) (h : List (List ℕ)) (r : List (List ℕ × List ℕ)) (w : List ℕ) (n : ℕ) (s : Stage) (e : Event) → Holds (made c h r w n s)
    → Holds (behind (made c h r w n s) e)
keeps_at c h r w n (reading b) (came more) o = reads c h r w n b more o
keeps_at c h r w n (reading b) closed o = ends c h r w n (reading b) o (none_is_few o.orderly.unreplied o.orderly.answered)
keeps_at c h r w n (reading b) failed o = ends c h r w n (reading b) o (none_is_few o.orderly.unreplied o.orderly.answered)
keeps_at c h r w n (reading b) taken o = same c h r w n (reading b) o
keeps_at c h r w n (reading b) (replied reply last) o = same c h r w n (reading b) o
keeps_at c h r w n (reading b) (deferred reply last ticket) o = same c h r w n (reading b) o
keeps_at c h r w n (reading b) unanswered o = same c h r w n (reading b) o
keeps_at c h r w n (reading b) released o = same c h r w n (reading b) o
keeps_at c h r w n (reading b) (wrote k) o = same c h r w n (reading b) o
keeps_at c h r w n (queued m) taken o = takes c h r w n m o
keeps_at c h r w n (queued m) failed o = ends c h r w n (queued m) o (none_is_few o.orderly.unreplied o.orderly.answered)
keeps_at c h r w n (queued m) (came more) o = same c h r w n (queued m) o
keeps_at c h r w n (queued m) closed o = same c h r w n (queued m) o
keeps_at c h r w n (queued m) (replied reply last) o = same c h r w n (queued m) o
keeps_at c h r w n (queued m) (deferred reply last ticket) o = same c h r w n (queued m) o
keeps_at c h r w n (queued m) unanswered o = same c h r w n (queued m) o
keeps_at c h r w n (queued m) released o = same c h r w n (queued m) o
keeps_at c h r w n (queued m) (wrote k) o = same c h r w n (queued m) o
keeps_at c h r w n (answering m) (replied reply last) o = replies_to c h r w n m reply last o
keeps_at c h r w n (answering m) (deferred reply last ticket) o = defers_to c h r w n m reply last ticket o
keeps_at c h r w n (answering m) unanswered o = lingers c h r w n m o
keeps_at c h r w n (answering m) released o = same c h r w n (answering m) o
keeps_at c h r w n (answering m) failed o = leaves c h r w n m o
keeps_at c h r w n (answering m) (came more) o = same c h r w n (answering m) o
keeps_at c h r w n (answering m) closed o = same c h r w n (answering m) o
keeps_at c h r w n (answering m) taken o = same c h r w n (answering m) o
keeps_at c h r w n (answering m) (wrote k) o = same c h r w n (answering m) o
keeps_at c h r w n (confirming reply last ticket) released o = releases c h r w n reply last ticket o
keeps_at c h r w n (confirming reply last ticket) failed o =
    ends c h r w n (confirming reply last ticket) o (none_is_few o.orderly.unreplied o.orderly.answered)
keeps_at c h r w n (confirming reply last ticket) (came more) o = same c h r w n (confirming reply last ticket) o
keeps_at c h r w n (confirming reply last ticket) closed o = same c h r w n (confirming reply last ticket) o
keeps_at c h r w n (confirming reply last ticket) taken o = same c h r w n (confirming reply last ticket) o
keeps_at c h r w n (confirming reply last ticket) (replied reply' last') o = same c h r w n (confirming reply last ticket) o
keeps_at c h r w n (confirming reply last ticket) (deferred reply' last' ticket') o = same c h r w n (confirming reply last ticket) o
keeps_at c h r w n (confirming reply last ticket) unanswered o = same c h r w n (confirming reply last ticket) o
keeps_at c h r w n (confirming reply last ticket) (wrote k) o = same c h r w n (confirming reply last ticket) o
keeps_at c h r w n (writing left last) (wrote k) o = writes c h r w n left last k o
keeps_at c h r w n (writing left last) failed o = ends c h r w n (writing left last) o (none_is_few o.orderly.unreplied o.orderly.answered)
keeps_at c h r w n (writing left last) (came more) o = same c h r w n (writing left last) o
keeps_at c h r w n (writing left last) closed o = same c h r w n (writing left last) o
keeps_at c h r w n (writing left last) taken o = same c h r w n (writing left last) o
keeps_at c h r w n (writing left last) (replied reply last') o = same c h r w n (writing left last) o
keeps_at c h r w n (writing left last) (deferred reply last' ticket) o = same c h r w n (writing left last) o
keeps_at c h r w n (writing left last) unanswered o = same c h r w n (writing left last) o
keeps_at c h r w n (writing left last) released o = same c h r w n (writing left last) o
keeps_at c h r w n lingering closed o = ends c h r w n lingering o o.orderly.answered
keeps_at c h r w n lingering failed o = ends c h r w n lingering o o.orderly.answered
keeps_at c h r w n lingering (came more) o = same c h r w n lingering o
keeps_at c h r w n lingering taken o = same c h r w n lingering o
keeps_at c h r w n lingering (replied reply last) o = same c h r w n lingering o
keeps_at c h r w n lingering (deferred reply last ticket) o = same c h r w n lingering o
keeps_at c h r w n lingering unanswered o = same c h r w n lingering o
keeps_at c h r w n lingering released o = same c h r w n lingering o
keeps_at c h r w n lingering (wrote k) o = same c h r w n lingering o
keeps_at c h r w n abandoned (replied reply last) o = ends c h r w n abandoned o (let a = o.orderly.answered in omega arith)
keeps_at c h r w n abandoned (deferred reply last ticket) o = ends c h r w n abandoned o (let a = o.orderly.answered in omega arith)
keeps_at c h r w n abandoned unanswered o = ends c h r w n abandoned o (let a = o.orderly.answered in omega arith)
keeps_at c h r w n abandoned released o = same c h r w n abandoned o
keeps_at c h r w n abandoned (came more) o = same c h r w n abandoned o
keeps_at c h r w n abandoned closed o = same c h r w n abandoned o
keeps_at c h r w n abandoned taken o = same c h r w n abandoned o
keeps_at c h r w n abandoned (wrote k) o = same c h r w n abandoned o
keeps_at c h r w n abandoned failed o = same c h r w n abandoned o
keeps_at c h r w n ended (came more) o = same c h r w n ended o
keeps_at c h r w n ended closed o = same c h r w n ended o
keeps_at c h r w n ended taken o = same c h r w n ended o
keeps_at c h r w n ended (replied reply last) o = same c h r w n ended o
keeps_at c h r w n ended (deferred reply last ticket) o = same c h r w n ended o
keeps_at c h r w n ended unanswered o = same c h r w n ended o
keeps_at c h r w n ended released o = same c h r w n ended o
keeps_at c h r w n ended (wrote k) o = same c h r w n ended o
keeps_at c h r w n ended failed o = same c h r w n ended o

keeps : (l : Life) (e : Event) → Holds l → Holds (behind l e)
keeps l e o = keeps_at l.came l.handed l.turns l.written l.count l.stage e o

holds : (l : Life) (events : List Event) → Holds l → Holds (life l events)
holds l [] o = o
holds l (e ∷ es) o = holds (behind l e) es (keeps l e o)

begins : Holds accepted
begins = record {
  orderly = record {
    rest = [];
    messages = refl;
    held = refl;
    pieces = λ k d lt. absurd (omega arith);
    left = [];
    replies = refl;
    unwritten = refl;
    unreplied = [];
    turns = refl;
    answered = refl;
    few = omega arith;
  };
  waiting = omega arith;
  counted = refl;
  small = omega arith;
}

pub orderly : Orderly
orderly events = (holds accepted events begins).orderly
