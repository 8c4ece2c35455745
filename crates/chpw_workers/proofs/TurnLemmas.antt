-- A message of which a worker serves the stream: what came of it.
use Rattle.std.proofs.Common.{◌≡◌, ℕ, ◌+◌, ◌-◌, List, [], ◌∷◌, ◌++◌, Bool, true, false, Option, Some, None}
use Rattle.std.proofs.Common.{sym, ◌∙◌, ap, subst, inl, inr, length, drop, arith}
use Rattle.std.specs.Prelude.{◌⊎◌}
use Rattle.std.specs.Io.KnownBytes.{Appends}
use Rattle.std.proofs.lemmas.List.{length-drop, drop_all}
use Rattle.chpw_endpoints.specs.declared.endpoints.Endpoints.{Endpoints}
use Rattle.chpw_frame.specs.Stream.{Piece, message, ended, cut_off, too_long, next_piece, after_piece, sent}
use Rattle.chpw_frame.specs.Receiving.{TakesPiece}
use Rattle.chpw_connection.specs.Messages.{IsPiece}
use Rattle.chpw_table.specs.declared.times.Moment.{Moment}
use Rattle.chpw_table.specs.declared.history.Receipt.{Receipt}
use Rattle.chpw_table.specs.Replies.{Answer}
use Rattle.chpw_serve.specs.declared.messages.Seal.{Seal}
use Rattle.chpw_serve.specs.declared.gate.Spot.{Spot}
use Rattle.chpw_serve.specs.declared.serving.Ended.{Ended}
use Rattle.chpw_serve.specs.declared.serving.Ended.TheVariants as end
use Rattle.chpw_serve.specs.Requests.{Opens, refused, opened}
use Rattle.chpw_serve.specs.Answers.{IsAnswer}
use Rattle.chpw_serve.specs.Answering.{Answering, Unanswered}
use Rattle.chpw_serve.specs.Hearing.{Heard, AreCallsUnanswered}
use Rattle.chpw_serve.specs.InTurn.{InTurn}
use Rattle.chpw_serve.specs.Serving as serving
use Rattle.chpw_serve.specs.Serving.{StreamState, Around, Answers, Serves, Refuses, IsEnd, IsServed, Leaves, StaysOtherwise, message_too_long}
use Rattle.chpw_serve.proofs.ChainLemmas.{took}
use Rattle.chpw_connections.specs.declared.taking.Reply.{Reply}
use Rattle.chpw_connections.specs.declared.taking.TakenMessage.{TakenMessage}
use Rattle.chpw_workers.specs.Replies.{IsReplyWith, IsReplyBehind}
use Rattle.chpw_connections.specs.Turns.{message_of, ends_of}
use Rattle.chpw_workers.specs.Turns.{At, at, Comes, AddsEntry}

inside : (s t : List ℕ) → Some s ≡ Some t → s ≡ t
inside s t e = cc

-- of known bytes, none at first, these were written
appended : (a b : Option (List ℕ)) (bs bytes : List ℕ) → a ≡ Some [] → b ≡ Some bytes → Appends a b bs → bytes ≡ bs
appended None b bs bytes e f h = cc
appended (Some xs) None bs bytes e f h = cc
appended (Some xs) (Some ys) bs bytes e f h =
    sym (inside ys bytes f) ∙ (h ∙ ap (λ (zs : List ℕ). zs ++ bs) (inside xs [] e))

-- a piece begins with a message, or the length of one that is too long
starts : (m : List ℕ) (p : Piece) → IsPiece m → next_piece m ≡ p → (p ≡ message (drop 4 m)) ⊎ (p ≡ too_long)
starts m p (inl h) e = inl (sym e ∙ h)
starts m p (inr h) e = inr (sym e ∙ h.0)

not_ended : (m : List ℕ) → IsPiece m → next_piece m ≡ ended → ⊥
not_ended m (inl h) e = cc
not_ended m (inr h) e = (let k = h.0 in cc)

not_cut_off : (m : List ℕ) → IsPiece m → next_piece m ≡ cut_off → ⊥
not_cut_off m (inl h) e = cc
not_cut_off m (inr h) e = (let k = h.0 in cc)

texts_same : (a b : List ℕ) → message a ≡ message b → a ≡ b
texts_same a b e = cc

-- a message is all of its piece
nothing_behind : (m text : List ℕ) → IsPiece m → next_piece m ≡ message text → after_piece (message text) m ≡ []
nothing_behind m text (inl h) e =
    let same : text ≡ drop 4 m = texts_same text (drop 4 m) (sym e ∙ h) in
    let size : length text ≡ length m - 4 = ap length same ∙ length-drop 4 m in
    drop_all (4 + length text) m (omega (arith, size))
nothing_behind m text (inr h) e = (let k = h.0 in absurd cc)

module _ {C X D G : Type 0} (error_frame : Answer → Moment → List ℕ) (private_frame : Seal → Answer → List ℕ → List ℕ)
    (may_be_full : D → List Receipt → Type 0) (gathered : D → List Receipt) (follows : D → D → Type 0) (made : D → Option ℕ → Type 0)
    (passes : G → Spot → G → Type 0) (hears : G → Heard → G → Type 0) (opens : Endpoints → List ℕ → Opens → Type 0)
    (moments : C → Moment → C → Type 0) (random : X → ℕ → X → Type 0) (taken : TakenMessage) (its_reply : Option Reply) where
  abbrev answers : List ℕ → List ℕ → Moment → D → D → G → G → List ℕ → Bool → Type 0
  answers = Answering error_frame private_frame may_be_full gathered follows made passes hears (opens (ends_of taken)) (ends_of taken).peer

  abbrev adds : List ℕ → Moment → D → D → G → G → Type 0
  adds = Unanswered gathered follows made passes hears (opens (ends_of taken)) (ends_of taken).peer

  abbrev refusal : Moment → List ℕ
  refusal now = error_frame message_too_long now

  abbrev here : D → Around C X G → At C X
  here d a = at (gathered d) a.clock a.words

  abbrev Came : D → Around C X G → D → Around C X G → Type 0
  Came d a e b = Comes moments random error_frame private_frame opens (may_be_full e) taken its_reply (here d a) (here e b)

  abbrev AddsOne : Moment → List Receipt → List Receipt → Type 0
  AddsOne now old new = (new ≡ old) ⊎ AddsEntry opens taken now old new

  -- an answer adds an entry at the most
  one_more : (full : Type 0) (text words : List ℕ) (now : Moment) (old new : List Receipt) (bytes : List ℕ)
      → next_piece (message_of taken) ≡ message text
      → IsAnswer error_frame private_frame full (opens (ends_of taken) text) words now old new bytes → AddsOne now old new
  one_more full text words now old new bytes is (refused a, o, h) = inl h.0
  one_more full text words now old new bytes is (opened q, o, inl h) = inl h.0
  one_more full text words now old new bytes is (opened q, o, inr h) =
      inr (record { text = text; request = q; counts = h.1; verdict = h.0; text_is = is; opens_so = o; adds = h.2 })

  -- and so does a message for whose answer memory ran out
  one_left : (text : List ℕ) (now : Moment) (d e : D) (calls : _) → next_piece (message_of taken) ≡ message text
      → AreCallsUnanswered (ends_of taken).peer now (made e) (gathered d) (gathered e) (opens (ends_of taken) text) calls
      → AddsOne now (gathered d) (gathered e)
  one_left text now d e calls is (inl k) = inl k.0
  one_left text now d e calls is (inr (refused a, o, k)) = inl k.0
  one_left text now d e calls is (inr (opened q, o, inl k)) = inl k.0
  one_left text now d e calls is (inr (opened q, o, inr k)) =
      inr (record { text = text; request = q; counts = k.1; verdict = k.0; text_is = is; opens_so = o; adds = k.2 })

  left_same : (d e : D) (a b : Around C X G) → b ≡ a → e ≡ d → its_reply ≡ None → Came d a e b
  left_same d e a b same_around same_decider none = inr (inr (record {
    left = inl (ap (λ (k : Around C X G). here e k) same_around ∙ ap (λ (k : D). here k a) same_decider);
    reply = none;
  }))

  left_refused : (d e : D) (a b : Around C X G) (bytes : List ℕ) → Refuses refusal moments random hears (ends_of taken).peer a b bytes
      → e ≡ d → its_reply ≡ None → Came d a e b
  left_refused d e a b bytes r same none = inr (inr (record {
    left = inr (r.moment, r.words, record { moment_is = r.moment_is; words_are = r.words_are; nine = r.nine }, inl (ap gathered same));
    reply = none;
  }))

  left_answered : (written : Bool) (before after : StreamState C X D G) (x : serving.Turn) → next_piece (message_of taken) ≡ message x.text
      → Answers answers adds refusal moments random passes hears (ends_of taken).peer written before x after
      → its_reply ≡ None → Came before.decider before.around after.decider after.around
  left_answered written before after x is h none = inr (inr (record {
    left = inr (
      x.moment,
      x.words,
      record { moment_is = h.moment; words_are = h.words; nine = h.nine },
      one_more _ x.text x.words x.moment (gathered before.decider) (gathered after.decider) x.reply is h.answer.reply,
    );
    reply = none;
  }))

  left_open : (before after : StreamState C X D G)
      → (h : Leaves answers adds refusal moments random passes hears (ends_of taken).peer before after)
      → next_piece (message_of taken) ≡ message h.text → its_reply ≡ None
      → Came before.decider before.around after.decider after.around
  left_open before after h is none = inr (inr (record {
    left = inr (
      h.moment,
      h.words,
      record { moment_is = h.moment_is; words_are = h.words_are; nine = h.nine },
      one_left h.text h.moment before.decider after.decider h.adds_it.calls is h.adds_it.calls_are,
    );
    reply = none;
  }))

  -- where nothing more happened
  stays : (d e f : D) (a b c : Around C X G) → c ≡ b → f ≡ e → Came d a e b → Came d a f c
  stays d e f a b c same_around same_decider h =
      subst (λ (k : Around C X G). Came d a f k) (sym same_around) (subst (λ (k : D). Came d a k b) (sym same_decider) h)

  module _ (m bytes : List ℕ) (is : message_of taken ≡ m) (piece : IsPiece m) where
    abbrev Ends : Ended → ℕ → StreamState C X D G → StreamState C X D G → Type 0
    Ends e n last final = IsEnd answers adds refusal moments random passes hears (ends_of taken).peer e n last final

    -- no message was answered
    none_answered : (e : Ended) (start final : StreamState C X D G) → start.left ≡ Some m → start.around.out ≡ Some []
        → final.around.out ≡ Some bytes → Ends e 0 start final → IsReplyBehind e bytes its_reply
        → Came start.decider start.around final.decider final.around
    none_answered end.Input start final at_start out back (less, h) reply =
        absurd (not_ended m piece (took ended m start.left final.left at_start h.0).0)
    none_answered end.CutOff start final at_start out back (less, h) reply =
        absurd (not_cut_off m piece (took cut_off m start.left final.left at_start h.0).0)
    none_answered end.TooLong start final at_start out back (less, h) reply =
        let r = h.1.1 in
        let same : bytes ≡ sent (refusal r.moment) = appended start.around.out final.around.out h.1.0 bytes out back h.1.2 ∙ r.bytes_are in
        inr (inl (record {
          moment = r.moment;
          words = r.words;
          longer = ap next_piece is ∙ (took too_long m start.left final.left at_start h.0).0;
          draws = record { moment_is = r.moment_is; words_are = r.words_are; nine = r.nine };
          none = ap gathered h.2;
          reply = subst (λ (bs : List ℕ). IsReplyWith bs true its_reply) same reply;
        }))
    none_answered end.ReadFault start final at_start out back (less, h) reply = left_same _ _ _ _ h.1.0 h.1.1 reply
    none_answered end.WriteFault start final at_start out back (less, inl h) reply =
        left_answered false start final h.0 (ap next_piece is ∙ (took (message h.0.text) m start.left final.left at_start h.1).0) h.2 reply
    none_answered end.WriteFault start final at_start out back (less, inr h) reply =
        left_refused _ _ _ _ h.1.0 h.1.1 h.2 reply
    none_answered end.Memory start final at_start out back (less, inl h) reply = left_same _ _ _ _ h.1.0 h.1.1 reply
    none_answered end.Memory start final at_start out back (less, inr (inl h)) reply =
        left_open start final h (ap next_piece is ∙ (took (message h.text) m start.left final.left at_start h.taken).0) reply
    none_answered end.Memory start final at_start out back (less, inr (inr h)) reply =
        left_refused _ _ _ _ h.1.0 h.1.1 h.2 reply
    none_answered end.Count start final at_start out back h reply = absurd (omega (arith, h.0))

    -- one was
    one_answered : (e : Ended) (start mid final : StreamState C X D G) (x : serving.Turn) → start.left ≡ Some m → start.around.out ≡ Some []
        → final.around.out ≡ Some bytes → Serves answers adds refusal moments random passes hears (ends_of taken).peer start x mid
        → Ends e 1 mid final → IsReplyBehind e bytes its_reply
        → Came start.decider start.around final.decider final.around
    one_answered e start mid final x at_start out back served ends reply = by_end e ends reply
      where
        first : (next_piece m ≡ message x.text) × (mid.left ≡ Some (after_piece (message x.text) m))
        first = took (message x.text) m start.left mid.left at_start served.0

        over : mid.left ≡ Some []
        over = first.1 ∙ ap (λ (zs : List ℕ). Some zs) (nothing_behind m x.text piece first.0)

        unread : (p : Piece) → TakesPiece p mid.left final.left → ended ≡ p
        unread p h = (took p [] mid.left final.left over h).0

        left_over : StaysOtherwise answers adds refusal moments random passes hears (ends_of taken).peer mid final → its_reply ≡ None
            → Came start.decider start.around final.decider final.around
        left_over h none = stays start.decider mid.decider final.decider start.around mid.around final.around h.0 h.1
            (left_answered true start mid x (ap next_piece is ∙ first.0) served.1 none)

        by_end : (e : Ended) → Ends e 1 mid final → IsReplyBehind e bytes its_reply → Came start.decider start.around final.decider final.around
        by_end end.Input (less, h) reply =
            let out_same : mid.around.out ≡ Some bytes = ap (λ (k : Around C X G). k.out) (sym h.1.0) ∙ back in
            let same : bytes ≡ sent x.reply = appended start.around.out mid.around.out (sent x.reply) bytes out out_same served.2 in
            stays start.decider mid.decider final.decider start.around mid.around final.around h.1.0 h.1.1 (inl (record {
              text = x.text;
              moment = x.moment;
              words = x.words;
              bytes = x.reply;
              text_is = ap next_piece is ∙ first.0;
              draws = record { moment_is = served.1.moment; words_are = served.1.words; nine = served.1.nine };
              answer = served.1.answer.reply;
              reply = subst (λ (bs : List ℕ). IsReplyWith bs false its_reply) same reply;
            }))
        by_end end.CutOff (less, h) reply = (let e = unread cut_off h.0 in absurd cc)
        by_end end.TooLong (less, h) reply = (let e = unread too_long h.0 in absurd cc)
        by_end end.ReadFault (less, h) reply = left_over h.1 reply
        by_end end.WriteFault (less, inl h) reply = (let e = unread (message h.0.text) h.1 in absurd cc)
        by_end end.WriteFault (less, inr h) reply = (let e = unread too_long h.0 in absurd cc)
        by_end end.Memory (less, inl h) reply = left_over h.1 reply
        by_end end.Memory (less, inr (inl h)) reply = (let e = unread (message h.text) h.taken in absurd cc)
        by_end end.Memory (less, inr (inr h)) reply = (let e = unread too_long h.0 in absurd cc)
        by_end end.Count h reply = absurd (omega (arith, h.0))

    -- and no second one
    by_turns : (e : Ended) (start last final : StreamState C X D G) (turns : List serving.Turn) → start.left ≡ Some m → start.around.out ≡ Some []
        → final.around.out ≡ Some bytes
        → InTurn (Serves answers adds refusal moments random passes hears (ends_of taken).peer) start turns last
        → Ends e (length turns) last final → IsReplyBehind e bytes its_reply
        → Came start.decider start.around final.decider final.around
    by_turns e start last final [] at_start out back served ends reply =
        none_answered e start final at_start out back (subst (λ (s : StreamState C X D G). Ends e 0 s final) (sym served) ends) reply
    by_turns e start last final (x ∷ []) at_start out back served ends reply =
        one_answered e start served.0 final x at_start out back served.1
        (subst (λ (s : StreamState C X D G). Ends e 1 s final) (sym served.2) ends) reply
    by_turns e start last final (x ∷ y ∷ zs) at_start out back served ends reply =
        let mid = served.0 in
        let first = took (message x.text) m start.left mid.left at_start served.1.0 in
        let over : mid.left ≡ Some [] = first.1 ∙ ap (λ (zs : List ℕ). Some zs) (nothing_behind m x.text piece first.0) in
        let next = (took (message y.text) [] mid.left served.2.0.left over served.2.1.0).0 in
        absurd cc

    -- what came of a message of which the stream was served
    pub comes : (e : Ended) (start final : StreamState C X D G) → start.left ≡ Some m → start.around.out ≡ Some []
        → final.around.out ≡ Some bytes
        → IsServed answers adds refusal moments random passes hears (ends_of taken).peer e start final → IsReplyBehind e bytes its_reply
        → Came start.decider start.around final.decider final.around
    comes e start final at_start out back served reply =
        by_turns e start served.last final served.turns at_start out back served.served served.end_is reply
