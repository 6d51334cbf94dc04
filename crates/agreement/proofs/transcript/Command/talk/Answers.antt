use mathlib.Core.Path.{◌≡◌, refl, sym, ap, ◌∙◌}
use mathlib.Core.List.{List}
use Prim.Native.Nat.{ℕ, ◌-◌, ◌≤◌}
use native.Mathlib.Omega.{arith}
use borrow.Author.Rules.{rules}
use lib.ListN.{length, take, drop, length-drop}
use lib.Seq.{take_all}
use Rattle.std.specs.Prelude.{Ok}
use Rattle.answer.specs.declared.answer.Accepted.{Accepted}
use Rattle.answer.specs.Outcome.{Answer, Meets}
use Rattle.frame.specs.Scheme.{opening, responding}
use Rattle.frame.proofs.Frames.{frame_least}
use Rattle.agreement.specs.inner.Said.{conversation}
use Rattle.agreement.proofs.Messages.{bytes, command}
use Rattle.agreement.proofs.MessagePairs.{piece_is, piece_fits, message_refused, never_unread, answer_refused, never_turned_down, both_said}
use Rattle.agreement.proofs.transcript.Command.talk.Goals as goal

-- t is the message of the two ends

-- a response frame that was made has two bytes in front
two : (s code number : ℕ) (id key payload z w x : List ℕ) (v : Accepted) → Meets (responding s key code number id payload 256) (Ok v) z w → x ≡ take v.length w → 2 ≤ length x
two s code number id key payload z w x v m q =
    let e = ap length (q ∙ piece_is _ _ _ _ m) in
    let f = frame_least s key id code number 256 payload (sym m.number) in
    omega (arith, e, f)

-- what is behind them is opened into a block z of 256 bytes
opens_behind : (s code : ℕ) (id key d z w : List ℕ) (r : Answer) → length z ≡ 256 → Meets (opening s key code id (take (length d - 2) (drop 2 d)) (length z)) r z w → Meets (opening s key code id (drop 2 d) 256) r z w
opens_behind s code id key d z w r l m =
    let e : take (length d - 2) (drop 2 d) ≡ drop 2 d = take_all (length d - 2) (drop 2 d) (omega (arith, length-drop 2 d)) in
    rw (e, l) at m

pub returns-in_err-made : goal.returns-in_err-made
unfolding conversation
returns-in_err-made c =
    let t = command c.mark-mark.result c.args.self.code c.args.self.number _ _ _ _ c.args.self.id_bytes
    (bytes _ c.type_inv.card) c.args.self.payload_bytes (omega arith) (omega arith) c.requires in
    rw (← c.mark-mark.ensures) (message_refused t c.in_err-made.field-0.0 c.in_err-made.ensures _ (search rules))

pub written-sealed-requires : goal.written-sealed-requires
written-sealed-requires c = piece_fits _ _ _ _ c.in_ok-made.ensures c.encrypt_command.auto.out

pub returns-in_err-decrypt_response : goal.returns-in_err-decrypt_response
unfolding conversation
returns-in_err-decrypt_response c =
    let t = command c.mark-mark.result c.args.self.code c.args.self.number _ _ _ _ c.args.self.id_bytes
    (bytes _ c.type_inv.card) c.args.self.payload_bytes (omega arith) (omega arith) c.requires in
    never_unread t c.in_ok-made.ensures c.written-sealed.ensures c.in_err-decrypt_response.field-0.0 c.in_err-decrypt_response.ensures

pub returns-in_err-answered : goal.returns-in_err-answered
unfolding conversation
returns-in_err-answered c =
    let t = command c.mark-mark.result c.args.self.code c.args.self.number _ _ _ _ c.args.self.id_bytes
    (bytes _ c.type_inv.card) c.args.self.payload_bytes (omega arith) (omega arith) c.requires in
    rw (← c.mark-mark.ensures) (answer_refused t c.in_ok-made.ensures c.written-sealed.ensures c.in_ok-decrypt_response.ensures refl
    c.in_err-answered.field-0.0 c.in_err-answered.ensures _ (search rules))

pub written-block-requires : goal.written-block-requires
written-block-requires c = piece_fits _ _ _ _ c.in_ok-answered.ensures c.build_secure_response_frame.auto.out

pub slice_bounds-decrypt_response-count : goal.slice_bounds-decrypt_response-count
slice_bounds-decrypt_response-count c = two _ _ _ _ _ _ _ _ _ _ c.in_ok-answered.ensures c.written-block.ensures

pub slice_bounds-decrypt_response-start : goal.slice_bounds-decrypt_response-start
slice_bounds-decrypt_response-start c = two _ _ _ _ _ _ _ _ _ _ c.in_ok-answered.ensures c.written-block.ensures

pub returns-in_err-decrypt_response-2 : goal.returns-in_err-decrypt_response-2
unfolding conversation
returns-in_err-decrypt_response-2 c =
    let t = command c.mark-mark.result c.args.self.code c.args.self.number _ _ _ _ c.args.self.id_bytes
    (bytes _ c.type_inv.card) c.args.self.payload_bytes (omega arith) (omega arith) c.requires in
    never_turned_down t c.in_ok-made.ensures c.written-sealed.ensures c.in_ok-decrypt_response.ensures refl
    c.in_ok-answered.ensures c.written-block.ensures c.in_err-decrypt_response-2.field-0.0 (opens_behind _ _ _ _ _ _ _ _ c.decrypt_response.auto.out
    c.in_err-decrypt_response-2.ensures)

pub returns : goal.returns
unfolding conversation
returns c =
    let t = command c.mark-mark.result c.args.self.code c.args.self.number _ _ _ _ c.args.self.id_bytes
    (bytes _ c.type_inv.card) c.args.self.payload_bytes (omega arith) (omega arith) c.requires in
    rw (← c.mark-mark.ensures) (both_said t c.in_ok-made.ensures c.written-sealed.ensures c.in_ok-decrypt_response.ensures refl
    c.in_ok-answered.ensures c.written-block.ensures c.sized.ensures c.join.ensures)
