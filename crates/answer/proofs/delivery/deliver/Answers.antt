use mathlib.Core.Path.{refl}
use lib.ListN.{length}
use Rattle.answer.proofs.Rows.{refused_delivers, acceptance_delivers, no_room, room_enough}
use Rattle.answer.proofs.Outputs.{copied_over}
use Rattle.answer.proofs.delivery.deliver.Goals as goal

pub returns-then-out-payload : goal.returns-then-out-payload
returns-then-out-payload c =
    let a = c.args in
    rw (no_room a.transaction_number _ a.payload.now (length a.out.now) c.if-out-payload.true) (refused_delivers 16 _ a.out.now (refl, refl, refl, refl))

pub returns : goal.returns
returns c =
    let a = c.args in
    rw (room_enough a.transaction_number _ a.payload.now (length a.out.now) c.if-out-payload.false)
    (acceptance_delivers _ _ a.payload.now _ a.out.now _ refl refl refl refl (copied_over a.payload.now a.out.now _ c.if-out-payload.false c.copy.ensures))
