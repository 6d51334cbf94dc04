use native.Mathlib.Omega.{arith}
use Rattle.cipher.proofs.Copies.{length_part}
use Rattle.session.specs.Record.{context_of}
use Rattle.session.proofs.Encoding.{decoded}
use Rattle.session.proofs.context.AuthenticatedContext.decode.Goals as goal

pub returns : goal.returns
unfolding context_of
returns c =
    let b = c.args.bytes in
    let g = c.well_formed in
    decoded b c.fit.result c.fit-2.result c.fit-3.result _ _ _ _
    (c.fit.ensures.1 (length_part b 8 6 (omega (arith, g))))
    (c.fit-2.ensures.1 (length_part b 14 36 (omega (arith, g))))
    (c.fit-3.ensures.1 (length_part b 50 128 (omega (arith, g))))
    c.from_le_bytes.ensures c.from_le_bytes-4.ensures c.from_le_bytes-2.ensures c.from_le_bytes-3.ensures
