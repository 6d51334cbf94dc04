use mathlib.Core.Path.{refl}
use lib.ListN.{length}
use Rattle.frame.proofs.AesOpens.{mac_refuses, mac_passes}
use Rattle.answer.proofs.Rows.{err_delivers}
use Rattle.frame.proofs.v2_aes.accept_aes.Goals as goal

pub returns-then-not-ct_eq : goal.returns-then-not-ct_eq
returns-then-not-ct_eq c =
    let a = c.args in
    rw (mac_refuses a.number a.mac a.wanted a.payload.now (length a.out.now) _ c.ct_eq.ensures c.if-not-ct_eq.true) (err_delivers _ a.out.now refl)

pub returns : goal.returns
returns c =
    let a = c.args in
    rw (mac_passes a.number a.mac a.wanted a.payload.now (length a.out.now) _ c.ct_eq.ensures c.if-not-ct_eq.false) c.deliver.ensures
