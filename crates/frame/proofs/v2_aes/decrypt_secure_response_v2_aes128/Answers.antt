use borrow.Author.Rules.{rules}
use lib.ListN.{length}
use Rattle.frame.proofs.AesOpens.{aes_open_refused, aes_open_tries}
use Rattle.frame.proofs.v2_aes.decrypt_secure_response_v2_aes128.Goals as goal

pub returns-in_err-id : goal.returns-in_err-id
returns-in_err-id c =
    let a = c.args in
    aes_open_refused a.credentials.now a.id.now a.«data».now a.code (length a.out.now) c.in_err-id.field-0.0 a.out.now (search rules) c.in_err-id.ensures

pub returns : goal.returns
returns c =
    let a = c.args in
    let h = c.in_ok-id.ensures in
    rw (aes_open_tries a.credentials.now a.id.now a.«data».now a.code (length a.out.now) h.1 h.2 h.3 h.4)
    (rw (← h.6) at (rw c.parse-credentials.ensures at (rw h.5 at c.decrypt_in_work_block.ensures)))
