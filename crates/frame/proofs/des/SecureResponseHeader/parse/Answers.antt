use mathlib.Core.Path.{ap₂}
use Prim.Native.Nat.{ℕ}
use mathlib.Core.List.{List}
use Rattle.frame.specs.DesFrame.{id_of}
use Rattle.frame.specs.inner.Response.{header_of}
use Rattle.frame.specs.declared.des.SecureResponseHeader.{SecureResponseHeader}
use borrow.Author.Rules.{rules}
use Rattle.frame.proofs.des.SecureResponseHeader.parse.Goals as goal

pub returns : goal.returns
unfolding header_of id_of
returns c =
    let h : ℕ → List ℕ → SecureResponseHeader = λ n i. record { transaction_number = n; transaction_id = i } in
    ap₂ h c.transaction_number.ensures (c.fit.ensures.1 (search rules))
