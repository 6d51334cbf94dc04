-- A field that `decode` turns down is none that bytes are written as: one of these reads back as its bytes, and is written as it was.
use Rattle.std.proofs.Common.{◌≡◌, codes, rules, arith, length, ap, inl, inr}
use Rattle.std.proofs.lemmas.Result.{err_from_is_err_and}
use Rattle.textfile.proofs.HexFields.{read_back}
use Rattle.textfile.proofs.field.decode.Goals as goal
use Rattle.textfile.proofs.field.decode.Goals.{then-is_empty-via-then-is_empty, then-is_empty-via-else-is_empty+then-ne}

pub returns-in_err-bytes-clause-malformed : goal.returns-in_err-bytes-clause-malformed
returns-in_err-bytes-clause-malformed c = λ m bytes are_bytes e.
    let some : c.args.field.now ≡ codes "-" → ⊥ = search rules in
    let back = read_back c.args.field.now bytes are_bytes some e in
    let p = err_from_is_err_and c.from_residual.result c.from_residual.ensures.1 in
    elim p.2 [
      | inl memory ↦ cc
      | inr other ↦ elim c.in_err-bytes.ensures.err [ inl memory ↦ absurd (other.0 memory) | inr bad ↦ cc ]
    ]

pub returns-then-is_empty-clause-malformed : goal.returns-then-is_empty-clause-malformed
returns-then-is_empty-clause-malformed c = λ m bytes are_bytes e.
    let some : c.args.field.now ≡ codes "-" → ⊥ = search rules in
    let back = read_back c.args.field.now bytes are_bytes some e in
    let same : c.in_ok-bytes.bytes.items ≡ bytes = search rules in
    elim c.then-is_empty.branch [
      | then-is_empty-via-then-is_empty w ↦
          let empty : length c.in_ok-bytes.bytes.items ≡ 0 = search rules in
          let none = ap length same in
          omega (arith, back.2)
      | then-is_empty-via-else-is_empty+then-ne w ↦
          let differs : w.as_str.result.now ≡ c.args.field.now → ⊥ = search rules in
          differs (search rules)
    ]
