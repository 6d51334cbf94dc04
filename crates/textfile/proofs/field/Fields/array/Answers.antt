-- Where `array` answers that a field is malformed, its bytes are not N: what is written as N bytes has no other number of them.
use Rattle.std.proofs.Common.{◌≡◌, length, rules, ◌∙◌}
use Rattle.textfile.specs.Field.{written}
use Rattle.textfile.proofs.HexFields.{same_length}
use Rattle.textfile.proofs.field.Fields.array.Goals as goal

pub returns-clause-malformed : goal.returns-clause-malformed
returns-clause-malformed g c = λ m a are_bytes n e.
    let other : length c.in_ok-bytes.bytes.items ≡ g.row.N → ⊥ = search rules in
    let same : written c.in_ok-bytes.bytes.items ≡ written a = cc (c.in_ok-bytes.ensures.ok) in
    other (same_length _ _ same ∙ n)
