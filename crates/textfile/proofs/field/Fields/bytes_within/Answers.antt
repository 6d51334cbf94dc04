-- Where `bytes_within` answers that a field is malformed though it has bytes, these are too many: what is written has one number of bytes alone.
use Rattle.std.proofs.Common.{◌≡◌, ◌<◌, length, rules, arith}
use Rattle.textfile.specs.Field.{written}
use Rattle.textfile.proofs.HexFields.{same_length}
use Rattle.textfile.proofs.field.Fields.bytes_within.Goals as goal

pub returns-then-most-len-clause-malformed : goal.returns-then-most-len-clause-malformed
returns-then-most-len-clause-malformed c = λ m bytes are_bytes n e.
    let same : written c.in_ok-bytes.bytes.items ≡ written bytes = cc (c.in_ok-bytes.ensures.ok) in
    let many : c.args.most < length c.in_ok-bytes.bytes.items = search rules in
    omega (arith, n, many, same_length _ _ same)
