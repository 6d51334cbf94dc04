-- A parsed response and its delivery. Assumes nothing.
use Prim.Native.Nat.{ℕ, ◌≤◌}
use mathlib.Core.List.{List}
use lib.ListN.{length}
use denote.Ref.{Bor}
use Rattle.answer.specs.Delivery.{Delivers}
use Rattle.answer.specs.Outcome.{Answer}
use Rattle.frame.specs.inner.Response.{header_of, Parses, checked_delivering, parsed_delivering}
use Rattle.frame.specs.declared.des.SecureResponse.{SecureResponse}
use Rattle.frame.proofs.DesOpens.{short_payload}

-- what `SecureResponse::deliver` says of the answer r and of the output, which was `before` and is `after`
abbrev pub DeliversResponse : List ℕ → SecureResponse → List ℕ → Answer → List ℕ → Type 0
DeliversResponse id d before r after = Delivers (checked_delivering d.header.transaction_number d.header.transaction_id d.payload.now id (length before)) r before after

-- what is said of the response in a plain text is said of the plain text
pub parsed_delivers : (plain : Bor (List ℕ)) (d : SecureResponse) → Parses plain d → (id before after : List ℕ) (r : Answer) → DeliversResponse id d before r after → Delivers (parsed_delivering id plain.now (length before)) r before after
unfolding parsed_delivering header_of
parsed_delivers plain d p id before after r m = rw p.payload.reads at (rw p.header at m)

-- and how long its payload is at most
pub parsed_short : (plain : Bor (List ℕ)) (d : SecureResponse) → Parses plain d → length plain.now ≤ 256 → length d.payload.now ≤ 256
parsed_short plain d p h = short_payload plain.now d.payload.now p.payload.reads h
