-- docs/RULES.md, Carried and added: in the trimmed DES opening, if the payload's last byte v is 1..7 and its last v bytes all equal v, they are
-- dropped. Its rows are those of the opening, with 16 about the trimmed payload. Assumes nothing.
use Rattle.std.specs.Prelude.{ℕ, ◌-◌, Bool, List, ◌++◌, ltb, length, take, drop, replicate, get_or}
use Rattle.answer.specs.Delivery.{delivering}
use Rattle.answer.specs.Number.{number_of}
use Rattle.answer.specs.Outcome.{Outcome, decide, choose}
use Rattle.frame.specs.DesFrame.{des_plain, payload_of, open_rows, plain_rows}
use Rattle.answer.specs.Tests.{both, same}

-- the last byte; 0 where there is none
unfoldable pub last_byte : List ℕ → ℕ
last_byte l = get_or l (length l - 1) 0

-- v is 1..7, and the last v bytes all equal v. `same` also compares lengths, so v above the length is no padding
unfoldable pub is_padding : ℕ → List ℕ → Bool
is_padding v l = both (ltb 0 v) (both (ltb v 8) (same (drop (length l - v) l) (replicate v v)))

-- how many bytes are dropped
unfoldable pub trim_count : List ℕ → ℕ
trim_count l = choose (is_padding (last_byte l) l) (last_byte l) 0

unfoldable pub trim : List ℕ → List ℕ
trim l = take (length l - trim_count l) l

unfoldable pub trimmed_opening : List ℕ → ℕ → List ℕ → List ℕ → ℕ → Outcome
trimmed_opening key code id sealed room =
    let plain = des_plain key sealed in
    decide (open_rows (length id) (length key) (length sealed) ++ plain_rows code id plain) (delivering (number_of plain) (trim (payload_of plain)) room)
