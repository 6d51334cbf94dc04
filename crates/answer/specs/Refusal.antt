-- docs/NUMBERS.md: the numbers of the refusals. Row 4 also gives the node; the others give their number only. Assumes nothing.
use Rattle.std.specs.Prelude.{ℕ}
use Rattle.answer.specs.declared.refusal.Refusal.{Refusal}
use Rattle.answer.specs.declared.refusal.Refusal.TheVariants.{TooManyEntries, SameKeyTwice, NoNodes, KeyMissing, OtherAlgorithm, IndividualKeyWithDes, DesWithoutArea, DesWithoutKeyedService, NumberExhausted, NotWholeBlocks, TooShort, TooLong, MacDiffers, IdDiffers, NumberNotAbove, OutputTooSmall, BadMarkOrLength}

abbrev pub refusal_number : Refusal → ℕ
refusal_number TooManyEntries = 1
refusal_number SameKeyTwice = 2
refusal_number NoNodes = 3
refusal_number (KeyMissing node) = 4
refusal_number OtherAlgorithm = 5
refusal_number IndividualKeyWithDes = 6
refusal_number DesWithoutArea = 7
refusal_number DesWithoutKeyedService = 8
refusal_number NumberExhausted = 9
refusal_number NotWholeBlocks = 10
refusal_number TooShort = 11
refusal_number TooLong = 12
refusal_number MacDiffers = 13
refusal_number IdDiffers = 14
refusal_number NumberNotAbove = 15
refusal_number OutputTooSmall = 16
refusal_number BadMarkOrLength = 17

abbrev pub refusal_node : Refusal → ℕ
refusal_node TooManyEntries = 0
refusal_node SameKeyTwice = 0
refusal_node NoNodes = 0
refusal_node (KeyMissing node) = node
refusal_node OtherAlgorithm = 0
refusal_node IndividualKeyWithDes = 0
refusal_node DesWithoutArea = 0
refusal_node DesWithoutKeyedService = 0
refusal_node NumberExhausted = 0
refusal_node NotWholeBlocks = 0
refusal_node TooShort = 0
refusal_node TooLong = 0
refusal_node MacDiffers = 0
refusal_node IdDiffers = 0
refusal_node NumberNotAbove = 0
refusal_node OutputTooSmall = 0
refusal_node BadMarkOrLength = 0
