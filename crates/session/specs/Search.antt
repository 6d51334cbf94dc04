-- docs/RULES.md, Carried and added: the search of a key list for a node and an algorithm, as a call of its own. The numbers of the refusals are
-- those of docs/NUMBERS.md. Assumes nothing.
use Rattle.std.specs.Prelude.{ℕ, ◌/◌, ◌%◌, ◌≡◌, List, [], ◌∷◌, eqb, ltb, length, Result, Ok, Err}
use Rattle.answer.specs.Outcome.{Row, row, choose, first_of}
use Rattle.answer.specs.Refusal.{refusal_number}
use Rattle.answer.specs.Tests.{isnt, either}
use Rattle.answer.specs.declared.refusal.Refusal.{Refusal}
use Rattle.session.specs.Entries.{entries, has, looked_at}
use Rattle.session.specs.declared.keys.Found.{Found}

-- what a search answers: a number, the algorithm if the entry is there, else 0, and how many entries were looked at
pub record KeySearch : Type 0 where
  pub number : ℕ
  pub algorithm : ℕ
  pub looked : ℕ

-- 17, 1: by how many bytes the list has, and by the algorithm that is sought. Neither the marks of the entries nor a key that stands twice are looked
-- at, which would be a walk to the end
unfoldable pub search_rows : ℕ → ℕ → List Row
search_rows keys algorithm =
    row 17 (either (isnt (eqb (keys % 19) 0)) (isnt (either (eqb algorithm 1) (eqb algorithm 2)))) ∷ row 1 (ltb 128 (keys / 19)) ∷ []

-- of the bytes of a list; a refusal has 0 in both other values
unfoldable pub searching : List ℕ → ℕ → ℕ → KeySearch
searching keys node algorithm =
    let k = first_of (search_rows (length keys) algorithm) in
    let es = entries keys in
    record {
      number = k;
      algorithm = choose (eqb k 0) (choose (has es node algorithm) algorithm 0) 0;
      looked = choose (eqb k 0) (looked_at es node algorithm) 0;
    }

-- what a call answers that sought an algorithm, in these terms
abbrev pub search_number : Result Found Refusal → ℕ
search_number (Ok f) = 0
search_number (Err e) = refusal_number e

abbrev pub search_algorithm : ℕ → Result Found Refusal → ℕ
search_algorithm algorithm (Ok f) = choose f.found algorithm 0
search_algorithm algorithm (Err e) = 0

abbrev pub search_looked : Result Found Refusal → ℕ
search_looked (Ok f) = f.looked
search_looked (Err e) = 0

-- the answer r to a search for an algorithm is that of s
pub record Searches (s : KeySearch) (algorithm : ℕ) (r : Result Found Refusal) : Type 0 where
  pub number : search_number r ≡ s.number
  pub algorithm_is : search_algorithm algorithm r ≡ s.algorithm
  pub looked : search_looked r ≡ s.looked
