-- docs/RULES.md, Corners (mod.rs), Carried and added: the session, which is its number, ceiling, transaction ID, scheme, credentials, nodes, and how
-- many responses were turned away; its number step, node index and response step. Assumes nothing.
use Rattle.std.specs.Prelude.{ℕ, suc, ◌+◌, ◌-◌, ◌*◌, ◌/◌, ◌%◌, ◌≡◌, List, [], ◌∷◌, ◌++◌, eqb, ltb, length, take, replicate, Result, MatchResult}
use Rattle.answer.specs.declared.refusal.Refusal.{Refusal}
use Rattle.answer.specs.Refusal.{refusal_number}
use Rattle.answer.specs.Outcome.{Outcome, Row, Meets, Answer, answer_number, answer_length, answer_transaction, answer_padding, row, choose, decide, first_of}
use Rattle.frame.specs.Scheme.{opening}
use Rattle.answer.specs.Tests.{isnt, either, both}
use Rattle.session.specs.Entries.{nodes}
use Rattle.session.specs.declared.context.AuthenticatedContext.{AuthenticatedContext}

-- ---- making a session

-- credentials: the DES session key; or cipher key, MAC key and Challenge 3C
unfoldable pub credentials_size : ℕ → ℕ
credentials_size scheme = choose (eqb scheme 1) 8 36

-- lengths of ID, credentials and nodes, of which there are at most 64
unfoldable pub make_rows : ℕ → ℕ → ℕ → ℕ → List Row
make_rows scheme id credentials listed =
    row 17
    (either (isnt (either (eqb scheme 1) (eqb scheme 2)))
    (either (isnt (eqb id 6)) (either (isnt (eqb credentials (credentials_size scheme))) (isnt (eqb (listed % 2) 0)))))
    ∷ row 1 (ltb 128 listed)
    ∷ []

-- a string with zeros behind it, n bytes in all
unfoldable pub filled : ℕ → List ℕ → List ℕ
filled n l = l ++ replicate (n - length l) 0

-- a session with a ceiling
unfoldable pub established_under : ℕ → ℕ → ℕ → List ℕ → List ℕ → List ℕ → AuthenticatedContext
established_under ceiling scheme number id credentials listed =
    record {
      transaction_number = number;
      transaction_id = id;
      scheme = scheme;
      credentials = filled 36 credentials;
      nodes = filled 128 listed;
      node_count = length listed / 2;
      turned_away = 0;
      ceiling = ceiling;
    }

-- one that is made without a ceiling has this: no number of 16 bits is above it
abbrev pub ceiling_none : ℕ
ceiling_none = 0xFFFF

abbrev pub established : ℕ → ℕ → List ℕ → List ℕ → List ℕ → AuthenticatedContext
established scheme number id credentials listed = established_under ceiling_none scheme number id credentials listed

-- a session, or the refusal of the first row that holds
abbrev pub Makes : ℕ → ℕ → ℕ → List ℕ → List ℕ → List ℕ → Result AuthenticatedContext Refusal → Type 0
Makes ceiling scheme number id credentials nodes r =
    MatchResult r
    (λ s. (first_of (make_rows scheme (length id) (length credentials) (length nodes)) ≡ 0) × (s ≡ established_under ceiling scheme number id credentials nodes))
    (λ e. first_of (make_rows scheme (length id) (length credentials) (length nodes)) ≡ refusal_number e)

-- ---- its parts

-- the session with another number, and all else as it is
unfoldable pub with_number : ℕ → AuthenticatedContext → AuthenticatedContext
with_number n s =
    record {
      transaction_number = n;
      transaction_id = s.transaction_id;
      scheme = s.scheme;
      credentials = s.credentials;
      nodes = s.nodes;
      node_count = s.node_count;
      turned_away = s.turned_away;
      ceiling = s.ceiling;
    }

-- the session with another count of responses turned away, and all else as it is
unfoldable pub with_count : ℕ → AuthenticatedContext → AuthenticatedContext
with_count n s =
    record {
      transaction_number = s.transaction_number;
      transaction_id = s.transaction_id;
      scheme = s.scheme;
      credentials = s.credentials;
      nodes = s.nodes;
      node_count = s.node_count;
      turned_away = n;
      ceiling = s.ceiling;
    }

-- a node's index is its first place, from 0
unfoldable pub first_place : List ℕ → ℕ → ℕ
first_place [] node = 0
first_place (n ∷ ns) node = choose (eqb n node) 0 (suc (first_place ns node))

-- a session has at most 64 nodes. One that was made, or whose bytes passed `is_session`, has no more; this is for any record
unfoldable pub listed_count : ℕ → ℕ
listed_count n = choose (ltb n 64) n 64

-- a node that is not listed has 64 in place of an index
unfoldable pub index_in : List ℕ → ℕ → ℕ
index_in listed node = choose (ltb (first_place listed node) (length listed)) (first_place listed node) 64

unfoldable pub index : AuthenticatedContext → ℕ → ℕ
index s node = index_in (nodes (take (listed_count s.node_count * 2) s.nodes)) node

-- ---- the number step: at or above the ceiling it refuses

-- a step's answer, and the session after it
pub record Step : Type 0 where
  pub number : ℕ
  pub transaction : ℕ
  pub session : AuthenticatedContext

unfoldable pub stepped : AuthenticatedContext → Step
stepped s =
    choose (isnt (ltb s.transaction_number s.ceiling))
    (record { number = 9; transaction = 0; session = s })
    (record { number = 0; transaction = s.transaction_number + 1; session = with_number (s.transaction_number + 1) s })

-- an answer r, and a session that was s and is t
pub record Steps (s : AuthenticatedContext) (r : Answer) (t : AuthenticatedContext) : Type 0 where
  pub number : answer_number r ≡ (stepped s).number
  pub length_none : answer_length r ≡ 0
  pub transaction : answer_transaction r ≡ (stepped s).transaction
  pub padding_none : answer_padding r ≡ 0
  pub session : t ≡ (stepped s).session

-- the step by value: the session after it, or its refusal, after which the session is s
abbrev pub StepsTo : AuthenticatedContext → Result AuthenticatedContext Refusal → Type 0
StepsTo s r = MatchResult r (λ t. ((stepped s).number ≡ 0) × (t ≡ (stepped s).session)) (λ e. ((stepped s).number ≡ refusal_number e) × ((stepped s).session ≡ s))

-- ---- the response step: open, require the number to exceed the session's, then set it

-- one more, at most 65,535
unfoldable pub more : ℕ → ℕ
more n = choose (ltb n 65535) (n + 1) n

-- the session after a refusal: those from 10 to 15 are counted
unfoldable pub counting : ℕ → AuthenticatedContext → AuthenticatedContext
counting number s = choose (both (ltb 9 number) (ltb number 16)) (with_count (more s.turned_away) s) s

unfoldable pub credentials_of : AuthenticatedContext → List ℕ
credentials_of s = take (credentials_size s.scheme) s.credentials

-- the opening, into a work block that holds any payload
unfoldable pub opened : AuthenticatedContext → ℕ → List ℕ → Outcome
opened s code d = opening s.scheme (credentials_of s) code s.transaction_id d 256

-- 15 comes before 16
unfoldable pub accept_rows : ℕ → ℕ → ℕ → ℕ → List Row
accept_rows session number payload room = row 15 (isnt (ltb session number)) ∷ row 16 (ltb room payload) ∷ []

unfoldable pub receiving : AuthenticatedContext → ℕ → List ℕ → ℕ → Outcome
receiving s code d room =
    let o = opened s code d in
    choose (eqb o.number 0) (decide (accept_rows s.transaction_number o.transaction (length o.bytes) room) o) o

-- the session after it
unfoldable pub received : AuthenticatedContext → Outcome → AuthenticatedContext
received s o = choose (eqb o.number 0) (with_number o.transaction s) (counting o.number s)

-- an answer r, a session that was s and is t, and an output that was `before` and is `after`
pub record Receives (s : AuthenticatedContext) (o : Outcome) (r : Answer) (t : AuthenticatedContext) (before after : List ℕ) : Type 0 where
  pub answer : Meets o r before after
  pub padding_none : answer_padding r ≡ 0
  pub session : t ≡ received s o
