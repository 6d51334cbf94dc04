-- docs/RULES.md, For C: C callers pass numbers and byte slices only. So a state that a C caller keeps is bytes: what a call on
-- the bytes answers, writes and leaves, over any state with its encoding. Assumes nothing.
use Rattle.std.specs.Prelude.{ℕ, Bool, true, ◌≡◌, List, [], ◌∷◌, eqb, length}
use Rattle.answer.specs.Outcome.{Outcome, Row, row, choose, decide, accepted, over}
use Rattle.answer.specs.Tests.{isnt}
use Rattle.felica_secure.specs.Packed.{packed, packed_sealed, Returns}

-- a state as bytes: their exact size, the bytes of a state, the state of bytes, and whether bytes are a state
pub record Kept (S : Type 0) : Type 0 where
  pub size : ℕ
  pub encode : S → List ℕ
  pub decode : List ℕ → S
  pub is : List ℕ → Bool

-- a call on a state: the answer that C gets, what goes over the front of the output, the state after it
pub record Call (S : Type 0) : Type 0 where
  pub answer : ℕ
  pub bytes : List ℕ
  pub state : S

-- an outcome as C gets it
unfoldable pub answering : {S : Type 0} → Outcome → S → Call S
answering o s = record { answer = packed_sealed o.number 0 (length o.bytes) o.transaction o.padding; bytes = o.bytes; state = s }

-- a call that tells one value: a mark, an index or count, a number
unfoldable pub telling : {S : Type 0} → ℕ → ℕ → ℕ → S → Call S
telling mark value number s = record { answer = packed 0 mark value number; bytes = []; state = s }

-- ---- the same on bytes: 17 where they are no state, and nothing changes

-- an answer r on the bytes b, and an output that was `before` and is `after`
pub record Tells {S : Type 0} (k : Kept S) (call : S → Call S) (b : List ℕ) (r : ℕ) (before after : List ℕ) : Type 0 where
  pub answer : r ≡ choose (k.is b) (call (k.decode b)).answer 17
  pub output : after ≡ over (choose (k.is b) (call (k.decode b)).bytes []) before

-- the same, and the state is kept: b before the call, c after it, which decodes to the state that the call leaves
pub record Keeps {S : Type 0} (k : Kept S) (call : S → Call S) (b c : List ℕ) (r : ℕ) (before after : List ℕ) : Type 0 where
  pub tells : Tells k call b r before after
  pub state : c ≡ choose (k.is b) (k.encode (call (k.decode b)).state) b
  pub again : k.is b ≡ true → k.decode c ≡ (call (k.decode b)).state

-- ---- making: the output is of the exact size, else 17

unfoldable pub making : {S : Type 0} → Kept S → List Row → S → ℕ → Outcome
making k rows s room = decide (row 17 (isnt (eqb room k.size)) ∷ rows) (accepted 0 (k.encode s))

-- the same, and what was made decodes to the state that was asked for
pub record MakesKept {S : Type 0} (k : Kept S) (rows : List Row) (s : S) (r : ℕ) (before after : List ℕ) : Type 0 where
  pub returns : Returns (making k rows s (length before)) r before after
  pub again : (making k rows s (length before)).number ≡ 0 → k.decode after ≡ s

-- ---- a history of calls, each with the bytes that the one before it left

-- a call that was made for an event: its answer, the state's bytes and the output after it, the output before it
pub record Turn (E : Type 0) : Type 0 where
  pub event : E
  pub answer : ℕ
  pub bytes : List ℕ
  pub before : List ℕ
  pub output : List ℕ

unfoldable pub events : {E : Type 0} → List (Turn E) → List E
events [] = []
events (t ∷ ts) = t.event ∷ events ts

-- the state's bytes at the end
unfoldable pub last_bytes : {E : Type 0} → List ℕ → List (Turn E) → List ℕ
last_bytes b [] = b
last_bytes b (t ∷ ts) = last_bytes t.bytes ts

-- each call keeps to its contract; a slice keeps its length
unfoldable pub Through : {S E : Type 0} → Kept S → (E → S → Call S) → List ℕ → List (Turn E) → Type 0
Through k call_of b [] = b ≡ b
Through k call_of b (t ∷ ts) =
    Keeps k (call_of t.event) b t.bytes t.answer t.before t.output × (length t.bytes ≡ length b) × Through k call_of t.bytes ts
