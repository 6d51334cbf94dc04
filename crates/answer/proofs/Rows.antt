-- How `decide` goes by its rows, what a guard's number says of them, and when an answer meets an outcome. Assumes nothing.
use mathlib.Core.Path.{◌≡◌, refl, sym, ap, ◌∙◌}
use mathlib.Core.Bool.{Bool, true, false}
use mathlib.Core.List.{List, [], ◌∷◌}
use Prim.Native.Nat.{ℕ, ◌%◌, ◌≤◌, ◌<◌}
use native.Mathlib.Omega.{arith}
use borrow.Author.Tests.{eqb-true, eq-eqb, ne_eqb, ltb-true, lt-ltb, le-ltb}
use lib.Dec.{eqb, ltb}
use lib.ListN.{length}
use Rattle.std.specs.Prelude.{Err, ◌≢◌}
use Rattle.answer.specs.declared.refusal.Refusal.{Refusal}
use Rattle.answer.specs.declared.refusal.Refusal.TheVariants.{TooManyEntries, SameKeyTwice, NoNodes, KeyMissing, OtherAlgorithm, IndividualKeyWithDes, DesWithoutArea, DesWithoutKeyedService, NumberExhausted, NotWholeBlocks, TooShort, TooLong, MacDiffers, IdDiffers, NumberNotAbove, OutputTooSmall, BadMarkOrLength}
use Rattle.answer.specs.Refusal.{refusal_number}
use Rattle.answer.specs.Outcome.{Outcome, Row, Meets, Answer, answer_number, answer_length, answer_transaction, answer_padding, refused, acceptance, accepted, row, choose, decide, first_of, over}
use Rattle.answer.specs.Tests.{isnt, either, both}
use Rattle.answer.specs.Delivery.{handing, delivering, Delivers}
use Rattle.answer.proofs.Equality.{both_true}

-- ---- tests

pub either_false : (a b : Bool) → either a b ≡ false → (a ≡ false) × (b ≡ false)
unfolding either
either_false true b h = (h, cc)
either_false false b h = (refl, h)

pub either_right : (a : Bool) → either a true ≡ true
unfolding either
either_right true = refl
either_right false = refl

pub isnt_false : (a : Bool) → isnt a ≡ false → a ≡ true
unfolding isnt
isnt_false true h = refl
isnt_false false h = sym h

-- what both have, the one that is chosen has
pub choose_keeps : {A : Type 0} (P : A → Type 0) (t : Bool) (a b : A) → P a → P b → P (choose t a b)
unfolding choose
choose_keeps P true a b p q = p
choose_keeps P false a b p q = q

-- one of two numbers that are at most n
pub choose_most : (t : Bool) (a b n : ℕ) → a ≤ n → b ≤ n → choose t a b ≤ n
choose_most t a b n = choose_keeps (λ (k : ℕ). k ≤ n) t a b

-- a number that had to be n
pub is_number : (m n : ℕ) → isnt (eqb m n) ≡ false → m ≡ n
is_number m n h = eqb-true m n (isnt_false (eqb m n) h)

-- ---- rows

-- what refusals and o have, o behind rows has
pub decide_keeps : (P : Outcome → Type 0) → ((k : ℕ) → P (refused k)) → (rs : List Row) (o : Outcome) → P o → P (decide rs o)
unfolding decide
decide_keeps P refusals [] o p = p
decide_keeps P refusals (r ∷ rs) o p = choose_keeps P r.holds (refused r.number) (decide rs o) (refusals r.number) (decide_keeps P refusals rs o p)

-- no row holds
abbrev pub AllFalse : List Row → Type 0
AllFalse [] = Unit
AllFalse (r ∷ rs) = (r.holds ≡ false) × AllFalse rs

pub decide_false : (rs : List Row) (o : Outcome) → AllFalse rs → decide rs o ≡ o
unfolding decide choose
decide_false [] o h = refl
decide_false (r ∷ rs) o h = rw h.0 (decide_false rs o h.1)

-- no row has the number 0
unfoldable pub numbered : List Row → Bool
numbered [] = true
numbered (r ∷ rs) = both (ltb 0 r.number) (numbered rs)

refuses_at : (t : Bool) (n : ℕ) (rs : List Row) (o : Outcome) (k : ℕ) → k ≡ choose t n (first_of rs) → (k ≡ first_of rs → decide rs o ≡ refused k) → choose t (refused n) (decide rs o) ≡ refused k
unfolding choose
refuses_at true n rs o k e f = ap refused (sym e)
refuses_at false n rs o k e f = f e

-- a guard's number decides, where it is not 0
pub first_refuses : (rs : List Row) (o : Outcome) (k : ℕ) → k ≡ first_of rs → (k ≡ 0 → ⊥) → decide rs o ≡ refused k
unfolding decide first_of
first_refuses [] o k e h = absurd (h e)
first_refuses (r ∷ rs) o k e h = refuses_at r.holds r.number rs o k e (λ q. first_refuses rs o k q h)

passes_at : (t : Bool) (n : ℕ) (rs : List Row) → ltb 0 n ≡ true → 0 ≡ choose t n (first_of rs) → (t ≡ false) × (0 ≡ first_of rs)
unfolding choose
passes_at true n rs p e = let q : 0 < n = ltb-true 0 n p in absurd (omega arith)
passes_at false n rs p e = (refl, e)

-- where it is 0, no row holds
pub first_passes : (rs : List Row) (k : ℕ) → numbered rs ≡ true → k ≡ first_of rs → k ≡ 0 → AllFalse rs
unfolding numbered first_of
first_passes [] k n e z = tt
first_passes (r ∷ rs) k n e z =
    let b = both_true (ltb 0 r.number) (numbered rs) n in
    let p = passes_at r.holds r.number rs b.0 (sym z ∙ e) in
    (p.0, first_passes rs 0 b.1 p.1 refl)

-- ---- row 17

-- the first row, where it holds
pub first_holds : (k : ℕ) (t : Bool) (rs : List Row) → t ≡ true → first_of (row k t ∷ rs) ≡ k
unfolding first_of choose
first_holds k t rs h = rw h

-- one length that has to be n
module _ (i n : ℕ) where
  pub wrong_length : i ≢ n → isnt (eqb i n) ≡ true
  unfolding isnt
  wrong_length h = rw (ne_eqb i n h)

  pub right_length : i ≡ n → isnt (eqb i n) ≡ false
  unfolding isnt
  right_length h = rw (eq-eqb i n h)

-- two lengths that have to be m and n
module _ (i j m n : ℕ) where
  first_wrong : i ≢ m → either (isnt (eqb i m)) (isnt (eqb j n)) ≡ true
  unfolding either
  first_wrong h = rw (wrong_length i m h)

  second_wrong : j ≢ n → either (isnt (eqb i m)) (isnt (eqb j n)) ≡ true
  second_wrong h = rw (wrong_length j n h) (either_right (isnt (eqb i m)))

  pub both_right : i ≡ m → j ≡ n → either (isnt (eqb i m)) (isnt (eqb j n)) ≡ false
  unfolding either
  both_right h k = rw (right_length i m h, right_length j n k)

  -- row 17 by them, before other rows: what the readers of the two answered
  module _ (rs : List Row) where
    pub first_17 : (e : Refusal) → (i ≢ m) × (e ≡ BadMarkOrLength) → first_of (row 17 (either (isnt (eqb i m)) (isnt (eqb j n))) ∷ rs) ≡ refusal_number e
    first_17 e h = first_holds 17 _ rs (first_wrong h.0) ∙ ap refusal_number (sym h.1)

    pub second_17 : (e : Refusal) → (j ≢ n) × (e ≡ BadMarkOrLength) → first_of (row 17 (either (isnt (eqb i m)) (isnt (eqb j n))) ∷ rs) ≡ refusal_number e
    second_17 e h = first_holds 17 _ rs (second_wrong h.0) ∙ ap refusal_number (sym h.1)

-- the same of one length
module _ (i n : ℕ) (rs : List Row) where
  pub one_17 : (e : Refusal) → (i ≢ n) × (e ≡ BadMarkOrLength) → first_of (row 17 (isnt (eqb i n)) ∷ rs) ≡ refusal_number e
  one_17 e h = first_holds 17 _ rs (wrong_length i n h.0) ∙ ap refusal_number (sym h.1)

-- ---- answers

-- a refusal has a number
pub refusal_some : (e : Refusal) → refusal_number e ≢ 0
refusal_some TooManyEntries = λ h. omega arith
refusal_some SameKeyTwice = λ h. omega arith
refusal_some NoNodes = λ h. omega arith
refusal_some (KeyMissing node) = λ h. omega arith
refusal_some OtherAlgorithm = λ h. omega arith
refusal_some IndividualKeyWithDes = λ h. omega arith
refusal_some DesWithoutArea = λ h. omega arith
refusal_some DesWithoutKeyedService = λ h. omega arith
refusal_some NumberExhausted = λ h. omega arith
refusal_some NotWholeBlocks = λ h. omega arith
refusal_some TooShort = λ h. omega arith
refusal_some TooLong = λ h. omega arith
refusal_some MacDiffers = λ h. omega arith
refusal_some IdDiffers = λ h. omega arith
refusal_some NumberNotAbove = λ h. omega arith
refusal_some OutputTooSmall = λ h. omega arith
refusal_some BadMarkOrLength = λ h. omega arith

-- an answer that is the refusal k
abbrev pub Refused : ℕ → Answer → Type 0
Refused k r = (answer_number r ≡ k) × (answer_length r ≡ 0) × (answer_transaction r ≡ 0) × (answer_padding r ≡ 0)

pub refused_meets : (k : ℕ) (r : Answer) (out : List ℕ) → Refused k r → Meets (refused k) r out out
unfolding refused over
refused_meets k r out h = record { number = h.0; length_is = h.1; transaction = h.2; padding = h.3; output = refl }

pub accepted_meets : (n : ℕ) (b : List ℕ) (r : Answer) (before after : List ℕ) → answer_number r ≡ 0 → answer_length r ≡ length b → answer_transaction r ≡ n → answer_padding r ≡ 0 → after ≡ over b before
    → Meets (accepted n b) r before after
unfolding acceptance
accepted_meets n b r before after h l t p w = record { number = h; length_is = l; transaction = t; padding = p; output = w }

-- a refusal has no other value
pub err_meets : (e : Refusal) (out : List ℕ) {r : Answer} → r ≡ Err e → Meets (refused (refusal_number e)) r out out
err_meets e out {r} h = rw h (refused_meets (refusal_number e) (Err e) out (refl, refl, refl, refl))

-- the same for an outcome that is known to be one of them
pub meets_refused : (o : Outcome) (k : ℕ) (r : Answer) (out : List ℕ) → o ≡ refused k → Refused k r → Meets o r out out
meets_refused o k r out e h = rw e (refused_meets k r out h)

-- no row holds
pub passed_meets : (rs : List Row) (o : Outcome) (r : Answer) (before after : List ℕ) → AllFalse rs → Meets o r before after → Meets (decide rs o) r before after
passed_meets rs o r before after h m = rw (decide_false rs o h) m

-- the refusal of the first row that holds
pub row_meets : (rs : List Row) (o : Outcome) (e : Refusal) (out : List ℕ) {r : Answer} → r ≡ Err e → first_of rs ≡ refusal_number e → Meets (decide rs o) r out out
row_meets rs o e out {r} q h = rw (first_refuses rs o (refusal_number e) (sym h) (refusal_some e)) (err_meets e out q)

-- ---- delivery

pub no_room : (n p : ℕ) (b : List ℕ) (room : ℕ) → room < length b → handing (acceptance n p b) room ≡ refused 16
unfolding handing acceptance decide choose
no_room n p b room h = rw (lt-ltb room (length b) h)

pub room_enough : (n p : ℕ) (b : List ℕ) (room : ℕ) → length b ≤ room → handing (acceptance n p b) room ≡ acceptance n p b
unfolding handing acceptance decide choose
room_enough n p b room h = rw (le-ltb room (length b) h)

pub refused_delivers : (k : ℕ) (r : Answer) (out : List ℕ) → Refused k r → Delivers (refused k) r out out
unfolding refused over
refused_delivers k r out h = record { number = h.0; length_is = h.1; transaction = h.2; padding = h.3; output = refl }

pub acceptance_delivers : (n p : ℕ) (b : List ℕ) (r : Answer) (before after : List ℕ) → answer_number r ≡ 0 → answer_length r ≡ length b % 65536 → answer_transaction r ≡ n → answer_padding r ≡ p → after ≡ over b before
    → Delivers (acceptance n p b) r before after
unfolding acceptance
acceptance_delivers n p b r before after h l t q w = record { number = h; length_is = l; transaction = t; padding = q; output = w }

-- a refusal has no other value
pub err_delivers : (e : Refusal) (out : List ℕ) {r : Answer} → r ≡ Err e → Delivers (refused (refusal_number e)) r out out
err_delivers e out {r} h = rw h (refused_delivers (refusal_number e) (Err e) out (refl, refl, refl, refl))

delivers_short : (o : Outcome) (r : Answer) (before after : List ℕ) → length o.bytes ≤ 65535 → Delivers o r before after → Meets o r before after
delivers_short o r before after h d = record { number = d.number; length_is = d.length_is ∙ omega arith; transaction = d.transaction; padding = d.padding; output = d.output }

refused_no_longer : (n k : ℕ) → length (refused k).bytes ≤ n
unfolding refused
refused_no_longer n k = omega arith

-- what goes out behind rows is no longer than without them
decide_no_longer : (rs : List Row) (o : Outcome) (n : ℕ) → length o.bytes ≤ n → length (decide rs o).bytes ≤ n
decide_no_longer rs o n = decide_keeps (λ p. length p.bytes ≤ n) (refused_no_longer n) rs o

handing_no_longer : (n p : ℕ) (b : List ℕ) (room most : ℕ) → length b ≤ most → length (handing (acceptance n p b) room).bytes ≤ most
unfolding handing acceptance
handing_no_longer n p b room most h = decide_no_longer _ (acceptance n p b) most h

-- up to 65,535 bytes are delivered with their length
pub delivers_meets : (n p : ℕ) (b : List ℕ) (room : ℕ) {r : Answer} {before after : List ℕ} → Delivers (handing (acceptance n p b) room) r before after → length b ≤ 65535 → Meets (handing (acceptance n p b) room) r before after
delivers_meets n p b room {r} {before} {after} d h = delivers_short (handing (acceptance n p b) room) r before after (handing_no_longer n p b room 65535 h) d

-- also behind rows
pub decided_meets : (rs : List Row) (n : ℕ) (p : List ℕ) (room : ℕ) {r : Answer} {before after : List ℕ} → Delivers (decide rs (delivering n p room)) r before after → length p ≤ 65535
    → Meets (decide rs (delivering n p room)) r before after
decided_meets rs n p room {r} {before} {after} d h =
    delivers_short (decide rs (delivering n p room)) r before after (decide_no_longer rs (delivering n p room) 65535 (handing_no_longer n 0 p room 65535 h)) d
