-- Calls on a state that C keeps as bytes, over any state: when an answer is that of a call, when bytes were made, and what the bytes are after
-- any calls. Assumes nothing.
use mathlib.Core.Path.{◌≡◌, refl, sym, ap, ◌∙◌}
use mathlib.Core.Bool.{true, false, true≢false}
use mathlib.Core.List.{List, [], ◌∷◌, append-nil}
use Prim.Native.Nat.{ℕ, ◌≤◌}
use native.Mathlib.Omega.{arith}
use borrow.Author.Tests.{eq-eqb, ne_eqb}
use lib.ListN.{length, drop, drop_of_length-le}
use Rattle.answer.specs.Outcome.{Row, refused, acceptance, accepted, choose, decide, first_of, over}
use Rattle.answer.specs.Tests.{isnt}
use Rattle.answer.proofs.Rows.{numbered, decide_false, first_refuses, first_passes}
use Rattle.felica_secure.specs.Calls.{Kept, Call, Tells, Keeps, making, MakesKept, Turn, events, last_bytes, Through}
use Rattle.felica_secure.specs.Packed.{packed_sealed}
use Rattle.felica_secure.proofs.PackedParts.{packed_alone}

-- ---- a call

module _ {S : Type 0} (k : Kept S) (call : S → Call S) (b : List ℕ) (r : ℕ) where
  -- bytes that are no state
  module _ (n : k.is b ≡ false) (e : r ≡ 17) (out : List ℕ) where
    pub no_tells : Tells k call b r out out
    unfolding choose over
    no_tells = record { answer = e ∙ rw n; output = rw n }

    pub no_keeps : Keeps k call b b r out out
    unfolding choose
    no_keeps = record { tells = no_tells; state = rw n; again = λ y. absurd (true≢false (sym y ∙ n)) }

  -- a state s
  module _ (y : k.is b ≡ true) (s : S) (d : s ≡ k.decode b) (before after : List ℕ) (e : r ≡ (call s).answer) (w : after ≡ over (call s).bytes before) where
    pub tells : Tells k call b r before after
    unfolding choose
    tells = record { answer = e ∙ rw (y, d); output = w ∙ rw (y, d) }

    pub keeps : (c : List ℕ) (t : S) → t ≡ (call s).state → (c ≡ k.encode t) × (k.decode c ≡ t) → Keeps k call b c r before after
    unfolding choose
    keeps c t q h =
        record { tells = tells; state = h.0 ∙ ap k.encode q ∙ rw (y, d); again = λ z. h.1 ∙ q ∙ rw d }

-- ---- making

module _ {S : Type 0} (k : Kept S) (rows : List Row) (s : S) (r : ℕ) (before : List ℕ) where
  -- a refusal: the answer is its number
  turned_down : (n : ℕ) → (n ≡ 0 → ⊥) → r ≡ n → making k rows s (length before) ≡ refused n → MakesKept k rows s r before before
  unfolding refused over
  turned_down n z e q = record { returns = rw q (record { answer = e ∙ sym (packed_alone n); output = refl }); again = rw q (λ y. absurd (z y)) }

  pub making_other_size : (length before ≡ k.size → ⊥) → r ≡ 17 → MakesKept k rows s r before before
  unfolding making decide choose isnt
  making_other_size h e = turned_down 17 (λ z. omega arith) e (rw (ne_eqb (length before) k.size h))

  module _ (l : length before ≡ k.size) (n : ℕ) (f : n ≡ first_of rows) where
    goes_on : making k rows s (length before) ≡ decide rows (accepted 0 (k.encode s))
    unfolding making decide choose isnt
    goes_on = rw (eq-eqb (length before) k.size l)

    pub making_refused : (n ≡ 0 → ⊥) → r ≡ n → MakesKept k rows s r before before
    making_refused z e = turned_down n z e (goes_on ∙ first_refuses rows _ n f z)

    pub making_made : numbered rows ≡ true → n ≡ 0 → (t : S) (after : List ℕ) → t ≡ s → (after ≡ k.encode t) × (k.decode after ≡ t) → length after ≡ k.size → r ≡ packed_sealed 0 0 k.size 0 0
        → MakesKept k rows s r before after
    unfolding acceptance over
    making_made numbers z t after q e m a =
        let o : making k rows s (length before) ≡ accepted 0 (k.encode s) = goes_on ∙ decide_false rows _ (first_passes rows n numbers f z) in
        let w : k.encode s ≡ after = sym (e.0 ∙ ap k.encode q) in
        let h : length before ≤ length after = omega arith in
        let x : drop (length after) before ≡ [] = drop_of_length-le before h in
        record { returns = rw (o, w) (record { answer = a ∙ rw m; output = rw x (sym (append-nil after)) }); again = λ y. e.1 ∙ q }

-- ---- any calls

-- the state after the calls of events
unfoldable pub after_calls : {S E : Type 0} → (E → S → Call S) → S → List E → S
after_calls call_of s [] = s
after_calls call_of s (e ∷ es) = after_calls call_of (call_of e s).state es

-- where a call leaves a state, so do all: what the bytes decode to is the state after the calls
module _ {S E : Type 0} (k : Kept S) (call_of : E → S → Call S)
    (stays : (e : E) (b c : List ℕ) → k.is b ≡ true → c ≡ k.encode (call_of e (k.decode b)).state → length c ≡ length b → k.is c ≡ true) where
  module _ (b : List ℕ) (y : k.is b ≡ true) (t : Turn E) (h : Keeps k (call_of t.event) b t.bytes t.answer t.before t.output) (l : length t.bytes ≡ length b) where
    turn_stays : k.is t.bytes ≡ true
    unfolding choose
    turn_stays = stays t.event b t.bytes y (h.state ∙ rw y) l

  pub kept_through : (b : List ℕ) (ts : List (Turn E)) → k.is b ≡ true → Through k call_of b ts
      → (k.is (last_bytes b ts) ≡ true) × (k.decode (last_bytes b ts) ≡ after_calls call_of (k.decode b) (events ts))
  unfolding Through last_bytes events after_calls
  kept_through b [] y h = (y, refl)
  kept_through b (t ∷ ts) y h =
      let r = kept_through t.bytes ts (turn_stays b y t h.0 h.1) h.2 in
      (r.0, r.1 ∙ ap (λ (s : S). after_calls call_of s (events ts)) (h.0.again y))
