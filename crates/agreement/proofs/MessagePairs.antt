-- A message and its answer, step by step: one end makes it, the other reads it and answers, and the first checks the answer. One argument for
-- both exchanges of random blocks and for a command and its response. Assumes nothing.
use mathlib.Core.Path.{◌≡◌, refl, sym, ap, ap₂, ◌∙◌}
use mathlib.Core.List.{List, ◌++◌}
use mathlib.Core.Logic.{⊎_elim}
use Prim.Native.Nat.{ℕ, ◌≤◌, ◌<◌}
use native.Mathlib.Omega.{arith}
use borrow.Author.Tests.{eq-eqb, ne_eqb}
use lib.ListN.{length, take}
use Rattle.std.specs.Prelude.{Ok, Err}
use Rattle.cipher.proofs.Numbers.{le_or_lt}
use Rattle.answer.specs.declared.answer.Accepted.{Accepted}
use Rattle.answer.specs.declared.refusal.Refusal.{Refusal}
use Rattle.answer.specs.Refusal.{refusal_number}
use Rattle.answer.specs.Outcome.{Outcome, Answer, refused, accepted, choose, over, Meets}
use Rattle.answer.proofs.Outputs.{front, fits_front}
use Rattle.answer.proofs.Rows.{err_meets, refusal_some, accepted_meets}
use Rattle.answer.proofs.Refusals.{refused_number}
use Rattle.agreement.specs.Play.{unless}
use Rattle.agreement.specs.inner.Said.{pair}

-- ---- the first bytes of a block that an outcome was written to, as many as the answer says

module _ (o : Outcome) (v : Accepted) (z w : List ℕ) (m : Meets o (Ok v) z w) where
  pub piece_is : take v.length w ≡ o.bytes
  piece_is = front o.bytes z w v.length (sym m.length_is) m.output

  pub piece_fits : length w ≡ length z → v.length ≤ length w
  piece_fits l = let f = fits_front o.bytes z w m.output l in omega (arith, m.length_is, f)

-- ---- a pair

module _ (a b : Outcome) where
  pub pair_first : (a.number ≡ 0 → ⊥) → pair a b ≡ refused a.number
  unfolding pair unless choose
  pair_first h = rw (ne_eqb a.number 0 h)

  pub pair_second : a.number ≡ 0 → (b.number ≡ 0 → ⊥) → pair a b ≡ refused b.number
  unfolding pair unless choose
  pair_second e h = rw (eq-eqb a.number 0 e, ne_eqb b.number 0 h)

  pub pair_both : a.number ≡ 0 → b.number ≡ 0 → pair a b ≡ accepted 0 (a.bytes ++ b.bytes)
  unfolding pair unless choose
  pair_both e f = rw (eq-eqb a.number 0 e, eq-eqb b.number 0 f)

-- a pair that was accepted, by its message
pub pair_zero : (a b : Outcome) → (pair a b).number ≡ 0 → a.number ≡ 0
pair_zero a b z =
    ⊎_elim
    (λ (l : 1 ≤ a.number). sym (refused_number a.number) ∙ ap (λ (o : Outcome). o.number) (sym (pair_first a b (λ e. omega arith))) ∙ z)
    (λ (l : a.number < 1). omega arith)
    (le_or_lt 1 a.number)

-- ---- the steps

-- A is the message, R what reading answers, B the answer to what was read, C the check: once A was accepted reading never refuses, and once B was
-- accepted the check never does
pub record Message : Type 0 where
  pub A : Outcome
  pub R : List ℕ → Outcome
  pub B : List ℕ → Outcome
  pub C : List ℕ → Outcome
  pub reads : A.number ≡ 0 → (R A.bytes).number ≡ 0
  pub checks : A.number ≡ 0 → (B (R A.bytes).bytes).number ≡ 0 → (C (B (R A.bytes).bytes).bytes).number ≡ 0

module _ (t : Message) where
  abbrev answered : Outcome
  answered = t.B (t.R t.A.bytes).bytes

  abbrev pub Said : Outcome
  Said = pair t.A answered

  -- the message was refused
  pub message_refused : {z w : List ℕ} (e : Refusal) → Meets t.A (Err e) z w → {r : Answer} (out : List ℕ) → r ≡ Err e → Meets Said r out out
  message_refused e m out q = rw (pair_first t.A answered (λ k. refusal_some e (m.number ∙ k)) ∙ ap refused (sym m.number)) (err_meets e out q)

  -- the message was accepted, and x is what was sent
  module _ {v1 : Accepted} {z1 w1 x : List ℕ} (m1 : Meets t.A (Ok v1) z1 w1) (q1 : x ≡ take v1.length w1) where
    sent_is : x ≡ t.A.bytes
    sent_is = q1 ∙ piece_is _ _ _ _ m1

    -- what reading wrote, in terms of the message alone
    pub read_wrote : {r : Answer} {z w : List ℕ} → Meets (t.R x) r z w → w ≡ over (t.R t.A.bytes).bytes z
    read_wrote {r} {z} {w} m = m.output ∙ ap (λ (d : List ℕ). over (t.R d).bytes z) sent_is

    pub never_unread : {T : Type 0} {z w : List ℕ} (e : Refusal) → Meets (t.R x) (Err e) z w → T
    never_unread e m = absurd (refusal_some e (m.number ∙ ap (λ (d : List ℕ). (t.R d).number) sent_is ∙ t.reads (sym m1.number)))

    -- y is what was read
    module _ {v2 : Accepted} {z2 w2 y : List ℕ} (m2 : Meets (t.R x) (Ok v2) z2 w2) (q2 : y ≡ take v2.length w2) where
      answer_is : t.B y ≡ answered
      answer_is = ap t.B (q2 ∙ piece_is _ _ _ _ m2 ∙ ap (λ (d : List ℕ). (t.R d).bytes) sent_is)

      pub answer_refused : {z w : List ℕ} (e : Refusal) → Meets (t.B y) (Err e) z w → {r : Answer} (out : List ℕ) → r ≡ Err e → Meets Said r out out
      answer_refused e m out q =
          let n : refusal_number e ≡ answered.number = m.number ∙ ap (λ (o : Outcome). o.number) answer_is in
          rw (pair_second t.A answered (sym m1.number) (λ k. refusal_some e (n ∙ k)) ∙ ap refused (sym n)) (err_meets e out q)

      -- the answer was accepted, and v is what was answered
      module _ {v3 : Accepted} {z3 w3 v : List ℕ} (m3 : Meets (t.B y) (Ok v3) z3 w3) (q3 : v ≡ take v3.length w3) where
        number_is : answered.number ≡ 0
        number_is = ap (λ (o : Outcome). o.number) (sym answer_is) ∙ sym m3.number

        bytes_are : v ≡ answered.bytes
        bytes_are = q3 ∙ piece_is _ _ _ _ m3 ∙ ap (λ (o : Outcome). o.bytes) answer_is

        pub never_turned_down : {T : Type 0} {z w : List ℕ} (e : Refusal) → Meets (t.C v) (Err e) z w → T
        never_turned_down e m = absurd (refusal_some e (m.number ∙ ap (λ (d : List ℕ). (t.C d).number) bytes_are ∙ t.checks (sym m1.number) number_is))

        -- both went out, one behind the other
        pub both_said : {n : ℕ} {a : Accepted} {before after : List ℕ} → (a.length ≡ n) × (a.transaction_number ≡ 0) × (a.padding ≡ 0)
            → (n ≡ length (x ++ v)) × (after ≡ over (x ++ v) before) → Meets Said (Ok a) before after
        both_said {n} {a} {before} {after} s j =
            let e = ap₂ (λ (s t : List ℕ). s ++ t) sent_is bytes_are in
            rw (pair_both t.A answered (sym m1.number) number_is)
            (accepted_meets 0 (t.A.bytes ++ answered.bytes) (Ok a) before after refl (s.0 ∙ j.0 ∙ ap length e) s.1 s.2 (j.1 ∙ ap (λ (b : List ℕ). over b before) e))
