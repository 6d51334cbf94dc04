-- A whole transcript: three pairs of messages after two derivations. Assumes nothing.
use mathlib.Core.Path.{◌≡◌, refl, sym, ap, ap₂, ◌∙◌, subst}
use mathlib.Core.List.{List, [], ◌∷◌, ◌++◌, append_assoc}
use Prim.Native.Nat.{ℕ, zero, suc, ◌≤◌}
use native.Mathlib.Omega.{arith}
use borrow.Author.Tests.{eq-eqb, ne_eqb}
use lib.ListN.{length, take}
use Rattle.std.specs.Prelude.{Ok, Err}
use Rattle.answer.specs.Scheme.{mark_of}
use Rattle.answer.specs.Delivery.{delivering, Delivers}
use Rattle.answer.specs.declared.answer.Accepted.{Accepted}
use Rattle.answer.specs.declared.refusal.Refusal.{Refusal}
use Rattle.answer.specs.Refusal.{refusal_number}
use Rattle.answer.specs.Outcome.{Outcome, Answer, refused, acceptance, accepted, choose, over, Meets}
use Rattle.answer.proofs.Outputs.{front, fits_front}
use Rattle.answer.proofs.Refusals.{acceptance_zero}
use Rattle.answer.proofs.Rows.{err_meets, refusal_some, delivers_meets}
use Rattle.session.specs.Derivation.{Derived, Derives, derivation}
use Rattle.session.specs.declared.keys.DerivedAuthKeys.{DerivedAuthKeys}
use Rattle.agreement.proofs.MessagePairs.{piece_is}
use Rattle.agreement.specs.Play.{unless, said_1a, said_1b, said_2a, said_2b, said_command, said_response, saying, playing}
use Rattle.agreement.specs.inner.Said.{pair, holding, exchange1, random2_read, exchange2, conversation, credentials_of}

-- ---- `unless`: a number that is not 0 stops it, whatever follows

pub unless_stops : (ks : List ℕ) (b : List ℕ) (o : Outcome) → ((unless ks (accepted 0 b)).number ≡ 0 → ⊥) → unless ks o ≡ refused (unless ks (accepted 0 b)).number
unfolding unless choose refused
unless_stops [] b o h = absurd (h (acceptance_zero 0 0 b))
unless_stops (zero ∷ ks) b o h = unless_stops ks b o h
unless_stops (suc k ∷ ks) b o h = rw (ne_eqb (suc k) 0 (λ e. omega arith))

pub unless_goes : (ks : List ℕ) (b : List ℕ) (o : Outcome) → (unless ks (accepted 0 b)).number ≡ 0 → unless ks o ≡ o
unfolding unless choose refused
unless_goes [] b o h = refl
unless_goes (zero ∷ ks) b o h = unless_goes ks b o h
unless_goes (suc k ∷ ks) b o h = let z : suc k ≡ 0 = rw (ne_eqb (suc k) 0 (λ e. omega arith)) at h in absurd (omega arith)

pair_bytes : (a b : Outcome) → (pair a b).number ≡ 0 → (pair a b).bytes ≡ a.bytes ++ b.bytes
unfolding pair acceptance
pair_bytes a b z = ap (λ (o : Outcome). o.bytes) (unless_goes (a.number ∷ b.number ∷ []) (a.bytes ++ b.bytes) (accepted 0 (a.bytes ++ b.bytes)) z)

-- ---- three pairs

module _ (a b c d e f : Outcome) (room : ℕ) where
  abbrev pub Six : Outcome
  Six = unless (a.number ∷ b.number ∷ c.number ∷ d.number ∷ e.number ∷ f.number ∷ []) (delivering 0 (a.bytes ++ b.bytes ++ c.bytes ++ d.bytes ++ e.bytes ++ f.bytes) room)

  rest_2 : Outcome
  rest_2 = unless (e.number ∷ f.number ∷ []) (delivering 0 (a.bytes ++ b.bytes ++ c.bytes ++ d.bytes ++ e.bytes ++ f.bytes) room)

  rest_1 : Outcome
  rest_1 = unless (c.number ∷ d.number ∷ []) rest_2

  in_pairs : Six ≡ unless (a.number ∷ b.number ∷ []) rest_1
  unfolding unless rest_1 rest_2
  in_pairs = refl

  pub first_stops : ((pair a b).number ≡ 0 → ⊥) → Six ≡ refused (pair a b).number
  unfolding pair
  first_stops h = in_pairs ∙ unless_stops (a.number ∷ b.number ∷ []) (a.bytes ++ b.bytes) rest_1 h

  module _ (z1 : (pair a b).number ≡ 0) where
    after_first : Six ≡ rest_1
    unfolding pair
    after_first = in_pairs ∙ unless_goes (a.number ∷ b.number ∷ []) (a.bytes ++ b.bytes) rest_1 z1

    pub second_stops : ((pair c d).number ≡ 0 → ⊥) → Six ≡ refused (pair c d).number
    unfolding pair rest_1
    second_stops h = after_first ∙ unless_stops (c.number ∷ d.number ∷ []) (c.bytes ++ d.bytes) rest_2 h

    module _ (z2 : (pair c d).number ≡ 0) where
      after_second : Six ≡ rest_2
      unfolding pair rest_1
      after_second = after_first ∙ unless_goes (c.number ∷ d.number ∷ []) (c.bytes ++ d.bytes) rest_2 z2

      pub third_stops : ((pair e f).number ≡ 0 → ⊥) → Six ≡ refused (pair e f).number
      unfolding pair rest_2
      third_stops h = after_second ∙ unless_stops (e.number ∷ f.number ∷ []) (e.bytes ++ f.bytes) _ h

      after_third : (pair e f).number ≡ 0 → Six ≡ delivering 0 (a.bytes ++ b.bytes ++ c.bytes ++ d.bytes ++ e.bytes ++ f.bytes) room
      unfolding pair rest_2
      after_third z3 = after_second ∙ unless_goes (e.number ∷ f.number ∷ []) (e.bytes ++ f.bytes) _ z3

      -- said, the bytes of the pairs, was delivered
      pub all_said : (pair e f).number ≡ 0 → (said : List ℕ) → said ≡ (((pair a b).bytes ++ (pair c d).bytes) ++ (pair e f).bytes) → Six ≡ delivering 0 said room
      all_said z3 said q =
          let t : said ≡ ((a.bytes ++ b.bytes) ++ (c.bytes ++ d.bytes)) ++ (e.bytes ++ f.bytes) =
          q ∙ ap₂ (λ (x y : List ℕ). x ++ y) (ap₂ (λ (x y : List ℕ). x ++ y) (pair_bytes a b z1) (pair_bytes c d z2)) (pair_bytes e f z3) in
          let u : said ≡ a.bytes ++ b.bytes ++ c.bytes ++ d.bytes ++ e.bytes ++ f.bytes = t ∙ simp append_assoc in
          after_third z3 ∙ ap (λ (x : List ℕ). delivering 0 x room) (sym u)

-- ---- what two ends say

-- a pair was refused
stopped : (o p : Outcome) → ((p.number ≡ 0 → ⊥) → o ≡ refused p.number) → {z w : List ℕ} (e : Refusal) → Meets p (Err e) z w → {r : Answer} (out : List ℕ) → r ≡ Err e → Meets o r out out
stopped o p s e m out q = rw (s (λ k. refusal_some e (m.number ∙ k)) ∙ ap refused (sym m.number)) (err_meets e out q)

module _ (s : ℕ) (reader card idm c3 random1 random2 : List ℕ) (code number : ℕ) (id key payload : List ℕ) (room : ℕ) where
  abbrev Spoken : Outcome
  Spoken = saying (holding s reader) (holding s card) idm c3 random1 random2 code number id key payload room

  abbrev pub E1 : Outcome
  E1 = exchange1 s reader card idm c3 random1

  abbrev pub E2 : Outcome
  E2 = exchange2 s reader card idm c3 random2

  abbrev pub E3 : Outcome
  E3 = conversation s code number id (credentials_of s key (random2_read s reader card idm c3 random2) c3) (credentials_of s key random2 c3) payload

  abbrev a : Outcome
  a = said_1a (holding s reader) (holding s card) idm c3 random1 random2 code number id key payload

  abbrev b : Outcome
  b = said_1b (holding s reader) (holding s card) idm c3 random1 random2 code number id key payload

  abbrev c : Outcome
  c = said_2a (holding s reader) (holding s card) idm c3 random1 random2 code number id key payload

  abbrev d : Outcome
  d = said_2b (holding s reader) (holding s card) idm c3 random1 random2 code number id key payload

  abbrev e : Outcome
  e = said_command (holding s reader) (holding s card) idm c3 random1 random2 code number id key payload

  abbrev f : Outcome
  f = said_response (holding s reader) (holding s card) idm c3 random1 random2 code number id key payload

  say_first : (E1.number ≡ 0 → ⊥) → Spoken ≡ refused E1.number
  unfolding saying exchange1
  say_first = first_stops a b c d e f room

  pub first_refused : {z w : List ℕ} (e : Refusal) → Meets E1 (Err e) z w → {r : Answer} (out : List ℕ) → r ≡ Err e → Meets Spoken r out out
  first_refused = stopped Spoken E1 say_first

  module _ (z1 : E1.number ≡ 0) where
    say_second : (E2.number ≡ 0 → ⊥) → Spoken ≡ refused E2.number
    unfolding saying exchange1 exchange2 random2_read
    say_second = second_stops a b c d e f room z1

    pub second_refused : {z w : List ℕ} (e : Refusal) → Meets E2 (Err e) z w → {r : Answer} (out : List ℕ) → r ≡ Err e → Meets Spoken r out out
    second_refused = stopped Spoken E2 say_second

    module _ (z2 : E2.number ≡ 0) where
      say_third : (E3.number ≡ 0 → ⊥) → Spoken ≡ refused E3.number
      unfolding saying exchange1 exchange2 conversation credentials_of random2_read
      say_third = third_stops a b c d e f room z1 z2

      -- p is the third pair as the ends had it
      pub third_refused : {z w : List ℕ} (p : Outcome) → p ≡ E3 → (e : Refusal) → Meets p (Err e) z w → {r : Answer} (out : List ℕ) → r ≡ Err e → Meets Spoken r out out
      third_refused p is e m = stopped Spoken E3 say_third e (rw is at m)

      say_all : E3.number ≡ 0 → (said : List ℕ) → said ≡ (E1.bytes ++ E2.bytes) ++ E3.bytes → Spoken ≡ delivering 0 said room
      unfolding saying exchange1 exchange2 conversation credentials_of random2_read
      say_all = all_said a b c d e f room z1 z2

      -- x, y and v are what the pairs wrote, and all of it was delivered
      pub delivered : {v1 v2 v3 : Accepted} {z1 w1 z2 w2 z3 w3 x y v : List ℕ} (p : Outcome) → p ≡ E3 → Meets E1 (Ok v1) z1 w1 → x ≡ take v1.length w1 → Meets E2 (Ok v2) z2 w2 → y ≡ take v2.length w2
          → Meets p (Ok v3) z3 w3 → v ≡ take v3.length w3 → (said : List ℕ) → said ≡ (x ++ y) ++ v → length said ≤ 65535
          → {r : Answer} {before after : List ℕ} → Delivers (delivering 0 said room) r before after → Meets Spoken r before after
      delivered p is m1 q1 m2 q2 m3 q3 said q short d =
          let b = ap₂ (λ (s t : List ℕ). s ++ t) (ap₂ (λ (s t : List ℕ). s ++ t) (q1 ∙ piece_is _ _ _ _ m1) (q2 ∙ piece_is _ _ _ _ m2)) (q3 ∙ piece_is _ _ _ _ m3 ∙ ap (λ (o : Outcome). o.bytes) is) in
          rw (say_all (ap (λ (o : Outcome). o.number) (sym is) ∙ sym m3.number) said (q ∙ b)) (delivers_meets _ 0 _ _ d short)

-- what stands at the front of an output, as `&s[..n]` has it
pub front_is : (b o s : List ℕ) (n : ℕ) → (n ≡ length b) × (s ≡ over b o) → take n s ≡ b
front_is b o s n h = front b o s n (sym h.0) h.1

-- ---- the derivations

module _ (d : Derived) (k : DerivedAuthKeys) (z w : List ℕ) (m : Derives d (Ok k) z w) where
  pub keys_are : (x : List ℕ) → x ≡ take k.length w → x ≡ d.bytes
  keys_are x q = q ∙ front d.bytes z w k.length (sym m.length_is) m.output

  pub keys_end : length w ≡ length z → k.length ≤ length w
  keys_end l = let f = fits_front d.bytes z w m.output l in omega (arith, m.length_is, f)

module _ (mark : ℕ) (keys areas services individual idm c3 random1 random2 : List ℕ) (code number : ℕ) (id key payload : List ℕ) (room : ℕ) where
  abbrev both : Derived
  both = derivation mark keys areas services individual 32

  abbrev Play : Outcome
  Play = playing mark keys areas services individual idm c3 random1 random2 code number id key payload room

  -- a derivation was refused
  pub derivation_refused : {z w : List ℕ} (e : Refusal) → Derives both (Err e) z w → {r : Answer} (out : List ℕ) → r ≡ Err e → Meets Play r out out
  unfolding playing unless choose
  derivation_refused e m out q = rw (← m.number, ne_eqb (refusal_number e) 0 (refusal_some e)) (err_meets e out q)

  goes_on : both.number ≡ 0 → Play ≡ saying both both idm c3 random1 random2 code number id key payload room
  unfolding playing unless choose
  goes_on e = rw (eq-eqb both.number 0 e)

  -- an end goes by its scheme and its keys
  by_keys : (d : Derived) → saying (holding d.scheme d.bytes) (holding d.scheme d.bytes) idm c3 random1 random2 code number id key payload room ≡ saying d d idm c3 random1 random2 code number id key payload room
  unfolding saying
  by_keys d = refl

  -- both were accepted, and the ends spoke
  pub played : {k : DerivedAuthKeys} {z w : List ℕ} → Derives both (Ok k) z w → (x y : List ℕ) → x ≡ both.bytes → y ≡ both.bytes → (r : Answer) (before after : List ℕ)
      → Meets (saying (holding (mark_of k.scheme) x) (holding (mark_of k.scheme) y) idm c3 random1 random2 code number id key payload room) r before after → Meets Play r before after
  played d x y p q r before after m =
      let k = rw (d.scheme, p, q) at m in
      subst (λ (o : Outcome). Meets o r before after) (by_keys both ∙ sym (goes_on (sym d.number))) k
