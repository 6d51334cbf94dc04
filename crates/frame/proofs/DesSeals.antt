-- DES sealing, step by step: padding, MAC and encryption over the front of an output. Assumes nothing.
use mathlib.Core.Path.{◌≡◌, refl, sym, ap, ◌∙◌}
use mathlib.Core.List.{List, [], ◌∷◌, ◌++◌}
use Prim.Native.Nat.{ℕ, suc, ◌+◌, ◌-◌, ◌%◌, ◌≤◌, ◌<◌}
use native.Mathlib.Omega.{arith}
use borrow.Author.Tests.{ltb-false}
use lib.Dec.{eqb, ltb}
use lib.ListN.{length, take, drop, replicate, length-append}
use lib.Seq.{length-take-le}
use Rattle.cipher.specs.Fips46.{des_encrypt}
use Rattle.cipher.specs.Sp80038a.{cbc_encrypt, on_whole}
use Rattle.cipher.proofs.Copies.{length_part}
use Rattle.std.specs.Prelude.{Result, Err}
use Rattle.answer.specs.declared.refusal.Refusal.{Refusal}
use Rattle.answer.specs.Refusal.{refusal_number}
use Rattle.frame.specs.declared.des.SecureResponseHeader.{SecureResponseHeader}
use Rattle.frame.specs.inner.DesSteps.{ChecksDes}
use Rattle.answer.specs.Outcome.{over, padded, row, decide, first_of}
use Rattle.answer.specs.Tests.{isnt, both}
use Rattle.answer.proofs.Rows.{AllFalse, numbered, first_passes, either_false, is_number}
use Rattle.frame.specs.Padding.{pad_count, pad}
use Rattle.frame.specs.DesFrame.{des_mac, des_seal, header, des_sealed, des_size, des_sealing, seal_rows}
use Rattle.answer.proofs.Outputs.{front, over_self, over_over, filled_behind}
use Rattle.frame.proofs.Fronts.{in_place}
use Rattle.frame.proofs.Pads.{pad_count_small, pad_count_whole, length_pad}

-- sealed data has at most 248 bytes
pub size_most : (n : ℕ) → n ≤ 232 → des_size n ≤ 248
unfolding des_size
size_most n h = omega (arith, pad_count_small (n + 8), pad_count_whole (n + 8))

-- brought up to a multiple of 8, a length has its padding
pub padded_length : (n : ℕ) → n + (8 - n % 8) % 8 ≡ n + pad_count n
unfolding pad_count
padded_length n = refl

-- the padding was filled in behind the first len bytes
pub padded_front : (o last : List ℕ) (len end : ℕ) → len + pad_count len ≤ length o → end ≡ len + pad_count len
    → last ≡ replicate (length (take (end - len) (drop len o))) (end - len) → take len o ++ (last ++ drop (end - len) (drop len o)) ≡ over (pad (take len o)) o
unfolding pad
padded_front o last len end h e q =
    let k : len ≤ length o = omega arith in
    let l : length (take len o) ≡ len = length-take-le len o k in
    let c : end - len ≡ pad_count len = omega arith in
    let g : length (take (end - len) (drop len o)) ≡ end - len = length_part o len (end - len) (omega arith) in
    filled_behind (take len o) o o len l (over_self o len k) last (end - len) (end - len) (end - len) g q ∙ rw (l, c)

-- number and ID
pub length_header : (number : ℕ) (id : List ℕ) → length id ≡ 6 → length (header number id) ≡ 8
unfolding header
length_header number id e = ap (λ (k : ℕ). suc (suc k)) e

-- the MAC m stands behind the padded string, and the whole is encrypted in place
module _ (code len r : ℕ) (key o : List ℕ) (room : len + pad_count len + 8 ≤ length o) (end : r ≡ len + pad_count len) where
  pub length_padded : length (pad (take len o)) ≡ r
  length_padded =
      let t : length (take len o) ≡ len = length-take-le len o (omega arith) in
      length_pad (take len o) ∙ ap (λ (k : ℕ). k + pad_count k) t ∙ sym end

  pub sealed_front : (s m s' last : List ℕ) → s ≡ over (pad (take len o)) o → m ≡ des_mac code (take r s) → length m ≡ 8 → s' ≡ over (pad (take len o) ++ m) o
      → last ≡ on_whole 8 (cbc_encrypt (des_encrypt key) 8 (replicate 8 0)) (take (r + 8) s') → length last ≡ length (take (r + 8) s')
      → (r + 8 ≡ length (des_seal key code (pad (take len o)))) × (last ++ drop (r + 8) s' ≡ over (des_seal key code (pad (take len o))) o)
  unfolding des_seal
  sealed_front s m s' last es em lm es' el ll =
      let p : List ℕ = pad (take len o) in
      let lp : length (p ++ m) ≡ r + 8 = length-append p m ∙ rw (length_padded, lm) in
      let w : (r + 8) % 8 ≡ 0 = rw end (omega (arith, pad_count_whole len)) in
      let mm : m ≡ des_mac code p = em ∙ ap (des_mac code) (front p o s r length_padded es) in
      let q = in_place 8 (cbc_encrypt (des_encrypt key) 8 (replicate 8 0)) (p ++ m) o s' last (r + 8) lp es' w el ll in (
        sym q.0 ∙ ap (λ (z : List ℕ). length (cbc_encrypt (des_encrypt key) 8 (replicate 8 0) (p ++ z))) mm,
        q.1 ∙ ap (λ (z : List ℕ). over (cbc_encrypt (des_encrypt key) 8 (replicate 8 0) (p ++ z)) o) mm,
      )

-- b was written over o, and sealed in place
pub sealed_over : (code n r : ℕ) (key b o s s' : List ℕ) → length b ≡ n → s ≡ over b o
    → (r ≡ n + pad_count n + 8) × (r ≡ length (des_seal key code (pad (take n s)))) × (s' ≡ over (des_seal key code (pad (take n s))) s)
    → (r ≡ length (des_seal key code (pad b))) × (s' ≡ over (des_seal key code (pad b)) o)
sealed_over code n r key b o s s' l e h =
    let f : take n s ≡ b = front b o s n l e in
    let d : List ℕ = des_seal key code (pad b) in
    let q : r ≡ n + pad_count n + 8 = h.0 in
    let t : r ≡ length d = h.1 ∙ ap (λ (z : List ℕ). length (des_seal key code (pad z))) f in
    let g : length b ≤ length d = omega arith in
    (t, h.2 ∙ ap (λ (z : List ℕ). over (des_seal key code (pad z)) s) f ∙ ap (over d) e ∙ over_over b d o g)

-- header and payload were written, and sealed in place
pub written_des : (code number r : ℕ) (key id payload o s s' : List ℕ) → length id ≡ 6 → s ≡ over (header number id ++ payload) o
    → (r ≡ length payload + 8 + pad_count (length payload + 8) + 8) × (r ≡ length (des_seal key code (pad (take (length payload + 8) s)))) × (s' ≡ over (des_seal key code (pad (take (length payload + 8) s))) s)
    → (r ≡ des_size (length payload)) × (des_size (length payload) ≡ length (des_sealed key code number id payload)) × (s' ≡ over (des_sealed key code number id payload) o)
unfolding des_size des_sealed
written_des code number r key id payload o s s' six e h =
    let k : length (header number id) ≡ 8 = length_header number id six in
    let l : length (header number id ++ payload) ≡ length payload + 8 = length-append (header number id) payload ∙ omega arith in
    let q = sealed_over code (length payload + 8) r key (header number id ++ payload) o s s' l e h in
    (h.0, sym h.0 ∙ q.0, q.1)

-- what holds where no row by lengths does
pub record Sealable (id key payload : ℕ) : Type 0 where
  pub rows : AllFalse (seal_rows id key payload)
  pub six : id ≡ 6
  pub eight : key ≡ 8
  pub short : payload ≤ 232
  pub some : 0 < des_size payload
  pub fits : des_size payload ≤ 248

-- none does where the number of the first that does is 0
pub seal_passes : (id key payload k : ℕ) → k ≡ first_of (seal_rows id key payload) → k ≡ 0 → Sealable id key payload
unfolding seal_rows numbered both des_size
seal_passes id key payload k e z =
    let a = first_passes (seal_rows id key payload) k refl e z in
    let b = either_false (isnt (eqb id 6)) (isnt (eqb key 8)) a.0 in
    let h = ltb-false 232 payload a.1.0 in
    record { rows = a; six = is_number id 6 b.0; eight = is_number key 8 b.1; short = h; some = omega arith; fits = size_most payload h }

-- a row by lengths holds
pub not_checked : (number : ℕ) (id key : List ℕ) (n : ℕ) (e : Refusal) {r : Result (SecureResponseHeader × List ℕ) Refusal} → r ≡ Err e → first_of (seal_rows (length id) (length key) n) ≡ refusal_number e → ChecksDes number id key n r
not_checked number id key n e {r} q h = rw q h

-- the rows by lengths alone, then 16
pub seal_steps : (key id payload : List ℕ) (code number room : ℕ)
    → des_sealing key code number id payload room ≡ decide (seal_rows (length id) (length key) (length payload)) (decide (row 16 (ltb room (des_size (length payload))) ∷ []) (padded (pad_count (length payload + 8)) (des_sealed key code number id payload)))
unfolding des_sealing seal_rows decide
seal_steps key id payload code number room = refl
