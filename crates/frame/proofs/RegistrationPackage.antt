-- Registration packages, step by step. Assumes nothing.
use mathlib.Core.Path.{◌≡◌, refl, sym, ap, ◌∙◌}
use mathlib.Core.List.{List, ◌++◌}
use Prim.Native.Nat.{ℕ, ◌+◌, ◌-◌, ◌%◌, ◌≤◌, ◌<◌}
use native.Mathlib.Omega.{arith}
use borrow.Author.Tests.{eq-eqb, eqb-false, ne_eqb, lt-ltb, le-ltb, ltb-false}
use lib.Dec.{eqb}
use Rattle.std.specs.Prelude.{◌≢◌}
use lib.ListN.{length, take, drop, replicate, length-append, length-drop}
use lib.Seq.{take_at, drop-append-le}
use Rattle.cipher.specs.Bytes.{◌⊕◌, complement}
use Rattle.cipher.specs.Fips46.{des_encrypt}
use Rattle.cipher.specs.Sp80038a.{cbc_encrypt, on_whole}
use Rattle.cipher.proofs.Xor.{complement_is}
use Rattle.answer.specs.Outcome.{choose, first_of, over}
use Rattle.frame.specs.Package.{package_cipher, package_mac, packaged, package_rows}
use Rattle.answer.specs.Tests.{isnt, either, both}
use Rattle.answer.proofs.Rows.{AllFalse, numbered, first_passes, either_false, is_number, right_length}
use Rattle.answer.proofs.Refusals.{either_of}
use Rattle.frame.proofs.Fronts.{in_place, copied_in_place}
use Rattle.answer.proofs.Outputs.{copied_over, over_over}

-- ---- the rows

-- none holds
pub package_none : (key plain room : ℕ) → key ≡ 8 → plain ≢ 0 → plain % 8 ≡ 0 → plain ≤ 4096 → plain + 8 ≤ room → AllFalse (package_rows key plain room)
unfolding package_rows
package_none key plain room k n w s f =
    (right_length key 8 k, (either_of _ _ (ne_eqb plain 0 n) (right_length (plain % 8) 0 w), (le-ltb 4096 plain s, (le-ltb room (plain + 8) f, tt))))

-- the other way round: what the lengths are where none holds
pub record Packable (key plain room : ℕ) : Type 0 where
  pub rows : AllFalse (package_rows key plain room)
  pub eight : key ≡ 8
  pub blocks : plain % 8 ≡ 0
  pub some : 8 ≤ plain
  pub short : plain ≤ 4096
  pub fits : plain + 8 ≤ room

-- none does where the number of the first that does is 0
pub package_passes : (key plain room k : ℕ) → k ≡ first_of (package_rows key plain room) → k ≡ 0 → Packable key plain room
unfolding package_rows numbered both
package_passes key plain room k e z =
    let a = first_passes (package_rows key plain room) k refl e z in
    let b = either_false (eqb plain 0) (isnt (eqb (plain % 8) 0)) a.1.0 in
    let w : plain % 8 ≡ 0 = is_number (plain % 8) 0 b.1 in
    let n : plain ≡ 0 → ⊥ = eqb-false plain 0 b.0 in
    record {
      rows = a;
      eight = is_number key 8 a.0;
      blocks = w;
      some = omega (arith, n);
      short = ltb-false 4096 plain a.1.1.0;
      fits = ltb-false room (plain + 8) a.1.1.1.0;
    }

module _ (key plain room : ℕ) (eight : key ≡ 8) where
  -- row 10
  pub empty_10 : plain ≡ 0 → first_of (package_rows key plain room) ≡ 10
  unfolding package_rows first_of choose isnt either
  empty_10 n = rw (eq-eqb key 8 eight, eq-eqb plain 0 n)

  module _ (some : plain ≢ 0) where
    pub blocks_10 : plain % 8 ≢ 0 → first_of (package_rows key plain room) ≡ 10
    unfolding package_rows first_of choose isnt either
    blocks_10 w = rw (eq-eqb key 8 eight, ne_eqb plain 0 some, ne_eqb (plain % 8) 0 w)

    module _ (whole : plain % 8 ≡ 0) where
      pub long_12 : 4096 < plain → first_of (package_rows key plain room) ≡ 12
      unfolding package_rows first_of choose isnt either
      long_12 h = rw (eq-eqb key 8 eight, ne_eqb plain 0 some, eq-eqb (plain % 8) 0 whole, lt-ltb 4096 plain h)

      pub room_16 : plain ≤ 4096 → room < plain + 8 → first_of (package_rows key plain room) ≡ 16
      unfolding package_rows first_of choose isnt either
      room_16 s h = rw (eq-eqb key 8 eight, ne_eqb plain 0 some, eq-eqb (plain % 8) 0 whole, le-ltb 4096 plain s, lt-ltb room (plain + 8) h)

-- ---- the bytes

-- the cipher text under the complemented key stands over o
pub cipher_written : (key k plain o s last : List ℕ) → length plain % 8 ≡ 0 → length plain ≤ length o → s ≡ take (length o) plain ++ drop (length plain) o
    → length key ≡ 8 → k ≡ key ⊕ replicate 8 255 → last ≡ on_whole 8 (cbc_encrypt (des_encrypt k) 8 (replicate 8 0)) (take (length plain) s) → length last ≡ length (take (length plain) s)
    → (length (package_cipher key plain) ≡ length plain) × (last ++ drop (length plain) s ≡ over (package_cipher key plain) o)
unfolding package_cipher
cipher_written key k plain o s last w fits es eight ek el ll =
    copied_in_place 8 (cbc_encrypt (des_encrypt (complement key)) 8 (replicate 8 0)) plain o s last w fits es (rw (ek ∙ sym (complement_is 8 key eight)) at el) ll

-- its last block
pub last_block : (key plain o s r : List ℕ) → length (package_cipher key plain) ≡ length plain → 8 ≤ length plain → s ≡ over (package_cipher key plain) o
    → r ≡ take (length plain - (length plain - 8)) (drop (length plain - 8) s) → r ≡ package_mac key plain
unfolding package_mac over
last_block key plain o s r l h es er =
    let c : List ℕ = package_cipher key plain in
    let n : ℕ = length plain in
    let f : n - 8 ≤ length c = omega arith in
    let g : length (drop (n - 8) c) ≡ n - (n - 8) = length-drop (n - 8) c ∙ omega arith in
    er ∙ rw (es, drop-append-le (n - 8) c (drop (length c) o) f) (take_at (drop (n - 8) c) (drop (length c) o) (n - (n - 8)) g)

-- the package again, over its cipher text
pub plain_again : (key plain o s s' : List ℕ) → length (package_cipher key plain) ≡ length plain → length plain ≤ length s → s ≡ over (package_cipher key plain) o
    → s' ≡ take (length s) plain ++ drop (length plain) s → s' ≡ over plain o
plain_again key plain o s s' l h es e =
    let g : length (package_cipher key plain) ≤ length plain = omega arith in
    copied_over plain s s' h e ∙ ap (over plain) es ∙ over_over (package_cipher key plain) plain o g

-- with its MAC, encrypted in place
pub package_written : (key plain mac o s last : List ℕ) → length plain % 8 ≡ 0 → mac ≡ package_mac key plain → length mac ≡ 8 → s ≡ over (plain ++ mac) o
    → last ≡ on_whole 8 (cbc_encrypt (des_encrypt key) 8 (replicate 8 0)) (take (length plain + 8) s) → length last ≡ length (take (length plain + 8) s)
    → (length plain + 8 ≡ length (packaged key plain)) × (last ++ drop (length plain + 8) s ≡ over (packaged key plain) o)
unfolding packaged
package_written key plain mac o s last w em lm es el ll =
    let l : length (plain ++ mac) ≡ length plain + 8 = length-append plain mac ∙ rw lm in
    let v : (length plain + 8) % 8 ≡ 0 = omega arith in
    let q = in_place 8 (cbc_encrypt (des_encrypt key) 8 (replicate 8 0)) (plain ++ mac) o s last (length plain + 8) l es v el ll in
    let c : List ℕ → List ℕ = λ z. cbc_encrypt (des_encrypt key) 8 (replicate 8 0) (plain ++ z) in
    (sym q.0 ∙ ap (λ (z : List ℕ). length (c z)) em, q.1 ∙ ap (λ (z : List ℕ). over (c z) o) em)
