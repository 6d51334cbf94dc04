-- The laws of padding (specs/Padding). Assumes nothing.
use mathlib.Core.Path.{◌≡◌, refl, ap, ◌∙◌}
use mathlib.Core.Bool.{Bool, true, false}
use mathlib.Core.List.{List, ◌++◌, append-nil, append_assoc}
use Prim.Native.Nat.{ℕ, ◌+◌, ◌%◌, ◌≤◌, ◌<◌}
use native.Mathlib.Omega.{arith}
use borrow.Author.Tests.{eqb-true}
use lib.Dec.{eqb}
use lib.ListN.{length, replicate, length-append, length-replicate}
use Rattle.std.specs.Prelude.{◌≢◌}
use Rattle.cipher.specs.Bytes.{Bytes}
use Rattle.answer.specs.Outcome.{choose}
use Rattle.answer.proofs.Rows.{choose_keeps}
use Rattle.cipher.proofs.ByteLists.{Bytes-append, Bytes-replicate}
use Rattle.frame.specs.Padding.{pad_count, pad}
use Rattle.frame.specs.Scheme.{sealed_padding}

pub pad_count_small : (n : ℕ) → pad_count n < 8
unfolding pad_count
pad_count_small n = omega arith

pub pad_count_some : (n : ℕ) → n % 8 ≢ 0 → 1 ≤ pad_count n
unfolding pad_count
pad_count_some n h = omega arith

pub pad_count_whole : (n : ℕ) → (n + pad_count n) % 8 ≡ 0
unfolding pad_count
pad_count_whole n = omega arith

pub pad_count_none : (n : ℕ) → n % 8 ≡ 0 → pad_count n ≡ 0
unfolding pad_count
pad_count_none n h = omega arith

pub pad_count_header : (n : ℕ) → pad_count (8 + n) ≡ pad_count n
unfolding pad_count
pad_count_header n = omega arith

-- by scheme: whole blocks have none
pub sealed_padding_none : (scheme n : ℕ) → (scheme ≡ 1 → n % 8 ≡ 0) → sealed_padding scheme n ≡ 0
unfolding sealed_padding choose
sealed_padding_none scheme n h = by (eqb scheme 1) refl where
  by : (b : Bool) → eqb scheme 1 ≡ b → choose b (pad_count (n + 8)) 0 ≡ 0
  by true e = let w : n % 8 ≡ 0 = h (eqb-true scheme 1 e) in pad_count_none (n + 8) (omega arith)
  by false e = refl

pub sealed_padding_small : (scheme n : ℕ) → sealed_padding scheme n < 8
unfolding sealed_padding
sealed_padding_small scheme n = choose_keeps (λ (k : ℕ). k < 8) (eqb scheme 1) (pad_count (n + 8)) 0 (pad_count_small (n + 8)) (omega arith)

pub length_pad : (l : List ℕ) → length (pad l) ≡ length l + pad_count (length l)
unfolding pad
length_pad l = length-append l _ ∙ ap (λ (k : ℕ). length l + k) (length-replicate (pad_count (length l)) (pad_count (length l)))

pub pad_none : (l : List ℕ) → length l % 8 ≡ 0 → pad l ≡ l
unfolding pad
pad_none l h = ap (λ (k : ℕ). l ++ replicate k k) (pad_count_none (length l) h) ∙ append-nil l

-- a block in front is not padded
pub pad_after : (a b : List ℕ) → length a ≡ 8 → pad (a ++ b) ≡ a ++ pad b
unfolding pad
pad_after a b h =
    let e : pad_count (length (a ++ b)) ≡ pad_count (length b) = ap pad_count (length-append a b ∙ ap (λ (k : ℕ). k + length b) h) ∙ pad_count_header (length b) in
    ap (λ (k : ℕ). a ++ b ++ replicate k k) e ∙ append_assoc a b _

pub Bytes-pad : (l : List ℕ) → Bytes l → Bytes (pad l)
unfolding pad
Bytes-pad l b =
    let k : ℕ = pad_count (length l) in
    let h : k < 256 = omega (arith, pad_count_small (length l)) in
    Bytes-append l (replicate k k) b (Bytes-replicate k k h)
