-- The front of an output, lent to a call that works on whole blocks of w bytes. Assumes nothing.
use mathlib.Core.Path.{◌≡◌, refl, sym, ap, ◌∙◌}
use mathlib.Core.Bool.{Bool, true}
use mathlib.Core.List.{List, ◌++◌}
use Prim.Native.Nat.{ℕ, ◌%◌, ◌≤◌}
use lib.ListN.{length, take, drop}
use lib.Seq.{length-take-le}
use Rattle.cipher.specs.Sp80038a.{whole, on_whole}
use Rattle.cipher.proofs.Modes.{on_whole_lem}
use Rattle.answer.specs.Outcome.{over}
use Rattle.answer.proofs.Outputs.{front, replaced, copied_over}

-- such a call accepts a front of n bytes, where n is whole
pub accepts_front : (w n : ℕ) (s : List ℕ) (ok : Bool) → ok ≡ whole w (take n s) → n ≤ length s → n % w ≡ 0 → ok ≡ true
accepts_front w n s ok e h z =
    let k : length (take n s) % w ≡ 0 = rw (length-take-le n s h) z in
    e ∙ sym (on_whole_lem w (λ l. l) (take n s) k).0

module _ (w : ℕ) (f : List ℕ → List ℕ) where
  -- b was written over o, and f done to it in place
  pub in_place : (b o s last : List ℕ) (n : ℕ) → length b ≡ n → s ≡ over b o → n % w ≡ 0 → last ≡ on_whole w f (take n s) → length last ≡ length (take n s)
      → (length (f b) ≡ n) × (last ++ drop n s ≡ over (f b) o)
  in_place b o s last n long e h el ll =
      let g : take n s ≡ b = front b o s n long e in
      let p : last ≡ f b = el ∙ ap (on_whole w f) g ∙ sym (on_whole_lem w f b (rw long h)).1 in
      let l : length last ≡ n = ll ∙ ap length g ∙ long in
      (ap length (sym p) ∙ l, replaced b o s n long e last l ∙ ap (λ (z : List ℕ). over z o) p)

  -- b was copied over o first
  pub copied_in_place : (b o s last : List ℕ) → length b % w ≡ 0 → length b ≤ length o → s ≡ take (length o) b ++ drop (length b) o
      → last ≡ on_whole w f (take (length b) s) → length last ≡ length (take (length b) s) → (length (f b) ≡ length b) × (last ++ drop (length b) s ≡ over (f b) o)
  copied_in_place b o s last h k es el ll = in_place b o s last (length b) refl (copied_over b o s k es) h el ll
