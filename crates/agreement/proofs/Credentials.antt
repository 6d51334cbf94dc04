-- The credentials of both ends: made of the random 2 that was read, or of the card's own. Assumes nothing.
use mathlib.Core.Path.{◌≡◌, refl, sym, ap, ◌∙◌}
use mathlib.Core.List.{List, ◌++◌, append-nil}
use mathlib.Core.Logic.{◌⊎◌, inl, inr, ⊎_elim}
use Prim.Native.Nat.{ℕ, zero, suc, ◌≤◌}
use native.Mathlib.Omega.{arith}
use borrow.Author.Tests.{eq-eqb, ne_eqb}
use lib.Dec.{lit≤}
use lib.ListN.{length, take, drop, length-append, drop_of_length-le}
use Rattle.std.specs.Prelude.{Ok, Err}
use Rattle.std.specs.Result.{IsOk}
use Rattle.cipher.specs.Bytes.{Bytes}
use Rattle.cipher.proofs.ByteLists.{Block}
use Rattle.answer.specs.Outcome.{Answer, answer_number, choose, over, Meets}
use Rattle.answer.proofs.Pieces.{placed_next}
use Rattle.answer.proofs.Rows.{refusal_some}
use Rattle.session.specs.Challenge.{making_2a, session_keys, deriving_session_keys}
use Rattle.session.proofs.Exchanges as two
use Rattle.agreement.specs.inner.Said.{exchange2, random2_read, conversation, credentials_of}
use Rattle.agreement.proofs.Messages.{zero_of, bytes_of, right_2, read_2}
use Rattle.agreement.proofs.MessagePairs.{pair_zero}

-- what was written over all of an output is the output
over_all : (b o : List ℕ) → length b ≡ length o → over b o ≡ b
unfolding over
over_all b o h = let l : length o ≤ length b = omega arith in rw (drop_of_length-le o l) (append-nil b)

zero_ok : (r : Answer) → answer_number r ≡ 0 → IsOk r
zero_ok (Ok v) h = refl
zero_ok (Err e) h = absurd (refusal_some e h)

-- session keys are not refused
pub keys_ok : (x : List ℕ) (z w : List ℕ) (r : Answer) → Block 16 x → Meets (deriving_session_keys x 36) r z w → IsOk r
keys_ok x z w r g m = zero_ok r (m.number ∙ zero_of _ _ (two.makes_session_keys x g 36 (lit≤ tt)))

-- session keys, and Challenge 3C put behind them
pub keys_then_3c : (x c3 z w last : List ℕ) (r : Answer) → Block 16 x → length c3 ≡ 4 → length z ≡ 36 → Meets (deriving_session_keys x 36) r z w
    → last ≡ c3 → take 32 w ++ (last ++ drop 4 (drop 32 w)) ≡ (deriving_session_keys x 32).bytes ++ c3
keys_then_3c x c3 z w last r g l3 lz m h =
    let b : length (session_keys x) ≡ 32 = (two.session_keys_block x g).long in
    let e : w ≡ over (session_keys x) z = m.output ∙ ap (λ (k : List ℕ). over k z) (bytes_of _ _ (two.makes_session_keys x g 36 (lit≤ tt))) in
    placed_next (session_keys x) z w 32 4 b (omega arith) e c3 last l3 h
    ∙ over_all (session_keys x ++ c3) z (length-append (session_keys x) c3 ∙ omega arith)
    ∙ ap (λ (k : List ℕ). k ++ c3) (sym (bytes_of _ _ (two.makes_session_keys x g 32 (lit≤ tt))))

-- ---- by scheme

module _ (s : ℕ) (key x c3 : List ℕ) where
  pub of_des : s ≡ 1 → key ≡ credentials_of s key x c3
  unfolding credentials_of choose
  of_des e = rw (eq-eqb s 1 e)

  pub of_aes : (s ≡ 1 → ⊥) → (b : List ℕ) → b ≡ (deriving_session_keys x 32).bytes ++ c3 → b ≡ credentials_of s key x c3
  unfolding credentials_of choose
  of_aes h b e = rw (ne_eqb s 1 h) e

one_or_not : (k : ℕ) → (k ≡ 1) ⊎ (k ≡ 1 → ⊥)
one_or_not zero = inr (λ e. omega arith)
one_or_not (suc zero) = inl refl
one_or_not (suc (suc k)) = inr (λ e. omega arith)

-- for DES no random 2 is looked at
pub of_any : (s : ℕ) (key x c3 y : List ℕ) → ((s ≡ 1 → ⊥) → x ≡ y) → credentials_of s key x c3 ≡ credentials_of s key y c3
of_any s key x c3 y h =
    ⊎_elim
    (λ (e : s ≡ 1). sym (of_des s key x c3 e) ∙ of_des s key y c3 e)
    (λ (n : s ≡ 1 → ⊥). ap (λ (d : List ℕ). credentials_of s key d c3) (h n))
    (one_or_not s)

-- a conversation under equal credentials
pub conversed : (s code number : ℕ) (id k k' l l' payload before after : List ℕ) (r : Answer) → k ≡ k' → l ≡ l'
    → Meets (conversation s code number id k l payload) r before after → Meets (conversation s code number id k' l' payload) r before after
conversed s code number id k k' l l' payload before after r e f m = rw (e, f) at m

-- ---- after an exchange that was accepted

module _ (s : ℕ) (reader card idm c3 x : List ℕ) (bk : Bytes card) (bi : Bytes idm) (b3 : Bytes c3) (bx : Bytes x) (same : reader ≡ card) (z : (exchange2 s reader card idm c3 x).number ≡ 0) where
  made : (making_2a s card idm c3 x 16).number ≡ 0
  unfolding exchange2
  made = pair_zero _ _ z

  pub read_is : random2_read s reader card idm c3 x ≡ x
  unfolding random2_read
  read_is = rw same (bytes_of _ _ (read_2 s card idm c3 x bk bi b3 bx made))

  -- for AES, random 2 has 16 bytes and Challenge 3C 4
  lengths : (s ≡ 1 → ⊥) → (length x ≡ 16) × (length c3 ≡ 4)
  lengths h =
      let g = right_2 s card idm c3 x bk bi b3 bx made in
      let aes : s ≡ 2 = ⊎_elim (λ (e : s ≡ 1). absurd (h e)) (λ (e : s ≡ 2). e) g.0.ends.known in
      (g.0.block.long ∙ two.size_of_aes s aes, g.1.long)

  -- w, where the random 2 that was read stands
  module _ (w o : List ℕ) (l : length o ≡ 16) (e : w ≡ over (random2_read s reader card idm c3 x) o) where
    pub handed : (s ≡ 1 → ⊥) → (w ≡ x) × (length x ≡ 16) × (length c3 ≡ 4)
    handed h = (e ∙ ap (λ (b : List ℕ). over b o) read_is ∙ over_all x o ((lengths h).0 ∙ sym l), (lengths h).0, (lengths h).1)

    handed_credentials : (key : List ℕ) → credentials_of s key w c3 ≡ credentials_of s key (random2_read s reader card idm c3 x) c3
    handed_credentials key = of_any s key w c3 (random2_read s reader card idm c3 x) (λ h. (handed h).0 ∙ sym read_is)

    pub handed_conversation : (code number : ℕ) (id key payload : List ℕ) → conversation s code number id (credentials_of s key w c3) (credentials_of s key x c3) payload
        ≡ conversation s code number id (credentials_of s key (random2_read s reader card idm c3 x) c3) (credentials_of s key x c3) payload
    handed_conversation code number id key payload = ap (λ (k : List ℕ). conversation s code number id k (credentials_of s key x c3) payload) (handed_credentials key)
