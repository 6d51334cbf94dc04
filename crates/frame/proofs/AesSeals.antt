-- AES sealing, step by step: IV, MAC, and the sealed data over the front of an output. Assumes nothing.
use mathlib.Core.Path.{◌≡◌, refl, sym, ap, ◌∙◌}
use mathlib.Core.List.{List, [], ◌∷◌, ◌++◌, append_assoc}
use Prim.Native.Nat.{ℕ, ◌+◌, ◌-◌, ◌/◌, ◌%◌, ◌≤◌, ◌<◌}
use native.Mathlib.Omega.{arith}
use borrow.Author.Tests.{ltb-false}
use lib.Dec.{eqb, ltb}
use lib.ListN.{length, take, drop, take-append-drop, set, replicate, length-append, length-drop, drop_of_length-le}
use lib.Seq.{take_at, drop_at, drop-drop, take_all}
use Rattle.cipher.specs.Fips197.{aes_encrypt}
use Rattle.cipher.specs.Sp80038a.{blocks, ofb, ofb_input}
use Rattle.cipher.specs.Sp80038b.{cmac, R128}
use Rattle.std.specs.Prelude.{Result, Err}
use Rattle.answer.specs.declared.refusal.Refusal.{Refusal}
use Rattle.answer.specs.Refusal.{refusal_number}
use Rattle.answer.specs.Number.{number_bytes}
use Rattle.frame.specs.declared.v2_aes.Credentials.{Credentials}
use Rattle.frame.specs.inner.AesSteps.{bytes_of, ChecksAes}
use Rattle.answer.specs.Outcome.{over, accepted, row, decide, first_of}
use Rattle.answer.specs.Tests.{isnt, both}
use Rattle.answer.proofs.Rows.{AllFalse, numbered, first_passes, either_false, is_number}
use Rattle.frame.specs.AesFrame.{cipher_key, mac_key, challenge_3c, aes_iv, aes_mac, mac_input, aes_sealed, aes_size, aes_sealing, aes_seal_rows}
use Rattle.answer.proofs.Outputs.{placed_over}
use Rattle.answer.proofs.Pieces.{placed_next, copied_next, last_piece, put_again}

-- s, where its k bytes at n came back as b
abbrev pub with_part : List ℕ → ℕ → ℕ → List ℕ → List ℕ
with_part s n k b = take n s ++ (b ++ drop k (drop n s))

-- ---- the credentials

-- their three parts are all of their bytes
pub read_whole : (s k m c : List ℕ) → length s ≡ 36 → k ≡ take 16 s → m ≡ take 16 (drop 16 s) → c ≡ take 4 (drop 32 s) → k ++ (m ++ c) ≡ s
read_whole s k m c h ek em ec =
    let f : length (drop 32 s) ≤ 4 = omega (arith, length-drop 32 s) in
    rw (ek, em, ec, take_all 4 (drop 32 s) f) (rw (← drop-drop 16 16 s, take-append-drop 16 (drop 16 s)) (take-append-drop 16 s))

-- each of them is found in the bytes
module _ (k : Credentials) (lc : length k.cipher_key ≡ 16) (lm : length k.mac_key ≡ 16) where
  pub cipher_key_is : k.cipher_key ≡ cipher_key (bytes_of k)
  unfolding cipher_key
  cipher_key_is = sym (take_at k.cipher_key (k.mac_key ++ k.challenge_3c) 16 lc)

  pub mac_key_is : k.mac_key ≡ mac_key (bytes_of k)
  unfolding mac_key
  mac_key_is = sym (rw (drop_at k.cipher_key (k.mac_key ++ k.challenge_3c) 16 lc) (take_at k.mac_key k.challenge_3c 16 lm))

  pub challenge_3c_is : k.challenge_3c ≡ challenge_3c (bytes_of k)
  unfolding challenge_3c
  challenge_3c_is = sym (rw (← append_assoc k.cipher_key k.mac_key k.challenge_3c) (drop_at (k.cipher_key ++ k.mac_key) k.challenge_3c 32 (length-append k.cipher_key k.mac_key ∙ omega arith)))

-- ---- the IV

abbrev pub iv_start : ℕ → ℕ → List ℕ
iv_start n code = 1 ∷ (n + 12) ∷ code ∷ replicate 13 0

module _ (n code : ℕ) (number id c3 : List ℕ) (two : length number ≡ 2) (six : length id ≡ 6) (four : length c3 ≡ 4) where
  pub iv_built : (l m p s t : List ℕ) → l ≡ number → s ≡ with_part (iv_start n code) 3 2 l → m ≡ id → t ≡ with_part s 5 6 m → p ≡ take 3 (drop 1 c3) → with_part t 11 3 p ≡ aes_iv n code number id c3
  unfolding over aes_iv
  iv_built l m p s t hl es hm et hp =
      let head : List ℕ = 1 ∷ (n + 12) ∷ code ∷ [] in
      let zeros : List ℕ = replicate 16 0 in
      let ln : length (head ++ number) ≡ 5 = length-append head number ∙ omega arith in
      let li : length ((head ++ number) ++ id) ≡ 11 = length-append (head ++ number) id ∙ omega arith in
      let lc : length (drop 1 c3) ≡ 3 = length-drop 1 c3 ∙ omega arith in
      let w1 : s ≡ over (head ++ number) zeros = es ∙ placed_next head zeros (iv_start n code) 3 2 refl (omega arith) refl number l two hl in
      let w2 : t ≡ over ((head ++ number) ++ id) zeros = et ∙ placed_next (head ++ number) zeros s 5 6 ln (omega arith) w1 id m six hm in
      let x : List ℕ = (head ++ number) ++ id in
      let w3 : with_part t 11 3 p ≡ over (x ++ drop 1 c3) zeros = placed_next x zeros t 11 3 li (omega arith) w2 (drop 1 c3) p lc (hp ∙ take_all 3 (drop 1 c3) (omega arith)) in
      let la : length (x ++ drop 1 c3) ≡ 14 = length-append x (drop 1 c3) ∙ omega arith in
      w3 ∙ ap (λ (k : ℕ). (x ++ drop 1 c3) ++ drop k zeros) la
      ∙ append_assoc x (drop 1 c3) (0 ∷ 0 ∷ []) ∙ append_assoc (head ++ number) id (drop 1 c3 ++ (0 ∷ 0 ∷ [])) ∙ append_assoc head number (id ++ (drop 1 c3 ++ (0 ∷ 0 ∷ [])))

-- ---- the MAC

-- the block that goes in front of the payload, from the IV: the payload's length was put at its end
pub first_block : (iv last : List ℕ) (x hi lo : ℕ) → length iv ≡ 16 → last ≡ hi ∷ lo ∷ [] → with_part (set iv 0 x) 14 2 last ≡ x ∷ (take 13 (drop 1 iv) ++ (hi ∷ lo ∷ []))
first_block [] last x hi lo h e = absurd (omega arith)
first_block (y ∷ l) last x hi lo h e =
    let z : length l ≤ 15 = omega arith in
    rw (e, drop-drop 2 13 l, drop_of_length-le l z) refl

pub mac_made : (key iv payload last full r : List ℕ) → length iv ≡ 16 → last ≡ length payload % 65536 / 256 % 256 ∷ length payload % 65536 % 256 ∷ []
    → full ≡ cmac (aes_encrypt key) 16 R128 (with_part (set iv 0 0x19) 14 2 last ++ payload) → r ≡ take 8 full → r ≡ aes_mac key iv payload
unfolding aes_mac
mac_made key iv payload last full r h el f e =
    let a : length payload % 65536 / 256 % 256 ≡ length payload / 256 % 256 = omega arith in
    let b : length payload % 65536 % 256 ≡ length payload % 256 = omega arith in
    e ∙ rw (f, first_block iv last 0x19 _ _ h el, a, b)

-- ---- the sealed data

module _ (code number : ℕ) (id c payload out : List ℕ) (room : length payload + 10 ≤ length out) where
  abbrev n : ℕ
  n = length payload

  -- what each step of write_aes leaves
  pub sealed_written : (c3 iv mk mac key l₁ l₂ s₂ l₃ s₃ mac' l₄ : List ℕ) → c3 ≡ challenge_3c c → iv ≡ aes_iv n code (number_bytes number) id c3
      → mk ≡ mac_key c → mac ≡ aes_mac mk iv payload → length mac ≡ 8 → l₁ ≡ number_bytes number
      → l₂ ≡ take (length (take (n + 2 - 2) (drop 2 (l₁ ++ drop 2 out)))) payload ++ drop n (take (n + 2 - 2) (drop 2 (l₁ ++ drop 2 out))) → s₂ ≡ with_part (l₁ ++ drop 2 out) 2 (n + 2 - 2) l₂ → key ≡ cipher_key c
      → l₃ ≡ ofb (aes_encrypt key) 16 iv (take (n + 2 - 2) (drop 2 s₂)) → length l₃ ≡ length (take (n + 2 - 2) (drop 2 s₂)) → s₃ ≡ with_part s₂ 2 (n + 2 - 2) l₃
      → mac' ≡ ofb (aes_encrypt key) 16 (ofb_input (aes_encrypt key) 16 (blocks 16 (length (take (n + 2 - 2) (drop 2 s₂)))) iv) mac → length mac' ≡ length mac
      → l₄ ≡ mac' → (n + 10 ≡ length (aes_sealed c code number id payload)) × (with_part s₃ (n + 2) (n + 10 - (n + 2)) l₄ ≡ over (aes_sealed c code number id payload) out)
  unfolding aes_sealed mac_input
  sealed_written c3 iv mk mac key l₁ l₂ s₂ l₃ s₃ mac' l₄ e3 eiv emk em lm h₁ h₂ e₂ ek h₃ k₃ e₃ h₄ k₄ h₅ =
      let num : List ℕ = number_bytes number in
      let w₁ : l₁ ++ drop 2 out ≡ over num out = placed_over num out l₁ 2 refl h₁ in
      let w₂ : s₂ ≡ over (num ++ payload) out = e₂ ∙ copied_next num out (l₁ ++ drop 2 out) 2 (n + 2 - 2) refl (omega arith) w₁ payload l₂ (omega arith) h₂ in
      let f : take (n + 2 - 2) (drop 2 s₂) ≡ payload = last_piece num payload out s₂ 2 (n + 2 - 2) refl (omega arith) w₂ in
      let w₃ : s₃ ≡ over (num ++ l₃) out = e₃ ∙ put_again num payload out s₂ 2 (n + 2 - 2) refl (omega arith) w₂ l₃ k₃ in
      let l : length (num ++ l₃) ≡ n + 2 = length-append num l₃ ∙ omega (arith, k₃ ∙ ap length f) in
      let w₄ : with_part s₃ (n + 2) (n + 10 - (n + 2)) l₄ ≡ over ((num ++ l₃) ++ mac') out = placed_next (num ++ l₃) out s₃ (n + 2) (n + 10 - (n + 2)) l (omega arith) w₃ mac' l₄ (omega arith) h₅ in
      let e : (num ++ l₃) ++ mac' ≡ aes_sealed c code number id payload = append_assoc num l₃ mac' ∙ rw (h₃, h₄, f, em, emk, ek, eiv, e3) in
      let k : n + 10 ≡ length ((num ++ l₃) ++ mac') = omega (arith, length-append (num ++ l₃) mac') in
      (k ∙ ap length e, w₄ ∙ ap (λ (z : List ℕ). over z out) e)

-- what holds where no row by lengths does
pub record AesSealable (id c payload : ℕ) : Type 0 where
  pub rows : AllFalse (aes_seal_rows id c payload)
  pub six : id ≡ 6
  pub all : c ≡ 36
  pub short : payload ≤ 243
  pub some : 0 < aes_size payload
  pub fits : aes_size payload ≤ 253

-- none does where the number of the first that does is 0
pub aes_seal_passes : (id c payload k : ℕ) → k ≡ first_of (aes_seal_rows id c payload) → k ≡ 0 → AesSealable id c payload
unfolding aes_seal_rows aes_size numbered both
aes_seal_passes id c payload k e z =
    let a = first_passes (aes_seal_rows id c payload) k refl e z in
    let f = either_false (isnt (eqb id 6)) (isnt (eqb c 36)) a.0 in
    let h = ltb-false 243 payload a.1.0 in
    record { rows = a; six = is_number id 6 f.0; all = is_number c 36 f.1; short = h; some = omega arith; fits = omega arith }

-- a row by lengths holds
pub aes_not_checked : (id c : List ℕ) (n : ℕ) (e : Refusal) {r : Result (List ℕ × Credentials) Refusal} → r ≡ Err e → first_of (aes_seal_rows (length id) (length c) n) ≡ refusal_number e → ChecksAes id c n r
aes_not_checked id c n e {r} q h = rw q h

-- the rows by lengths alone, then 16
pub aes_seal_steps : (c id payload : List ℕ) (code number room : ℕ)
    → aes_sealing c code number id payload room ≡ decide (aes_seal_rows (length id) (length c) (length payload)) (decide (row 16 (ltb room (aes_size (length payload))) ∷ []) (accepted 0 (aes_sealed c code number id payload)))
unfolding aes_sealing aes_seal_rows decide
aes_seal_steps c id payload code number room = refl
