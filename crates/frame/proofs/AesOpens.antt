-- AES opening, step by step. Assumes nothing.
use mathlib.Core.Path.{◌≡◌, refl, sym, ap, ap₂, ◌∙◌}
use mathlib.Core.Bool.{Bool, true, false}
use mathlib.Core.List.{List, [], ◌∷◌, ◌++◌}
use mathlib.Core.Logic.{⊎_elim}
use Prim.Native.Nat.{ℕ, suc, ◌+◌, ◌-◌, ◌/◌, ◌%◌, ◌≤◌, ◌<◌}
use native.Mathlib.Omega.{arith}
use borrow.Author.Tests.{eq-eqb, lt-ltb, le-ltb, ltb-false}
use lib.Dec.{eqb, ltb}
use lib.ListN.{length, take, drop, take-append-drop, length-append}
use lib.Seq.{take_at, drop_at}
use Rattle.cipher.specs.Fips197.{aes_encrypt}
use Rattle.cipher.specs.Sp80038a.{blocks, ofb, ofb_input}
use Rattle.cipher.proofs.Numbers.{le_or_lt}
use Rattle.cipher.specs.Bytes.{Bytes}
use Rattle.answer.specs.Number.{number_bytes, number_of}
use Rattle.std.specs.Int.{w16, from_le_bytes}
use Rattle.answer.specs.declared.refusal.Refusal.{Refusal}
use Rattle.answer.specs.declared.refusal.Refusal.TheVariants.{TooShort, TooLong}
use Rattle.answer.specs.Refusal.{refusal_number}
use Rattle.std.specs.Borrow.{Bor}
use Rattle.std.specs.Prelude.{Result, Err}
use Rattle.answer.specs.Outcome.{Answer, Meets, Row, refused, acceptance, accepted, row, choose, decide, first_of}
use Rattle.answer.specs.Delivery.{handing, delivering, Delivers}
use Rattle.frame.specs.AesFrame.{cipher_key, mac_key, challenge_3c, aes_iv, aes_mac, mac_input, opened_iv, opened_payload, opened_mac, aes_opening, aes_open_rows}
use Rattle.frame.specs.inner.AesSteps.{ChecksOpenAes, aes_accepting, aes_trying}
use Rattle.answer.specs.Tests.{isnt, either, both, same}
use Rattle.answer.proofs.Rows.{numbered, either_false, is_number, first_refuses, first_passes, both_right, decide_false, row_meets, decided_meets}
use Rattle.answer.proofs.Outputs.{copied_over, front}
use Rattle.answer.proofs.Equality.{same_is}

-- ---- the MAC

-- a comparison of all bytes, which answered r
module _ (number : ℕ) (mac wanted payload : List ℕ) (room : ℕ) (r : Bool) (h : (r ≡ true → mac ≡ wanted) × (mac ≡ wanted → r ≡ true)) where
  pub mac_refuses : r ≡ false → aes_accepting number mac wanted payload room ≡ refused 13
  unfolding aes_accepting decide choose isnt
  mac_refuses e = rw (sym (same_is mac wanted r h) ∙ e)

  pub mac_passes : r ≡ true → aes_accepting number mac wanted payload room ≡ delivering number payload room
  unfolding aes_accepting decide choose isnt
  mac_passes e = rw (sym (same_is mac wanted r h) ∙ e)

-- ---- the work block

add_two : (n : ℕ) → n + 2 ≡ suc (suc n)
add_two n = omega arith

-- a payload of up to 65,535 bytes goes out with its length
pub aes_accepting_meets : (number : ℕ) (mac wanted payload : List ℕ) (room : ℕ) {r : Answer} {before after : List ℕ} → Delivers (aes_accepting number mac wanted payload room) r before after → length payload ≤ 65535
    → Meets (aes_accepting number mac wanted payload room) r before after
unfolding aes_accepting
aes_accepting_meets number mac wanted payload room {r} {before} {after} d h = decided_meets _ number payload room d h

-- ---- the parts of sealed data

-- the number's bytes are the first two
number_again : (d : List ℕ) (number : ℕ) → 2 ≤ length d → Bytes d → number ≡ from_le_bytes w16 (take 2 d) → number_bytes number ≡ take 2 d
number_again [] number h b e = absurd (omega arith)
number_again (x ∷ []) number h b e = absurd (omega arith)
number_again (x ∷ y ∷ d) number h b e =
    let bx : x < 256 = b 0 in
    let by : y < 256 = b 1 in
    let l : number % 256 ≡ x = omega arith in
    let g : number / 256 % 256 ≡ y = omega arith in
    rw (l, g)

-- number, payload and MAC are all of it
pub parts_joined : (d first rest sealed mac : List ℕ) (number : ℕ) → Bytes d → 2 ≤ length d → first ≡ take 2 d → rest ≡ drop 2 d → sealed ≡ take (length rest - 8) rest → mac ≡ drop (length rest - 8) rest
    → number ≡ from_le_bytes w16 first → d ≡ number_bytes number ++ (sealed ++ mac)
parts_joined d first rest sealed mac number b h ef er es em en =
    let n : number_bytes number ≡ take 2 d = number_again d number h b (en ∙ ap (from_le_bytes w16) ef) in
    let t : sealed ++ mac ≡ drop 2 d = ap₂ (λ (s m : List ℕ). s ++ m) es em ∙ take-append-drop (length rest - 8) rest ∙ er in
    sym (ap₂ (λ (s m : List ℕ). s ++ m) n t ∙ take-append-drop 2 d)

-- ---- the work block

-- number, cipher payload and MAC of sealed data, of which the payload was copied over the front of z and decrypted there
module _ (code number : ℕ) (id c sealed mac z : List ℕ) (small : number < 65536) (eight : length mac ≡ 8) (fits : length sealed ≤ length z) where
  abbrev d : List ℕ
  d = number_bytes number ++ (sealed ++ mac)

  abbrev n : ℕ
  n = length sealed

  length_parts : length d ≡ n + 10
  length_parts = ap (λ (k : ℕ). suc (suc k)) (length-append sealed mac) ∙ omega arith

  pub aes_opened : (room : ℕ) (c3 iv w key l mac' mk wanted : List ℕ) → c3 ≡ challenge_3c c → iv ≡ aes_iv n code (number_bytes number) id c3 → w ≡ take (length z) sealed ++ drop n z → key ≡ cipher_key c
      → l ≡ ofb (aes_encrypt key) 16 iv (take n w) → length l ≡ length (take n w)
      → mac' ≡ ofb (aes_encrypt key) 16 (ofb_input (aes_encrypt key) 16 (blocks 16 (length (take n w))) iv) mac → mk ≡ mac_key c
      → wanted ≡ aes_mac mk iv (take n (l ++ drop n w)) → aes_accepting number mac' wanted (take n (l ++ drop n w)) room ≡ aes_trying c code id d room
  unfolding aes_trying opened_payload opened_mac opened_iv mac_input
  aes_opened room c3 iv w key l mac' mk wanted e3 eiv ef ek el ll em emk ew =
      let f : take n w ≡ sealed = front sealed z w n refl (copied_over sealed z w fits ef) in
      let lw : length (take n w) ≡ n = ap length f in
      let k : length d - 10 ≡ n = omega (arith, length_parts) in
      let j : length d - 8 ≡ n + 2 = omega (arith, length_parts) in
      let part : take (length d - 10) (drop 2 d) ≡ sealed = rw k (take_at sealed mac n refl) in
      let tail : drop (length d - 8) d ≡ mac = rw (j, add_two n) (drop_at sealed mac n refl) in
      let v : iv ≡ opened_iv c code id d = eiv ∙ rw (e3, k) in
      let p : take n (l ++ drop n w) ≡ opened_payload c code id d = take_at l (drop n w) n (ll ∙ lw) ∙ el ∙ rw (ek, v, f, part) in
      let m : mac' ≡ opened_mac c code id d = em ∙ rw (ek, lw, v, tail, k) in
      let a : wanted ≡ aes_mac (mac_key c) (opened_iv c code id d) (opened_payload c code id d) = ew ∙ rw (emk, v, p) in
      let en : number ≡ number_of d = omega arith in
      rw (← en, m, a, p)

-- ---- the rows by lengths

-- what the lengths are where none holds
pub record AesOpenable (id c sealed : ℕ) : Type 0 where
  pub six : id ≡ 6
  pub all : c ≡ 36
  pub enough : 10 ≤ sealed
  pub short : sealed ≤ 253

-- none does where the number of the first that does is 0
pub aes_open_passes : (id c sealed : ℕ) → 0 ≡ first_of (aes_open_rows id c sealed) → AesOpenable id c sealed
unfolding aes_open_rows numbered both
aes_open_passes id c sealed e =
    let h = first_passes (aes_open_rows id c sealed) 0 refl e refl in
    let f = either_false (isnt (eqb id 6)) (isnt (eqb c 36)) h.0 in
    record { six = is_number id 6 f.0; all = is_number c 36 f.1; enough = ltb-false sealed 10 h.1.0; short = ltb-false 253 sealed h.1.1.0 }

module _ (c id d : List ℕ) (code room : ℕ) where
  -- the rows by lengths alone, then the others
  aes_open_steps : aes_opening c code id d room ≡ decide (aes_open_rows (length id) (length c) (length d)) (aes_trying c code id d room)
  unfolding aes_opening aes_open_rows aes_trying aes_accepting handing acceptance decide
  aes_open_steps = refl

  -- one of them holds
  pub aes_open_refused : (e : Refusal) (out : List ℕ) {r : Answer} → r ≡ Err e → first_of (aes_open_rows (length id) (length c) (length d)) ≡ refusal_number e → Meets (aes_opening c code id d room) r out out
  aes_open_refused e out {r} q h = rw aes_open_steps (row_meets (aes_open_rows (length id) (length c) (length d)) (aes_trying c code id d room) e out q h)

  -- told before anything is decrypted
  pub aes_open_not_checked : (e : Refusal) {r : Result (List ℕ × ℕ × Bor (List ℕ) × List ℕ) Refusal} → r ≡ Err e → first_of (aes_open_rows (length id) (length c) (length d)) ≡ refusal_number e → ChecksOpenAes id c d r
  aes_open_not_checked e {r} q h = rw q h

  -- and decides
  pub aes_open_refuses : (k : ℕ) → k ≡ first_of (aes_open_rows (length id) (length c) (length d)) → (k ≡ 0 → ⊥) → aes_opening c code id d room ≡ refused k
  aes_open_refuses k e h = aes_open_steps ∙ first_refuses (aes_open_rows (length id) (length c) (length d)) (aes_trying c code id d room) k e h

  -- what the reader of its parts answered
  pub aes_open_split : (e : Refusal) → length id ≡ 6 → length c ≡ 36 → (10 ≤ length d → (253 < length d) × (e ≡ TooLong)) × (length d < 10 → e ≡ TooShort)
      → first_of (aes_open_rows (length id) (length c) (length d)) ≡ refusal_number e
  unfolding aes_open_rows first_of choose isnt either
  aes_open_split e i k h =
      rw (eq-eqb _ _ i, eq-eqb _ _ k)
      (⊎_elim
      (λ (l : 10 ≤ length d). let s = h.0 l in rw (le-ltb (length d) 10 l, lt-ltb 253 (length d) s.0) (ap refusal_number (sym s.1)))
      (λ (l : length d < 10). rw (lt-ltb (length d) 10 l) (ap refusal_number (sym (h.1 l))))
      (le_or_lt 10 (length d)))

  -- none holds
  pub aes_open_tries : length id ≡ 6 → length c ≡ 36 → 10 ≤ length d → length d ≤ 253 → aes_opening c code id d room ≡ aes_trying c code id d room
  unfolding aes_open_rows
  aes_open_tries i k m s =
      aes_open_steps ∙ decide_false (aes_open_rows (length id) (length c) (length d)) (aes_trying c code id d room) (both_right (length id) (length c) 6 36 i k, (le-ltb (length d) 10 m, (le-ltb 253 (length d) s, tt)))

  -- all rows in one list
  abbrev pub all_rows : List Row
  all_rows =
      aes_open_rows (length id) (length c) (length d)
      ++ (row 13 (isnt (same (opened_mac c code id d) (aes_mac (mac_key c) (opened_iv c code id d) (opened_payload c code id d)))) ∷ row 16 (ltb room (length (opened_payload c code id d))) ∷ [])

  pub by_rows : aes_opening c code id d room ≡ decide all_rows (accepted (number_of d) (opened_payload c code id d))
  unfolding aes_opening aes_open_rows handing acceptance decide
  by_rows = refl
