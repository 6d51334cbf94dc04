-- Row 16 of an opening: it is the last, and arises exactly where the output is smaller than the payload. Assumes nothing.
use mathlib.Core.Path.{◌≡◌, refl, sym, ap, ◌∙◌}
use mathlib.Core.List.{List, [], ◌∷◌, ◌++◌}
use mathlib.Core.Logic.{⊎_elim}
use Prim.Native.Nat.{ℕ, ◌+◌, ◌*◌, ◌≤◌, ◌<◌}
use native.Mathlib.Nat.{le_refl}
use native.Mathlib.Omega.{arith}
use lib.Dec.{lit<}
use lib.ListN.{length, get_or}
use Rattle.cipher.proofs.Numbers.{le_or_lt}
use Rattle.answer.specs.Number.{number_of}
use Rattle.answer.specs.Outcome.{Outcome, Row, refused, acceptance, accepted, row, decide}
use Rattle.answer.specs.Delivery.{handing, delivering}
use Rattle.frame.specs.AesFrame.{mac_key, aes_mac, opened_iv, opened_payload, opened_mac, aes_opening, aes_open_rows}
use Rattle.frame.specs.DesFrame.{des_plain, payload_of, des_opening, open_rows, plain_rows}
use Rattle.answer.specs.Tests.{isnt, same}
use Rattle.answer.proofs.Rows.{AllFalse, decide_false, no_room, room_enough}
use Rattle.answer.proofs.Refusals.{Numbered, Without, zero_passes, from_work, acceptance_zero, accepted_bytes, refused_number}
use Rattle.frame.proofs.Trims.{before16, opening}

-- an opening whose rows, up to 16, do not go by the room
module _ (O : ℕ → Outcome) (rs : List Row) (n : ℕ) (p : List ℕ) (steps : (room : ℕ) → O room ≡ decide rs (delivering n p room)) where
  passed : AllFalse rs → (room : ℕ) → O room ≡ delivering n p room
  passed h room = steps room ∙ decide_false rs _ h

  passes : AllFalse rs → O (length p) ≡ accepted n p
  passes h = passed h (length p) ∙ room_enough n 0 p (length p) (le_refl (length p))

  -- what opens somewhere gives 16 where it does not fit
  pub short_room : (m room wide : ℕ) (q : List ℕ) → Numbered rs → O wide ≡ accepted m q → room < length q → O room ≡ refused 16
  short_room m room wide q num e h =
      let z : (decide rs (delivering n p wide)).number ≡ 0 = ap (λ (o : Outcome). o.number) (sym (steps wide) ∙ e) ∙ acceptance_zero m 0 q in
      let a = zero_passes rs (delivering n p wide) num z in
      let g : (length p ≤ wide) → p ≡ q = λ l. accepted_bytes n m p q (sym (passed a wide ∙ room_enough n 0 p wide l) ∙ e) in
      let full : length p ≤ wide = fits a wide (ap (λ (o : Outcome). o.number) e ∙ acceptance_zero m 0 q) in
      passed a room ∙ no_room n 0 p room (rw (g full) h)
    where
      fits : AllFalse rs → (wide : ℕ) → (O wide).number ≡ 0 → length p ≤ wide
      fits a wide z =
          ⊎_elim
          (λ (l : length p ≤ wide). l)
          (λ (l : wide < length p).
          let s : ◌≡◌ {A = ℕ} 16 0 = sym (refused_number 16) ∙ ap (λ (o : Outcome). o.number) (sym (passed a wide ∙ no_room n 0 p wide l)) ∙ z in
          absurd (omega arith))
          (le_or_lt (length p) wide)

  -- 16 means that there is a payload, and that it does not fit
  pub means_short : (room : ℕ) → Without 16 rs → (O room).number ≡ 16 → (room < length p) × (O (length p) ≡ accepted n p)
  means_short room w h =
      let a = from_work 16 rs (delivering n p room) w (ap (λ (o : Outcome). o.number) (sym (steps room)) ∙ h) in (
        ⊎_elim
            (λ (l : length p ≤ room).
            let s : ◌≡◌ {A = ℕ} 0 16 = sym (acceptance_zero n 0 p) ∙ ap (λ (o : Outcome). o.number) (sym (room_enough n 0 p room l)) ∙ a.1 in
            absurd (omega arith))
            (λ (l : room < length p). l)
            (le_or_lt (length p) room),
        passes a.0,
      )

-- ---- DES

module _ (key id d : List ℕ) (code : ℕ) where
  pub des_short_room : (m room wide : ℕ) (q : List ℕ) → des_opening key code id d wide ≡ accepted m q → room < length q → des_opening key code id d room ≡ refused 16
  unfolding open_rows plain_rows
  des_short_room m room wide q = short_room (des_opening key code id d) (before16 key id d code) _ _ (opening key id d code) m room wide q (lit< tt, (lit< tt, (lit< tt, (lit< tt, (lit< tt, (lit< tt, tt))))))

  pub des_means_short : (room : ℕ) → (des_opening key code id d room).number ≡ 16
      → (room < length (payload_of (des_plain key d))) × (des_opening key code id d (length (payload_of (des_plain key d))) ≡ accepted (number_of (des_plain key d)) (payload_of (des_plain key d)))
  unfolding open_rows plain_rows
  des_means_short room =
      means_short (des_opening key code id d) (before16 key id d code) _ _ (opening key id d code) room
      ((λ e. omega arith), ((λ e. omega arith), ((λ e. omega arith), ((λ e. omega arith), ((λ e. omega arith), ((λ e. omega arith), tt))))))

-- ---- AES

module _ (c id d : List ℕ) (code : ℕ) where
  abbrev before16_aes : List Row
  before16_aes = aes_open_rows (length id) (length c) (length d) ++ (row 13 (isnt (same (opened_mac c code id d) (aes_mac (mac_key c) (opened_iv c code id d) (opened_payload c code id d)))) ∷ [])

  opening_aes : (room : ℕ) → aes_opening c code id d room ≡ decide before16_aes (delivering (get_or d 0 0 + get_or d 1 0 * 256) (opened_payload c code id d) room)
  unfolding aes_opening aes_open_rows handing acceptance decide
  opening_aes room = refl

  pub aes_short_room : (m room wide : ℕ) (q : List ℕ) → aes_opening c code id d wide ≡ accepted m q → room < length q → aes_opening c code id d room ≡ refused 16
  unfolding aes_open_rows
  aes_short_room m room wide q = short_room (aes_opening c code id d) before16_aes _ _ opening_aes m room wide q (lit< tt, (lit< tt, (lit< tt, (lit< tt, tt))))

  pub aes_means_short : (room : ℕ) → (aes_opening c code id d room).number ≡ 16
      → (room < length (opened_payload c code id d)) × (aes_opening c code id d (length (opened_payload c code id d)) ≡ accepted (get_or d 0 0 + get_or d 1 0 * 256) (opened_payload c code id d))
  unfolding aes_open_rows
  aes_means_short room =
      means_short (aes_opening c code id d) before16_aes _ _ opening_aes room
      ((λ e. omega arith), ((λ e. omega arith), ((λ e. omega arith), ((λ e. omega arith), tt))))
