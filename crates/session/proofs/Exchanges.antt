-- What two ends make of each other's challenges, in both schemes: a random block that was sent is the one that is read, and a check accepts
-- the block that the other end makes and no other. Assumes nothing.
use mathlib.Core.Path.{◌≡◌, refl, ap, ◌∙◌}
use mathlib.Core.Bool.{Bool, true, false}
use mathlib.Core.List.{List, [], ◌∷◌, ◌++◌}
use mathlib.Core.Logic.{◌⊎◌, inl, inr, ⊎_elim}
use Prim.Native.Nat.{ℕ, ◌≤◌, ◌<◌}
use native.Mathlib.Omega.{arith}
use borrow.Author.Tests.{eq-eqb, eqb-true, lt-ltb, le-ltb, ltb-false}
use lib.Dec.{eqb, ltb, lit<}
use lib.ListN.{length, take, drop, replicate, length-append, length-drop}
use lib.Seq.{length-take-le}
use Rattle.cipher.specs.Bytes.{Bytes}
use Rattle.cipher.specs.Fips197.{aes_encrypt}
use Rattle.cipher.specs.Fips46.{tdea2_encrypt, tdea2_decrypt}
use Rattle.cipher.proofs.ByteLists.{Block, Bytes-append, Bytes-take, Bytes-drop, Bytes-replicate}
use Rattle.cipher.proofs.Ciphers.{aes_encrypt_block, aes_undone, aes_redone}
use Rattle.cipher.proofs.DesInverse.{tdea2_decrypt_encrypt, tdea2_encrypt_decrypt, length_tdea2_encrypt, length_tdea2_decrypt, Bytes-tdea2Encrypt, Bytes-tdea2Decrypt}
use Rattle.cipher.proofs.Numbers.{le_or_lt}
use Rattle.cipher.proofs.ModeLaws.{Undone, Block-⊕}
use Rattle.answer.specs.Outcome.{row, refused, acceptance, accepted, choose, decide}
use Rattle.answer.specs.Tests.{isnt, either, same}
use Rattle.answer.proofs.Rows.{decide_false, either_false, isnt_false, is_number}
use Rattle.answer.proofs.Refusals.{zero_passes, isnt_of, either_of, same_of}
use Rattle.answer.proofs.Equality.{same_equal}
use Rattle.session.specs.Challenge.{des_l, des_alpha, des_beta, aes_h, aes_alpha, aes_beta, context_block, with_3c, under_alpha, under_alpha_back, under_beta, under_beta_back, block_size, unknown_scheme, wrong, wrong_with_3c, giving, checking, making_1a, reading_1a, making_1b, checking_1b, making_2a, reading_2a, making_2b, checking_2b, session_key_input, session_keys, deriving_session_keys}

-- ---- ciphers

tdea2_undone : (k h : List ℕ) → Undone (tdea2_encrypt k h) (tdea2_decrypt k h) 8
tdea2_undone k h =
    record {
      enc = λ b g. record { long = length_tdea2_encrypt k h b; bytes = Bytes-tdea2Encrypt k h b };
      dec = λ b g. record { long = length_tdea2_decrypt k h b; bytes = Bytes-tdea2Decrypt k h b };
      undo = λ b g. tdea2_decrypt_encrypt k h b g.long g.bytes;
    }

tdea2_redone : (k h : List ℕ) → Undone (tdea2_decrypt k h) (tdea2_encrypt k h) 8
tdea2_redone k h =
    record {
      enc = λ b g. record { long = length_tdea2_decrypt k h b; bytes = Bytes-tdea2Decrypt k h b };
      dec = λ b g. record { long = length_tdea2_encrypt k h b; bytes = Bytes-tdea2Encrypt k h b };
      undo = λ b g. tdea2_encrypt_decrypt k h b g.long g.bytes;
    }

-- a pair of ciphers that the mark chooses
module _ (E D E' D' : List ℕ → List ℕ) where
  abbrev Both : Bool → Type 0
  Both t = Undone (λ x. choose t (E x) (E' x)) (λ x. choose t (D x) (D' x)) (choose t 8 16)

  both : (t : Bool) → Undone E D 8 → (t ≡ false → Undone E' D' 16) → Both t
  unfolding choose
  both true f g = f
  both false f g = g refl

-- a block of the AES scheme
pub size_of_aes : (s : ℕ) → s ≡ 2 → block_size s ≡ 16
unfolding block_size choose
size_of_aes s e = rw e

-- ---- the keys of the AES context

module _ (keys idm c3 : List ℕ) (k : Block 32 keys) where
  h_block : Block 16 (aes_h keys)
  unfolding aes_h
  h_block =
      let l = k.long in
      Block-⊕ 16 (take 16 keys) (drop 16 keys)
      (record { long = length-take-le 16 keys (omega arith); bytes = Bytes-take 16 keys k.bytes })
      (record { long = length-drop 16 keys ∙ omega arith; bytes = Bytes-drop 16 keys k.bytes })

  alpha_key : Block 16 (aes_alpha keys idm)
  unfolding aes_alpha
  alpha_key = aes_encrypt_block (aes_h keys) h_block (context_block 0x01 idm)

  beta_key : Block 4 c3 → Block 16 (with_3c (aes_beta keys idm) c3)
  unfolding aes_beta with_3c
  beta_key g =
      let l = g.long in
      let zeros : List ℕ = replicate 12 0 in
      Block-⊕ 16 _ (c3 ++ zeros) (aes_encrypt_block (aes_h keys) h_block (context_block 0x02 idm))
      (record { long = length-append c3 zeros ∙ omega arith; bytes = Bytes-append c3 zeros g.bytes (Bytes-replicate 12 0 (lit< tt)) })

-- ---- the two ends

-- a known mark, derived keys and an IDm, as row 17 asks for them
pub record Ends (scheme : ℕ) (keys idm : List ℕ) : Type 0 where
  pub known : (scheme ≡ 1) ⊎ (scheme ≡ 2)
  pub keys_are : Block (choose (eqb scheme 1) 16 32) keys
  pub idm_is : Block 8 idm

module _ (s : ℕ) (keys idm : List ℕ) (e : Ends s keys idm) where
  aes_keys : eqb s 1 ≡ false → Block 32 keys
  unfolding choose
  aes_keys h = rw h at e.keys_are

  -- decryption after encryption, and the reverse; lengths and bytes of both
  pub alpha_undone : Undone (under_alpha s keys idm) (under_alpha_back s keys idm) (block_size s)
  unfolding under_alpha under_alpha_back block_size
  alpha_undone = both _ _ _ _ (eqb s 1) (tdea2_undone (des_alpha keys idm) (des_l keys idm)) (λ h. aes_undone (aes_alpha keys idm) (alpha_key keys idm [] (aes_keys h)))

  pub alpha_redone : Undone (under_alpha_back s keys idm) (under_alpha s keys idm) (block_size s)
  unfolding under_alpha under_alpha_back block_size
  alpha_redone = both _ _ _ _ (eqb s 1) (tdea2_redone (des_alpha keys idm) (des_l keys idm)) (λ h. aes_redone (aes_alpha keys idm) (alpha_key keys idm [] (aes_keys h)))

  -- lengths that are right
  known_mark : unknown_scheme s ≡ false
  unfolding unknown_scheme isnt either
  known_mark = ⊎_elim (λ (h : s ≡ 1). rw h) (λ (h : s ≡ 2). rw h) e.known

  right : (x : List ℕ) → length x ≡ block_size s → wrong s (length keys) (length idm) (length x) ≡ false
  unfolding wrong
  right x h =
      either_of _ _ known_mark
      (either_of _ _ (isnt_of _ (eq-eqb _ _ e.keys_are.long)) (either_of _ _ (isnt_of _ (eq-eqb _ _ e.idm_is.long)) (isnt_of _ (eq-eqb _ _ h))))

  -- ---- 1A

  gives : (bad : Bool) (b : List ℕ) (room : ℕ) → bad ≡ false → block_size s ≤ room → giving bad s room b ≡ accepted 0 b
  unfolding giving decide choose
  gives bad b room h f = rw (h, le-ltb room (block_size s) f)

  -- where row 16 does not arise, there is room
  large : (bad : Bool) (b : List ℕ) (room : ℕ) → bad ≡ false → ((giving bad s room b).number ≡ 16 → ⊥) → block_size s ≤ room
  unfolding giving decide choose refused
  large bad b room h f =
      ⊎_elim
      (λ (l : block_size s ≤ room). l)
      (λ (l : room < block_size s). absurd (f (rw (h, lt-ltb room (block_size s) l))))
      (le_or_lt (block_size s) room)

  module _ (x : List ℕ) (g : Block (block_size s) x) (room : ℕ) where
    pub room_1a : ((making_1a s keys idm x room).number ≡ 16 → ⊥) → block_size s ≤ room
    unfolding making_1a
    room_1a = large _ (under_alpha s keys idm x) room (right x g.long)

    pub room_read_1a : ((reading_1a s keys idm x room).number ≡ 16 → ⊥) → block_size s ≤ room
    unfolding reading_1a
    room_read_1a = large _ (under_alpha_back s keys idm x) room (right x g.long)

    pub room_2b : ((making_2b s keys idm x room).number ≡ 16 → ⊥) → block_size s ≤ room
    unfolding making_2b
    room_2b = large _ (under_alpha s keys idm x) room (right x g.long)

  module _ (x : List ℕ) (g : Block (block_size s) x) (room : ℕ) (f : block_size s ≤ room) where
    pub makes_1a : making_1a s keys idm x room ≡ accepted 0 (under_alpha s keys idm x)
    unfolding making_1a
    makes_1a = gives _ (under_alpha s keys idm x) room (right x g.long) f

    pub makes_2b : making_2b s keys idm x room ≡ accepted 0 (under_alpha s keys idm x)
    unfolding making_2b
    makes_2b = gives _ (under_alpha s keys idm x) room (right x g.long) f

    -- what 1A is read as
    pub reads_any_1a : reading_1a s keys idm x room ≡ accepted 0 (under_alpha_back s keys idm x)
    unfolding reading_1a
    reads_any_1a = gives _ (under_alpha_back s keys idm x) room (right x g.long) f

  -- the random 1 that the card reads is the one that the reader sent
  pub reads_1a : (x : List ℕ) (room room' : ℕ) → Block (block_size s) x → block_size s ≤ room → block_size s ≤ room' → reading_1a s keys idm (making_1a s keys idm x room).bytes room' ≡ accepted 0 x
  unfolding acceptance
  reads_1a x room room' g f f' =
      rw (makes_1a x g room f) (reads_any_1a (under_alpha s keys idm x) (alpha_undone.enc x g) room' f' ∙ ap (accepted 0) (alpha_undone.undo x g))

  -- ---- 2B

  -- every string y: a check answers 0 exactly if y is the block that is wanted
  checks : (bad : Bool) (y want : List ℕ) → (y ≡ want → bad ≡ false) → ((checking bad y want).number ≡ 0 → y ≡ want) × (y ≡ want → checking bad y want ≡ accepted 0 [])
  unfolding checking
  checks bad y want h = (
    λ z. same_equal y want (isnt_false _ (zero_passes (row 17 bad ∷ row 13 (isnt (same y want)) ∷ []) (accepted 0 []) (lit< tt, (lit< tt, tt)) z).1.0),
    λ q. decide_false (row 17 bad ∷ row 13 (isnt (same y want)) ∷ []) (accepted 0 []) (h q, (isnt_of _ (same_of y want q), tt)),
  )

  pub checks_2b : (x y : List ℕ) → Block (block_size s) x → ((checking_2b s keys idm x y).number ≡ 0 → y ≡ under_alpha s keys idm x) × (y ≡ under_alpha s keys idm x → checking_2b s keys idm x y ≡ accepted 0 [])
  unfolding checking_2b
  checks_2b x y g =
      checks _ y (under_alpha s keys idm x) (λ q. either_of _ _ (right x g.long) (isnt_of _ (eq-eqb _ _ (ap length q ∙ (alpha_undone.enc x g).long))))

  -- ---- 1B and 2A, with any Challenge 3C

  module _ (c3 : List ℕ) (f3 : Block 4 c3) where
    pub beta_undone : Undone (under_beta s keys idm c3) (under_beta_back s keys idm c3) (block_size s)
    unfolding under_beta under_beta_back block_size
    beta_undone = both _ _ _ _ (eqb s 1) (tdea2_undone (des_l keys idm) (des_beta keys idm)) (λ h. aes_undone (with_3c (aes_beta keys idm) c3) (beta_key keys idm c3 (aes_keys h) f3))

    pub beta_redone : Undone (under_beta_back s keys idm c3) (under_beta s keys idm c3) (block_size s)
    unfolding under_beta under_beta_back block_size
    beta_redone = both _ _ _ _ (eqb s 1) (tdea2_redone (des_l keys idm) (des_beta keys idm)) (λ h. aes_redone (with_3c (aes_beta keys idm) c3) (beta_key keys idm c3 (aes_keys h) f3))

    right_3c : (x : List ℕ) → length x ≡ block_size s → wrong_with_3c s (length keys) (length idm) (length x) (length c3) ≡ false
    unfolding wrong_with_3c
    right_3c x h = either_of _ _ (right x h) (isnt_of _ (eq-eqb _ _ f3.long))

    module _ (x : List ℕ) (g : Block (block_size s) x) (room : ℕ) where
      pub room_1b : ((making_1b s keys idm c3 x room).number ≡ 16 → ⊥) → block_size s ≤ room
      unfolding making_1b
      room_1b = large _ (under_beta s keys idm c3 x) room (right_3c x g.long)

      pub room_2a : ((making_2a s keys idm c3 x room).number ≡ 16 → ⊥) → block_size s ≤ room
      unfolding making_2a
      room_2a = large _ (under_beta s keys idm c3 x) room (right_3c x g.long)

      pub room_read_2a : ((reading_2a s keys idm c3 x room).number ≡ 16 → ⊥) → block_size s ≤ room
      unfolding reading_2a
      room_read_2a = large _ (under_beta_back s keys idm c3 x) room (right_3c x g.long)

    module _ (x : List ℕ) (g : Block (block_size s) x) (room : ℕ) (f : block_size s ≤ room) where
      pub makes_1b : making_1b s keys idm c3 x room ≡ accepted 0 (under_beta s keys idm c3 x)
      unfolding making_1b
      makes_1b = gives _ (under_beta s keys idm c3 x) room (right_3c x g.long) f

      pub makes_2a : making_2a s keys idm c3 x room ≡ accepted 0 (under_beta s keys idm c3 x)
      unfolding making_2a
      makes_2a = gives _ (under_beta s keys idm c3 x) room (right_3c x g.long) f

      -- what 2A is read as
      pub reads_any_2a : reading_2a s keys idm c3 x room ≡ accepted 0 (under_beta_back s keys idm c3 x)
      unfolding reading_2a
      reads_any_2a = gives _ (under_beta_back s keys idm c3 x) room (right_3c x g.long) f

    -- the random 2 that the reader reads is the one that the card sent
    pub reads_2a : (x : List ℕ) (room room' : ℕ) → Block (block_size s) x → block_size s ≤ room → block_size s ≤ room' → reading_2a s keys idm c3 (making_2a s keys idm c3 x room).bytes room' ≡ accepted 0 x
    unfolding acceptance
    reads_2a x room room' g f f' =
        rw (makes_2a x g room f) (reads_any_2a (under_beta s keys idm c3 x) (beta_undone.enc x g) room' f' ∙ ap (accepted 0) (beta_undone.undo x g))

    pub checks_1b : (x y : List ℕ) → Block (block_size s) x → ((checking_1b s keys idm c3 x y).number ≡ 0 → y ≡ under_beta s keys idm c3 x) × (y ≡ under_beta s keys idm c3 x → checking_1b s keys idm c3 x y ≡ accepted 0 [])
    unfolding checking_1b
    checks_1b x y g =
        checks _ y (under_beta s keys idm c3 x) (λ q. either_of _ _ (right_3c x g.long) (isnt_of _ (eq-eqb _ _ (ap length q ∙ (beta_undone.enc x g).long))))

    -- ---- the answer to a block that was read

    -- x was sent and read, with room for each block
    module _ (x : List ℕ) (room room' room'' : ℕ) (g : Block (block_size s) x) (f : block_size s ≤ room) (f' : block_size s ≤ room') (f'' : block_size s ≤ room'') where
      -- the card makes 1B from the random 1 that it read, and it is that of the random 1 that the reader sent
      pub answers_1b : making_1b s keys idm c3 (reading_1a s keys idm (making_1a s keys idm x room).bytes room').bytes room'' ≡ accepted 0 (under_beta s keys idm c3 x)
      unfolding acceptance
      answers_1b = rw (reads_1a x room room' g f f') (makes_1b x g room'' f'')

      -- the reader makes 2B from the random 2 that it read
      pub answers_2b : making_2b s keys idm (reading_2a s keys idm c3 (making_2a s keys idm c3 x room).bytes room').bytes room'' ≡ accepted 0 (under_alpha s keys idm x)
      unfolding acceptance
      answers_2b = rw (reads_2a x room room' g f f') (makes_2b x g room'' f'')

-- ---- AES session keys

module _ (x : List ℕ) (g : Block 16 x) where
  pub session_keys_block : Block 32 (session_keys x)
  unfolding session_keys
  session_keys_block =
      let a : List ℕ = aes_encrypt x (session_key_input 0x01) in
      let b : List ℕ = aes_encrypt x (session_key_input 0x02) in
      let g₁ : Block 16 a = aes_encrypt_block x g (session_key_input 0x01) in
      let g₂ : Block 16 b = aes_encrypt_block x g (session_key_input 0x02) in
      let p : length a ≡ 16 = g₁.long in
      let q : length b ≡ 16 = g₂.long in
      record { long = length-append a b ∙ omega arith; bytes = Bytes-append a b g₁.bytes g₂.bytes }

  pub makes_session_keys : (room : ℕ) → 32 ≤ room → deriving_session_keys x room ≡ accepted 0 (session_keys x)
  unfolding deriving_session_keys decide choose isnt
  makes_session_keys room f = rw (eq-eqb (length x) 16 g.long, le-ltb room 32 f)

  pub room_session_keys : (room : ℕ) → ((deriving_session_keys x room).number ≡ 16 → ⊥) → 32 ≤ room
  unfolding deriving_session_keys decide choose isnt refused
  room_session_keys room f =
      ⊎_elim
      (λ (l : 32 ≤ room). l)
      (λ (l : room < 32). absurd (f (rw (eq-eqb (length x) 16 g.long, lt-ltb room 32 l))))
      (le_or_lt 32 room)

-- the session keys of the random 2 that the reader read are those of the random 2 that the card sent
pub same_session_keys : (keys idm c3 x : List ℕ) (room room' room'' : ℕ) → Ends 2 keys idm → Block 4 c3 → Block 16 x → 16 ≤ room → 16 ≤ room' → 32 ≤ room''
    → deriving_session_keys (reading_2a 2 keys idm c3 (making_2a 2 keys idm c3 x room).bytes room').bytes room'' ≡ accepted 0 (session_keys x)
unfolding acceptance block_size choose
same_session_keys keys idm c3 x room room' room'' e f3 g f f' f'' =
    rw (reads_2a 2 keys idm e c3 f3 x room room' g f f') (makes_session_keys x g room'' f'')

-- ---- a making that answers 0 had the right lengths, and room

known_mark_only : (s : ℕ) → unknown_scheme s ≡ false → (s ≡ 1) ⊎ (s ≡ 2)
unfolding unknown_scheme either
known_mark_only s h = go (eqb s 1) refl (isnt_false _ h)
  where
    go : (b : Bool) → eqb s 1 ≡ b → either b (eqb s 2) ≡ true → (s ≡ 1) ⊎ (s ≡ 2)
    go true e q = inl (eqb-true s 1 e)
    go false e q = inr (eqb-true s 2 q)

gives_only : (bad : Bool) (s room : ℕ) (b : List ℕ) → (giving bad s room b).number ≡ 0 → (bad ≡ false) × (block_size s ≤ room)
unfolding giving
gives_only bad s room b z =
    let a = zero_passes (row 17 bad ∷ row 16 (ltb room (block_size s)) ∷ []) (accepted 0 b) (lit< tt, (lit< tt, tt)) z in
    (a.0, ltb-false _ _ a.1.0)

-- an end's scheme, keys and IDm, and a block of that scheme, which an output has room for
pub record Right (scheme : ℕ) (keys idm x : List ℕ) (room : ℕ) : Type 0 where
  pub ends : Ends scheme keys idm
  pub block : Block (block_size scheme) x
  pub room_is : block_size scheme ≤ room

module _ (s : ℕ) (keys idm x : List ℕ) (bk : Bytes keys) (bi : Bytes idm) (bx : Bytes x) (room : ℕ) where
  right_only : wrong s (length keys) (length idm) (length x) ≡ false → block_size s ≤ room → Right s keys idm x room
  unfolding wrong
  right_only ok f =
      let a = either_false _ _ ok in
      let b = either_false _ _ a.1 in
      let c = either_false _ _ b.1 in
      record {
        ends =
            record {
              known = known_mark_only s a.0;
              keys_are = record { long = is_number _ _ b.0; bytes = bk };
              idm_is = record { long = is_number _ 8 c.0; bytes = bi };
            };
        block = record { long = is_number _ _ c.1; bytes = bx };
        room_is = f;
      }

  pub makes_1a_only : (making_1a s keys idm x room).number ≡ 0 → Right s keys idm x room
  unfolding making_1a
  makes_1a_only z = let a = gives_only _ s room _ z in right_only a.0 a.1

  module _ (c3 : List ℕ) (b3 : Bytes c3) where
    right_3c_only : wrong_with_3c s (length keys) (length idm) (length x) (length c3) ≡ false → block_size s ≤ room → Right s keys idm x room × Block 4 c3
    unfolding wrong_with_3c
    right_3c_only ok f =
        let a = either_false _ _ ok in
        (right_only a.0 f, record { long = is_number _ 4 a.1; bytes = b3 })

    pub makes_1b_only : (making_1b s keys idm c3 x room).number ≡ 0 → Right s keys idm x room × Block 4 c3
    unfolding making_1b
    makes_1b_only z = let a = gives_only _ s room _ z in right_3c_only a.0 a.1

    pub makes_2a_only : (making_2a s keys idm c3 x room).number ≡ 0 → Right s keys idm x room × Block 4 c3
    unfolding making_2a
    makes_2a_only z = let a = gives_only _ s room _ z in right_3c_only a.0 a.1
