-- Challenge calls, step by step: row 17, the context and the block that a call reads, the block that it makes, and the answer. Assumes nothing.
use mathlib.Core.Path.{◌≡◌, refl, sym, ap, ap₂, ◌∙◌}
use mathlib.Core.Bool.{Bool, true, false, not}
use mathlib.Core.List.{List, [], ◌∷◌, ◌++◌}
use Prim.Native.Nat.{ℕ, ◌+◌, ◌≤◌}
use native.Mathlib.Omega.{arith}
use borrow.Author.Tests.{eq-eqb, ne_eqb}
use lib.Dec.{eqb, lit≤}
use lib.ListN.{length, take, drop, replicate}
use lib.Seq.{take_all}
use Rattle.std.specs.Prelude.{◌≢◌, Result, Ok, Err}
use Rattle.cipher.specs.Bytes.{◌⊕◌}
use Rattle.cipher.specs.Fips197.{aes_encrypt, aes_decrypt}
use Rattle.cipher.specs.Fips46.{des_encrypt, tdea2_encrypt, tdea2_decrypt}
use Rattle.answer.specs.declared.answer.Accepted.{Accepted}
use Rattle.answer.specs.declared.refusal.Refusal.{Refusal}
use Rattle.answer.specs.declared.refusal.Refusal.TheVariants.{BadMarkOrLength}
use Rattle.answer.specs.Delivery.{handing, delivering, Delivers}
use Rattle.answer.specs.Outcome.{Outcome, Answer, Meets, row, refused, acceptance, accepted, choose, decide, over}
use Rattle.answer.specs.Tests.{isnt, either, same}
use Rattle.answer.proofs.Refusals.{either_of}
use Rattle.answer.proofs.Rows.{Refused, choose_most, either_false, is_number, wrong_length, right_length, refused_meets, accepted_meets, delivers_meets}
use Rattle.session.specs.Challenge.{des_l, des_alpha, des_beta, aes_h, aes_alpha, aes_beta, context_block, with_3c, under_alpha, under_alpha_back, under_beta, under_beta_back, block_size, unknown_scheme, wrong, wrong_with_3c, giving, checking, Compares, session_key_input, session_keys, deriving_session_keys}
use Rattle.session.specs.inner.ChallengeSteps.{IsParsed, HasParsed}
use Rattle.session.specs.declared.challenge.Parsed.{Parsed}
use Rattle.session.specs.declared.challenge.Parsed.TheVariants.{Des, Aes128}
use Rattle.session.specs.declared.des.AuthenticationContext.{AuthenticationContext}
use Rattle.session.specs.declared.v2_aes.AuthenticationContextV2Aes128.{AuthenticationContextV2Aes128}

-- ---- the mark

module _ {A : Type 0} (s : ℕ) (a b : A) where
  pub first : s ≡ 1 → choose (eqb s 1) a b ≡ a
  unfolding choose
  first e = rw e

  pub second : s ≢ 1 → choose (eqb s 1) a b ≡ b
  unfolding choose
  second h = rw (ne_eqb s 1 h)

pub size_des_lem : (s : ℕ) → s ≡ 1 → block_size s ≡ 8
unfolding block_size
size_des_lem s e = first s 8 16 e

pub size_aes : (s : ℕ) → s ≢ 1 → block_size s ≡ 16
unfolding block_size
size_aes s h = second s 8 16 h

pub des_known : (s : ℕ) → s ≡ 1 → unknown_scheme s ≡ false
unfolding unknown_scheme isnt either
des_known s e = rw e

pub aes_known : (s : ℕ) → s ≡ 2 → unknown_scheme s ≡ false
unfolding unknown_scheme isnt either
aes_known s e = rw e

not_isnt : (t : Bool) → not t ≡ isnt t
unfolding isnt
not_isnt true = refl
not_isnt false = refl

-- a mark that is not that of DES is known if it is that of AES
pub mark_left : (s : ℕ) → s ≢ 1 → not (eqb s 2) ≡ unknown_scheme s
unfolding unknown_scheme either
mark_left s n = rw (ne_eqb s 1 n) (not_isnt (eqb s 2))

-- no block is longer than 16 bytes
pub size_most : (s : ℕ) → block_size s ≤ 16
unfolding block_size
size_most s = choose_most (eqb s 1) 8 16 16 (lit≤ tt) (lit≤ tt)

-- the derived keys are two blocks
two_sizes : (s : ℕ) → choose (eqb s 1) 16 32 ≡ block_size s + block_size s
unfolding block_size choose
two_sizes s = go (eqb s 1)
  where
    go : (t : Bool) → choose t 16 32 ≡ choose t 8 16 + choose t 8 16
    go true = refl
    go false = refl

-- ---- row 17: mark and lengths

pub either_first : (a b : Bool) → a ≡ true → either a b ≡ true
unfolding either
either_first a b h = rw h

pub either_second : (a b : Bool) → b ≡ true → either a b ≡ true
unfolding either
either_second true b h = refl
either_second false b h = h

-- numbers of bytes of derived keys, IDm and block
module _ (s keys idm block : ℕ) where
  pub unknown_wrong : s ≢ 1 → s ≢ 2 → wrong s keys idm block ≡ true
  unfolding wrong unknown_scheme either isnt
  unknown_wrong h k = rw (ne_eqb s 1 h, ne_eqb s 2 k)

  pub idm_wrong : idm ≢ 8 → wrong s keys idm block ≡ true
  unfolding wrong
  idm_wrong h = either_second (unknown_scheme s) _ (either_second (isnt (eqb keys (choose (eqb s 1) 16 32))) _ (either_first (isnt (eqb idm 8)) _ (wrong_length idm 8 h)))

  module _ (n : ℕ) (size : block_size s ≡ n) where
    two_blocks : choose (eqb s 1) 16 32 ≡ n + n
    two_blocks = two_sizes s ∙ rw size

    pub keys_wrong : keys ≢ n + n → wrong s keys idm block ≡ true
    unfolding wrong
    keys_wrong h = either_second (unknown_scheme s) _ (either_first (isnt (eqb keys (choose (eqb s 1) 16 32))) _ (wrong_length keys _ (rw two_blocks h)))

    pub block_wrong : block ≢ n → wrong s keys idm block ≡ true
    unfolding wrong
    block_wrong h =
        either_second (unknown_scheme s) _ (either_second (isnt (eqb keys (choose (eqb s 1) 16 32))) _ (either_second (isnt (eqb idm 8)) _ (wrong_length block _ (rw size h))))

    pub none_wrong : unknown_scheme s ≡ false → keys ≡ n + n → idm ≡ 8 → block ≡ n → wrong s keys idm block ≡ false
    unfolding wrong
    none_wrong u k i b = either_of _ _ u (either_of _ _ (right_length keys _ (k ∙ sym two_blocks)) (either_of _ _ (right_length idm 8 i) (right_length block _ (b ∙ sym size))))

  -- with a Challenge 3C
  module _ (c3 : ℕ) where
    pub wrong_3c : c3 ≢ 4 → wrong_with_3c s keys idm block c3 ≡ true
    unfolding wrong_with_3c
    wrong_3c h = either_second (wrong s keys idm block) _ (wrong_length c3 4 h)

    pub wrong_before_3c : wrong s keys idm block ≡ true → wrong_with_3c s keys idm block c3 ≡ true
    unfolding wrong_with_3c
    wrong_before_3c h = either_first (wrong s keys idm block) _ h

    pub right_3c : wrong s keys idm block ≡ false → c3 ≡ 4 → wrong_with_3c s keys idm block c3 ≡ false
    unfolding wrong_with_3c
    right_3c h k = either_of (wrong s keys idm block) _ h (right_length c3 4 k)

-- w: the tests before that of the challenge which is checked; g is its number of bytes
module _ (w : Bool) (s g n : ℕ) (size : block_size s ≡ n) where
  pub given_wrong : g ≢ n → either w (isnt (eqb g (block_size s))) ≡ true
  given_wrong h = either_second w _ (wrong_length g _ (rw size h))

  pub given_right : w ≡ false → g ≡ n → either w (isnt (eqb g (block_size s))) ≡ false
  given_right h k = either_of w _ h (right_length g _ (k ∙ sym size))

-- ---- lengths that are not wrong

module _ (s keys idm block : ℕ) (h : wrong s keys idm block ≡ false) where
  -- m, n are the numbers of bytes of the derived keys and of a block
  lengths : (m n : ℕ) → choose (eqb s 1) 16 32 ≡ m → block_size s ≡ n → ((keys ≡ m) × (idm ≡ 8)) × (block ≡ n)
  unfolding wrong
  lengths m n em en =
      let f = either_false (unknown_scheme s) _ h in
      let g = either_false (isnt (eqb keys (choose (eqb s 1) 16 32))) _ f.1 in
      let j = either_false (isnt (eqb idm 8)) (isnt (eqb block (block_size s))) g.1 in
      ((is_number _ _ g.0 ∙ em, is_number _ _ j.0), is_number _ _ j.1 ∙ en)

  -- those of DES
  pub des_lengths : s ≡ 1 → ((keys ≡ 16) × (idm ≡ 8)) × (block ≡ 8)
  des_lengths e = lengths 16 8 (first s 16 32 e) (size_des_lem s e)

  -- those of AES
  pub aes_lengths : s ≢ 1 → ((keys ≡ 32) × (idm ≡ 8)) × (block ≡ 16)
  aes_lengths n = lengths 32 16 (second s 16 32 n) (size_aes s n)

-- with a Challenge 3C; t is what the test gave
pub with_3c_lem : (s keys idm block c3 : ℕ) (t : Bool) → t ≡ wrong_with_3c s keys idm block c3 → t ≡ false → (wrong s keys idm block ≡ false) × (c3 ≡ 4)
unfolding wrong_with_3c
with_3c_lem s keys idm block c3 t e h =
    let f = either_false (wrong s keys idm block) (isnt (eqb c3 4)) (sym e ∙ h) in
    (f.0, is_number c3 4 f.1)

-- a challenge that is not as long as the random, whose length is right where w is false: one of the two is wrong
unequal : (w : Bool) (size given random : ℕ) → given ≢ random → (w ≡ false → random ≡ size) → either w (isnt (eqb given size)) ≡ true
unequal true size given random other right = either_first true _ refl
unequal false size given random other right = either_second false _ (wrong_length given size (λ k. other (k ∙ sym (right refl))))

module _ (s keys idm random given : ℕ) (other : given ≢ random) where
  pub unequal_wrong : either (wrong s keys idm random) (isnt (eqb given (block_size s))) ≡ true
  unequal_wrong = unequal (wrong s keys idm random) (block_size s) given random other (λ e. (lengths s keys idm random e _ _ refl refl).1)

  pub unequal_wrong_3c : (c3 : ℕ) → either (wrong_with_3c s keys idm random c3) (isnt (eqb given (block_size s))) ≡ true
  unequal_wrong_3c c3 =
      unequal (wrong_with_3c s keys idm random c3) (block_size s) given random other
      (λ e. (lengths s keys idm random (with_3c_lem s keys idm random c3 _ refl e).0 _ _ refl refl).1)

-- ---- the contexts

module _ (keys idm i g u : List ℕ) (p : i ≡ idm) where
  pub des_context_lem : (l a b : List ℕ) → (g ≡ take 8 keys) × (u ≡ drop 8 keys) → (l ≡ g ⊕ i) × (a ≡ des_encrypt l u) × (b ≡ des_encrypt a l) → (l ≡ des_l keys idm) × (a ≡ des_alpha keys idm) × (b ≡ des_beta keys idm)
  unfolding des_l des_alpha des_beta
  des_context_lem l a b k e =
      let el : l ≡ take 8 keys ⊕ idm = e.0 ∙ ap₂ ◌⊕◌ k.0 p in
      let ea : a ≡ des_encrypt (take 8 keys ⊕ idm) (drop 8 keys) = e.1 ∙ ap₂ des_encrypt el k.1 in
      (el, ea, e.2 ∙ ap₂ des_encrypt ea el)

  pub aes_context_lem : (a b : List ℕ) → (g ≡ take 16 keys) × (u ≡ drop 16 keys) → (a ≡ aes_encrypt (g ⊕ u) (context_block 1 i)) × (b ≡ aes_encrypt (g ⊕ u) (context_block 2 i)) → (a ≡ aes_alpha keys idm) × (b ≡ aes_beta keys idm)
  unfolding aes_h aes_alpha aes_beta
  aes_context_lem a b k e =
      let q : g ⊕ u ≡ take 16 keys ⊕ drop 16 keys = ap₂ ◌⊕◌ k.0 k.1 in
      (e.0 ∙ ap₂ aes_encrypt q (ap (context_block 1) p), e.1 ∙ ap₂ aes_encrypt q (ap (context_block 2) p))

-- beta, with Challenge 3C in a mask
pub with_mask : (beta c3 mask r : List ℕ) → length c3 ≡ 4 → mask ≡ take 16 c3 ++ drop (length c3) (replicate 16 0) → r ≡ beta ⊕ mask → r ≡ with_3c beta c3
unfolding with_3c
with_mask beta c3 mask r h m e =
    let t : take 16 c3 ≡ c3 = take_all 16 c3 (omega arith) in
    e ∙ ap (λ (l : List ℕ). beta ⊕ l) (m ∙ rw (t, h))

-- one AES block, of a key and a block that are known to be others
pub encrypted : (k h x y r : List ℕ) → k ≡ h → x ≡ y → r ≡ aes_encrypt k x → r ≡ aes_encrypt h y
encrypted k h x y r p q e = e ∙ rw (p, q)

pub decrypted : (k h x r : List ℕ) → k ≡ h → r ≡ aes_decrypt k x → r ≡ aes_decrypt h x
decrypted k h x r p e = e ∙ rw p

-- ---- what `parse` of src/challenge.rt reads

module _ (s : ℕ) (keys idm block : List ℕ) where
  pub not_parsed : wrong s (length keys) (length idm) (length block) ≡ true → (e : Refusal) (r : Result Parsed Refusal) → r ≡ Err e → e ≡ BadMarkOrLength → HasParsed s keys idm block r
  not_parsed w e r h k = rw h (w, k)

  -- p is what was read
  module _ (p : Parsed) (h : IsParsed s keys idm block p) where
    -- the blocks of DES
    module _ (c : AuthenticationContext) (b : List ℕ) (e : p ≡ Des c b) where
      pub is_des : IsParsed s keys idm block (Des c b)
      is_des = rw e at h

      pub des_size : block_size s ≡ 8
      des_size = size_des_lem s is_des.0

      pub des_under_alpha : tdea2_encrypt c.alpha c.l b ≡ under_alpha s keys idm block
      unfolding under_alpha
      des_under_alpha = (λ j. tdea2_encrypt (is_des.2 j) (is_des.1 j) (is_des.4 j)) ∙ sym (first s _ _ is_des.0)

      pub des_under_alpha_back : tdea2_decrypt c.alpha c.l b ≡ under_alpha_back s keys idm block
      unfolding under_alpha_back
      des_under_alpha_back = (λ j. tdea2_decrypt (is_des.2 j) (is_des.1 j) (is_des.4 j)) ∙ sym (first s _ _ is_des.0)

      pub des_under_beta : (c3 : List ℕ) → tdea2_encrypt c.l c.beta b ≡ under_beta s keys idm c3 block
      unfolding under_beta
      des_under_beta c3 = (λ j. tdea2_encrypt (is_des.1 j) (is_des.3 j) (is_des.4 j)) ∙ sym (first s _ _ is_des.0)

      pub des_under_beta_back : (c3 : List ℕ) → tdea2_decrypt c.l c.beta b ≡ under_beta_back s keys idm c3 block
      unfolding under_beta_back
      des_under_beta_back c3 = (λ j. tdea2_decrypt (is_des.1 j) (is_des.3 j) (is_des.4 j)) ∙ sym (first s _ _ is_des.0)

    -- the blocks of AES
    module _ (c : AuthenticationContextV2Aes128) (b : List ℕ) (e : p ≡ Aes128 c b) where
      pub is_aes : IsParsed s keys idm block (Aes128 c b)
      is_aes = rw e at h

      not_des : s ≢ 1
      not_des h = omega (arith, is_aes.0, h)

      pub aes_size : block_size s ≡ 16
      aes_size = size_aes s not_des

      pub aes_under_alpha : aes_encrypt c.alpha b ≡ under_alpha s keys idm block
      unfolding under_alpha
      aes_under_alpha = ap₂ aes_encrypt is_aes.1 is_aes.3 ∙ sym (second s _ _ not_des)

      pub aes_under_alpha_back : aes_decrypt c.alpha b ≡ under_alpha_back s keys idm block
      unfolding under_alpha_back
      aes_under_alpha_back = ap₂ aes_decrypt is_aes.1 is_aes.3 ∙ sym (second s _ _ not_des)

      -- x: what was read of Challenge 3C
      module _ (x c3 : List ℕ) (q : x ≡ c3) where
        pub aes_under_beta : aes_encrypt (with_3c c.beta x) b ≡ under_beta s keys idm c3 block
        unfolding under_beta
        aes_under_beta = ap₂ aes_encrypt (ap₂ with_3c is_aes.2 q) is_aes.3 ∙ sym (second s _ _ not_des)

        pub aes_under_beta_back : aes_decrypt (with_3c c.beta x) b ≡ under_beta_back s keys idm c3 block
        unfolding under_beta_back
        aes_under_beta_back = ap₂ aes_decrypt (ap₂ with_3c is_aes.2 q) is_aes.3 ∙ sym (second s _ _ not_des)

-- ---- the answers

-- what `deliver` ensures of bytes that go out with the number 0
abbrev Delivered : List ℕ → Answer → List ℕ → List ℕ → Type 0
Delivered b r o last = Delivers (delivering 0 b (length o)) r o last

-- the refusal of row 17
refused_17 : (e : Refusal) (r : Answer) → r ≡ Err e → e ≡ BadMarkOrLength → Refused 17 r
refused_17 e r h k = rw (h, k) (refl, refl, refl, refl)

module _ (bad : Bool) (s : ℕ) (want o : List ℕ) where
  pub gives_refused : bad ≡ true → (e : Refusal) (r : Answer) → r ≡ Err e → e ≡ BadMarkOrLength → Meets (giving bad s (length o) want) r o o
  unfolding giving decide choose
  gives_refused h e r q k = rw h (refused_meets 17 r o (refused_17 e r q k))

  -- the block goes out
  pub gives : bad ≡ false → (b : List ℕ) (r : Answer) (last : List ℕ) (n : ℕ) → block_size s ≡ n → length b ≡ n → n ≤ 65535 → b ≡ want → Delivered b r o last → Meets (giving bad s (length o) want) r o last
  unfolding giving handing acceptance decide choose
  gives h b r last n z l m q d =
      let k : length b ≤ 65535 = omega arith in
      rw (h, ← q, z, ← l) (delivers_meets 0 0 b (length o) d k)

module _ (bad : Bool) (given want : List ℕ) (r : Answer) where
  pub check_refused : bad ≡ true → (e : Refusal) → r ≡ Err e → e ≡ BadMarkOrLength → Meets (checking bad given want) r [] []
  unfolding checking decide choose
  check_refused h e q k = rw h (refused_meets 17 r [] (refused_17 e r q k))

  -- t compared the two
  pub checks : bad ≡ false → (t : Bool) (x y : List ℕ) → t ≡ same x y → x ≡ given → y ≡ want → Meets (decide (row 13 (isnt t) ∷ []) (accepted 0 [])) r [] [] → Meets (checking bad given want) r [] []
  unfolding checking decide choose
  checks h t x y e p q m =
      let g : t ≡ same given want = e ∙ ap₂ same p q in
      rw (h, ← g) m

-- the same where row 13 is left to the caller
module _ (bad : Bool) (given want : List ℕ) where
  pub not_compared : bad ≡ true → (e : Refusal) (r : Result Bool Refusal) → r ≡ Err e → e ≡ BadMarkOrLength → Compares (checking bad given want) r
  unfolding checking decide choose
  not_compared h e r q k = rw (h, q) (refl, k)

  -- t compared the two
  pub compares : bad ≡ false → (t : Bool) (x y : List ℕ) → t ≡ same x y → x ≡ given → y ≡ want → checking bad given want ≡ decide (row 13 (isnt t) ∷ []) (accepted 0 [])
  unfolding checking decide choose
  compares h t x y e p q =
      let g : t ≡ same given want = e ∙ ap₂ same p q in
      rw (h, g) refl

-- o is the outcome of a check that compared nothing
pub refused_compares : (o : Outcome) (r : Answer) (e : Refusal) → r ≡ Err e → (o ≡ refused 17) × (e ≡ BadMarkOrLength) → Meets o r [] []
refused_compares o r e q h = rw h.0 (refused_meets 17 r [] (refused_17 e r q h.1))

-- what `accept` of src/challenge.rt ensures
module _ (t : Bool) (r : Answer) where
  pub equal_accepted : t ≡ true → (n : Accepted) → r ≡ Ok n → (n.length ≡ 0) × (n.transaction_number ≡ 0) × (n.padding ≡ 0) → Meets (decide (row 13 (isnt t) ∷ []) (accepted 0 [])) r [] []
  unfolding decide choose isnt over
  equal_accepted h n q f = rw (h, q) (accepted_meets 0 [] (Ok n) [] [] refl f.0 f.1 f.2 refl)

  pub unequal_refused : t ≡ false → Refused 13 r → Meets (decide (row 13 (isnt t) ∷ []) (accepted 0 [])) r [] []
  unfolding decide choose isnt
  unequal_refused h f = rw h (refused_meets 13 r [] f)

-- ---- session keys

module _ (x : List ℕ) (r : Answer) (o : List ℕ) where
  pub keys_refused : length x ≢ 16 → (e : Refusal) → r ≡ Err e → e ≡ BadMarkOrLength → Meets (deriving_session_keys x (length o)) r o o
  unfolding deriving_session_keys decide choose isnt
  keys_refused n e q k = rw (ne_eqb (length x) 16 n) (refused_meets 17 r o (refused_17 e r q k))

  pub keys_given : (y a b both last : List ℕ) → (length x ≡ 16) × (y ≡ x) → (a ≡ aes_encrypt y (session_key_input 1)) × (b ≡ aes_encrypt y (session_key_input 2)) → both ≡ a ++ b → length both ≡ 32 → Delivered both r o last
      → Meets (deriving_session_keys x (length o)) r o last
  unfolding deriving_session_keys session_keys handing acceptance decide choose isnt
  keys_given y a b both last h k j l m =
      let q : both ≡ aes_encrypt x (session_key_input 1) ++ aes_encrypt x (session_key_input 2) = j ∙ rw (k.0, k.1, h.1) in
      rw (eq-eqb (length x) 16 h.0, ← q, ← l) (delivers_meets 0 0 both (length o) m (omega arith))
