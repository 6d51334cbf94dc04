-- CBC decryption undoes CBC encryption and the other way round, OFB undoes itself, and all keep lengths and bytes: for any width above 0,
-- from the laws of one block. Assumes nothing.
use mathlib.Core.Path.{◌≡◌, refl, sym, ap, ap₂, ◌∙◌}
use mathlib.Core.List.{List, [], ◌++◌, append-nil, append_assoc}
use mathlib.Core.Logic.{⊎_elim}
use Prim.Native.Nat.{ℕ, zero, suc, ◌+◌, ◌-◌, ◌*◌, ◌/◌, ◌≤◌, ◌<◌}
use native.Mathlib.Nat.{le_of_eq, suc-mul, add_comm, div-add-mod', add-mul-div_right, div-eq_of_lt, zero-add, zero-mul, suc-add, mod-lt}
use native.Mathlib.Omega.{arith}
use lib.ListN.{length, take, drop, length-append, length-drop, take-append-drop, drop_of_length-le}
use lib.Seq.{take_at, drop_at, length-take-le, take_all, take-nil, drop-nil, take-append-le, drop-append-le}
use Rattle.cipher.specs.Bytes.{Bytes, ◌⊕◌}
use Rattle.cipher.specs.Sp80038a.{chain, blocks, cbc_out, cbc_back, itself, cbc_encrypt, cbc_decrypt, ofb_out, ofb_next, ofb_input, ofb}
use Rattle.cipher.proofs.Numbers.{le_or_lt}
use Rattle.cipher.proofs.Xor.{⊕-twice, length-⊕, length_xor, Bytes-⊕}
use Rattle.cipher.proofs.ByteLists.{Block, empty, Bytes-nil, Bytes-append, Bytes-take, Bytes-drop}

-- ---- whole blocks

pub blocks_times : (w n : ℕ) → 0 < w → blocks w (n * w) ≡ n
unfolding blocks
blocks_times w n p =
    ap (λ (k : ℕ). k / w) (add_comm (n * w) (w - 1)) ∙ add-mul-div_right (w - 1) n p ∙ ap (λ (k : ℕ). k + n) (div-eq_of_lt (omega arith)) ∙ zero-add n

pub blocks_whole : (w n : ℕ) (l : List ℕ) → 0 < w → length l ≡ n * w → blocks w (length l) ≡ n
blocks_whole w n l p h = ap (blocks w) h ∙ blocks_times w n p

-- n whole blocks more
pub blocks_add : (w n k : ℕ) → 0 < w → blocks w (n * w + k) ≡ n + blocks w k
unfolding blocks
blocks_add w n k p =
    let e : n * w + k + (w - 1) ≡ k + (w - 1) + n * w = omega arith in
    ap (λ (m : ℕ). m / w) e ∙ add-mul-div_right (k + (w - 1)) n p ∙ add_comm ((k + (w - 1)) / w) n

-- a string of n + 1 blocks is a block and n blocks
first_block : (w n : ℕ) (l : List ℕ) → length l ≡ suc n * w → Bytes l → Block w (take w l)
first_block w n l h b =
    let e : suc n * w ≡ n * w + w = suc-mul n w in
    record { long = length-take-le w l (omega arith); bytes = Bytes-take w l b }

other_blocks : (w n : ℕ) (l : List ℕ) → length l ≡ suc n * w → length (drop w l) ≡ n * w
other_blocks w n l h =
    let e : suc n * w ≡ n * w + w = suc-mul n w in
    rw length-drop (omega arith)

pub Block-⊕ : (w : ℕ) (a b : List ℕ) → Block w a → Block w b → Block w (a ⊕ b)
Block-⊕ w a b g h = let p = g.long in let q = h.long in record { long = length-⊕ a b (omega arith) ∙ p; bytes = Bytes-⊕ a b g.bytes h.bytes }

-- what a mode writes over n whole blocks is as long, where each step gives w bytes: for strings of a kind P, which their parts are too
module _ (out next : List ℕ → List ℕ → List ℕ) (w : ℕ) (P : List ℕ → Type 0) (parts : (l : List ℕ) → P l → P (take w l) × P (drop w l))
    (gives : (s b : List ℕ) → length s ≡ w → P s → length b ≡ w → P b → length (out s b) ≡ w)
    (keeps : (s b : List ℕ) → length s ≡ w → P s → length b ≡ w → P b → (length (next s b) ≡ w) × P (next s b)) where
  length_chain : (n : ℕ) (s l : List ℕ) → length s ≡ w → P s → length l ≡ n * w → P l → length (chain out next w s n l) ≡ n * w
  unfolding chain
  length_chain zero s l g k h p = sym (zero-mul w)
  length_chain (suc n) s l g k h p =
      let e : suc n * w ≡ n * w + w = suc-mul n w in
      let f : length (take w l) ≡ w = length-take-le w l (omega arith) in
      let t = parts l p in
      let o : length (out s (take w l)) ≡ w = gives s (take w l) g k f t.0 in
      let m = keeps s (take w l) g k f t.0 in
      let r : length (chain out next w (next s (take w l)) n (drop w l)) ≡ n * w = length_chain n (next s (take w l)) (drop w l) m.0 m.1 (other_blocks w n l h) t.1 in
      length-append (out s (take w l)) _ ∙ omega arith

-- where each step gives a block and the state stays one
module _ (out next : List ℕ → List ℕ → List ℕ) (w : ℕ) (gives : (s b : List ℕ) → Block w s → Block w b → Block w (out s b))
    (keeps : (s b : List ℕ) → Block w s → Block w b → Block w (next s b)) where
  block : (s : List ℕ) → length s ≡ w → Bytes s → Block w s
  block s h b = record { long = h; bytes = b }

  blocks_long : (n : ℕ) (s l : List ℕ) → Block w s → Bytes l → length l ≡ n * w → length (chain out next w s n l) ≡ n * w
  blocks_long n s l g b h =
      length_chain out next w Bytes (λ m c. (Bytes-take w m c, Bytes-drop w m c))
      (λ t m i p j q. (gives t m (block t i p) (block m j q)).long)
      (λ t m i p j q. let k = keeps t m (block t i p) (block m j q) in (k.long, k.bytes))
      n s l g.long g.bytes h b

  Bytes-chain : (n : ℕ) (s l : List ℕ) → Block w s → Bytes l → length l ≡ n * w → Bytes (chain out next w s n l)
  unfolding chain
  Bytes-chain zero s l g b h = Bytes-nil
  Bytes-chain (suc n) s l g b h =
      let f = first_block w n l h b in
      Bytes-append (out s (take w l)) _ (gives s (take w l) g f).bytes (Bytes-chain n (next s (take w l)) (drop w l) (keeps s (take w l) g f) (Bytes-drop w l b) (other_blocks w n l h))

-- ---- CBC

-- the laws of one block: E and D give blocks, and D undoes E
pub record Undone (E D : List ℕ → List ℕ) (w : ℕ) : Type 0 where
  pub enc : (b : List ℕ) → Block w b → Block w (E b)
  pub dec : (b : List ℕ) → Block w b → Block w (D b)
  pub undo : (b : List ℕ) → Block w b → D (E b) ≡ b

module _ (E D : List ℕ → List ℕ) (w : ℕ) (pos : 0 < w) (law : Undone E D w) where
  cbc_gives : (s b : List ℕ) → Block w s → Block w b → Block w (cbc_out E w s b)
  unfolding cbc_out
  cbc_gives s b g h = law.enc (b ⊕ s) (Block-⊕ w b s h g)

  undone : (n : ℕ) (s l : List ℕ) → Block w s → Bytes l → length l ≡ n * w → chain (cbc_back D w) (itself D w) w s n (chain (cbc_out E w) (cbc_out E w) w s n l) ≡ l
  unfolding chain cbc_out cbc_back
  undone zero s l g b h = empty l (h ∙ zero-mul w)
  undone (suc n) s l g b h =
      let p = first_block w n l h b in
      let c : List ℕ = E (take w l ⊕ s) in
      let k = cbc_gives s (take w l) g p in
      let rest : List ℕ = chain (cbc_out E w) (cbc_out E w) w c n (drop w l) in
      let t : D c ⊕ s ≡ take w l =
      ap (λ (x : List ℕ). x ⊕ s) (law.undo (take w l ⊕ s) (Block-⊕ w (take w l) s p g))
      ∙ ⊕-twice (take w l) s (le_of_eq (p.long ∙ sym g.long)) in
      let i : chain (cbc_back D w) (itself D w) w c n rest ≡ drop w l = undone n c (drop w l) k (Bytes-drop w l b) (other_blocks w n l h) in
      rw (take_at c rest w k.long, drop_at c rest w k.long, t, i) (take-append-drop w l)

  redone : (n : ℕ) (s l : List ℕ) → Block w s → Bytes l → length l ≡ n * w → chain (cbc_out D w) (cbc_out D w) w s n (chain (cbc_back E w) (itself E w) w s n l) ≡ l
  unfolding chain cbc_out cbc_back
  redone zero s l g b h = empty l (h ∙ zero-mul w)
  redone (suc n) s l g b h =
      let p = first_block w n l h b in
      let e = law.enc (take w l) p in
      let o : List ℕ = E (take w l) ⊕ s in
      let k : Block w o = Block-⊕ w (E (take w l)) s e g in
      let rest : List ℕ = chain (cbc_back E w) (itself E w) w (take w l) n (drop w l) in
      let t : D (o ⊕ s) ≡ take w l = ap D (⊕-twice (E (take w l)) s (le_of_eq (e.long ∙ sym g.long))) ∙ law.undo (take w l) p in
      let i : chain (cbc_out D w) (cbc_out D w) w (take w l) n rest ≡ drop w l = redone n (take w l) (drop w l) p (Bytes-drop w l b) (other_blocks w n l h) in
      rw (take_at o rest w k.long, drop_at o rest w k.long, t, i) (take-append-drop w l)

  back_gives : (s b : List ℕ) → Block w s → Block w b → Block w (cbc_back E w s b)
  unfolding cbc_back
  back_gives s b g h = Block-⊕ w (E b) s (law.enc b h) g

-- for n whole blocks
module _ (E D : List ℕ → List ℕ) (w : ℕ) (pos : 0 < w) (law : Undone E D w) (iv l : List ℕ) (g : Block w iv) (b : Bytes l) (n : ℕ) (h : length l ≡ n * w) where
  count : blocks w (length l) ≡ n
  count = blocks_whole w n l pos h

  length_cbc_encrypt : length (cbc_encrypt E w iv l) ≡ length l
  unfolding cbc_encrypt
  length_cbc_encrypt = rw count (blocks_long _ _ w (cbc_gives E D w pos law) (cbc_gives E D w pos law) n iv l g b h ∙ sym h)

  pub Bytes-cbcEncrypt : Bytes (cbc_encrypt E w iv l)
  unfolding cbc_encrypt
  Bytes-cbcEncrypt = rw count (Bytes-chain _ _ w (cbc_gives E D w pos law) (cbc_gives E D w pos law) n iv l g b h)

  -- of decryption by E
  length_cbc_decrypt : length (cbc_decrypt E w iv l) ≡ length l
  unfolding cbc_decrypt
  length_cbc_decrypt = rw count (blocks_long _ _ w (back_gives E D w pos law) (λ s c k m. m) n iv l g b h ∙ sym h)

  pub Bytes-cbcDecrypt : Bytes (cbc_decrypt E w iv l)
  unfolding cbc_decrypt
  Bytes-cbcDecrypt = rw count (Bytes-chain _ _ w (back_gives E D w pos law) (λ s c k m. m) n iv l g b h)

  pub cbc_decrypt_encrypt : cbc_decrypt D w iv (cbc_encrypt E w iv l) ≡ l
  unfolding cbc_encrypt cbc_decrypt
  cbc_decrypt_encrypt =
      ap (λ (k : ℕ). chain (cbc_back D w) (itself D w) w iv k (cbc_encrypt E w iv l)) (ap (blocks w) length_cbc_encrypt ∙ count)
      ∙ ap (λ (k : ℕ). chain (cbc_back D w) (itself D w) w iv n (chain (cbc_out E w) (cbc_out E w) w iv k l)) count
      ∙ undone E D w pos law n iv l g b h

  -- with the cipher's directions exchanged: E here is what CBC decryption uses
  pub cbc_encrypt_decrypt : cbc_encrypt D w iv (cbc_decrypt E w iv l) ≡ l
  unfolding cbc_encrypt cbc_decrypt
  cbc_encrypt_decrypt =
      ap (λ (k : ℕ). chain (cbc_out D w) (cbc_out D w) w iv k (cbc_decrypt E w iv l)) (ap (blocks w) length_cbc_decrypt ∙ count)
      ∙ ap (λ (k : ℕ). chain (cbc_out D w) (cbc_out D w) w iv n (chain (cbc_back E w) (itself E w) w iv k l)) count
      ∙ redone E D w pos law n iv l g b h

-- lengths go by lengths alone, where the cipher always gives w bytes
module _ (CIPH : List ℕ → List ℕ) (w : ℕ) (pos : 0 < w) (long : (b : List ℕ) → length (CIPH b) ≡ w) (iv l : List ℕ) (g : length iv ≡ w) (n : ℕ) (h : length l ≡ n * w) where
  pub cbc_encrypt_long : length (cbc_encrypt CIPH w iv l) ≡ length l
  unfolding cbc_encrypt cbc_out
  cbc_encrypt_long =
      rw (blocks_whole w n l pos h)
      (length_chain _ _ w (λ s. Unit {0}) (λ m c. (tt, tt)) (λ s b i p j q. long _) (λ s b i p j q. (long _, tt)) n iv l g tt h tt
      ∙ sym h)

  pub cbc_decrypt_long : length (cbc_decrypt CIPH w iv l) ≡ length l
  unfolding cbc_decrypt cbc_back
  cbc_decrypt_long =
      rw (blocks_whole w n l pos h)
      (length_chain _ _ w (λ s. Unit {0}) (λ m c. (tt, tt)) (λ s b i p j q. length_xor w (CIPH b) s (long b) i) (λ s b i p j q. (j, tt)) n iv l g tt h tt
      ∙ sym h)

-- ---- OFB

-- the blocks of a string cover it
pub blocks_cover : (w n : ℕ) → 0 < w → n ≤ blocks w n * w
unfolding blocks
blocks_cover w n p =
    let e = div-add-mod' (n + (w - 1)) w in
    let m = mod-lt (n + (w - 1)) p in
    omega arith

module _ (CIPH : List ℕ → List ℕ) (w : ℕ) where
  run : List ℕ → ℕ → List ℕ → List ℕ
  run s n l = chain (ofb_out CIPH w) (ofb_next CIPH w) w s n l

  -- one block: whole, or the last
  run_more : (n : ℕ) (s l : List ℕ) → run s (suc n) l ≡ (take w l ⊕ CIPH s) ++ run (CIPH s) n (drop w l)
  unfolding run chain ofb_out ofb_next
  run_more n s l = refl

  run_none : (n : ℕ) (s : List ℕ) → run s n [] ≡ []
  unfolding run chain ◌⊕◌
  run_none zero s = refl
  run_none (suc n) s = run_more n s [] ∙ rw (take-nil, drop-nil) (run_none n (CIPH s))

  run_zero : (s l : List ℕ) → run s 0 l ≡ []
  unfolding run chain
  run_zero s l = refl

  module _ (gives : (b : List ℕ) → length b ≡ w → length (CIPH b) ≡ w) where
    run_last : (n : ℕ) (s l : List ℕ) → length l < w → run s (suc n) l ≡ l ⊕ CIPH s
    run_last n s l h =
        let k : length l ≤ w = omega arith in
        run_more n s l ∙ rw (take_all w l k, drop_of_length-le l k, run_none n (CIPH s)) (append-nil (l ⊕ CIPH s))

    -- what is written has the length of what is read
    length_run : (n : ℕ) (s l : List ℕ) → length s ≡ w → length l ≤ n * w → length (run s n l) ≡ length l
    length_run zero s l g h = let e = zero-mul w in ap length (run_zero s l) ∙ omega arith
    length_run (suc n) s l g h =
        let e : suc n * w ≡ n * w + w = suc-mul n w in
        let c = gives s g in
        ⊎_elim
        (λ (k : w ≤ length l).
        let t : length (take w l) ≡ w = length-take-le w l k in
        let d : length (drop w l) ≡ length l - w = length-drop w l in
        let i : length (run (CIPH s) n (drop w l)) ≡ length (drop w l) = length_run n (CIPH s) (drop w l) c (omega arith) in
        ap length (run_more n s l) ∙ length-append (take w l ⊕ CIPH s) (run (CIPH s) n (drop w l)) ∙ ap₂ ◌+◌ (length-⊕ (take w l) (CIPH s) (omega arith)) i ∙ omega arith)
        (λ (k : length l < w). ap length (run_last n s l k) ∙ length-⊕ l (CIPH s) (omega arith))
        (le_or_lt w (length l))

    twice : (n : ℕ) (s l : List ℕ) → length s ≡ w → length l ≤ n * w → run s n (run s n l) ≡ l
    twice zero s l g h = let e = zero-mul w in run_zero s (run s 0 l) ∙ empty l (omega arith)
    twice (suc n) s l g h =
        let e : suc n * w ≡ n * w + w = suc-mul n w in
        let c = gives s g in
        ⊎_elim
        (λ (k : w ≤ length l).
        let t : length (take w l) ≡ w = length-take-le w l k in
        let d : length (drop w l) ≡ length l - w = length-drop w l in
        let j : length (take w l) ≤ length (CIPH s) = omega arith in
        let o : List ℕ = take w l ⊕ CIPH s in
        let p : length o ≡ w = length-⊕ (take w l) (CIPH s) j ∙ t in
        let rest : List ℕ = run (CIPH s) n (drop w l) in
        ap (run s (suc n)) (run_more n s l) ∙ run_more n s (o ++ rest)
        ∙ rw (take_at o rest w p, drop_at o rest w p, ⊕-twice (take w l) (CIPH s) j, twice n (CIPH s) (drop w l) c (omega arith)) (take-append-drop w l))
        (λ (k : length l < w).
        let j : length l ≤ length (CIPH s) = omega arith in
        let m : length (l ⊕ CIPH s) < w = rw (length-⊕ l (CIPH s) j) k in
        ap (run s (suc n)) (run_last n s l k) ∙ run_last n s (l ⊕ CIPH s) m ∙ ⊕-twice l (CIPH s) j)
        (le_or_lt w (length l))

    module _ (pos : 0 < w) (iv l : List ℕ) (g : length iv ≡ w) where
      pub length_ofb : length (ofb CIPH w iv l) ≡ length l
      unfolding ofb run
      length_ofb = length_run (blocks w (length l)) iv l g (blocks_cover w (length l) pos)

      pub ofb_twice : ofb CIPH w iv (ofb CIPH w iv l) ≡ l
      unfolding ofb run
      ofb_twice = ap (λ (n : ℕ). run iv n (ofb CIPH w iv l)) (ap (blocks w) length_ofb) ∙ twice (blocks w (length l)) iv l g (blocks_cover w (length l) pos)

  -- one block first, or last
  input_first : (n : ℕ) (s : List ℕ) → ofb_input CIPH w n (CIPH s) ≡ CIPH (ofb_input CIPH w n s)
  unfolding ofb_input
  input_first zero s = refl
  input_first (suc n) s = ap CIPH (input_first n s)

  -- what follows n whole blocks goes on from their last output
  run_parts : (n m : ℕ) (s a b : List ℕ) → length a ≡ n * w → run s (n + m) (a ++ b) ≡ run s n a ++ run (ofb_input CIPH w n s) m b
  unfolding ofb_input
  run_parts zero m s a b h =
      let e : [] ≡ a = empty a (h ∙ zero-mul w) in
      ap (λ (k : ℕ). run s k (a ++ b)) (zero-add m) ∙ ap (λ (l : List ℕ). run s m (l ++ b)) (sym e) ∙ ap (λ (l : List ℕ). l ++ run s m b) (sym (run_zero s a))
  run_parts (suc n) m s a b h =
      let e : suc n * w ≡ n * w + w = suc-mul n w in
      let k : w ≤ length a = omega arith in
      let i : run (CIPH s) (n + m) (drop w a ++ b) ≡ run (CIPH s) n (drop w a) ++ run (ofb_input CIPH w n (CIPH s)) m b = run_parts n m (CIPH s) (drop w a) b (other_blocks w n a h) in
      ap (λ (j : ℕ). run s j (a ++ b)) (suc-add n m) ∙ run_more (n + m) s (a ++ b)
      ∙ rw (take-append-le w a b k, drop-append-le w a b k, i, input_first n s, run_more n s a, append_assoc)

  pub ofb_parts : 0 < w → (n : ℕ) (iv a b : List ℕ) → length a ≡ n * w → ofb CIPH w iv (a ++ b) ≡ ofb CIPH w iv a ++ ofb CIPH w (ofb_input CIPH w n iv) b
  unfolding ofb run
  ofb_parts pos n iv a b h =
      ap (λ (k : ℕ). run iv k (a ++ b)) (ap (blocks w) (length-append a b ∙ ap (λ (k : ℕ). k + length b) h) ∙ blocks_add w n (length b) pos)
      ∙ run_parts n (blocks w (length b)) iv a b h
      ∙ ap (λ (k : ℕ). run iv k a ++ run (ofb_input CIPH w n iv) (blocks w (length b)) b) (sym (blocks_whole w n a pos h))

  -- what the cipher keeps, an input block keeps
  pub good_input : (Good : List ℕ → Type 0) → ((b : List ℕ) → Good b → Good (CIPH b)) → (n : ℕ) (iv : List ℕ) → Good iv → Good (ofb_input CIPH w n iv)
  unfolding ofb_input
  good_input Good keeps zero iv g = g
  good_input Good keeps (suc n) iv g = keeps (ofb_input CIPH w n iv) (good_input Good keeps n iv g)

  -- bytes in, bytes out
  module _ (keeps : (b : List ℕ) → Block w b → Block w (CIPH b)) where
    Bytes-run : (n : ℕ) (s l : List ℕ) → Block w s → Bytes l → Bytes (run s n l)
    Bytes-run zero s l g b = rw (run_zero s l) Bytes-nil
    Bytes-run (suc n) s l g b =
        rw (run_more n s l)
        (Bytes-append (take w l ⊕ CIPH s) (run (CIPH s) n (drop w l))
        (Bytes-⊕ (take w l) (CIPH s) (Bytes-take w l b) (keeps s g).bytes)
        (Bytes-run n (CIPH s) (drop w l) (keeps s g) (Bytes-drop w l b)))

    pub Bytes-ofb : (iv l : List ℕ) → Block w iv → Bytes l → Bytes (ofb CIPH w iv l)
    unfolding ofb run
    Bytes-ofb iv l g b = Bytes-run (blocks w (length l)) iv l g b
