-- DES deciphers what it enciphers, and the other way round, whatever the key; so does triple DES. Assumes nothing.
use mathlib.Core.Path.{◌≡◌, refl, sym, ap, ap₂, ◌∙◌}
use mathlib.Core.Bool.{Bool}
use mathlib.Core.List.{List, [], ◌∷◌, ◌++◌, reverse, reverse-cons, reverse-reverse}
use Prim.Native.Nat.{ℕ, ◌*◌}
use native.Mathlib.Omega.{arith}
use lib.ListN.{length, take, drop, length-append, length-drop, take-append-drop}
use lib.Seq.{length-take-le, take_at, drop_at}
use Rattle.cipher.specs.Bits.{num, to_bits, to_bytes}
use Rattle.cipher.specs.Bytes.{Bytes}
use Rattle.cipher.specs.Fips46.{select, IP, IP⁻¹, P, f, Halves, round, iterations, crypt, KS, encipher, decipher}
use Rattle.cipher.specs.Fips46.{des_encrypt, des_decrypt, tdea_encrypt, tdea_decrypt, tdea2_encrypt, tdea2_decrypt}
use Rattle.cipher.proofs.BitWords.{bit_at, down, down_num, length_select, length-⊞, ⊞-twice, length_to_bytes, Bytes-toBytes, to_bits_to_bytes, to_bytes_to_bits}
use Rattle.cipher.proofs.BitWords.{length_to_bits}
use Rattle.cipher.proofs.DesRounds.{halves}

-- ---- the rounds

abbrev turned : Halves → Halves
turned h = halves h.R h.L

-- both halves have 32 bits
abbrev Whole : Halves → Type 0
Whole h = (length h.L ≡ 32) × (length h.R ≡ 32)

length_f : (r k : List Bool) → length (f r k) ≡ 32
unfolding f P
length_f r k = length_select P _

round_whole : (k : List Bool) (h : Halves) → Whole h → Whole (round k h)
unfolding round
round_whole k h w = (w.1, length-⊞ h.L (f h.R k) (w.0 ∙ sym (length_f h.R k)) ∙ w.0)

iterations_whole : (ks : List (List Bool)) (h : Halves) → Whole h → Whole (iterations ks h)
unfolding iterations
iterations_whole [] h w = w
iterations_whole (k ∷ ks) h w = iterations_whole ks (round k h) (round_whole k h w)

-- a round of the turned result of a round turns its argument
round_back : (k : List Bool) (h : Halves) → Whole h → round k (turned (round k h)) ≡ turned h
unfolding round
round_back k h w = ap (halves h.R) (⊞-twice h.L (f h.R k) (w.0 ∙ sym (length_f h.R k)))

iterations_snoc : (ks : List (List Bool)) (k : List Bool) (h : Halves) → iterations (ks ++ (k ∷ [])) h ≡ round k (iterations ks h)
unfolding iterations
iterations_snoc [] k h = refl
iterations_snoc (j ∷ ks) k h = iterations_snoc ks k (round j h)

iterations_back : (ks : List (List Bool)) (h : Halves) → Whole h → iterations (reverse ks) (turned (iterations ks h)) ≡ turned h
unfolding iterations
iterations_back [] h w = refl
iterations_back (k ∷ ks) h w =
    ap (λ (t : List (List Bool)). iterations t (turned (iterations ks (round k h)))) (reverse-cons k ks)
    ∙ iterations_snoc (reverse ks) k (turned (iterations ks (round k h)))
    ∙ ap (round k) (iterations_back ks (round k h) (round_whole k h w))
    ∙ round_back k h w

-- ---- a block of bits

ip_first : (g : ℕ → Bool) → select IP⁻¹ (select IP (down 64 g)) ≡ down 64 g
unfolding select IP IP⁻¹ down
ip_first g = refl

ip_last : (g : ℕ → Bool) → select IP (select IP⁻¹ (down 64 g)) ≡ down 64 g
unfolding select IP IP⁻¹ down
ip_last g = refl

ip_back : (b : List Bool) → length b ≡ 64 → select IP⁻¹ (select IP b) ≡ b
ip_back b h =
    let e : b ≡ down 64 (bit_at (num b)) = down_num 64 b h in
    ap (λ (l : List Bool). select IP⁻¹ (select IP l)) e ∙ ip_first (bit_at (num b)) ∙ sym e

ip_forth : (b : List Bool) → length b ≡ 64 → select IP (select IP⁻¹ b) ≡ b
ip_forth b h =
    let e : b ≡ down 64 (bit_at (num b)) = down_num 64 b h in
    ap (λ (l : List Bool). select IP (select IP⁻¹ l)) e ∙ ip_last (bit_at (num b)) ∙ sym e

length_crypt : (ks : List (List Bool)) (b : List Bool) → length (crypt ks b) ≡ 64
unfolding crypt IP⁻¹
length_crypt ks b = length_select IP⁻¹ _

abbrev start : List Bool → Halves
start b = halves (take 32 (select IP b)) (drop 32 (select IP b))

length_ip : (b : List Bool) → length (select IP b) ≡ 64
unfolding IP
length_ip b = length_select IP b

start_whole : (b : List Bool) → Whole (start b)
start_whole b =
    let h : length (select IP b) ≡ 64 = length_ip b in
    (length-take-le 32 (select IP b) (omega arith), length-drop 32 (select IP b) ∙ omega arith)

-- the rounds in the other order undo the rounds
pub crypt_back : (ks : List (List Bool)) (b : List Bool) → length b ≡ 64 → crypt (reverse ks) (crypt ks b) ≡ b
unfolding crypt
crypt_back ks b h =
    let e : Halves = iterations ks (start b) in
    let w : Whole e = iterations_whole ks (start b) (start_whole b) in
    let n : length (e.R ++ e.L) ≡ 64 = length-append e.R e.L ∙ omega (arith, w.0, w.1) in
    let p : select IP (select IP⁻¹ (e.R ++ e.L)) ≡ e.R ++ e.L = ip_forth (e.R ++ e.L) n in
    let q : start (select IP⁻¹ (e.R ++ e.L)) ≡ turned e =
    ap₂ halves (ap (take 32) p ∙ take_at e.R e.L 32 w.1) (ap (drop 32) p ∙ drop_at e.R e.L 32 w.1) in
    ap (λ (t : Halves). select IP⁻¹ (t.R ++ t.L)) (ap (iterations (reverse ks)) q ∙ iterations_back ks (start b) (start_whole b))
    ∙ ap (select IP⁻¹) (take-append-drop 32 (select IP b))
    ∙ ip_back b h

-- ---- a block of bytes

-- the same for blocks of bytes, whatever the round keys
bytes_back : (ks : List (List Bool)) (block : List ℕ) → length block ≡ 8 → Bytes block
    → to_bytes 8 (crypt (reverse ks) (to_bits (to_bytes 8 (crypt ks (to_bits block))))) ≡ block
bytes_back ks block h k =
    ap (λ (b : List Bool). to_bytes 8 (crypt (reverse ks) b)) (to_bits_to_bytes 8 (crypt ks (to_bits block)) (length_crypt ks (to_bits block)))
    ∙ ap (to_bytes 8) (crypt_back ks (to_bits block) (length_to_bits block ∙ ap (λ (n : ℕ). n * 8) h))
    ∙ to_bytes_to_bits 8 block h k

module _ (key block : List ℕ) where
  pub des_decrypt_encrypt : length block ≡ 8 → Bytes block → des_decrypt key (des_encrypt key block) ≡ block
  unfolding des_decrypt des_encrypt decipher encipher
  des_decrypt_encrypt h k = bytes_back (KS (to_bits key)) block h k

  pub des_encrypt_decrypt : length block ≡ 8 → Bytes block → des_encrypt key (des_decrypt key block) ≡ block
  unfolding des_decrypt des_encrypt decipher encipher
  des_encrypt_decrypt h k =
      ap (λ (ks : List (List Bool)). to_bytes 8 (crypt ks (to_bits (to_bytes 8 (crypt (reverse (KS (to_bits key))) (to_bits block)))))) (sym (reverse-reverse (KS (to_bits key))))
      ∙ bytes_back (reverse (KS (to_bits key))) block h k

  pub length_des_encrypt : length (des_encrypt key block) ≡ 8
  unfolding des_encrypt
  length_des_encrypt = length_to_bytes 8 _

  pub length_des_decrypt : length (des_decrypt key block) ≡ 8
  unfolding des_decrypt
  length_des_decrypt = length_to_bytes 8 _

  pub Bytes-desEncrypt : Bytes (des_encrypt key block)
  unfolding des_encrypt
  Bytes-desEncrypt = Bytes-toBytes 8 _

  pub Bytes-desDecrypt : Bytes (des_decrypt key block)
  unfolding des_decrypt
  Bytes-desDecrypt = Bytes-toBytes 8 _

-- ---- triple DES

module _ (key1 key2 key3 block : List ℕ) where
  pub tdea_decrypt_encrypt : length block ≡ 8 → Bytes block → tdea_decrypt key1 key2 key3 (tdea_encrypt key1 key2 key3 block) ≡ block
  unfolding tdea_decrypt tdea_encrypt
  tdea_decrypt_encrypt h k =
      let once : List ℕ = des_encrypt key1 block in
      let twice : List ℕ = des_decrypt key2 once in
      ap (λ (s : List ℕ). des_decrypt key1 (des_encrypt key2 s)) (des_decrypt_encrypt key3 twice (length_des_decrypt key2 once) (Bytes-desDecrypt key2 once))
      ∙ ap (des_decrypt key1) (des_encrypt_decrypt key2 once (length_des_encrypt key1 block) (Bytes-desEncrypt key1 block))
      ∙ des_decrypt_encrypt key1 block h k

  pub tdea_encrypt_decrypt : length block ≡ 8 → Bytes block → tdea_encrypt key1 key2 key3 (tdea_decrypt key1 key2 key3 block) ≡ block
  unfolding tdea_decrypt tdea_encrypt
  tdea_encrypt_decrypt h k =
      let once : List ℕ = des_decrypt key3 block in
      let twice : List ℕ = des_encrypt key2 once in
      ap (λ (s : List ℕ). des_encrypt key3 (des_decrypt key2 s)) (des_encrypt_decrypt key1 twice (length_des_encrypt key2 once) (Bytes-desEncrypt key2 once))
      ∙ ap (des_encrypt key3) (des_decrypt_encrypt key2 once (length_des_decrypt key3 block) (Bytes-desDecrypt key3 block))
      ∙ des_encrypt_decrypt key3 block h k

module _ (key1 key2 block : List ℕ) where
  pub tdea2_decrypt_encrypt : length block ≡ 8 → Bytes block → tdea2_decrypt key1 key2 (tdea2_encrypt key1 key2 block) ≡ block
  unfolding tdea2_decrypt tdea2_encrypt
  tdea2_decrypt_encrypt h k = tdea_decrypt_encrypt key1 key2 key1 block h k

  pub tdea2_encrypt_decrypt : length block ≡ 8 → Bytes block → tdea2_encrypt key1 key2 (tdea2_decrypt key1 key2 block) ≡ block
  unfolding tdea2_decrypt tdea2_encrypt
  tdea2_encrypt_decrypt h k = tdea_encrypt_decrypt key1 key2 key1 block h k

  pub length_tdea2_encrypt : length (tdea2_encrypt key1 key2 block) ≡ 8
  unfolding tdea2_encrypt tdea_encrypt
  length_tdea2_encrypt = length_des_encrypt key1 _

  pub length_tdea2_decrypt : length (tdea2_decrypt key1 key2 block) ≡ 8
  unfolding tdea2_decrypt tdea_decrypt
  length_tdea2_decrypt = length_des_decrypt key1 _

  pub Bytes-tdea2Encrypt : Bytes (tdea2_encrypt key1 key2 block)
  unfolding tdea2_encrypt tdea_encrypt
  Bytes-tdea2Encrypt = Bytes-desEncrypt key1 _

  pub Bytes-tdea2Decrypt : Bytes (tdea2_decrypt key1 key2 block)
  unfolding tdea2_decrypt tdea_decrypt
  Bytes-tdea2Decrypt = Bytes-desDecrypt key1 _
