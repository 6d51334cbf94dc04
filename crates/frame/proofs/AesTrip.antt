-- AES frames: an opening of sealed data gives what was sealed, and only sealed data opens. Assumes nothing.
use mathlib.Core.Path.{◌≡◌, refl, sym, ap, ap₂, ◌∙◌}
use mathlib.Core.List.{List, [], ◌∷◌, ◌++◌}
use mathlib.Core.Logic.{◌↔◌}
use Prim.Native.Nat.{ℕ, ◌+◌, ◌-◌, ◌*◌, ◌/◌, ◌%◌, ◌≤◌, ◌<◌}
use native.Mathlib.Nat.{mod-lt, mod-eq_of_lt}
use native.Mathlib.Omega.{arith}
use borrow.Author.Tests.{eqb-true, eq-eqb, ltb-false, le-ltb}
use lib.Dec.{eqb, ltb, lit<}
use lib.ListN.{length, take, drop, get_or, length-append, length-drop, take-append-drop}
use lib.Seq.{take_at, drop_at, length-take-le, drop-drop}
use Rattle.cipher.specs.Bytes.{Bytes}
use Rattle.cipher.specs.Fips197.{aes_encrypt}
use Rattle.cipher.specs.Sp80038a.{blocks, ofb}
use Rattle.cipher.specs.Sp80038b.{cmac, R128}
use Rattle.cipher.proofs.ByteLists.{Block, Bytes-cons, Bytes-append, Bytes-take, Bytes-drop}
use Rattle.cipher.proofs.Ciphers.{length_aes_ofb, length_aes_input, length_aes_cmac, aes_ofb_twice, Bytes-aes-ofb, aes_input_block}
use Rattle.answer.specs.Number.{number_bytes}
use Rattle.answer.specs.Outcome.{Outcome, accepted, row}
use Rattle.answer.specs.Tests.{isnt, either, same}
use Rattle.frame.specs.AesFrame.{cipher_key, mac_key, challenge_3c, aes_iv, aes_mac, mac_input, aes_sealed, aes_size, opened_iv, opened_payload, opened_mac, aes_open_rows, aes_opening}
use Rattle.frame.proofs.AesOpens.{all_rows, by_rows}
use Rattle.answer.proofs.Rows.{AllFalse, decide_false, isnt_false, either_false}
use Rattle.answer.proofs.Refusals.{zero_passes, acceptance_zero, accepted_number, accepted_bytes, isnt_of, either_of, same_of}
use Rattle.answer.proofs.Equality.{same_equal}

-- ---- pieces

-- the parts of credentials that are 36 bytes
module _ (c : List ℕ) (hc : length c ≡ 36) where
  cipher_key_long : length (cipher_key c) ≡ 16
  unfolding cipher_key
  cipher_key_long = length-take-le 16 c (omega arith)

  mac_key_long : length (mac_key c) ≡ 16
  unfolding mac_key
  mac_key_long = length-take-le 16 (drop 16 c) (rw length-drop (omega arith))

  challenge_3c_long : length (challenge_3c c) ≡ 4
  unfolding challenge_3c
  challenge_3c_long = length-drop 32 c ∙ omega arith

  module _ (bc : Bytes c) where
    cipher_key_block : Block 16 (cipher_key c)
    unfolding cipher_key
    cipher_key_block = record { long = cipher_key_long; bytes = Bytes-take 16 c bc }

    challenge_3c_bytes : Bytes (challenge_3c c)
    unfolding challenge_3c
    challenge_3c_bytes = Bytes-drop 32 c bc

pub number_bytes_bytes : (n : ℕ) → Bytes (number_bytes n)
number_bytes_bytes n = Bytes-cons (n % 256) (n / 256 % 256 ∷ []) (mod-lt n (lit< tt)) (Bytes-cons (n / 256 % 256) [] (mod-lt (n / 256) (lit< tt)) (λ i. lit< tt))

pub number_bytes_long : (n : ℕ) → length (number_bytes n) ≡ 2
number_bytes_long n = refl

-- two bytes are those of their number
pub number_bytes_of : (s : List ℕ) → Bytes s → 2 ≤ length s → take 2 s ≡ number_bytes (get_or s 0 0 + get_or s 1 0 * 256)
number_bytes_of [] b h = absurd (omega arith)
number_bytes_of (x ∷ []) b h = absurd (omega arith)
number_bytes_of (x ∷ y ∷ s) b h =
    let lo : (x + y * 256) % 256 ≡ x = omega (arith, b 0) in
    let up : (x + y * 256) / 256 ≡ y = omega (arith, b 0) in
    let hi : (x + y * 256) / 256 % 256 ≡ y = rw up (mod-eq_of_lt (b 1)) in
    rw (lo, hi)

aes_iv_long : (long code : ℕ) (number id c3 : List ℕ) → length number ≡ 2 → length id ≡ 6 → length c3 ≡ 4 → length (aes_iv long code number id c3) ≡ 16
unfolding aes_iv
aes_iv_long long code number id c3 hn hi h3 = simp (length-append, length-drop, hn, hi, h3)

pub aes_iv_block : (long code : ℕ) (number id c3 : List ℕ) → long ≤ 243 → code < 256 → length number ≡ 2 → Bytes number → length id ≡ 6 → Bytes id → length c3 ≡ 4 → Bytes c3
    → Block 16 (aes_iv long code number id c3)
unfolding aes_iv
aes_iv_block long code number id c3 hl hc hn bn hi bi h3 b3 =
    let t : List ℕ = number ++ (id ++ (drop 1 c3 ++ (0 ∷ 0 ∷ []))) in
    let zeros : Bytes (0 ∷ 0 ∷ []) = Bytes-cons 0 (0 ∷ []) (lit< tt) (Bytes-cons 0 [] (lit< tt) (λ i. lit< tt)) in
    let bt : Bytes t = Bytes-append number _ bn (Bytes-append id _ bi (Bytes-append (drop 1 c3) (0 ∷ 0 ∷ []) (Bytes-drop 1 c3 b3) zeros)) in
    record {
      long = aes_iv_long long code number id c3 hn hi h3;
      bytes = Bytes-cons 1 ((long + 12) ∷ code ∷ t) (lit< tt) (Bytes-cons (long + 12) (code ∷ t) (omega arith) (Bytes-cons code t hc bt));
    }

first_eight : (s : List ℕ) → length s ≡ 16 → length (take 8 s) ≡ 8
first_eight s h = length-take-le 8 s (omega arith)

aes_mac_long : (key iv payload : List ℕ) → length key ≡ 16 → length (aes_mac key iv payload) ≡ 8
unfolding aes_mac
aes_mac_long key iv payload k =
    let text : List ℕ = (0x19 ∷ (take 13 (drop 1 iv) ++ (length payload / 256 % 256 ∷ length payload % 256 ∷ []))) ++ payload in
    first_eight (cmac (aes_encrypt key) 16 R128 text) (length_aes_cmac key k text)

pub mac_input_block : (key iv : List ℕ) (n : ℕ) → Block 16 key → Block 16 iv → Block 16 (mac_input key iv n)
unfolding mac_input
mac_input_block key iv n k g = aes_input_block key k iv [] g (blocks 16 n)

mac_input_long : (key iv : List ℕ) (n : ℕ) → length key ≡ 16 → length iv ≡ 16 → length (mac_input key iv n) ≡ 16
unfolding mac_input
mac_input_long key iv n k g = length_aes_input key k (blocks 16 n) iv g

-- what AES data can carry: a number of 16 bits and up to 243 bytes
pub record AesDomain (number : ℕ) (payload : List ℕ) : Type 0 where
  pub small : number < 65536
  pub short : length payload ≤ 243
  pub bytes : Bytes payload

-- ---- the parts of sealed data, and its size: they go by the lengths of credentials and ID alone

module _ (c id payload : List ℕ) (code number : ℕ) (hc : length c ≡ 36) (hi : length id ≡ 6) where
  iv : List ℕ
  iv = aes_iv (length payload) code (number_bytes number) id (challenge_3c c)

  iv_long : length iv ≡ 16
  unfolding iv
  iv_long = aes_iv_long (length payload) code (number_bytes number) id (challenge_3c c) (number_bytes_long number) hi (challenge_3c_long c hc)

  -- the three parts of the sealed data
  x : List ℕ
  x = ofb (aes_encrypt (cipher_key c)) 16 iv payload

  mi : List ℕ
  mi = mac_input (cipher_key c) iv (length payload)

  mac : List ℕ
  mac = aes_mac (mac_key c) iv payload

  y : List ℕ
  y = ofb (aes_encrypt (cipher_key c)) 16 mi mac

  sealed : List ℕ
  sealed = aes_sealed c code number id payload

  sealed_is : sealed ≡ number_bytes number ++ (x ++ y)
  unfolding sealed aes_sealed x y mi mac iv
  sealed_is = refl

  mi_long : length mi ≡ 16
  unfolding mi
  mi_long = mac_input_long (cipher_key c) iv (length payload) (cipher_key_long c hc) iv_long

  x_long : length x ≡ length payload
  unfolding x
  x_long = length_aes_ofb (cipher_key c) (cipher_key_long c hc) iv payload iv_long

  y_long : length y ≡ 8
  unfolding y mac
  y_long = length_aes_ofb (cipher_key c) (cipher_key_long c hc) mi (aes_mac (mac_key c) iv payload) mi_long ∙ aes_mac_long (mac_key c) iv payload (mac_key_long c hc)

  sealed_len : length sealed ≡ length payload + 10
  sealed_len =
      ap length sealed_is ∙ length-append (number_bytes number) (x ++ y)
      ∙ ap₂ ◌+◌ (number_bytes_long number) (length-append x y ∙ ap₂ ◌+◌ x_long y_long) ∙ omega arith

  pub aes_sealed_long : length (aes_sealed c code number id payload) ≡ aes_size (length payload)
  unfolding sealed aes_size
  aes_sealed_long = sealed_len

  sealed_front : take 2 sealed ≡ number_bytes number
  sealed_front = ap (take 2) sealed_is ∙ take_at (number_bytes number) (x ++ y) 2 (number_bytes_long number)

  sealed_rest : drop 2 sealed ≡ x ++ y
  sealed_rest = ap (drop 2) sealed_is ∙ drop_at (number_bytes number) (x ++ y) 2 (number_bytes_long number)

  n_is : length sealed - 10 ≡ length payload
  n_is = omega (arith, sealed_len)

  iv_is : opened_iv c code id sealed ≡ iv
  unfolding opened_iv iv
  iv_is = ap₂ (λ (n : ℕ) (b : List ℕ). aes_iv n code b id (challenge_3c c)) n_is sealed_front

  -- opening
  module _ (bc : Bytes c) (bi : Bytes id) (ho : code < 256) (h : AesDomain number payload) where
    iv_block : Block 16 iv
    unfolding iv
    iv_block =
        aes_iv_block (length payload) code (number_bytes number) id (challenge_3c c) h.short ho (number_bytes_long number) (number_bytes_bytes number) hi bi
        (challenge_3c_long c hc) (challenge_3c_bytes c hc bc)

    mi_block : Block 16 mi
    unfolding mi
    mi_block = mac_input_block (cipher_key c) iv (length payload) (cipher_key_block c hc bc) iv_block

    twice : (i l : List ℕ) → Block 16 i → ofb (aes_encrypt (cipher_key c)) 16 i (ofb (aes_encrypt (cipher_key c)) 16 i l) ≡ l
    twice i l g = aes_ofb_twice (cipher_key c) (cipher_key_block c hc bc) i l g

    payload_is : opened_payload c code id sealed ≡ payload
    unfolding opened_payload x
    payload_is =
        let p : take (length sealed - 10) (drop 2 sealed) ≡ x = ap₂ (λ (n : ℕ) (l : List ℕ). take n l) n_is sealed_rest ∙ take_at x y (length payload) x_long in
        ap₂ (λ (i l : List ℕ). ofb (aes_encrypt (cipher_key c)) 16 i l) iv_is p ∙ twice iv payload iv_block

    mac_is : opened_mac c code id sealed ≡ mac
    unfolding opened_mac y mi
    mac_is =
        let e : length sealed - 8 ≡ 2 + length payload = omega (arith, sealed_len) in
        let p : drop (length sealed - 8) sealed ≡ y =
        ap (λ (n : ℕ). drop n sealed) e ∙ sym (drop-drop (length payload) 2 sealed) ∙ ap (drop (length payload)) sealed_rest ∙ drop_at x y (length payload) x_long in
        ap₂ (λ (i l : List ℕ). ofb (aes_encrypt (cipher_key c)) 16 i l) (ap₂ (λ (v : List ℕ) (n : ℕ). mac_input (cipher_key c) v n) iv_is n_is) p ∙ twice mi mac mi_block

    number_is : get_or sealed 0 0 + get_or sealed 1 0 * 256 ≡ number
    number_is = ap (λ (l : List ℕ). get_or l 0 0 + get_or l 1 0 * 256) sealed_is ∙ omega (arith, h.small)

    pub aes_opens_sealed : (room : ℕ) → length payload ≤ room → aes_opening c code id (aes_sealed c code number id payload) room ≡ accepted number payload
    unfolding aes_open_rows sealed mac
    aes_opens_sealed room hr =
        let least : 10 ≤ length sealed = omega (arith, sealed_len) in
        let most : length sealed ≤ 253 = omega (arith, sealed_len, h.short) in
        let fits : length (opened_payload c code id sealed) ≤ room = rw payload_is hr in
        let macs : opened_mac c code id sealed ≡ aes_mac (mac_key c) (opened_iv c code id sealed) (opened_payload c code id sealed) =
        mac_is ∙ sym (ap₂ (aes_mac (mac_key c)) iv_is payload_is) in
        by_rows c id sealed code room
        ∙ decide_false (all_rows c id sealed code room) _ (
          either_of _ _ (isnt_of _ (eq-eqb _ _ hi)) (isnt_of _ (eq-eqb _ _ hc)),
          (
            le-ltb _ _ least,
            (
              le-ltb _ _ most,
              (
                isnt_of _ (same_of _ _ macs),
                (le-ltb _ _ fits, tt),
              ),
            ),
          ),
        )
        ∙ ap₂ accepted number_is payload_is

-- ---- what opens was sealed

module _ (c id d : List ℕ) (code room : ℕ) (bc : Bytes c) (bi : Bytes id) (ho : code < 256) (bd : Bytes d) (zero-answer : (aes_opening c code id d room).number ≡ 0) where
  none : AllFalse (row 17 (either (isnt (eqb (length id) 6)) (isnt (eqb (length c) 36)))
      ∷ row 11 (ltb (length d) 10)
      ∷ row 12 (ltb 253 (length d))
      ∷ row 13 (isnt (same (opened_mac c code id d) (aes_mac (mac_key c) (opened_iv c code id d) (opened_payload c code id d))))
      ∷ row 16 (ltb room (length (opened_payload c code id d)))
      ∷ [])
  unfolding aes_open_rows
  none =
      zero_passes (all_rows c id d code room) _ (lit< tt, (lit< tt, (lit< tt, (lit< tt, (lit< tt, tt)))))
      (ap (λ (o : Outcome). o.number) (sym (by_rows c id d code room)) ∙ zero-answer)

  id_long : length id ≡ 6
  id_long = eqb-true _ _ (isnt_false _ (either_false _ _ none.0).0)

  c_long : length c ≡ 36
  c_long = eqb-true _ _ (isnt_false _ (either_false _ _ none.0).1)

  d_least : 10 ≤ length d
  d_least = ltb-false _ _ none.1.0

  d_most : length d ≤ 253
  d_most = ltb-false _ _ none.1.1.0

  pub aes_fits : length (opened_payload c code id d) ≤ room
  aes_fits = ltb-false _ _ none.1.1.1.1.0

  macs : opened_mac c code id d ≡ aes_mac (mac_key c) (opened_iv c code id d) (opened_payload c code id d)
  macs = same_equal _ _ (isnt_false _ none.1.1.1.0)

  pub aes_answer : aes_opening c code id d room ≡ accepted (get_or d 0 0 + get_or d 1 0 * 256) (opened_payload c code id d)
  unfolding aes_open_rows
  aes_answer = by_rows c id d code room ∙ decide_false (all_rows c id d code room) _ none

  front_long : length (take 2 d) ≡ 2
  front_long = length-take-le 2 d (omega (arith, d_least))

  v : List ℕ
  v = opened_iv c code id d

  v_block : Block 16 v
  unfolding v opened_iv
  v_block =
      aes_iv_block (length d - 10) code (take 2 d) id (challenge_3c c) (omega (arith, d_most)) ho front_long (Bytes-take 2 d bd) id_long bi
      (challenge_3c_long c c_long) (challenge_3c_bytes c c_long bc)

  k : Block 16 (cipher_key c)
  k = cipher_key_block c c_long bc

  -- the cipher payload and the cipher MAC
  xs : List ℕ
  xs = take (length d - 10) (drop 2 d)

  ys : List ℕ
  ys = drop (length d - 8) d

  xs_long : length xs ≡ length d - 10
  unfolding xs
  xs_long = length-take-le (length d - 10) (drop 2 d) (rw length-drop (omega arith))

  pub aes_payload_long : length (opened_payload c code id d) ≡ length d - 10
  unfolding opened_payload xs v
  aes_payload_long = length_aes_ofb (cipher_key c) k.long v xs v_block.long ∙ xs_long

  pub aes_in_domain : AesDomain (get_or d 0 0 + get_or d 1 0 * 256) (opened_payload c code id d)
  unfolding opened_payload v
  aes_in_domain =
      record {
        small = omega (arith, bd 0, bd 1);
        short = omega (arith, aes_payload_long, d_most);
        bytes = Bytes-aes-ofb (cipher_key c) k v (take (length d - 10) (drop 2 d)) v_block (Bytes-take (length d - 10) (drop 2 d) (Bytes-drop 2 d bd));
      }

  d_parts : d ≡ take 2 d ++ (xs ++ ys)
  unfolding xs ys
  d_parts =
      let e : length d - 8 ≡ 2 + (length d - 10) = omega (arith, d_least) in
      sym (take-append-drop 2 d)
      ∙ ap (λ (l : List ℕ). take 2 d ++ l)
      (sym (take-append-drop (length d - 10) (drop 2 d)) ∙ ap (λ (l : List ℕ). take (length d - 10) (drop 2 d) ++ l) (drop-drop (length d - 10) 2 d ∙ ap (λ (n : ℕ). drop n d) (sym e)))

  -- the payload and the MAC, enciphered again
  x_again : ofb (aes_encrypt (cipher_key c)) 16 v (opened_payload c code id d) ≡ xs
  unfolding opened_payload v xs
  x_again = aes_ofb_twice (cipher_key c) k v xs v_block

  y_again : ofb (aes_encrypt (cipher_key c)) 16 (mac_input (cipher_key c) v (length d - 10)) (aes_mac (mac_key c) v (opened_payload c code id d)) ≡ ys
  unfolding opened_mac v ys
  y_again =
      let mi : List ℕ = mac_input (cipher_key c) v (length d - 10) in
      ap (ofb (aes_encrypt (cipher_key c)) 16 mi) (sym macs) ∙ aes_ofb_twice (cipher_key c) k mi ys (mac_input_block (cipher_key c) v (length d - 10) k v_block)

  iv_again : aes_iv (length (opened_payload c code id d)) code (number_bytes (get_or d 0 0 + get_or d 1 0 * 256)) id (challenge_3c c) ≡ v
  unfolding v opened_iv
  iv_again = ap₂ (λ (n : ℕ) (b : List ℕ). aes_iv n code b id (challenge_3c c)) aes_payload_long (sym (number_bytes_of d bd (omega (arith, d_least))))

  pub aes_was_sealed : d ≡ aes_sealed c code (get_or d 0 0 + get_or d 1 0 * 256) id (opened_payload c code id d)
  unfolding aes_sealed
  aes_was_sealed =
      let n : ℕ = get_or d 0 0 + get_or d 1 0 * 256 in
      let P : List ℕ = opened_payload c code id d in
      let E : List ℕ → List ℕ → List ℕ = ofb (aes_encrypt (cipher_key c)) 16 in
      d_parts
      ∙ sym
      (ap (λ (i : List ℕ). number_bytes n ++ (E i P ++ E (mac_input (cipher_key c) i (length P)) (aes_mac (mac_key c) i P))) iv_again
      ∙ ap₂ (λ (b : List ℕ) (l : ℕ). b ++ (E v P ++ E (mac_input (cipher_key c) v l) (aes_mac (mac_key c) v P))) (sym (number_bytes_of d bd (omega (arith, d_least)))) aes_payload_long
      ∙ ap₂ (λ (a b : List ℕ). take 2 d ++ (a ++ b)) x_again y_again)

-- ---- both together

module _ (c id : List ℕ) (code room : ℕ) (hc : length c ≡ 36) (bc : Bytes c) (hi : length id ≡ 6) (bi : Bytes id) (ho : code < 256) where
  -- sealed data opens as what was sealed, wherever there is room for it
  pub aes_opens : (number : ℕ) (payload : List ℕ) → AesDomain number payload → length payload ≤ room
      → aes_opening c code id (aes_sealed c code number id payload) room ≡ accepted number payload
  aes_opens number payload h l = aes_opens_sealed c id payload code number hc hi bc bi ho h room l

  -- data that opens as a number and a payload is their sealing
  pub aes_sealed_lem : (d : List ℕ) → Bytes d → (number : ℕ) (payload : List ℕ) → aes_opening c code id d room ≡ accepted number payload
      → AesDomain number payload × (length payload ≤ room) × (d ≡ aes_sealed c code number id payload)
  aes_sealed_lem d bd number payload e =
      let z : (aes_opening c code id d room).number ≡ 0 = ap (λ (o : Outcome). o.number) e ∙ acceptance_zero number 0 payload in
      let a = sym (aes_answer c id d code room bc bi ho bd z) ∙ e in
      let n : get_or d 0 0 + get_or d 1 0 * 256 ≡ number = accepted_number _ _ _ _ a in
      let q : opened_payload c code id d ≡ payload = accepted_bytes _ _ _ _ a in
      let dom = aes_in_domain c id d code room bc bi ho bd z in (
        record { small = rw n at dom.small; short = rw q at dom.short; bytes = rw q at dom.bytes },
        rw q at (aes_fits c id d code room bc bi ho bd z),
        aes_was_sealed c id d code room bc bi ho bd z ∙ ap₂ (λ (m : ℕ) (l : List ℕ). aes_sealed c code m id l) n q,
      )

  -- data opens as number and payload exactly if it is their sealing, and the payload fits the output
  pub aes_opens_exactly : (d : List ℕ) → Bytes d → (number : ℕ) (payload : List ℕ)
      → (aes_opening c code id d room ≡ accepted number payload) ↔ (AesDomain number payload × (length payload ≤ room) × (d ≡ aes_sealed c code number id payload))
  aes_opens_exactly d bd number payload =
      (aes_sealed_lem d bd number payload, λ h. ap (λ (x : List ℕ). aes_opening c code id x room) h.2 ∙ aes_opens number payload h.0 h.1)

  -- data is refused exactly if it is the sealing of nothing that fits the output
  pub aes_refuses_exactly : (d : List ℕ) → Bytes d
      → ((aes_opening c code id d room).number ≡ 0 → ⊥) ↔ ((number : ℕ) (payload : List ℕ) → AesDomain number payload → length payload ≤ room → d ≡ aes_sealed c code number id payload → ⊥)
  aes_refuses_exactly d bd = (
    λ refusal number payload dom l e. refusal (ap (λ (x : List ℕ). (aes_opening c code id x room).number) e ∙ ap (λ (o : Outcome). o.number) (aes_opens number payload dom l) ∙ acceptance_zero number 0 payload),
    λ nothing z. nothing (get_or d 0 0 + get_or d 1 0 * 256) (opened_payload c code id d) (aes_in_domain c id d code room bc bi ho bd z) (aes_fits c id d code room bc bi ho bd z) (aes_was_sealed c id d code room bc bi ho bd z),
  )
