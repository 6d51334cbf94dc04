-- DES frames: an opening of sealed data gives what was sealed, and only sealed data opens. Assumes nothing.
use mathlib.Core.Path.{◌≡◌, refl, sym, ap, ap₂, ◌∙◌}
use mathlib.Core.Bool.{true}
use mathlib.Core.List.{List, [], ◌∷◌, ◌++◌, append_assoc}
use mathlib.Core.Logic.{◌↔◌}
use Prim.Native.Nat.{ℕ, suc, ◌+◌, ◌-◌, ◌*◌, ◌/◌, ◌%◌, ◌≤◌, ◌<◌}
use native.Mathlib.Nat.{mod-lt, mod-eq_of_lt, add_comm}
use native.Mathlib.Omega.{arith}
use borrow.Author.Tests.{eqb-true, eq-eqb, ltb-false, le-ltb}
use lib.Dec.{eqb, ltb, lit<}
use lib.ListN.{length, take, drop, replicate, length-append, length-drop, take-append-drop}
use lib.Seq.{take_at, drop_at, length-take-le, take-add}
use Rattle.cipher.specs.Bytes.{Bytes}
use Rattle.cipher.specs.Fips46.{des_encrypt, des_decrypt}
use Rattle.cipher.specs.Fold.{under_each, under_each_back}
use Rattle.cipher.specs.Sp80038a.{cbc_encrypt, cbc_decrypt}
use Rattle.cipher.proofs.ByteLists.{Block, Bytes-cons, Bytes-append, Bytes-take, Bytes-drop, Bytes-replicate}
use Rattle.cipher.proofs.Ciphers.{des_cbc_decrypt_encrypt, des_cbc_encrypt_decrypt, length_des_cbc, length_des_cbc_back, Bytes-des-cbc-back, length_des_under, des_under_block, des_back_under, des_under_back}
use Rattle.answer.specs.Number.{number_of}
use Rattle.answer.specs.Outcome.{Outcome, accepted, row, decide}
use Rattle.frame.specs.Padding.{pad_count, pad}
use Rattle.answer.specs.Tests.{isnt, either, same}
use Rattle.frame.specs.DesFrame.{mac_start, des_mac, recovered, mac_holds, des_seal, header, des_sealed, des_size, des_plain, id_of, payload_of, open_rows, plain_rows, des_opening}
use Rattle.frame.proofs.DesOpens.{all_rows, by_rows}
use Rattle.frame.proofs.DesSeals.{length_header}
use Rattle.frame.proofs.Pads.{length_pad, pad_count_small, pad_count_whole, pad_count_header, pad_none, pad_after, Bytes-pad}
use Rattle.answer.proofs.Rows.{AllFalse, decide_false, isnt_false, either_false}
use Rattle.answer.proofs.Refusals.{zero_passes, acceptance_zero, accepted_number, accepted_bytes, isnt_of, either_of, same_of}
use Rattle.answer.proofs.Equality.{same_equal}

-- ---- pieces

pub mac_start_block : (total code : ℕ) → code < 256 → Block 8 (mac_start total code)
unfolding mac_start
mac_start_block total code h = record { long = refl; bytes = Bytes-cons (total % 256) (code ∷ replicate 6 0) (mod-lt total (lit< tt)) (Bytes-cons code (replicate 6 0) h (Bytes-replicate 6 0 (lit< tt))) }

-- eight bytes, whatever the text
pub length_des_mac : (code : ℕ) (plain : List ℕ) → length (des_mac code plain) ≡ 8
unfolding des_mac mac_start
length_des_mac code plain = length_des_under plain _ refl

pub des_mac_block : (code : ℕ) (plain : List ℕ) → code < 256 → Block 8 (des_mac code plain)
unfolding des_mac
des_mac_block code plain h = des_under_block plain _ (mac_start_block (length plain + 10) code h)

-- what is compared when m is the MAC behind a plain text
pub mac_behind : (code : ℕ) (plain m : List ℕ) → length m ≡ 8 → mac_holds code (plain ++ m) ≡ same (under_each_back des_decrypt 8 plain m) (mac_start (length plain + 10) code)
unfolding mac_holds recovered
mac_behind code plain m h =
    let l : length (plain ++ m) ≡ length plain + 8 = length-append plain m ∙ ap (λ (k : ℕ). length plain + k) h in
    let e : length (plain ++ m) - 8 ≡ length plain = omega arith in
    let n : length (plain ++ m) + 2 ≡ length plain + 10 = omega arith in
    rw (e, n, take_at plain m (length plain) refl, drop_at plain m (length plain) refl)

-- the MAC that stands behind a plain text of whole blocks is recovered
pub mac_recovered : (code : ℕ) (plain : List ℕ) → code < 256 → mac_holds code (plain ++ des_mac code plain) ≡ true
unfolding des_mac
mac_recovered code plain hc =
    mac_behind code plain (des_mac code plain) (length_des_mac code plain)
    ∙ same_of _ _ (des_back_under plain (mac_start (length plain + 10) code) (mac_start_block (length plain + 10) code hc))

pub Bytes-header : (number : ℕ) (id : List ℕ) → Bytes id → Bytes (header number id)
unfolding header
Bytes-header number id b = Bytes-cons (number % 256) (number / 256 % 256 ∷ id) (mod-lt number (lit< tt)) (Bytes-cons (number / 256 % 256) id (mod-lt (number / 256) (lit< tt)) b)

-- what a header says
pub number_header : (number : ℕ) (id rest : List ℕ) → number < 65536 → number_of (header number id ++ rest) ≡ number
unfolding header
number_header number id rest h = omega arith

pub id_header : (number : ℕ) (id rest : List ℕ) → length id ≡ 6 → id_of (header number id ++ rest) ≡ id
unfolding id_of header
id_header number id rest h = take_at id rest 6 h

-- what is sealed gains its MAC
pub length_des_seal : (key : List ℕ) (code : ℕ) (plain : List ℕ) → length plain % 8 ≡ 0 → length (des_seal key code plain) ≡ length plain + 8
unfolding des_seal
length_des_seal key code plain h =
    let full : List ℕ = plain ++ des_mac code plain in
    let l : length full ≡ length plain + 8 = length-append plain (des_mac code plain) ∙ ap (λ (k : ℕ). length plain + k) (length_des_mac code plain) in
    length_des_cbc key full (length full / 8) (omega arith) ∙ l

-- ---- the parts of sealed data, and its size: they go by the lengths of key and ID alone

module _ (key id payload : List ℕ) (code number : ℕ) (hk : length key ≡ 8) (hi : length id ≡ 6) where
  plain : List ℕ
  plain = header number id ++ pad payload

  plain_is : pad (header number id ++ payload) ≡ plain
  unfolding plain
  plain_is = pad_after (header number id) payload (length_header number id hi)

  plain_long : length plain ≡ 8 + (length payload + pad_count (length payload))
  unfolding plain
  plain_long = length-append (header number id) (pad payload) ∙ ap₂ ◌+◌ (length_header number id hi) (length_pad payload)

  -- the plain text with its MAC
  full : List ℕ
  full = plain ++ des_mac code plain

  full_long : length full ≡ 16 + (length payload + pad_count (length payload))
  unfolding full
  full_long = length-append plain (des_mac code plain) ∙ omega (arith, plain_long, length_des_mac code plain)

  full_blocks : length full ≡ length full / 8 * 8
  full_blocks = omega (arith, full_long, pad_count_whole (length payload))

  sealed_is : des_sealed key code number id payload ≡ cbc_encrypt (des_encrypt key) 8 (replicate 8 0) full
  unfolding des_sealed des_seal full
  sealed_is = ap (λ (p : List ℕ). cbc_encrypt (des_encrypt key) 8 (replicate 8 0) (p ++ des_mac code p)) plain_is

  sealed_long : length (des_sealed key code number id payload) ≡ 16 + (length payload + pad_count (length payload))
  unfolding des_sealed
  sealed_long =
      ap (λ (p : List ℕ). length (des_seal key code p)) plain_is ∙ length_des_seal key code plain (omega (arith, plain_long, pad_count_whole (length payload))) ∙ omega (arith, plain_long)

  pub des_sealed_long : length (des_sealed key code number id payload) ≡ des_size (length payload)
  unfolding des_size
  des_sealed_long =
      let e : pad_count (length payload + 8) ≡ pad_count (length payload) = ap pad_count (add_comm (length payload) 8) ∙ pad_count_header (length payload) in
      sealed_long ∙ rw e (omega arith)

  -- opening: any payload up to 232 bytes comes back padded
  module _ (bi : Bytes id) (hc : code < 256) (hn : number < 65536) (hp : length payload ≤ 232) (bp : Bytes payload) where
    full_bytes : Bytes full
    unfolding full plain
    full_bytes =
        Bytes-append (header number id ++ pad payload) (des_mac code plain)
        (Bytes-append (header number id) (pad payload) (Bytes-header number id bi) (Bytes-pad payload bp))
        (des_mac_block code plain hc).bytes

    opened_is : des_plain key (des_sealed key code number id payload) ≡ full
    unfolding des_plain
    opened_is = ap (λ (d : List ℕ). cbc_decrypt (des_decrypt key) 8 (replicate 8 0) d) sealed_is ∙ des_cbc_decrypt_encrypt key full full_bytes (length full / 8) full_blocks

    full_split : full ≡ header number id ++ (pad payload ++ des_mac code plain)
    unfolding full plain
    full_split = append_assoc (header number id) (pad payload) (des_mac code plain)

    payload_is : payload_of full ≡ pad payload
    unfolding payload_of
    payload_is =
        let n : length full - 16 ≡ length (pad payload) = omega (arith, full_long, length_pad payload) in
        let d : drop 8 full ≡ pad payload ++ des_mac code plain = ap (drop 8) full_split ∙ drop_at (header number id) (pad payload ++ des_mac code plain) 8 (length_header number id hi) in
        rw (n, d) (take_at (pad payload) (des_mac code plain) (length (pad payload)) refl)

    number_is : number_of full ≡ number
    number_is = ap number_of full_split ∙ number_header number id _ hn

    id_is : id_of full ≡ id
    id_is = ap id_of full_split ∙ id_header number id _ hi

    mac_is : mac_holds code full ≡ true
    unfolding full
    mac_is = mac_recovered code plain hc

    -- with room for the padded payload, the opening gives number and padded payload
    pub des_opens_padded : (room : ℕ) → length (pad payload) ≤ room → des_opening key code id (des_sealed key code number id payload) room ≡ accepted number (pad payload)
    unfolding open_rows plain_rows
    des_opens_padded room h =
        let l : length (des_sealed key code number id payload) ≡ 16 + (length payload + pad_count (length payload)) = sealed_long in
        let S : List ℕ = des_sealed key code number id payload in
        let whole : length S % 8 ≡ 0 = omega (arith, pad_count_whole (length payload)) in
        let long : 16 ≤ length S = omega arith in
        let short : length S ≤ 253 = omega (arith, pad_count_whole (length payload), pad_count_small (length payload)) in
        let fits : length (payload_of full) ≤ room = rw payload_is h in
        let g : decide (all_rows key id S code room) (accepted (number_of (des_plain key S)) (payload_of (des_plain key S))) ≡ accepted number (pad payload) =
        rw opened_is
        (decide_false _ _ (
          either_of _ _ (isnt_of _ (eq-eqb _ _ hi)) (isnt_of _ (eq-eqb _ _ hk)),
          (
            isnt_of _ (eq-eqb _ _ whole),
            (
              le-ltb _ _ long,
              (
                le-ltb _ _ short,
                (
                  isnt_of _ mac_is,
                  (
                    isnt_of _ (same_of _ _ id_is),
                    (le-ltb _ _ fits, tt),
                  ),
                ),
              ),
            ),
          ),
        )
        ∙ ap₂ accepted number_is payload_is) in
        by_rows key id S code room ∙ g

-- ---- what opens was sealed

-- a plain text of which the MAC holds is its first part with the MAC of that
mac_forth : (code : ℕ) (p : List ℕ) → code < 256 → Bytes p → 8 ≤ length p → mac_holds code p ≡ true
    → p ≡ take (length p - 8) p ++ des_mac code (take (length p - 8) p)
unfolding mac_holds recovered des_mac
mac_forth code p hc b h e =
    let body : List ℕ = take (length p - 8) p in
    let mac : List ℕ = drop (length p - 8) p in
    let n : length body ≡ length p - 8 = length-take-le (length p - 8) p (omega arith) in
    let g : Block 8 mac = record { long = length-drop (length p - 8) p ∙ omega arith; bytes = Bytes-drop (length p - 8) p b } in
    let t : length p + 2 ≡ length body + 10 = omega arith in
    let r : under_each_back des_decrypt 8 body mac ≡ mac_start (length body + 10) code = same_equal _ _ e ∙ ap (λ (k : ℕ). mac_start k code) t in
    sym (take-append-drop (length p - 8) p)
    ∙ ap (λ (m : List ℕ). body ++ m) (sym (des_under_back body mac g) ∙ ap (under_each des_encrypt 8 body) r)

-- a plain text of at least 16 bytes, by its parts
plain_parts : (p : List ℕ) → Bytes p → 16 ≤ length p → take (length p - 8) p ≡ header (number_of p) (id_of p) ++ payload_of p
unfolding header id_of payload_of
plain_parts [] b h = absurd (omega arith)
plain_parts (x ∷ []) b h = absurd (omega arith)
plain_parts (x ∷ y ∷ q) b h =
    let e : length (x ∷ y ∷ q) - 8 ≡ suc (suc (6 + (length q - 14))) = omega arith in
    let f : length (x ∷ y ∷ q) - 16 ≡ length q - 14 = omega arith in
    let lo : (x + y * 256) % 256 ≡ x = omega (arith, b 0) in
    let up : (x + y * 256) / 256 ≡ y = omega (arith, b 0) in
    let hi : (x + y * 256) / 256 % 256 ≡ y = rw up (mod-eq_of_lt (b 1)) in
    rw (e, f, lo, hi) (ap (λ (t : List ℕ). x ∷ y ∷ t) (take-add 6 (length q - 14) q))

module _ (key id d : List ℕ) (code room : ℕ) (hc : code < 256) (bd : Bytes d) (zero-answer : (des_opening key code id d room).number ≡ 0) where
  -- no row holds
  none : AllFalse (row 17 (either (isnt (eqb (length id) 6)) (isnt (eqb (length key) 8)))
      ∷ row 10 (isnt (eqb (length d % 8) 0))
      ∷ row 11 (ltb (length d) 16)
      ∷ row 12 (ltb 253 (length d))
      ∷ row 13 (isnt (mac_holds code (des_plain key d)))
      ∷ row 14 (isnt (same (id_of (des_plain key d)) id))
      ∷ row 16 (ltb room (length (payload_of (des_plain key d))))
      ∷ [])
  unfolding open_rows plain_rows
  none =
      zero_passes (all_rows key id d code room) _ (lit< tt, (lit< tt, (lit< tt, (lit< tt, (lit< tt, (lit< tt, (lit< tt, tt)))))))
      (ap (λ (o : Outcome). o.number) (sym (by_rows key id d code room)) ∙ zero-answer)

  id_long : length id ≡ 6
  id_long = eqb-true _ _ (isnt_false _ (either_false _ _ none.0).0)

  d_whole : length d % 8 ≡ 0
  d_whole = eqb-true _ _ (isnt_false _ none.1.0)

  d_least : 16 ≤ length d
  d_least = ltb-false _ _ none.1.1.0

  d_most : length d ≤ 253
  d_most = ltb-false _ _ none.1.1.1.0

  id_same : id_of (des_plain key d) ≡ id
  id_same = same_equal _ _ (isnt_false _ none.1.1.1.1.1.0)

  pub des_fits : length (payload_of (des_plain key d)) ≤ room
  des_fits = ltb-false _ _ none.1.1.1.1.1.1.0

  d_blocks : length d ≡ length d / 8 * 8
  d_blocks = omega (arith, d_whole)

  p_long : length (des_plain key d) ≡ length d
  unfolding des_plain
  p_long = length_des_cbc_back key d (length d / 8) d_blocks

  p_bytes : Bytes (des_plain key d)
  unfolding des_plain
  p_bytes = Bytes-des-cbc-back key d bd (length d / 8) d_blocks

  -- the answer is the work's
  pub des_answer : des_opening key code id d room ≡ accepted (number_of (des_plain key d)) (payload_of (des_plain key d))
  unfolding open_rows plain_rows
  des_answer = by_rows key id d code room ∙ decide_false (all_rows key id d code room) _ none

  pub des_number : number_of (des_plain key d) < 65536
  des_number = omega (arith, p_bytes 0, p_bytes 1)

  payload_long : length (payload_of (des_plain key d)) ≡ length d - 16
  unfolding payload_of
  payload_long = length-take-le (length (des_plain key d) - 16) (drop 8 (des_plain key d)) (rw length-drop (omega arith)) ∙ ap (λ (k : ℕ). k - 16) p_long

  pub des_payload_short : length (payload_of (des_plain key d)) ≤ 232
  des_payload_short = omega (arith, payload_long, d_most, d_whole)

  pub des_payload_whole : length (payload_of (des_plain key d)) % 8 ≡ 0
  des_payload_whole = omega (arith, payload_long, d_whole, d_least)

  pub des_payload_bytes : Bytes (payload_of (des_plain key d))
  unfolding payload_of
  des_payload_bytes = Bytes-take (length (des_plain key d) - 16) (drop 8 (des_plain key d)) (Bytes-drop 8 (des_plain key d) p_bytes)

  forth : cbc_encrypt (des_encrypt key) 8 (replicate 8 0) (des_plain key d) ≡ d
  unfolding des_plain
  forth = des_cbc_encrypt_decrypt key d bd (length d / 8) d_blocks

  -- the data is the sealing of that number and payload
  pub des_was_sealed : d ≡ des_sealed key code (number_of (des_plain key d)) id (payload_of (des_plain key d))
  unfolding des_sealed des_seal
  des_was_sealed =
      let k : 16 ≤ length (des_plain key d) = omega (arith, p_long, d_least) in
      let body : List ℕ = take (length (des_plain key d) - 8) (des_plain key d) in
      let parts : body ≡ header (number_of (des_plain key d)) id ++ payload_of (des_plain key d) = plain_parts (des_plain key d) p_bytes k ∙ ap (λ (i : List ℕ). header (number_of (des_plain key d)) i ++ payload_of (des_plain key d)) id_same in
      let n : length body ≡ length d - 8 = length-take-le (length (des_plain key d) - 8) (des_plain key d) (omega arith) ∙ omega (arith, p_long) in
      let whole : length (header (number_of (des_plain key d)) id ++ payload_of (des_plain key d)) % 8 ≡ 0 = rw (← parts, n) (omega (arith, d_whole, d_least)) in
      let is_pad : body ≡ pad (header (number_of (des_plain key d)) id ++ payload_of (des_plain key d)) = parts ∙ sym (pad_none _ whole) in
      let mac : des_plain key d ≡ body ++ des_mac code body = mac_forth code (des_plain key d) hc p_bytes (omega arith) (isnt_false _ none.1.1.1.1.0) in
      sym forth
      ∙ ap (cbc_encrypt (des_encrypt key) 8 (replicate 8 0)) (mac ∙ ap (λ (x : List ℕ). x ++ des_mac code x) is_pad)

-- ---- both together

-- what DES data can carry: a number of 16 bits and whole blocks up to 232 bytes
pub record DesDomain (number : ℕ) (payload : List ℕ) : Type 0 where
  pub small : number < 65536
  pub short : length payload ≤ 232
  pub whole : length payload % 8 ≡ 0
  pub bytes : Bytes payload

module _ (key id : List ℕ) (code room : ℕ) (hk : length key ≡ 8) (hi : length id ≡ 6) (bi : Bytes id) (hc : code < 256) where
  -- sealed data opens as what was sealed, wherever there is room for it
  pub des_opens : (number : ℕ) (payload : List ℕ) → DesDomain number payload → length payload ≤ room
      → des_opening key code id (des_sealed key code number id payload) room ≡ accepted number payload
  des_opens number payload h l =
      let e : pad payload ≡ payload = pad_none payload h.whole in
      let f : length (pad payload) ≤ room = rw e l in
      des_opens_padded key id payload code number hk hi bi hc h.small h.short h.bytes room f ∙ ap (accepted number) e

  -- data that opens as a number and a payload is their sealing
  pub des_sealed_lem : (d : List ℕ) → Bytes d → (number : ℕ) (payload : List ℕ) → des_opening key code id d room ≡ accepted number payload
      → DesDomain number payload × (length payload ≤ room) × (d ≡ des_sealed key code number id payload)
  des_sealed_lem d bd number payload e =
      let z : (des_opening key code id d room).number ≡ 0 = ap (λ (o : Outcome). o.number) e ∙ acceptance_zero number 0 payload in
      let a = sym (des_answer key id d code room hc bd z) ∙ e in
      let n : number_of (des_plain key d) ≡ number = accepted_number _ _ _ _ a in
      let q : payload_of (des_plain key d) ≡ payload = accepted_bytes _ _ _ _ a in (
        record {
          small = rw n at (des_number key id d code room hc bd z);
          short = rw q at (des_payload_short key id d code room hc bd z);
          whole = rw q at (des_payload_whole key id d code room hc bd z);
          bytes = rw q at (des_payload_bytes key id d code room hc bd z);
        },
        rw q at (des_fits key id d code room hc bd z),
        des_was_sealed key id d code room hc bd z ∙ ap₂ (λ (m : ℕ) (l : List ℕ). des_sealed key code m id l) n q,
      )

  -- data opens as number and payload exactly if it is their sealing, and the payload fits the output
  pub des_opens_exactly : (d : List ℕ) → Bytes d → (number : ℕ) (payload : List ℕ)
      → (des_opening key code id d room ≡ accepted number payload) ↔ (DesDomain number payload × (length payload ≤ room) × (d ≡ des_sealed key code number id payload))
  des_opens_exactly d bd number payload =
      (des_sealed_lem d bd number payload, λ h. ap (λ (x : List ℕ). des_opening key code id x room) h.2 ∙ des_opens number payload h.0 h.1)

  -- data is refused exactly if it is the sealing of nothing that fits the output
  pub des_refuses_exactly : (d : List ℕ) → Bytes d
      → ((des_opening key code id d room).number ≡ 0 → ⊥) ↔ ((number : ℕ) (payload : List ℕ) → DesDomain number payload → length payload ≤ room → d ≡ des_sealed key code number id payload → ⊥)
  des_refuses_exactly d bd = (
    λ refusal number payload dom l e. refusal (ap (λ (x : List ℕ). (des_opening key code id x room).number) e ∙ ap (λ (o : Outcome). o.number) (des_opens number payload dom l) ∙ acceptance_zero number 0 payload),
    λ nothing z. nothing (number_of (des_plain key d)) (payload_of (des_plain key d))
        (record { small = des_number key id d code room hc bd z; short = des_payload_short key id d code room hc bd z; whole = des_payload_whole key id d code room hc bd z; bytes = des_payload_bytes key id d code room hc bd z })
        (des_fits key id d code room hc bd z)
        (des_was_sealed key id d code room hc bd z),
  )
