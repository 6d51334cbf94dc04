-- Trimming, and the trimmed opening, from the opening into a work block of 256 bytes. Assumes nothing.
use mathlib.Core.Path.{◌≡◌, refl, sym, ap, ap₂, ◌∙◌}
use mathlib.Core.Bool.{Bool, true, false}
use mathlib.Core.List.{List, [], ◌++◌}
use mathlib.Core.Logic.{◌↔◌, ◌⊎◌, inl, inr, ⊎_elim}
use Prim.Native.Nat.{ℕ, ◌+◌, ◌-◌, ◌/◌, ◌%◌, ◌≤◌, ◌<◌}
use native.Mathlib.Omega.{arith}
use borrow.Author.Tests.{eqb-true, eq-eqb, ne_eqb, lt-ltb, ltb-true, le-ltb, ltb-false}
use lib.Dec.{eqb, ltb}
use lib.Seq.{take_at, drop_at, take_all, length-take-le}
use Rattle.std.proofs.lemmas.List.{get_or-drop, get_or-replicate}
use lib.ListN.{length, take, drop, replicate, get_or, length-take, length-drop, length-replicate, take-append-drop, drop_of_length-le}
use Rattle.std.specs.Prelude.{◌≢◌}
use Rattle.std.specs.Cmp.{both_ways}
use Rattle.cipher.specs.Bytes.{Bytes}
use Rattle.cipher.proofs.Compare.{Gathered, gather_done}
use Rattle.cipher.proofs.Ciphers.{length_des_cbc_back}
use Rattle.cipher.proofs.Numbers.{le_or_lt}
use Rattle.answer.specs.Number.{number_of}
use Rattle.answer.specs.Delivery.{handing, delivering}
use Rattle.frame.specs.DesFrame.{des_plain, des_sealed, payload_of, des_opening, open_rows, plain_rows}
use Rattle.answer.specs.Outcome.{first_of, acceptance}
use Rattle.answer.specs.Outcome.{Outcome, Row, refused, accepted, choose, decide}
use Rattle.answer.specs.Tests.{both, same}
use Rattle.frame.specs.Padding.{pad_count, pad}
use Rattle.frame.specs.Trimmed.{last_byte, is_padding, trim_count, trim, trimmed_opening}
use Rattle.answer.proofs.Equality.{both_true, both_of, same_equal}
use Rattle.answer.proofs.Refusals.{acceptance_zero, accepted_number, accepted_bytes, same_of}
use Rattle.answer.proofs.Rows.{AllFalse, numbered, first_refuses, first_passes, decide_false, is_number, no_room, room_enough, choose_most}
use Rattle.frame.proofs.DesOpens.{rest_part}
use Rattle.frame.proofs.DesTrip.{des_opens_padded, des_payload_whole}
use Rattle.frame.proofs.Pads.{pad_count_small, pad_count_some, pad_none, length_pad}

-- ---- what is dropped

-- the last v bytes of l all equal v, and v is 1..7
pub record Padding (v : ℕ) (l : List ℕ) : Type 0 where
  pub some : 1 ≤ v
  pub small : v < 8
  pub there : v ≤ length l
  pub all : drop (length l - v) l ≡ replicate v v

padding_passes : (v : ℕ) (l : List ℕ) → Padding v l → is_padding v l ≡ true
unfolding is_padding
padding_passes v l p = both_of _ _ (lt-ltb 0 v p.some) (both_of _ _ (lt-ltb v _ (omega (arith, p.small))) (same_of _ _ p.all))

passes_padding : (v : ℕ) (l : List ℕ) → is_padding v l ≡ true → Padding v l
unfolding is_padding
passes_padding v l h =
    let a = both_true _ _ h in
    let b = both_true _ _ a.1 in
    let e : drop (length l - v) l ≡ replicate v v = same_equal _ _ b.1 in
    let n : length l - (length l - v) ≡ v = sym (length-drop (length l - v) l) ∙ ap length e ∙ length-replicate v v in
    record { some = ltb-true 0 v a.0; small = omega (arith, ltb-true v _ b.0); there = omega arith; all = e }

-- padding tells its count by its last byte
padding_last : (v : ℕ) (l : List ℕ) → Padding v l → last_byte l ≡ v
unfolding last_byte
padding_last v l p =
    let a : get_or (drop (length l - v) l) (v - 1) 0 ≡ get_or l (length l - v + (v - 1)) 0 = get_or-drop (length l - v) l (v - 1) 0 in
    let b : get_or (replicate v v) (v - 1) 0 ≡ v = get_or-replicate v (v - 1) v 0 (omega (arith, p.some)) in
    let n : length l - 1 ≡ length l - v + (v - 1) = omega (arith, p.some, p.there) in
    ap (λ (i : ℕ). get_or l i 0) n ∙ sym a ∙ ap (λ (t : List ℕ). get_or t (v - 1) 0) p.all ∙ b

-- what is dropped is padding, and where there is padding it is dropped
pub dropped_exactly : (l : List ℕ) (v : ℕ) → 1 ≤ v → (trim_count l ≡ v) ↔ Padding v l
unfolding trim_count choose
dropped_exactly l v some = (forth (is_padding (last_byte l) l) refl, back)
  where
    forth : (t : Bool) → is_padding (last_byte l) l ≡ t → choose t (last_byte l) 0 ≡ v → Padding v l
    forth true e h = passes_padding v l (ap (λ (k : ℕ). is_padding k l) (sym h) ∙ e)
    forth false e h = absurd (omega arith)

    back : Padding v l → choose (is_padding (last_byte l) l) (last_byte l) 0 ≡ v
    back p =
        let e : last_byte l ≡ v = padding_last v l p in
        rw (e, padding_passes v l p) refl

-- nothing is dropped, or padding is
dropped : (l : List ℕ) → (trim_count l ≡ 0) ⊎ Padding (trim_count l) l
dropped l =
    ⊎_elim
    (λ (h : 1 ≤ trim_count l). inr ((dropped_exactly l (trim_count l) h).0 refl))
    (λ (h : trim_count l < 1). inl (omega arith))
    (le_or_lt 1 (trim_count l))

pub trim_count_small : (l : List ℕ) → trim_count l < 8
trim_count_small l = ⊎_elim (λ z. omega arith) (λ p. p.small) (dropped l)

-- no more is dropped than there is
pub trim_count_within : (l : List ℕ) → trim_count l ≤ length l
trim_count_within l = ⊎_elim (λ z. omega arith) (λ p. p.there) (dropped l)

-- an empty payload stays
pub trim_count_empty : (l : List ℕ) → length l ≡ 0 → 0 ≡ trim_count l
trim_count_empty l h = omega (arith, trim_count_within l)

dropped_bytes : (l : List ℕ) → drop (length l - trim_count l) l ≡ replicate (trim_count l) (trim_count l)
dropped_bytes l = ⊎_elim (λ (z : trim_count l ≡ 0). rw z (drop_of_length-le l (omega arith))) (λ p. p.all) (dropped l)

length_trim : (l : List ℕ) → length (trim l) ≡ length l - trim_count l
unfolding trim
length_trim l = length-take-le (length l - trim_count l) l (omega arith)

trim_none : (l : List ℕ) → trim_count l ≡ 0 → trim l ≡ l
unfolding trim
trim_none l z = ap (λ (n : ℕ). take n l) (omega arith) ∙ take_all (length l) l (omega arith)

-- a trimmed payload is no longer than the payload
pub trim_no_longer : (l : List ℕ) (m : ℕ) → length l ≤ m → length (trim l) ≤ m
trim_no_longer l m h = omega (arith, length_trim l)

-- v bytes are gone exactly if v is below 8 and the last v bytes all equal v
pub trims_exactly : (l : List ℕ) (v : ℕ) → 1 ≤ v → (length (trim l) + v ≡ length l) ↔ ((v < 8) × (v ≤ length l) × (drop (length l - v) l ≡ replicate v v))
trims_exactly l v some = (
  λ e.
      let p = (dropped_exactly l v some).0 (omega (arith, length_trim l, trim_count_within l)) in
      (p.small, p.there, p.all),
  λ h.
      let n : trim_count l ≡ v = (dropped_exactly l v some).1 (record { some = some; small = h.0; there = h.1; all = h.2 }) in
      omega (arith, length_trim l, h.1),
)

-- nothing is gone exactly if there is no such v
pub keeps_exactly : (l : List ℕ) → (trim l ≡ l) ↔ ((v : ℕ) → 1 ≤ v → v ≤ 7 → v ≤ length l → drop (length l - v) l ≡ replicate v v → ⊥)
keeps_exactly l = (
  λ e v some small there all.
      let n : trim_count l ≡ v = (dropped_exactly l v some).1 (record { some = some; small = omega arith; there = there; all = all }) in
      let k : length (trim l) ≡ length l = ap length e in
      absurd (omega (arith, length_trim l)),
  λ none. ⊎_elim (trim_none l) (λ p. absurd (none (trim_count l) p.some (omega (arith, p.small)) p.there p.all)) (dropped l),
)

-- a trimmed payload is a front of the payload, and what is gone is padding
pub trim_front : (l : List ℕ) → (trim l ≡ take (length (trim l)) l) × (l ≡ trim l ++ replicate (trim_count l) (trim_count l))
unfolding trim
trim_front l =
    let n : ℕ = length l - trim_count l in (
      ap (λ (m : ℕ). take m l) (sym (length_trim l)),
      sym (take-append-drop n l) ∙ ap (λ (t : List ℕ). take n l ++ t) (dropped_bytes l),
    )

-- padding that sealing added is what trimming drops
trim_padded : (l : List ℕ) → length l % 8 ≢ 0 → trim (pad l) ≡ l
unfolding trim pad
trim_padded l h =
    let k : ℕ = pad_count (length l) in
    let n : length (l ++ replicate k k) ≡ length l + k = length_pad l in
    let m : length (l ++ replicate k k) - k ≡ length l = omega arith in
    let some : 1 ≤ k = pad_count_some (length l) h in
    let all : drop (length (l ++ replicate k k) - k) (l ++ replicate k k) ≡ replicate k k = rw m (drop_at l (replicate k k) (length l) refl) in
    let p : Padding k (l ++ replicate k k) = record { some = some; small = pad_count_small (length l); there = omega arith; all = all } in
    rw ((dropped_exactly (l ++ replicate k k) k some).1 p, m) (take_at l (replicate k k) (length l) refl)

-- a padded string comes back exactly where it was padded; whole blocks are trimmed as they are
pub trim_pad : (l : List ℕ) → (length l % 8 ≢ 0 → trim (pad l) ≡ l) × (length l % 8 ≡ 0 → trim (pad l) ≡ trim l)
trim_pad l = (trim_padded l, λ h. ap trim (pad_none l h))

-- what ends in 0, or in 8 and above, stays
pub trim_other_last : (l : List ℕ) → (last_byte l ≡ 0) ⊎ (8 ≤ last_byte l) → trim l ≡ l
trim_other_last l h =
    trim_none l
    (⊎_elim (λ z. z) (λ (p : Padding (trim_count l) l).
    let e : last_byte l ≡ trim_count l = padding_last (trim_count l) l p in
    absurd (⊎_elim (λ z. omega (arith, p.some)) (λ m. omega (arith, p.small)) h)) (dropped l))

-- ---- the table of docs/GUIDE.md, and eight 01, two 03, the empty string

-- of l the first n bytes are left
abbrev pub Leaves : List ℕ → ℕ → Type 0
Leaves l n = trim l ≡ take n l

pub trim_table : Leaves (replicate 7 0x5A ++ replicate 1 3) 8
    × Leaves (replicate 6 0x5A ++ replicate 2 3) 8
    × Leaves (replicate 5 0x5A ++ replicate 3 3) 5
    × Leaves (replicate 8 3) 5
    × Leaves (replicate 8 7) 1
    × Leaves (replicate 7 0x5A ++ replicate 1 1) 7
    × Leaves (replicate 8 1) 7
    × Leaves (replicate 7 0x5A ++ replicate 1 0) 8
    × Leaves (replicate 8 8) 8
    × Leaves (replicate 2 3) 2
    × Leaves [] 0
unfolding trim trim_count is_padding last_byte same both choose
trim_table = (refl, refl, refl, refl, refl, refl, refl, refl, refl, refl, refl)

-- ---- the same, as the code finds it

-- a comparison of the last v bytes with v tells whether they are padding
pub compared_padding : (l : List ℕ) {v diff i : ℕ} → (1 ≤ v) × (v ≤ 7) → v ≤ length l → Gathered (take (length l - (length l - v)) (drop (length l - v) l)) (replicate v v) diff i → v ≤ i
    → is_padding v l ≡ eqb diff 0
compared_padding l {v} {diff} {i} range there g h =
    let e : take (length l - (length l - v)) (drop (length l - v) l) ≡ drop (length l - v) l = rest_part l (length l - v) in
    let n : length (take (length l - (length l - v)) (drop (length l - v) l)) ≤ i = rw (e, length-drop) (omega arith) in
    let d = gather_done g n in
    both_ways _ _
    (λ p. d.1 (e ∙ (passes_padding v l p).all))
    (λ z. padding_passes v l (record { some = range.0; small = omega arith; there = there; all = sym e ∙ d.0 z }))

-- v bytes are padding exactly if v is how many are dropped
is_count : (l : List ℕ) (v : ℕ) → 1 ≤ v → is_padding v l ≡ eqb (trim_count l) v
is_count l v some =
    both_ways _ _
    (λ p. eq-eqb _ _ ((dropped_exactly l v some).1 (passes_padding v l p)))
    (λ e. padding_passes v l ((dropped_exactly l v some).0 (eqb-true _ _ e)))

-- how many bytes are dropped, if it is less than v: what was found by trying each count below v
abbrev pub found : List ℕ → ℕ → ℕ
found l v = choose (ltb (trim_count l) v) (trim_count l) 0

pub found_none : (l : List ℕ) → 0 ≡ found l 1
unfolding choose
found_none l = by (ltb (trim_count l) 1) refl
  where
    by : (t : Bool) → ltb (trim_count l) 1 ≡ t → 0 ≡ choose t (trim_count l) 0
    by true e = omega (arith, ltb-true _ _ e)
    by false e = refl

-- the same of a number t, when v is tried too
one_more : (t v : ℕ) → choose (ltb t v) t 0 + choose (eqb t v) v 0 ≡ choose (ltb t (v + 1)) t 0
unfolding choose
one_more t v =
    ⊎_elim
    (λ (h : v ≤ t).
    ⊎_elim
    (λ (g : t ≤ v).
    let e : t ≡ v = omega arith in
    rw (le-ltb t v h, eq-eqb t v e, lt-ltb t (v + 1) (omega arith)) (omega arith))
    (λ (g : v < t). rw (le-ltb t v h, ne_eqb t v (λ e. omega arith), le-ltb t (v + 1) (omega arith)) refl)
    (le_or_lt t v))
    (λ (h : t < v). rw (lt-ltb t v h, ne_eqb t v (λ e. omega arith), lt-ltb t (v + 1) (omega arith)) (omega arith))
    (le_or_lt v t)

pub found_next : (l : List ℕ) (v : ℕ) → 1 ≤ v → found l v + choose (is_padding v l) v 0 ≡ found l (v + 1)
found_next l v some = rw (is_count l v some) (one_more (trim_count l) v)

pub found_small : (l : List ℕ) (v : ℕ) → found l v ≤ 7
found_small l v = choose_most (ltb (trim_count l) v) (trim_count l) 0 7 (omega (arith, trim_count_small l)) (omega arith)

pub found_all : (l : List ℕ) → found l 8 ≡ trim_count l
unfolding choose
found_all l = rw (lt-ltb (trim_count l) 8 (trim_count_small l)) refl

-- the opening and the trimmed opening have the same rows before 16
module _ (key id sealed : List ℕ) (code : ℕ) where
  abbrev pub before16 : List Row
  before16 = open_rows (length id) (length key) (length sealed) ++ plain_rows code id (des_plain key sealed)

  pub opening : (room : ℕ) → des_opening key code id sealed room ≡ decide before16 (delivering (number_of (des_plain key sealed)) (payload_of (des_plain key sealed)) room)
  unfolding des_opening open_rows plain_rows handing acceptance decide
  opening room = refl

  trimmed : (room : ℕ) → trimmed_opening key code id sealed room ≡ decide before16 (delivering (number_of (des_plain key sealed)) (trim (payload_of (des_plain key sealed))) room)
  unfolding trimmed_opening open_rows plain_rows handing acceptance decide
  trimmed room = refl

  module _ (h : AllFalse before16) where
    pub short_payload : length (payload_of (des_plain key sealed)) ≤ 256
    unfolding open_rows plain_rows payload_of des_plain
    short_payload =
        let w : length sealed % 8 ≡ 0 = is_number (length sealed % 8) 0 h.1.0 in
        let s : length sealed ≤ 253 = ltb-false 253 (length sealed) h.1.1.1.0 in
        let l : length (des_plain key sealed) ≡ length sealed = length_des_cbc_back key sealed (length sealed / 8) (omega arith) in
        rw length-take (omega arith)

    opened : des_opening key code id sealed 256 ≡ accepted (number_of (des_plain key sealed)) (payload_of (des_plain key sealed))
    opened = opening 256 ∙ decide_false before16 _ h ∙ room_enough _ 0 _ 256 short_payload

  no_row : first_of before16 ≡ 0 → AllFalse before16
  unfolding open_rows plain_rows numbered both
  no_row z = first_passes before16 (first_of before16) refl refl z

  module _ (k : ℕ) (e : k ≡ (des_opening key code id sealed 256).number) where
    -- no row holds, or the first one that does refuses both openings
    passed_or_refused : AllFalse before16 ⊎ ((k ≡ 0 → ⊥) × ((room : ℕ) → trimmed_opening key code id sealed room ≡ refused k))
    unfolding refused
    passed_or_refused =
        let f : ℕ = first_of before16 in
        ⊎_elim
        (λ (h : 1 ≤ f).
        let q : f ≡ 0 → ⊥ = λ z. omega arith in
        let i : k ≡ f = e ∙ ap (λ (o : Outcome). o.number) (opening 256 ∙ first_refuses before16 _ f refl q) in
        inr (λ z. omega arith, λ room. trimmed room ∙ first_refuses before16 _ f refl q ∙ ap refused (sym i)))
        (λ (h : f < 1). inl (no_row (omega arith)))
        (le_or_lt 1 f)

    pub trimmed_refuses : (room : ℕ) → (k ≡ 0 → ⊥) → trimmed_opening key code id sealed room ≡ refused k
    unfolding acceptance
    trimmed_refuses room n = ⊎_elim (λ h. absurd (n (e ∙ ap (λ (o : Outcome). o.number) (opened h)))) (λ r. r.1 room) passed_or_refused

    pub all_passed : k ≡ 0 → AllFalse before16
    all_passed z = ⊎_elim (λ h. h) (λ r. absurd (r.0 z)) passed_or_refused

    pub trimmed_opens : (room : ℕ) → k ≡ 0
        → (des_opening key code id sealed 256 ≡ accepted (number_of (des_plain key sealed)) (payload_of (des_plain key sealed)))
        × (trimmed_opening key code id sealed room ≡ delivering (number_of (des_plain key sealed)) (trim (payload_of (des_plain key sealed))) room)
        × (length (payload_of (des_plain key sealed)) ≤ 256)
    trimmed_opens room z = let h = all_passed z in (opened h, trimmed room ∙ decide_false before16 _ h, short_payload h)

    -- what was opened stands inside a block of 256 bytes
    pub opened_fits : (n : ℕ) → n ≡ length (des_opening key code id sealed 256).bytes → k ≡ 0 → n ≤ 256
    unfolding acceptance
    opened_fits n l z =
        let t = trimmed_opens 0 z in
        let m = l ∙ ap (λ (o : Outcome). length o.bytes) t.0 in
        let s = t.2 in
        omega arith

    -- and is whole blocks
    pub opened_whole : code < 256 → Bytes sealed → (n : ℕ) → n ≡ length (des_opening key code id sealed 256).bytes → k ≡ 0 → n % 8 ≡ 0
    unfolding acceptance
    opened_whole hc bytes n l z = rw (l ∙ ap (λ (o : Outcome). length o.bytes) (trimmed_opens 0 z).0) (des_payload_whole key id sealed code 256 hc bytes (sym e ∙ z))

-- ---- the trimmed opening of what was sealed

module _ (key id payload : List ℕ) (code number : ℕ) (hk : length key ≡ 8) (hi : length id ≡ 6) (bi : Bytes id) (hc : code < 256) (hn : number < 65536) (hp : length payload ≤ 232) (bp : Bytes payload) (room : ℕ) where
  delivered : trimmed_opening key code id (des_sealed key code number id payload) room ≡ delivering number (trim (pad payload)) room
  delivered =
      let sealed : List ℕ = des_sealed key code number id payload in
      let fits : length (pad payload) ≤ 256 = omega (arith, length_pad payload, pad_count_small (length payload)) in
      let o : des_opening key code id sealed 256 ≡ accepted number (pad payload) = des_opens_padded key id payload code number hk hi bi hc hn hp bp 256 fits in
      let z : 0 ≡ (des_opening key code id sealed 256).number = sym (ap (λ (q : Outcome). q.number) o ∙ acceptance_zero number 0 (pad payload)) in
      let t = trimmed_opens key id sealed code 0 z room refl in
      let a : accepted (number_of (des_plain key sealed)) (payload_of (des_plain key sealed)) ≡ accepted number (pad payload) = sym t.0 ∙ o in
      t.1 ∙ ap₂ (λ (m : ℕ) (q : List ℕ). delivering m (trim q) room) (accepted_number _ _ _ _ a) (accepted_bytes _ _ _ _ a)

  -- a payload that was padded comes back exactly, and whole blocks come back trimmed, wherever that fits the output
  pub trimmed_gives_back :
      (length payload % 8 ≢ 0 → length payload ≤ room → trimmed_opening key code id (des_sealed key code number id payload) room ≡ accepted number payload)
      × (length payload % 8 ≡ 0 → length (trim payload) ≤ room → trimmed_opening key code id (des_sealed key code number id payload) room ≡ accepted number (trim payload))
  trimmed_gives_back = (λ h f. gives payload ((trim_pad payload).0 h) f, λ h f. gives (trim payload) ((trim_pad payload).1 h) f)
    where
      gives : (p : List ℕ) → trim (pad payload) ≡ p → length p ≤ room → trimmed_opening key code id (des_sealed key code number id payload) room ≡ accepted number p
      gives p e f = delivered ∙ ap (λ (q : List ℕ). delivering number q room) e ∙ room_enough number 0 p room f

  -- and where what is handed out does not fit, the answer is 16
  pub trimmed_short_room : room < length (trim (pad payload)) → trimmed_opening key code id (des_sealed key code number id payload) room ≡ refused 16
  trimmed_short_room h = delivered ∙ no_room number 0 (trim (pad payload)) room h
