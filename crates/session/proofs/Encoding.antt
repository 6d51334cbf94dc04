-- The session as bytes: when bytes are one, that encoding loses nothing, and which bytes a change changes. Assumes nothing.
use mathlib.Core.Path.{◌≡◌, refl, sym, ap, ◌∙◌}
use mathlib.Core.Bool.{Bool, true, false}
use mathlib.Core.List.{List, [], ◌∷◌, ◌++◌, append-nil, append_assoc}
use Prim.Native.Nat.{ℕ, ◌+◌, ◌*◌, ◌/◌, ◌%◌, ◌≤◌, ◌<◌}
use native.Mathlib.Nat.{min-le_left}
use native.Mathlib.Omega.{arith}
use borrow.Author.Tests.{eq-eqb, ne_eqb, eqb-true, lt-ltb, ltb-true, ltb-false}
use lib.Dec.{eqb, ltb, lit≤, lit<}
use lib.ListN.{length, take, drop, get_or, replicate, length-append, take-append-drop, drop_of_length-le}
use lib.Seq.{take_at, drop_at, get_or-drop, drop-drop}
use Rattle.std.proofs.lemmas.List.{length-take}
use Rattle.cipher.specs.Bytes.{Bytes}
use Rattle.cipher.proofs.Copies.{length_part}
use Rattle.answer.specs.Number.{number_bytes, number_of}
use Rattle.answer.specs.Outcome.{choose, over}
use Rattle.answer.specs.Tests.{either, both}
use Rattle.answer.proofs.Elements.{elements, written_out}
use Rattle.answer.proofs.Outputs.{placed_over}
use Rattle.answer.proofs.Pieces.{placed_next}
use Rattle.answer.proofs.Equality.{both_true}
use Rattle.answer.proofs.Refusals.{Numbered}
use Rattle.answer.proofs.Rows.{AllFalse, either_false, isnt_false}
use Rattle.session.specs.Record.{context_of, encode, decode, is_session}
use Rattle.session.specs.Session.{make_rows, established_under, with_number, with_count, more, counting, receiving, received}
use Rattle.session.specs.History.{Event, next, after}
use Rattle.session.proofs.Histories.{next_mark, next_listed, ceiling_stays}
use Rattle.session.specs.declared.context.AuthenticatedContext.{AuthenticatedContext}

-- ---- when bytes are a session

module _ (b : List ℕ) where
  pub other_size : (length b ≡ 180 → ⊥) → false ≡ is_session b
  unfolding is_session both
  other_size h = rw (ne_eqb (length b) 180 h)

  module _ (l : length b ≡ 180) where
    pub other_version : (get_or b 0 0 ≡ 2 → ⊥) → false ≡ is_session b
    unfolding is_session both
    other_version h = rw (eq-eqb (length b) 180 l, ne_eqb (get_or b 0 0) 2 h)

    module _ (v : get_or b 0 0 ≡ 2) where
      pub other_mark : either (eqb (get_or b 1 0) 1) (eqb (get_or b 1 0) 2) ≡ false → false ≡ is_session b
      unfolding is_session both
      other_mark h = rw (eq-eqb (length b) 180 l, eq-eqb (get_or b 0 0) 2 v, h)

      pub by_count : either (eqb (get_or b 1 0) 1) (eqb (get_or b 1 0) 2) ≡ true → (n : ℕ) → n ≡ get_or b 6 0 + get_or b 7 0 * 256 → ltb n 65 ≡ is_session b
      unfolding is_session both
      by_count h n e = rw (eq-eqb (length b) 180 l, eq-eqb (get_or b 0 0) 2 v, h, get_or-drop 6 b 0 0, get_or-drop 6 b 1 0) (ap (λ (m : ℕ). ltb m 65) e)

  pub session_size : is_session b ≡ true → length b ≡ 180
  unfolding is_session
  session_size h = eqb-true (length b) 180 (both_true _ _ h).0

  pub session_version : is_session b ≡ true → get_or b 0 0 ≡ 2
  unfolding is_session
  session_version h = eqb-true (get_or b 0 0) 2 (both_true _ _ (both_true _ _ h).1).0

-- ---- encoding

-- how long the parts of a decoded session are, at most
pub decoded_id : (b : List ℕ) → length (decode b).transaction_id ≤ 6
unfolding decode
decoded_id b = rw (length-take 6 (drop 8 b)) (min-le_left 6 (length (drop 8 b)))

pub decoded_nodes : (b : List ℕ) → length (decode b).nodes ≤ 128
unfolding decode
decoded_nodes b = rw (length-take 128 (drop 50 b)) (min-le_left 128 (length (drop 50 b)))

-- a session's parts, taken out of its bytes
pub decoded : (b id credentials nodes : List ℕ) (number ceiling listed turned : ℕ) → id ≡ take 6 (drop 8 b) → credentials ≡ take 36 (drop 14 b) → nodes ≡ take 128 (drop 50 b)
    → number ≡ get_or b 2 0 + get_or b 3 0 * 256 → ceiling ≡ get_or b 4 0 + get_or b 5 0 * 256 → listed ≡ get_or b 6 0 + get_or b 7 0 * 256 → turned ≡ get_or b 178 0 + get_or b 179 0 * 256
    → context_of (get_or b 1 0) number ceiling listed id credentials nodes turned ≡ decode b
unfolding decode context_of
decoded b id credentials nodes number ceiling listed turned i k l n m t u =
    rw (i, k, l, n, m, t, u, get_or-drop 2 b 0 0, get_or-drop 2 b 1 0, get_or-drop 4 b 0 0, get_or-drop 4 b 1 0, get_or-drop 6 b 0 0, get_or-drop 6 b 1 0, get_or-drop 178 b 0 0, get_or-drop 178 b 1 0)

-- two bytes and their number
pub two_bytes : (n : ℕ) → n < 65536 → n % 256 + n / 256 % 256 * 256 ≡ n
two_bytes n h = omega arith

module _ (scheme number ceiling listed turned : ℕ) (id credentials nodes : List ℕ) (i : length id ≡ 6) (k : length credentials ≡ 36) (l : length nodes ≡ 128) where
  -- the session of these parts
  abbrev whole : AuthenticatedContext
  whole = context_of scheme number ceiling listed id credentials nodes turned

  -- encoding loses nothing
  pub decode_encode : number < 65536 → ceiling < 65536 → listed < 65536 → turned < 65536 → decode (encode whole) ≡ whole
  unfolding encode decode context_of
  decode_encode hn hc hl ht =
      let t : List ℕ = number_bytes turned in
      let e2 : id ++ credentials ++ nodes ++ t ≡ id ++ credentials ++ (nodes ++ t) = append_assoc (id ++ credentials) nodes t in
      let e3 : id ++ credentials ++ nodes ++ t ≡ id ++ (credentials ++ (nodes ++ t)) = e2 ∙ append_assoc id credentials (nodes ++ t) in
      let a : take 6 (id ++ credentials ++ nodes ++ t) ≡ id = ap (take 6) e3 ∙ take_at id (credentials ++ (nodes ++ t)) 6 i in
      let b : drop 6 (id ++ credentials ++ nodes ++ t) ≡ credentials ++ (nodes ++ t) = ap (drop 6) e3 ∙ drop_at id (credentials ++ (nodes ++ t)) 6 i in
      let c : take 36 (drop 6 (id ++ credentials ++ nodes ++ t)) ≡ credentials = ap (take 36) b ∙ take_at credentials (nodes ++ t) 36 k in
      let m : length (id ++ credentials) ≡ 42 = length-append id credentials ∙ omega arith in
      let d : take 128 (drop 42 (id ++ credentials ++ nodes ++ t)) ≡ nodes = ap (λ (x : List ℕ). take 128 (drop 42 x)) e2 ∙ ap (take 128) (drop_at (id ++ credentials) (nodes ++ t) 42 m) ∙ take_at nodes t 128 l in
      let n : length (id ++ credentials ++ nodes) ≡ 170 = length-append (id ++ credentials) nodes ∙ omega (arith, m) in
      let f : drop 170 (id ++ credentials ++ nodes ++ t) ≡ t = drop_at (id ++ credentials ++ nodes) t 170 n in
      rw (two_bytes number hn, two_bytes ceiling hc, two_bytes listed hl, a, c, d, f, two_bytes turned ht)

  -- the same of the first eight bytes
  module _ (l0 b0 l1 b1 l2 b2 l3 : List ℕ) where
    pub head_placed : l0 ≡ 2 ∷ scheme ∷ [] → b0 ≡ l0 ++ drop 2 (replicate 180 0)
        → l1 ≡ number_bytes number → b1 ≡ take 2 b0 ++ (l1 ++ drop 2 (drop 2 b0))
        → l2 ≡ number_bytes ceiling → b2 ≡ take 4 b1 ++ (l2 ++ drop 2 (drop 4 b1))
        → l3 ≡ number_bytes listed → take 6 b2 ++ (l3 ++ drop 2 (drop 6 b2)) ≡ (2 ∷ scheme ∷ number_bytes number ++ number_bytes ceiling ++ number_bytes listed) ++ drop 8 (replicate 180 0)
    head_placed h0 e0 h1 e1 h2 e2 h3 = rw (h3, e2, h2, e1, h1, e0, h0) refl

  -- a string of zeros, in which the parts were put one behind the other
  module _ (l1 b1 l2 b2 l3 b3 l4 b4 l5 : List ℕ) where
    pub parts_placed : l1 ≡ 2 ∷ scheme ∷ number_bytes number ++ number_bytes ceiling ++ number_bytes listed → b1 ≡ l1 ++ drop 8 (replicate 180 0)
        → l2 ≡ id → b2 ≡ take 8 b1 ++ (l2 ++ drop 6 (drop 8 b1))
        → l3 ≡ credentials → b3 ≡ take 14 b2 ++ (l3 ++ drop 36 (drop 14 b2))
        → l4 ≡ nodes → b4 ≡ take 50 b3 ++ (l4 ++ drop 128 (drop 50 b3))
        → l5 ≡ number_bytes turned → take 178 b4 ++ (l5 ++ drop 2 (drop 178 b4)) ≡ encode whole
    unfolding encode context_of over
    parts_placed h1 e1 h2 e2 h3 e3 h4 e4 h5 =
        let zeros : List ℕ = replicate 180 0 in
        let head : List ℕ = 2 ∷ scheme ∷ number_bytes number ++ number_bytes ceiling ++ number_bytes listed in
        let w1 : b1 ≡ over head zeros = e1 ∙ placed_over head zeros l1 8 refl h1 in
        let w2 : b2 ≡ over (head ++ id) zeros = e2 ∙ placed_next head zeros b1 8 6 refl (lit≤ tt) w1 id l2 i h2 in
        let n2 : length (head ++ id) ≡ 14 = length-append head id ∙ omega arith in
        let w3 : b3 ≡ over (head ++ id ++ credentials) zeros = e3 ∙ placed_next (head ++ id) zeros b2 14 36 n2 (lit≤ tt) w2 credentials l3 k h3 in
        let n3 : length (head ++ id ++ credentials) ≡ 50 = length-append (head ++ id) credentials ∙ omega (arith, n2) in
        let w4 : b4 ≡ over (head ++ id ++ credentials ++ nodes) zeros = e4 ∙ placed_next (head ++ id ++ credentials) zeros b3 50 128 n3 (lit≤ tt) w3 nodes l4 l h4 in
        let n4 : length (head ++ id ++ credentials ++ nodes) ≡ 178 = length-append (head ++ id ++ credentials) nodes ∙ omega (arith, n3) in
        let count : List ℕ = number_bytes turned in
        let w5 : take 178 b4 ++ (l5 ++ drop 2 (drop 178 b4)) ≡ over (head ++ id ++ credentials ++ nodes ++ count) zeros = placed_next (head ++ id ++ credentials ++ nodes) zeros b4 178 2 n4 (lit≤ tt) w4 count l5 refl h5 in
        let n5 : length (head ++ id ++ credentials ++ nodes ++ count) ≡ 180 = length-append (head ++ id ++ credentials ++ nodes) count ∙ omega (arith, n4) in
        w5 ∙ ap (λ (j : ℕ). head ++ id ++ credentials ++ nodes ++ count ++ drop j zeros) n5 ∙ append-nil (head ++ id ++ credentials ++ nodes ++ count)

-- ---- the bytes that a call changes

-- a session's bytes are its eight first, its ID, its credentials, its nodes and the two of its count
module _ (b : List ℕ) (l : length b ≡ 180) where
  first_eight : get_or b 0 0 ≡ 2 → b ≡ 2 ∷ get_or b 1 0 ∷ get_or b 2 0 ∷ get_or b 3 0 ∷ get_or b 4 0 ∷ get_or b 5 0 ∷ get_or b 6 0 ∷ get_or b 7 0 ∷ drop 8 b
  unfolding elements
  first_eight version = written_out 8 0 b (omega arith) ∙ ap (λ (x : ℕ). x ∷ (elements 1 7 b ++ drop 8 b)) version

  no_more : drop 180 b ≡ []
  no_more = let h : length b ≤ 180 = omega arith in drop_of_length-le b h

  last_two : get_or b 178 0 ∷ get_or b 179 0 ∷ [] ≡ drop 178 b
  unfolding elements
  last_two = sym (written_out 2 178 b (omega arith) ∙ ap (λ (t : List ℕ). get_or b 178 0 ∷ get_or b 179 0 ∷ t) no_more)

  abbrev between : List ℕ
  between = take 6 (drop 8 b) ++ take 36 (drop 14 b) ++ take 128 (drop 50 b)

  rest : between ++ drop 178 b ≡ drop 8 b
  rest =
      let n : take 128 (drop 50 b) ++ drop 178 b ≡ drop 50 b = ap (λ (t : List ℕ). take 128 (drop 50 b) ++ t) (sym (drop-drop 128 50 b)) ∙ take-append-drop 128 (drop 50 b) in
      let k : take 36 (drop 14 b) ++ drop 50 b ≡ drop 14 b = ap (λ (t : List ℕ). take 36 (drop 14 b) ++ t) (sym (drop-drop 36 14 b)) ∙ take-append-drop 36 (drop 14 b) in
      let i : take 6 (drop 8 b) ++ drop 14 b ≡ drop 8 b = ap (λ (t : List ℕ). take 6 (drop 8 b) ++ t) (sym (drop-drop 6 8 b)) ∙ take-append-drop 6 (drop 8 b) in
      append_assoc (take 6 (drop 8 b) ++ take 36 (drop 14 b)) (take 128 (drop 50 b)) (drop 178 b) ∙ rw n (append_assoc (take 6 (drop 8 b)) (take 36 (drop 14 b)) (drop 50 b) ∙ rw k i)

  between_is : between ≡ take 170 (drop 8 b)
  between_is =
      let n : length (take 6 (drop 8 b) ++ take 36 (drop 14 b)) ≡ 42 = length-append (take 6 (drop 8 b)) (take 36 (drop 14 b)) ∙ omega (arith, length_part b 8 6 (omega arith), length_part b 14 36 (omega arith)) in
      let m : length between ≡ 170 = length-append (take 6 (drop 8 b) ++ take 36 (drop 14 b)) (take 128 (drop 50 b)) ∙ omega (arith, n, length_part b 50 128 (omega arith)) in
      sym (ap (take 170) (sym rest) ∙ take_at between (drop 178 b) 170 m)

  -- two bytes of it
  module _ (bytes : Bytes b) where
    low : (i : ℕ) → number_of (drop i b) % 256 ≡ get_or b i 0
    low i =
        let h = bytes i in
        let z : i + 0 ≡ i = omega arith in
        rw (get_or-drop i b 0 0, get_or-drop i b 1 0, z) (omega (arith, h))

    high : (i : ℕ) → number_of (drop i b) / 256 % 256 ≡ get_or b (i + 1) 0
    high i =
        let h = bytes i in
        let k = bytes (i + 1) in
        let z : i + 0 ≡ i = omega arith in
        rw (get_or-drop i b 0 0, get_or-drop i b 1 0, z) (omega (arith, h, k))

    -- over any steps, settings and responses the two bytes of the ceiling are what they were
    pub encode_ceiling_stays : (es : List Event) → take 2 (drop 4 (encode (after (decode b) es))) ≡ take 2 (drop 4 b)
    unfolding encode decode elements
    encode_ceiling_stays es =
        ap number_bytes (ceiling_stays es (decode b)) ∙ rw (low 4, high 4) (sym (ap (take 2) (written_out 2 4 b (omega arith))))

    module _ (version : get_or b 0 0 ≡ 2) where
      -- what comes back from a call that changes nothing is what was handed over
      pub encode_decode : encode (decode b) ≡ b
      unfolding encode decode
      encode_decode = rw (low 2, high 2, low 4, high 4, low 6, high 6, low 178, high 178, last_two, rest) (sym (first_eight version))

      -- a refusal that is counted changes the two bytes of the count alone
      pub encode_count : (n : ℕ) → encode (with_count n (decode b)) ≡ take 178 b ++ number_bytes n ++ drop 180 b
      unfolding encode decode with_count
      encode_count n =
          let front : take 178 b ≡ _ = ap (take 178) (first_eight version) in
          rw (low 2, high 2, low 4, high 4, low 6, high 6, between_is, no_more, front) (sym (append-nil _))

      -- a new number changes its two bytes alone
      pub encode_number : (n : ℕ) → encode (with_number n (decode b)) ≡ take 2 b ++ number_bytes n ++ drop 4 b
      unfolding encode decode with_number
      encode_number n =
          rw (low 4, high 4, low 6, high 6, low 178, high 178, last_two, rest) (sym (ap (λ (t : List ℕ). take 2 t ++ number_bytes n ++ drop 4 t) (first_eight version)))

pub counted : (b : List ℕ) (l : length b ≡ 180) (bytes : Bytes b) (v : get_or b 0 0 ≡ 2) (n : ℕ) (p : Bool) → encode (choose p (with_count n (decode b)) (decode b)) ≡ choose p (take 178 b ++ number_bytes n ++ drop 180 b) b
unfolding choose
counted b l bytes v n true = encode_count b l bytes v n
counted b l bytes v n false = encode_decode b l bytes v

-- a response that is turned away: of the session's bytes the count's two change, where it is counted, and no other
pub turned_away_encoded : (b : List ℕ) → Bytes b → is_session b ≡ true → (code room : ℕ) (d : List ℕ) (k : ℕ) → (receiving (decode b) code d room).number ≡ k → (k ≡ 0 → ⊥)
    → encode (received (decode b) (receiving (decode b) code d room)) ≡ choose (both (ltb 9 k) (ltb k 16)) (take 178 b ++ number_bytes (more (decode b).turned_away) ++ drop 180 b) b
unfolding received counting choose
turned_away_encoded b bytes y code room d k e n =
    rw (e, ne_eqb k 0 n) (counted b (session_size b y) bytes (session_version b y) (more (decode b).turned_away) (both (ltb 9 k) (ltb k 16)))

-- ---- what stays a session

-- bytes of the size that start with the encoding of a known mark and of at most 64 nodes
encoded : (c x : List ℕ) (t : AuthenticatedContext) → length c ≡ 180 → c ≡ encode t ++ x → either (eqb t.scheme 1) (eqb t.scheme 2) ≡ true → t.node_count < 65 → is_session c ≡ true
unfolding is_session both encode
encoded c x t l e m n =
    let k : t.node_count % 256 + t.node_count / 256 % 256 * 256 < 65 = omega arith in
    rw (eq-eqb (length c) 180 l) (rw (e, m, lt-ltb (t.node_count % 256 + t.node_count / 256 % 256 * 256) 65 k))

-- an event leaves a session
pub session_stays : (b c : List ℕ) (e : Event) → is_session b ≡ true → c ≡ encode (next (decode b) e) → length c ≡ 180 → is_session c ≡ true
unfolding is_session decode
session_stays b c e y q l =
    let t = (both_true _ _ (both_true _ _ y).1).1 in
    let u = both_true _ _ t in
    encoded c [] (next (decode b) e) l (q ∙ sym (append-nil (encode (next (decode b) e)))) (rw (next_mark e (decode b)) u.0) (rw (next_listed e (decode b)) (ltb-true _ 65 u.1))

-- what a making gives
pub make_rows_numbered : (scheme id credentials listed : ℕ) → Numbered (make_rows scheme id credentials listed)
unfolding make_rows
make_rows_numbered scheme id credentials listed = (lit< tt, (lit< tt, tt))

pub made_stays : (ceiling scheme number : ℕ) (id credentials listed b x : List ℕ) → AllFalse (make_rows scheme (length id) (length credentials) (length listed)) → b ≡ encode (established_under ceiling scheme number id credentials listed) ++ x
    → length b ≡ 180 → is_session b ≡ true
unfolding make_rows established_under
made_stays ceiling scheme number id credentials listed b x h e l =
    let known : either (eqb scheme 1) (eqb scheme 2) ≡ true = isnt_false _ (either_false _ _ h.0).0 in
    let few = ltb-false 128 (length listed) h.1.0 in
    encoded b x (established_under ceiling scheme number id credentials listed) l e known (omega arith)
