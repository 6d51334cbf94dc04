-- The laws of the folds (specs/Fold), over any block cipher and any width above 0. Assumes nothing.
use mathlib.Core.Path.{◌≡◌, refl, sym, ap, ◌∙◌}
use mathlib.Core.List.{List, [], ◌∷◌, ◌++◌, map, reverse, reverse-cons}
use Prim.Native.Nat.{ℕ, zero, suc, ◌+◌, ◌*◌, ◌/◌, ◌≤◌, ◌<◌}
use native.Mathlib.Nat.{suc-mul, mul-div_cancel, div-eq_of_lt}
use native.Mathlib.Omega.{arith}
use lib.ListN.{length, length-map, length-drop, take, drop}
use lib.Seq.{length-take-le}
use Rattle.std.specs.List.{fold}
use Rattle.std.specs.Simd.{first_chunks}
use Rattle.cipher.specs.Fold.{under_from, under_each, back_from, under_each_back}
use Rattle.cipher.proofs.ByteLists.{Block, Bytes-take, Bytes-drop}

-- ---- the folds as folds over the list of whole keys
module _ (CIPH : List ℕ → List ℕ → List ℕ) where
  abbrev pub Turn : List ℕ → List ℕ → List ℕ
  Turn s key = CIPH key s

  fold_snoc : (s key : List ℕ) (keys : List (List ℕ)) → fold Turn s (keys ++ key ∷ []) ≡ CIPH key (fold Turn s keys)
  fold_snoc s key [] = refl
  fold_snoc s key (k ∷ keys) = fold_snoc (CIPH k s) key keys

  module _ (w : ℕ) where
    under_chunks : (n : ℕ) (s keys : List ℕ) → fold Turn s (first_chunks w n keys) ≡ under_from CIPH w s n keys
    unfolding under_from
    under_chunks zero s keys = refl
    under_chunks (suc n) s keys = under_chunks n (CIPH (take w keys) s) (drop w keys)

    pub under_whole : (s keys : List ℕ) → fold Turn s (first_chunks w (length keys / w) keys) ≡ under_each CIPH w keys s
    unfolding under_each
    under_whole s keys = under_chunks (length keys / w) s keys

    -- under no key
    pub under_none : (s : List ℕ) → 0 < w → under_each CIPH w [] s ≡ s
    unfolding under_each under_from
    under_none s h = rw (div-eq_of_lt h)

    pub back_none : (s : List ℕ) → 0 < w → under_each_back CIPH w [] s ≡ s
    unfolding under_each_back back_from
    back_none s h = rw (div-eq_of_lt h)

    back_chunks : (n : ℕ) (s keys : List ℕ) → fold Turn s (reverse (first_chunks w n keys)) ≡ back_from CIPH w s n keys
    unfolding back_from
    back_chunks zero s keys = refl
    back_chunks (suc n) s keys =
        ap (fold Turn s) (reverse-cons (take w keys) (first_chunks w n (drop w keys)))
        ∙ fold_snoc s (take w keys) (reverse (first_chunks w n (drop w keys)))
        ∙ ap (CIPH (take w keys)) (back_chunks n s (drop w keys))

    pub back_whole : (s keys : List ℕ) → fold Turn s (reverse (first_chunks w (length keys / w) keys)) ≡ under_each_back CIPH w keys s
    unfolding under_each_back
    back_whole s keys = back_chunks (length keys / w) s keys

-- ---- what a cipher keeps, the folds keep
module _ (E : List ℕ → List ℕ → List ℕ) (w : ℕ) (Good : List ℕ → Type 0) (stays : (k b : List ℕ) → Good b → Good (E k b)) where
  good_under_from : (n : ℕ) (s keys : List ℕ) → Good s → Good (under_from E w s n keys)
  unfolding under_from
  good_under_from zero s keys g = g
  good_under_from (suc n) s keys g = good_under_from n (E (take w keys) s) (drop w keys) (stays (take w keys) s g)

  pub good_under : (keys s : List ℕ) → Good s → Good (under_each E w keys s)
  unfolding under_each
  good_under keys s g = good_under_from (length keys / w) s keys g

  good_back_from : (n : ℕ) (s keys : List ℕ) → Good s → Good (back_from E w s n keys)
  unfolding back_from
  good_back_from zero s keys g = g
  good_back_from (suc n) s keys g = stays (take w keys) (back_from E w s n (drop w keys)) (good_back_from n s (drop w keys) g)

  pub good_back : (keys s : List ℕ) → Good s → Good (under_each_back E w keys s)
  unfolding under_each_back
  good_back keys s g = good_back_from (length keys / w) s keys g

-- the same of a cipher that keeps it under whole keys only
module _ (E : List ℕ → List ℕ → List ℕ) (w : ℕ) (pos : 0 < w) (Good : List ℕ → Type 0) (stays : (k b : List ℕ) → Block w k → Good b → Good (E k b)) where
  good_under_whole_from : (n : ℕ) (s keys : List ℕ) → Block (n * w) keys → Good s → Good (under_from E w s n keys)
  unfolding under_from
  good_under_whole_from zero s keys h g = g
  good_under_whole_from (suc n) s keys h g =
      let l = h.long in
      let m : length keys ≡ n * w + w = l ∙ suc-mul n w in
      let q : w ≤ length keys = omega arith in
      let first : Block w (take w keys) = record { long = length-take-le w keys q; bytes = Bytes-take w keys h.bytes } in
      let rest : Block (n * w) (drop w keys) = record { long = length-drop w keys ∙ omega arith; bytes = Bytes-drop w keys h.bytes } in
      good_under_whole_from n (E (take w keys) s) (drop w keys) rest (stays (take w keys) s first g)

  pub good_under_whole : (n : ℕ) (keys s : List ℕ) → Block (n * w) keys → Good s → Good (under_each E w keys s)
  unfolding under_each
  good_under_whole n keys s h g = let e : length keys / w ≡ n = ap (λ (k : ℕ). k / w) h.long ∙ mul-div_cancel n pos in rw e (good_under_whole_from n s keys h g)

-- ---- the way back undoes the fold, and the fold the way back, for a cipher whose two directions undo one another on good blocks
module _ (E D : List ℕ → List ℕ → List ℕ) (w : ℕ) (Good : List ℕ → Type 0)
    (stays : (k b : List ℕ) → Good b → Good (E k b)) (undo : (k b : List ℕ) → Good b → D k (E k b) ≡ b) where
  back_under_from : (n : ℕ) (s keys : List ℕ) → Good s → back_from D w (under_from E w s n keys) n keys ≡ s
  unfolding under_from back_from
  back_under_from zero s keys g = refl
  back_under_from (suc n) s keys g =
      ap (D (take w keys)) (back_under_from n (E (take w keys) s) (drop w keys) (stays (take w keys) s g)) ∙ undo (take w keys) s g

  pub back_under : (keys s : List ℕ) → Good s → under_each_back D w keys (under_each E w keys s) ≡ s
  unfolding under_each under_each_back
  back_under keys s g = back_under_from (length keys / w) s keys g

  under_back_from : (n : ℕ) (s keys : List ℕ) → Good s → under_from D w (back_from E w s n keys) n keys ≡ s
  unfolding under_from back_from
  under_back_from zero s keys g = refl
  under_back_from (suc n) s keys g =
      ap (λ (t : List ℕ). under_from D w t n (drop w keys)) (undo (take w keys) (back_from E w s n (drop w keys)) (good_back_from E w Good stays n s (drop w keys) g))
      ∙ under_back_from n s (drop w keys) g

  -- with the cipher's directions exchanged: E here is the cipher's D
  pub under_back : (keys s : List ℕ) → Good s → under_each D w keys (under_each_back E w keys s) ≡ s
  unfolding under_each under_each_back
  under_back keys s g = under_back_from (length keys / w) s keys g

-- ---- a cipher that sees of a key no more than f of each byte: no more do the folds see
module _ (f : ℕ → ℕ) where
  map_take : (n : ℕ) (l : List ℕ) → map f (take n l) ≡ take n (map f l)
  map_take zero l = refl
  map_take (suc n) [] = refl
  map_take (suc n) (x ∷ l) = ap (λ (t : List ℕ). f x ∷ t) (map_take n l)

  map_drop : (n : ℕ) (l : List ℕ) → map f (drop n l) ≡ drop n (map f l)
  map_drop zero l = refl
  map_drop (suc n) [] = refl
  map_drop (suc n) (x ∷ l) = map_drop n l

  -- strings that f does not tell apart
  module _ (l m : List ℕ) (e : map f l ≡ map f m) where
    take_alike : (n : ℕ) → map f (take n l) ≡ map f (take n m)
    take_alike n = map_take n l ∙ ap (take n) e ∙ sym (map_take n m)

    drop_alike : (n : ℕ) → map f (drop n l) ≡ map f (drop n m)
    drop_alike n = map_drop n l ∙ ap (drop n) e ∙ sym (map_drop n m)

    pub length_alike : length l ≡ length m
    length_alike = sym (length-map l f) ∙ ap length e ∙ length-map m f

  module _ (E : List ℕ → List ℕ → List ℕ) (w : ℕ) (alike : (k k' b : List ℕ) → map f k ≡ map f k' → E k b ≡ E k' b) where
    under_from_alike : (n : ℕ) (s keys keys' : List ℕ) → map f keys ≡ map f keys' → under_from E w s n keys ≡ under_from E w s n keys'
    unfolding under_from
    under_from_alike zero s keys keys' e = refl
    under_from_alike (suc n) s keys keys' e =
        ap (λ (t : List ℕ). under_from E w t n (drop w keys)) (alike (take w keys) (take w keys') s (take_alike keys keys' e w))
        ∙ under_from_alike n (E (take w keys') s) (drop w keys) (drop w keys') (drop_alike keys keys' e w)

    pub under_alike : (keys keys' s : List ℕ) → map f keys ≡ map f keys' → under_each E w keys s ≡ under_each E w keys' s
    unfolding under_each
    under_alike keys keys' s e =
        ap (λ (n : ℕ). under_from E w s (n / w) keys) (length_alike keys keys' e) ∙ under_from_alike (length keys' / w) s keys keys' e

    back_from_alike : (n : ℕ) (s keys keys' : List ℕ) → map f keys ≡ map f keys' → back_from E w s n keys ≡ back_from E w s n keys'
    unfolding back_from
    back_from_alike zero s keys keys' e = refl
    back_from_alike (suc n) s keys keys' e =
        alike (take w keys) (take w keys') (back_from E w s n (drop w keys)) (take_alike keys keys' e w)
        ∙ ap (E (take w keys')) (back_from_alike n s (drop w keys) (drop w keys') (drop_alike keys keys' e w))

    pub back_alike : (keys keys' s : List ℕ) → map f keys ≡ map f keys' → under_each_back E w keys s ≡ under_each_back E w keys' s
    unfolding under_each_back
    back_alike keys keys' s e =
        ap (λ (n : ℕ). back_from E w s (n / w) keys) (length_alike keys keys' e) ∙ back_from_alike (length keys' / w) s keys keys' e
