-- DES under the round keys of a key is DES under the key; the items that an iterator gave, as a list. Assumes nothing.
use mathlib.Core.Path.{◌≡◌, refl, sym, ap, ◌∙◌}
use mathlib.Core.Bool.{Bool}
use mathlib.Core.List.{List, [], ◌∷◌, ◌++◌, map, reverse, reverse-cons}
use Prim.Native.Nat.{ℕ}
use Rattle.std.specs.Iterator.{Drains}
use Rattle.std.specs.declared.option.Option.{Option}
use Rattle.std.proofs.lemmas.Iterator.{YieldsList, items_from_drains}
use Rattle.std.proofs.lemmas.List.{map-append, map-id}
use Rattle.cipher.specs.Bits.{to_bits, to_bytes}
use Rattle.cipher.specs.inner.DesTables.{key_bits}
use Rattle.cipher.specs.inner.DesWith.{des_with, des_back_with}
use Rattle.cipher.specs.Fips46.{KS, crypt, encipher, decipher, des_encrypt, des_decrypt}

-- one block under a list of round keys
abbrev under : List (List Bool) → List ℕ → List ℕ
under rs b = to_bytes 8 (crypt rs (to_bits b))

module _ (ks key : List ℕ) (e : map key_bits ks ≡ KS (to_bits key)) where
  pub with_schedule : des_with ks ≡ des_encrypt key
  unfolding des_with des_encrypt encipher
  with_schedule = ap (λ (rs : List (List Bool)). under rs) e

  pub back_with_schedule : des_back_with ks ≡ des_decrypt key
  unfolding des_back_with des_decrypt decipher
  back_with_schedule = ap (λ (rs : List (List Bool)). under (reverse rs)) e

-- the round keys of a key with the last one first
pub with_reverse : (ks key : List ℕ) → map key_bits ks ≡ reverse (KS (to_bits key)) → des_with ks ≡ des_decrypt key
unfolding des_with des_decrypt decipher
with_reverse ks key e = ap (λ (rs : List (List Bool)). under rs) e

map_reverse : (f : ℕ → List Bool) (xs : List ℕ) → map f (reverse xs) ≡ reverse (map f xs)
map_reverse f [] = refl
map_reverse f (x ∷ xs) =
    ap (map f) (reverse-cons x xs)
    ∙ map-append f (reverse xs) (x ∷ [])
    ∙ ap (λ (l : List (List Bool)). l ++ f x ∷ []) (map_reverse f xs)
    ∙ sym (reverse-cons (f x) (map f xs))

pub reverse_with : (ks block : List ℕ) → des_with (reverse ks) block ≡ des_back_with ks block
unfolding des_with des_back_with
reverse_with ks block = ap (λ (rs : List (List Bool)). under rs block) (map_reverse key_bits ks)

-- what calls of `next` gave, from s up to `None`
pub drained : {S A B : Type 0} {steps : S → Option A → S → Type 0} {v : A → B} {s : S} {all : List B} (xs : List A) → Drains steps s xs → YieldsList steps v s all
    → map v xs ≡ all
drained xs d y = items_from_drains xs (d.1.0, d.1.1, λ _. (d.0, d.1.2)) y

pub drained_numbers : {S : Type 0} {steps : S → Option ℕ → S → Type 0} {s : S} {all : List ℕ} (xs : List ℕ) → Drains steps s xs → YieldsList steps (λ x. x) s all → xs ≡ all
drained_numbers xs d y = sym (map-id xs) ∙ drained xs d y
