-- The function f on words by the table SP, and the rounds over a list of round keys. Assumes nothing.
use mathlib.Core.Path.{◌≡◌, refl, sym, ap, ap₂, ◌∙◌}
use mathlib.Core.Bool.{Bool}
use mathlib.Core.List.{List, [], ◌∷◌, ◌++◌, append-nil, map}
use Prim.Native.Nat.{ℕ, ◌+◌, ◌-◌, ◌*◌, ◌/◌, ◌%◌, ◌^◌, ◌≤◌, ◌<◌}
use native.Mathlib.Nat.{le_refl, le_of_eq, add-zero}
use native.Mathlib.Omega.{arith}
use lib.Pow.{shr-shr, field}
use lib.Bits.{bit_xor, xor_shr}
use lib.ListN.{length, take, drop, get_or, length-append}
use lib.Seq.{take_at, drop_at, take_all}
use Rattle.std.proofs.lemmas.List.{map-append}
use Rattle.cipher.specs.declared.des.TheConstants.{SP}
use Rattle.cipher.specs.Bits.{bits, num, ◌⊞◌, to_bits, to_bytes}
use Rattle.cipher.specs.Fips46.{select, left_shift, substitute, substitute_all, f, P, E, IP, IP⁻¹, S1, S2, S3, S4, S5, S6, S7, S8, Halves, round, iterations, crypt}
use Rattle.cipher.specs.Fips46.{des_encrypt, des_decrypt, tdea_encrypt, tdea_decrypt, tdea2_encrypt, tdea2_decrypt}
use Rattle.cipher.specs.inner.DesWith.{des_with}
use Rattle.cipher.specs.inner.DesTables.{among, held, holds, key_bits, box, sp_bits}
use Rattle.cipher.proofs.DesSp.{sp_entry}
use Rattle.cipher.proofs.BitWords.{bit_at, down, bits_down, bits_shr, length_bits, bits_mod, bits_num, bits_xor, ⊞-append, select_append}

-- ---- halves that are held turned left by one place

turn_back : (g : ℕ → Bool) → left_shift 31 (left_shift 1 (down 32 g)) ≡ down 32 g
unfolding left_shift down
turn_back g = refl

pub held_turned : (x r : ℕ) → bits 32 r ≡ left_shift 1 (bits 32 x) → held r ≡ bits 32 x
unfolding held
held_turned x r e = ap (left_shift 31) (e ∙ ap (left_shift 1) (bits_down 32 x)) ∙ turn_back (bit_at x) ∙ sym (bits_down 32 x)

turn-⊞ : (g h : ℕ → Bool) → left_shift 31 (down 32 g ⊞ down 32 h) ≡ left_shift 31 (down 32 g) ⊞ left_shift 31 (down 32 h)
unfolding left_shift down ◌⊞◌
turn-⊞ g h = refl

held_xor : (x y : ℕ) → held (bit_xor x y) ≡ held x ⊞ held y
unfolding held
held_xor x y =
    ap (left_shift 31) (bits_xor 32 x y ∙ ap₂ ◌⊞◌ (bits_down 32 x) (bits_down 32 y))
    ∙ turn-⊞ (bit_at x) (bit_at y)
    ∙ ap₂ (λ (a b : List Bool). left_shift 31 a ⊞ left_shift 31 b) (sym (bits_down 32 x)) (sym (bits_down 32 y))

-- ---- the table SP

length_sp : (j x : ℕ) → length (sp_bits j x) ≡ 32
unfolding sp_bits left_shift select P
length_sp j x = refl

sp_low : (j x : ℕ) → sp_bits j (x % 64) ≡ sp_bits j x
unfolding sp_bits
sp_low j x = ap (λ (l : List Bool). left_shift 1 (select P (among (4 * j) (28 - 4 * j) (substitute (box j) l)))) (bits_mod 6 6 x (le_refl 6))

pub sp_pick : (j x : ℕ) → j < 8 → bits 32 (get_or SP (j * 64 + x % 64) 0) ≡ sp_bits j x
sp_pick j x k =
    let e : (j * 64 + x % 64) / 64 ≡ j = omega arith in
    let o : (j * 64 + x % 64) % 64 ≡ x % 64 = omega arith in
    ap (bits 32) (sp_entry (j * 64 + x % 64) (omega arith))
    ∙ ap₂ (λ (i y : ℕ). bits 32 (num (sp_bits i y))) e o
    ∙ bits_num 32 (sp_bits j (x % 64)) (length_sp j (x % 64))
    ∙ sp_low j x

-- ---- the groups of six bits

-- E of a half, by groups of six bits of the word that holds it (g) and of that word turned right by four places (h)
E-groups : (g h : ℕ → Bool) → down 32 h ≡ left_shift 28 (down 32 g) → select E (left_shift 31 (down 32 g))
    ≡ down 6 (λ j. h (24 + j)) ++ (down 6 (λ j. g (24 + j)) ++ (down 6 (λ j. h (16 + j)) ++ (down 6 (λ j. g (16 + j))
    ++ (down 6 (λ j. h (8 + j)) ++ (down 6 (λ j. g (8 + j)) ++ (down 6 h ++ down 6 g))))))
unfolding left_shift down select E
E-groups g h e =
    ap (λ (l : List Bool). take 6 (drop 2 l) ++ (down 6 (λ j. g (24 + j)) ++ (take 6 (drop 10 l) ++ (down 6 (λ j. g (16 + j))
    ++ (take 6 (drop 18 l) ++ (down 6 (λ j. g (8 + j)) ++ (take 6 (drop 26 l) ++ down 6 g))))))) (sym e)

-- groups of a round key and of a half, added in a word
group_low : (k r s : ℕ) → s + 6 ≤ 32 → bits 6 (bit_xor (k % 2 ^ 32) r / 2 ^ s) ≡ bits 6 (k / 2 ^ s) ⊞ bits 6 (r / 2 ^ s)
group_low k r s h =
    let e : 32 ≡ (32 - s) + s = omega arith in
    ap (bits 6) (xor_shr (k % 2 ^ 32) r s)
    ∙ bits_xor 6 (k % 2 ^ 32 / 2 ^ s) (r / 2 ^ s)
    ∙ ap (λ (l : List Bool). l ⊞ bits 6 (r / 2 ^ s))
    (ap (λ (n : ℕ). bits 6 (k % 2 ^ n / 2 ^ s)) e ∙ ap (bits 6) (field k (32 - s) s) ∙ bits_mod 6 (32 - s) (k / 2 ^ s) (omega arith))

group_high : (k r s : ℕ) → bits 6 (bit_xor (k / 2 ^ 32) r / 2 ^ s) ≡ bits 6 (k / 2 ^ (32 + s)) ⊞ bits 6 (r / 2 ^ s)
group_high k r s =
    ap (bits 6) (xor_shr (k / 2 ^ 32) r s)
    ∙ bits_xor 6 (k / 2 ^ 32 / 2 ^ s) (r / 2 ^ s)
    ∙ ap (λ (n : ℕ). bits 6 n ⊞ bits 6 (r / 2 ^ s)) (shr-shr k 32 s)

-- one group more
more : (a b c d l : List Bool) → length a ≡ length c → b ⊞ d ≡ l → (a ++ b) ⊞ (c ++ d) ≡ (a ⊞ c) ++ l
more a b c d l h e = ⊞-append a b c d h ∙ ap (λ (t : List Bool). (a ⊞ c) ++ t) e

sixes : (x y : ℕ) → length (bits 6 x) ≡ length (bits 6 y)
sixes x y = length_bits 6 x ∙ sym (length_bits 6 y)

E-word : (r w : ℕ) → bits 32 w ≡ left_shift 28 (bits 32 r) → select E (held r)
    ≡ bits 6 (w / 2 ^ 24) ++ (bits 6 (r / 2 ^ 24) ++ (bits 6 (w / 2 ^ 16) ++ (bits 6 (r / 2 ^ 16)
    ++ (bits 6 (w / 2 ^ 8) ++ (bits 6 (r / 2 ^ 8) ++ (bits 6 w ++ bits 6 r))))))
unfolding held
E-word r w e =
    ap (λ (l : List Bool). select E (left_shift 31 l)) (bits_down 32 r)
    ∙ E-groups (bit_at r) (bit_at w) (sym (bits_down 32 w) ∙ e ∙ ap (left_shift 28) (bits_down 32 r))
    ∙ sym
    (ap₂ ◌++◌ (bits_shr 6 24 w)
    (ap₂ ◌++◌ (bits_shr 6 24 r)
    (ap₂ ◌++◌ (bits_shr 6 16 w)
    (ap₂ ◌++◌ (bits_shr 6 16 r)
    (ap₂ ◌++◌ (bits_shr 6 8 w) (ap₂ ◌++◌ (bits_shr 6 8 r) (ap₂ ◌++◌ (bits_down 6 w) (bits_down 6 r))))))))

-- the eight blocks of six bits in two words
blocks_of : ℕ → ℕ → List Bool
blocks_of u v =
    bits 6 (v / 2 ^ 24) ++ (bits 6 (u / 2 ^ 24) ++ (bits 6 (v / 2 ^ 16) ++ (bits 6 (u / 2 ^ 16)
    ++ (bits 6 (v / 2 ^ 8) ++ (bits 6 (u / 2 ^ 8) ++ (bits 6 v ++ bits 6 u))))))

-- K + E(R), with the halves of the packed K added to the word that holds R
blocks : (r k w : ℕ) → bits 32 w ≡ left_shift 28 (bits 32 r) → key_bits k ⊞ select E (held r) ≡ blocks_of (bit_xor (k % 2 ^ 32) r) (bit_xor (k / 2 ^ 32) w)
unfolding key_bits blocks_of
blocks r k w e =
    ap (λ (l : List Bool). key_bits k ⊞ l) (E-word r w e)
    ∙ more (bits 6 (k / 2 ^ 56)) _ (bits 6 (w / 2 ^ 24)) _ _ (sixes _ _)
    (more (bits 6 (k / 2 ^ 24)) _ (bits 6 (r / 2 ^ 24)) _ _ (sixes _ _)
    (more (bits 6 (k / 2 ^ 48)) _ (bits 6 (w / 2 ^ 16)) _ _ (sixes _ _)
    (more (bits 6 (k / 2 ^ 16)) _ (bits 6 (r / 2 ^ 16)) _ _ (sixes _ _)
    (more (bits 6 (k / 2 ^ 40)) _ (bits 6 (w / 2 ^ 8)) _ _ (sixes _ _)
    (more (bits 6 (k / 2 ^ 8)) _ (bits 6 (r / 2 ^ 8)) _ _ (sixes _ _)
    (⊞-append (bits 6 (k / 2 ^ 32)) (bits 6 k) (bits 6 w) (bits 6 r) (sixes _ _)))))))
    ∙ sym
    (ap₂ ◌++◌ (group_high k w 24)
    (ap₂ ◌++◌ (group_low k r 24 (omega arith))
    (ap₂ ◌++◌ (group_high k w 16)
    (ap₂ ◌++◌ (group_low k r 16 (omega arith))
    (ap₂ ◌++◌ (group_high k w 8)
    (ap₂ ◌++◌ (group_low k r 8 (omega arith))
    (ap₂ ◌++◌ (bits_xor 6 (k / 2 ^ 32) w)
    (bits_xor 6 (k % 2 ^ 32) r ∙ ap (λ (l : List Bool). l ⊞ bits 6 r) (bits_mod 6 32 k (omega arith))))))))))

-- ---- S and P

sub_more : (S : List ℕ) (Ss : List (List ℕ)) (x : ℕ) (b l : List Bool) → substitute_all Ss b ≡ l
    → substitute_all (S ∷ Ss) (bits 6 x ++ b) ≡ substitute S (bits 6 x) ++ l
unfolding substitute_all
sub_more S Ss x b l e =
    ap₂ (λ (a c : List Bool). substitute S a ++ substitute_all Ss c) (take_at (bits 6 x) b 6 (length_bits 6 x)) (drop_at (bits 6 x) b 6 (length_bits 6 x))
    ∙ ap (λ (c : List Bool). substitute S (bits 6 x) ++ c) e

sub_one : (S : List ℕ) (x : ℕ) → substitute_all (S ∷ []) (bits 6 x) ≡ substitute S (bits 6 x)
unfolding substitute_all
sub_one S x = append-nil (substitute S (take 6 (bits 6 x))) ∙ ap (substitute S) (take_all 6 (bits 6 x) (le_of_eq (length_bits 6 x)))

four : (S : List ℕ) (b : List Bool) → length (substitute S b) ≡ 4
unfolding substitute
four S b = length_bits 4 _

length_more : (m : ℕ) (a l : List Bool) → length a ≡ 4 → length l ≡ m → length (a ++ l) ≡ 4 + m
length_more m a l h k = length-append a l ∙ ap₂ ◌+◌ h k

place_more : (ps : List ℕ) (p m : ℕ) (a l s : List Bool) → length a ≡ 4 → length l ≡ m → select ps (among (p + 4) 0 l) ≡ s
    → select ps (among p 0 (a ++ l)) ≡ select ps (among p m a) ⊞ s
place_more ps p m a l s h k e =
    select_append ps p 0 4 m a l h k ∙ ap₂ (λ (q : ℕ) (t : List Bool). select ps (among p q a) ⊞ t) (add-zero m) e

-- the eight results of S, each in its place
places_8 : (ps : List ℕ) (a b c d e f g h : List Bool) → length a ≡ 4 → length b ≡ 4 → length c ≡ 4 → length d ≡ 4 → length e ≡ 4 → length f ≡ 4
    → length g ≡ 4 → length h ≡ 4 → select ps (a ++ (b ++ (c ++ (d ++ (e ++ (f ++ (g ++ h)))))))
    ≡ select ps (among 0 28 a) ⊞ (select ps (among 4 24 b) ⊞ (select ps (among 8 20 c) ⊞ (select ps (among 12 16 d)
    ⊞ (select ps (among 16 12 e) ⊞ (select ps (among 20 8 f) ⊞ (select ps (among 24 4 g) ⊞ select ps (among 28 0 h)))))))
places_8 ps a b c d e f g h la lb lc ld le lf lg lh =
    let kg : length (g ++ h) ≡ 8 = length_more 4 g h lg lh in
    let kf : length (f ++ (g ++ h)) ≡ 12 = length_more 8 f _ lf kg in
    let ke : length (e ++ (f ++ (g ++ h))) ≡ 16 = length_more 12 e _ le kf in
    let kd : length (d ++ (e ++ (f ++ (g ++ h)))) ≡ 20 = length_more 16 d _ ld ke in
    let kc : length (c ++ (d ++ (e ++ (f ++ (g ++ h))))) ≡ 24 = length_more 20 c _ lc kd in
    let kb : length (b ++ (c ++ (d ++ (e ++ (f ++ (g ++ h)))))) ≡ 28 = length_more 24 b _ lb kc in
    ap (select ps) (sym (all_of (a ++ (b ++ (c ++ (d ++ (e ++ (f ++ (g ++ h)))))))))
    ∙ place_more ps 0 28 a _ _ la kb
    (place_more ps 4 24 b _ _ lb kc
    (place_more ps 8 20 c _ _ lc kd
    (place_more ps 12 16 d _ _ ld ke
    (place_more ps 16 12 e _ _ le kf (place_more ps 20 8 f _ _ lf kg (place_more ps 24 4 g h _ lg lh refl))))))
  where
    all_of : (l : List Bool) → among 0 0 l ≡ l
    all_of l = unfold among in append-nil l

-- P turned left by one place
P' : List ℕ
P' = drop 1 P ++ take 1 P

turn-P : (b : List Bool) → left_shift 1 (select P b) ≡ select P' b
unfolding left_shift select P P'
turn-P b = refl

turn-P-back : (b : List Bool) → left_shift 31 (select P' b) ≡ select P b
unfolding left_shift select P P'
turn-P-back b = refl

boxes : List (List ℕ)
boxes = S1 ∷ S2 ∷ S3 ∷ S4 ∷ S5 ∷ S6 ∷ S7 ∷ S8 ∷ []

sp_at : (j x : ℕ) → sp_bits j x ≡ select P' (among (4 * j) (28 - 4 * j) (substitute (box j) (bits 6 x)))
unfolding sp_bits
sp_at j x = turn-P _

picks : (u v b1 b2 b3 b4 b5 b6 b7 b8 : ℕ)
    → bits 32 b1 ≡ sp_bits 0 (v / 2 ^ 24) → bits 32 b2 ≡ sp_bits 1 (u / 2 ^ 24) → bits 32 b3 ≡ sp_bits 2 (v / 2 ^ 16) → bits 32 b4 ≡ sp_bits 3 (u / 2 ^ 16)
    → bits 32 b5 ≡ sp_bits 4 (v / 2 ^ 8) → bits 32 b6 ≡ sp_bits 5 (u / 2 ^ 8) → bits 32 b7 ≡ sp_bits 6 v → bits 32 b8 ≡ sp_bits 7 u
    → bits 32 (bit_xor b1 (bit_xor b2 (bit_xor b3 (bit_xor b4 (bit_xor b5 (bit_xor b6 (bit_xor b7 b8))))))) ≡ select P' (substitute_all boxes (blocks_of u v))
unfolding box boxes blocks_of
picks u v b1 b2 b3 b4 b5 b6 b7 b8 h1 h2 h3 h4 h5 h6 h7 h8 =
    bits_xor 32 b1 _
    ∙ ap₂ ◌⊞◌ (h1 ∙ sp_at 0 _)
    (bits_xor 32 b2 _
    ∙ ap₂ ◌⊞◌ (h2 ∙ sp_at 1 _)
    (bits_xor 32 b3 _
    ∙ ap₂ ◌⊞◌ (h3 ∙ sp_at 2 _)
    (bits_xor 32 b4 _
    ∙ ap₂ ◌⊞◌ (h4 ∙ sp_at 3 _)
    (bits_xor 32 b5 _
    ∙ ap₂ ◌⊞◌ (h5 ∙ sp_at 4 _)
    (bits_xor 32 b6 _ ∙ ap₂ ◌⊞◌ (h6 ∙ sp_at 5 _) (bits_xor 32 b7 b8 ∙ ap₂ ◌⊞◌ (h7 ∙ sp_at 6 v) (h8 ∙ sp_at 7 u)))))))
    ∙ sym
    (places_8 P' _ _ _ _ _ _ _ _ (four S1 _) (four S2 _) (four S3 _) (four S4 _) (four S5 _) (four S6 _) (four S7 _) (four S8 _))
    ∙ ap (select P')
    (sym
    (sub_more S1 _ _ _ _
    (sub_more S2 _ _ _ _ (sub_more S3 _ _ _ _ (sub_more S4 _ _ _ _ (sub_more S5 _ _ _ _ (sub_more S6 _ _ _ _ (sub_more S7 _ _ _ _ (sub_one S8 u)))))))))

pub mangle_word : (r k lk hk w b1 b2 b3 b4 b5 b6 b7 b8 : ℕ) → lk ≡ k % 2 ^ 32 → hk ≡ k / 2 ^ 32 → bits 32 w ≡ left_shift 28 (bits 32 r)
    → bits 32 b1 ≡ sp_bits 0 (bit_xor hk w / 2 ^ 24) → bits 32 b2 ≡ sp_bits 1 (bit_xor lk r / 2 ^ 24)
    → bits 32 b3 ≡ sp_bits 2 (bit_xor hk w / 2 ^ 16) → bits 32 b4 ≡ sp_bits 3 (bit_xor lk r / 2 ^ 16)
    → bits 32 b5 ≡ sp_bits 4 (bit_xor hk w / 2 ^ 8) → bits 32 b6 ≡ sp_bits 5 (bit_xor lk r / 2 ^ 8)
    → bits 32 b7 ≡ sp_bits 6 (bit_xor hk w) → bits 32 b8 ≡ sp_bits 7 (bit_xor lk r)
    → held (bit_xor b1 (bit_xor b2 (bit_xor b3 (bit_xor b4 (bit_xor b5 (bit_xor b6 (bit_xor b7 b8))))))) ≡ f (held r) (key_bits k)
unfolding held f boxes
mangle_word r k lk hk w b1 b2 b3 b4 b5 b6 b7 b8 p q e h1 h2 h3 h4 h5 h6 h7 h8 =
    ap (left_shift 31) (picks (bit_xor lk r) (bit_xor hk w) b1 b2 b3 b4 b5 b6 b7 b8 h1 h2 h3 h4 h5 h6 h7 h8)
    ∙ turn-P-back _
    ∙ ap₂ (λ (m n : ℕ). select P (substitute_all boxes (blocks_of (bit_xor m r) (bit_xor n w)))) p q
    ∙ ap (λ (l : List Bool). select P (substitute_all boxes l)) (sym (blocks r k w e))

-- ---- the rounds

abbrev pub halves : List Bool → List Bool → Halves
halves l r = record { L = l; R = r }

-- one round on the words that hold the halves
pub round_word : (k : List Bool) (l r x : ℕ) → held x ≡ f (held r) k → holds r (bit_xor l x) ≡ round k (holds l r)
unfolding round
round_word k l r x q = ap (halves (held r)) (held_xor l x ∙ ap (λ (t : List Bool). held l ⊞ t) q)

pub no_iterations : (h : Halves) → h ≡ iterations [] h
unfolding iterations
no_iterations h = refl

-- one round more
iterations_snoc : (ks : List (List Bool)) (k : List Bool) (h : Halves) → iterations (ks ++ k ∷ []) h ≡ round k (iterations ks h)
unfolding iterations
iterations_snoc [] k h = refl
iterations_snoc (x ∷ ks) k h = iterations_snoc ks k (round x h)

pub one_more : (ks : List ℕ) (k : ℕ) (start h next : Halves) → h ≡ iterations (map key_bits ks) start → next ≡ round (key_bits k) h
    → next ≡ iterations (map key_bits (ks ++ k ∷ [])) start
one_more ks k start h next e n =
    n
    ∙ ap (round (key_bits k)) e
    ∙ sym (iterations_snoc (map key_bits ks) (key_bits k) start)
    ∙ ap (λ (l : List (List Bool)). iterations l start) (sym (map-append key_bits ks (k ∷ [])))

length_held : (x : ℕ) → length (held x) ≡ 32
unfolding held left_shift down
length_held x = ap (λ (l : List Bool). length (left_shift 31 l)) (bits_down 32 x)

pub crypt_word : (ks block : List ℕ) (l₀ r₀ l r : ℕ) (out : List ℕ) → held l₀ ++ held r₀ ≡ select IP (to_bits block)
    → holds l r ≡ iterations (map key_bits ks) (holds l₀ r₀) → out ≡ to_bytes 8 (select IP⁻¹ (held r ++ held l)) → out ≡ des_with ks block
unfolding des_with crypt
crypt_word ks block l₀ r₀ l r out p e o =
    let first : held l₀ ≡ take 32 (select IP (to_bits block)) = sym (take_at (held l₀) (held r₀) 32 (length_held l₀)) ∙ ap (take 32) p in
    let second : held r₀ ≡ drop 32 (select IP (to_bits block)) = sym (drop_at (held l₀) (held r₀) 32 (length_held l₀)) ∙ ap (drop 32) p in
    o ∙ ap (λ (h : Halves). to_bytes 8 (select IP⁻¹ (h.R ++ h.L))) (e ∙ ap₂ (λ (a c : List Bool). iterations (map key_bits ks) (halves a c)) first second)

-- ---- triple DES

module _ (key1 key2 b once twice out : List ℕ) where
  pub tdea2_encrypted : once ≡ des_encrypt key1 b → twice ≡ des_decrypt key2 once → out ≡ des_encrypt key1 twice → out ≡ tdea2_encrypt key1 key2 b
  unfolding tdea2_encrypt tdea_encrypt
  tdea2_encrypted p q e = e ∙ ap (des_encrypt key1) (q ∙ ap (des_decrypt key2) p)

  pub tdea2_decrypted : once ≡ des_decrypt key1 b → twice ≡ des_encrypt key2 once → out ≡ des_decrypt key1 twice → out ≡ tdea2_decrypt key1 key2 b
  unfolding tdea2_decrypt tdea_decrypt
  tdea2_decrypted p q e = e ∙ ap (des_decrypt key1) (q ∙ ap (des_encrypt key2) p)
