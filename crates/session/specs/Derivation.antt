-- docs/RULES.md, Layouts (both chains), and docs/NUMBERS.md (derivation): the keys of an authentication. The keys of areas and services, each in
-- turn, encrypt a block. Assumes nothing.
use Rattle.std.specs.Prelude.{ℕ, ◌%◌, ◌≡◌, Bool, List, [], ◌∷◌, ◌++◌, eqb, ltb, length, take, replicate, Result, Ok, Err}
use Rattle.cipher.specs.Fips197.{aes_encrypt}
use Rattle.cipher.specs.Fips46.{des_encrypt}
use Rattle.cipher.specs.Fold.{under_each}
use Rattle.answer.specs.Outcome.{Row, row, choose, first_of, over}
use Rattle.answer.specs.Refusal.{refusal_number, refusal_node}
use Rattle.answer.specs.Scheme.{mark_of}
use Rattle.answer.specs.Tests.{isnt, either}
use Rattle.answer.specs.declared.refusal.Refusal.{Refusal}
use Rattle.session.specs.Entries.{Entry, entries, nodes, place, has, key_at, unknown_algorithm, twice}
use Rattle.session.specs.ServiceCode.{bearing}
use Rattle.session.specs.declared.keys.DerivedAuthKeys.{DerivedAuthKeys}

-- what a derivation answers: a number, the node that lacks a key where that is 4, the scheme mark that was used, and the keys
pub record Derived : Type 0 where
  pub number : ℕ
  pub node : ℕ
  pub scheme : ℕ
  pub bytes : List ℕ

-- a refusal; other rows than 4 return the number only
unfoldable pub turned_down : ℕ → ℕ → Derived
turned_down number node = record { number = number; node = node; scheme = 0; bytes = [] }

unfoldable pub derived : ℕ → List ℕ → Derived
derived scheme bytes = record { number = 0; node = 0; scheme = scheme; bytes = bytes }

-- the first row that holds decides; where none does, d
unfoldable pub by_rows : List Row → Derived → Derived
by_rows rows d = choose (eqb (first_of rows) 0) d (turned_down (first_of rows) 0)

-- ---- the keys of nodes

abbrev pub DES : ℕ
DES = 1

abbrev pub AES : ℕ
AES = 2

unfoldable pub other : ℕ → ℕ
other algorithm = choose (eqb algorithm DES) AES DES

-- a node without the key that it needs: 5 if it has one of the other algorithm, else 4 with the node
unfoldable pub lacks : List Entry → ℕ → ℕ → Derived
lacks es node algorithm = choose (has es node (other algorithm)) (turned_down 5 0) (turned_down 4 node)

-- the first of the nodes that lacks its key decides; where none does, d
unfoldable pub needing : List Entry → ℕ → List ℕ → Derived → Derived
needing es algorithm [] d = d
needing es algorithm (n ∷ ns) d = choose (has es n algorithm) (needing es algorithm ns d) (lacks es n algorithm)

-- of an entry's 16 bytes DES uses the first 8
unfoldable pub key_length : ℕ → ℕ
key_length algorithm = choose (eqb algorithm DES) 8 16

unfoldable pub key_of : List Entry → ℕ → ℕ → List ℕ
key_of es algorithm node = take (key_length algorithm) (key_at es (place es node algorithm))

-- the keys of the nodes, one behind the other
unfoldable pub keys_of : List Entry → ℕ → List ℕ → List ℕ
keys_of es algorithm [] = []
keys_of es algorithm (n ∷ ns) = key_of es algorithm n ++ keys_of es algorithm ns

-- ---- DES: the system key (node 0xFFFF) is data, encrypted under each area key (group key), then each service key (user key)

abbrev pub system : ℕ
system = 0xFFFF

unfoldable pub group_des : List Entry → List ℕ → List ℕ
group_des es areas = under_each des_encrypt 8 (keys_of es DES areas) (key_of es DES system)

unfoldable pub user_des : List Entry → List ℕ → List ℕ → List ℕ
user_des es areas services = under_each des_encrypt 8 (keys_of es DES (bearing services)) (group_des es areas)

-- 6, 7, 8, by the numbers of individual key bytes, areas, and services that bear a key
unfoldable pub des_rows : ℕ → ℕ → ℕ → List Row
des_rows individual areas services = row 6 (isnt (eqb individual 0)) ∷ row 7 (eqb areas 0) ∷ row 8 (eqb services 0) ∷ []

-- then 4 or 5 for the system, areas, services in order; DES skips key-free services
unfoldable pub derived_des : List Entry → List ℕ → List ℕ → List ℕ → Derived
derived_des es areas services individual =
    by_rows (des_rows (length individual) (length areas) (length (bearing services)))
    (needing es DES (system ∷ (areas ++ bearing services)) (derived DES (group_des es areas ++ user_des es areas services)))

-- ---- AES: the chain starts at 01 01, thirteen 00, 80; each key in list order encrypts it

unfoldable pub chain_start : List ℕ
chain_start = 0x01 ∷ 0x01 ∷ (replicate 13 0x00 ++ (0x80 ∷ []))

unfoldable pub group_aes : List Entry → List ℕ → List ℕ
group_aes es ns = under_each aes_encrypt 16 (keys_of es AES ns) chain_start

-- an absent individual key is zeros
unfoldable pub individual_key : List ℕ → List ℕ
individual_key individual = choose (eqb (length individual) 0) (replicate 16 0) individual

-- 4 or 5 in list order, 3 if empty
unfoldable pub derived_aes : List Entry → List ℕ → List ℕ → List ℕ → Derived
derived_aes es areas services individual =
    needing es AES (areas ++ services)
    (by_rows (row 3 (eqb (length (areas ++ services)) 0) ∷ []) (derived AES (group_aes es (areas ++ services) ++ individual_key individual)))

-- ---- which scheme: marks 1 and 2 force DES and AES; mark 0 picks a target and goes by its key, AES before DES

unfoldable pub last : ℕ → List ℕ → ℕ
last d [] = d
last d (n ∷ ns) = last n ns

-- the last service that is not key-free, else the last service, else the last area
unfoldable pub target : List ℕ → List ℕ → ℕ
target areas services = last (last (last 0 areas) services) (bearing services)

unfoldable pub derived_by : ℕ → List Entry → List ℕ → List ℕ → List ℕ → Derived
derived_by scheme es areas services individual = choose (eqb scheme DES) (derived_des es areas services individual) (derived_aes es areas services individual)

unfoldable pub chosen : List Entry → List ℕ → List ℕ → List ℕ → Derived
chosen es areas services individual =
    let t = target areas services in
    by_rows (row 3 (eqb (length (areas ++ services)) 0) ∷ [])
    (choose (has es t AES) (derived_by AES es areas services individual) (choose (has es t DES) (derived_by DES es areas services individual) (turned_down 4 t)))

unfoldable pub derived_for : ℕ → List Entry → List ℕ → List ℕ → List ℕ → Derived
derived_for mark es areas services individual = choose (eqb mark 0) (chosen es areas services individual) (derived_by mark es areas services individual)

-- ---- over bytes

-- an individual key has 16 bytes, or none
unfoldable pub lengths_wrong : ℕ → ℕ → ℕ → ℕ → Bool
lengths_wrong keys areas services individual =
    either (isnt (eqb (keys % 19) 0)) (either (isnt (eqb (areas % 2) 0)) (either (isnt (eqb (services % 2) 0)) (isnt (either (eqb individual 0) (eqb individual 16)))))

-- 17, 1, 2: over 128 keys, 32 areas or 32 services is too many
unfoldable pub derive_rows : ℕ → List ℕ → List ℕ → List ℕ → List ℕ → List Row
derive_rows mark keys areas services individual =
    row 17 (either (ltb 2 mark) (either (lengths_wrong (length keys) (length areas) (length services) (length individual)) (unknown_algorithm (entries keys))))
    ∷ row 1 (either (ltb 128 (length (entries keys))) (either (ltb 32 (length (nodes areas))) (ltb 32 (length (nodes services)))))
    ∷ row 2 (twice (entries keys))
    ∷ []

-- all rows but 16
unfoldable pub derived_before16 : ℕ → List ℕ → List ℕ → List ℕ → List ℕ → Derived
derived_before16 mark keys areas services individual =
    by_rows (derive_rows mark keys areas services individual) (derived_for mark (entries keys) (nodes areas) (nodes services) individual)

-- 16 is last
unfoldable pub with_room : ℕ → Derived → Derived
with_room room d = choose (ltb room (length d.bytes)) (turned_down 16 0) d

unfoldable pub derivation : ℕ → List ℕ → List ℕ → List ℕ → List ℕ → ℕ → Derived
derivation mark keys areas services individual room = with_room room (derived_before16 mark keys areas services individual)

-- what a derivation answers: its number, which is 0 for an acceptance; the node that lacks a key; the mark of the scheme that was used, and the
-- length of the keys, which are 0 with a refusal
abbrev pub derived_number : Result DerivedAuthKeys Refusal → ℕ
derived_number (Ok k) = 0
derived_number (Err e) = refusal_number e

abbrev pub derived_node : Result DerivedAuthKeys Refusal → ℕ
derived_node (Ok k) = 0
derived_node (Err e) = refusal_node e

abbrev pub derived_scheme : Result DerivedAuthKeys Refusal → ℕ
derived_scheme (Ok k) = mark_of k.scheme
derived_scheme (Err e) = 0

abbrev pub derived_length : Result DerivedAuthKeys Refusal → ℕ
derived_length (Ok k) = k.length
derived_length (Err e) = 0

-- an answer r, and an output that was `before` and is `after`, are those of d
pub record Derives (d : Derived) (r : Result DerivedAuthKeys Refusal) (before after : List ℕ) : Type 0 where
  pub number : derived_number r ≡ d.number
  pub node : derived_node r ≡ d.node
  pub scheme : derived_scheme r ≡ d.scheme
  pub length_is : derived_length r ≡ length d.bytes
  pub output : after ≡ over d.bytes before
