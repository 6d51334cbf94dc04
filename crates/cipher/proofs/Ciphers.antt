-- What the layers above take: the laws of the ciphers, modes and folds of this crate, with nothing about a cipher left to assume. Assumes nothing.
use mathlib.Core.Path.{◌≡◌}
use mathlib.Core.List.{List, ◌++◌, map}
use Prim.Native.Nat.{ℕ, ◌*◌, ◌/◌}
use lib.Dec.{lit<}
use lib.ListN.{length, length-replicate, replicate}
use Rattle.cipher.specs.Bytes.{Bytes}
use Rattle.cipher.specs.Fips197.{aes_encrypt, aes_decrypt}
use Rattle.cipher.specs.Fips46.{des_encrypt, des_decrypt}
use Rattle.cipher.specs.Fold.{under_each, under_each_back}
use Rattle.cipher.specs.Sp80038a.{cbc_encrypt, cbc_decrypt, ofb, ofb_input}
use Rattle.cipher.specs.Sp80038b.{cmac, R128}
use Rattle.cipher.proofs.ByteLists.{Block, Bytes-replicate}
use Rattle.cipher.proofs.AesInverse.{aes_decrypt_encrypt, aes_encrypt_decrypt}
use Rattle.cipher.proofs.AesLengths.{aes_encrypt_long, aes_encrypt_bytes, aes_decrypt_long, aes_decrypt_bytes}
use Rattle.cipher.proofs.DesInverse.{des_decrypt_encrypt, des_encrypt_decrypt, length_des_encrypt, length_des_decrypt, Bytes-desEncrypt, Bytes-desDecrypt}
use Rattle.cipher.proofs.ModeLaws.{Undone, cbc_encrypt_long, Bytes-cbcEncrypt, cbc_decrypt_long, Bytes-cbcDecrypt, cbc_decrypt_encrypt, cbc_encrypt_decrypt, length_ofb, ofb_twice, ofb_parts, good_input, Bytes-ofb}
use Rattle.cipher.proofs.Folds.{good_under, good_under_whole, good_back, back_under, under_back, under_alike, back_alike}
use Rattle.cipher.proofs.Macs.{mac_block}
use Rattle.cipher.proofs.Parity.{des_encrypt_halves, des_decrypt_halves}

-- ---- one block

module _ (key : List ℕ) where
  pub des_encrypt_block : (b : List ℕ) → Block 8 (des_encrypt key b)
  des_encrypt_block b = record { long = length_des_encrypt key b; bytes = Bytes-desEncrypt key b }

  pub des_decrypt_block : (b : List ℕ) → Block 8 (des_decrypt key b)
  des_decrypt_block b = record { long = length_des_decrypt key b; bytes = Bytes-desDecrypt key b }

  -- D after E, and E after D
  pub des_undone : Undone (des_encrypt key) (des_decrypt key) 8
  des_undone = record { enc = λ b h. des_encrypt_block b; dec = λ b h. des_decrypt_block b; undo = λ b h. des_decrypt_encrypt key b h.long h.bytes }

  pub des_redone : Undone (des_decrypt key) (des_encrypt key) 8
  des_redone = record { enc = λ b h. des_decrypt_block b; dec = λ b h. des_encrypt_block b; undo = λ b h. des_encrypt_decrypt key b h.long h.bytes }

  module _ (k : Block 16 key) where
    pub aes_encrypt_block : (b : List ℕ) → Block 16 (aes_encrypt key b)
    aes_encrypt_block b = record { long = aes_encrypt_long key b k.long; bytes = aes_encrypt_bytes key b k.bytes }

    pub aes_decrypt_block : (b : List ℕ) → Block 16 (aes_decrypt key b)
    aes_decrypt_block b = record { long = aes_decrypt_long key b k.long; bytes = aes_decrypt_bytes key b k.bytes }

    pub aes_undone : Undone (aes_encrypt key) (aes_decrypt key) 16
    aes_undone =
        record {
          enc = λ b h. aes_encrypt_block b;
          dec = λ b h. aes_decrypt_block b;
          undo = λ b h. aes_decrypt_encrypt key b k.long k.bytes h.long h.bytes;
        }

    pub aes_redone : Undone (aes_decrypt key) (aes_encrypt key) 16
    aes_redone =
        record {
          enc = λ b h. aes_decrypt_block b;
          dec = λ b h. aes_encrypt_block b;
          undo = λ b h. aes_encrypt_decrypt key b k.long k.bytes h.long h.bytes;
        }

-- ---- DES CBC with a zero IV, over n whole blocks

pub zeros_block : (w : ℕ) → Block w (replicate w 0)
zeros_block w = record { long = length-replicate w 0; bytes = Bytes-replicate w 0 (lit< tt) }

module _ (key l : List ℕ) (n : ℕ) (h : length l ≡ n * 8) where
  pub length_des_cbc : length (cbc_encrypt (des_encrypt key) 8 (replicate 8 0) l) ≡ length l
  length_des_cbc = cbc_encrypt_long _ 8 (lit< tt) (length_des_encrypt key) _ l (zeros_block 8).long n h

  pub length_des_cbc_back : length (cbc_decrypt (des_decrypt key) 8 (replicate 8 0) l) ≡ length l
  length_des_cbc_back = cbc_decrypt_long _ 8 (lit< tt) (length_des_decrypt key) _ l (zeros_block 8).long n h

module _ (key l : List ℕ) (b : Bytes l) (n : ℕ) (h : length l ≡ n * 8) where
  pub Bytes-des-cbc : Bytes (cbc_encrypt (des_encrypt key) 8 (replicate 8 0) l)
  Bytes-des-cbc = Bytes-cbcEncrypt _ _ 8 (lit< tt) (des_undone key) _ l (zeros_block 8) b n h

  pub Bytes-des-cbc-back : Bytes (cbc_decrypt (des_decrypt key) 8 (replicate 8 0) l)
  Bytes-des-cbc-back = Bytes-cbcDecrypt _ _ 8 (lit< tt) (des_redone key) _ l (zeros_block 8) b n h

  pub des_cbc_decrypt_encrypt : cbc_decrypt (des_decrypt key) 8 (replicate 8 0) (cbc_encrypt (des_encrypt key) 8 (replicate 8 0) l) ≡ l
  des_cbc_decrypt_encrypt = cbc_decrypt_encrypt _ _ 8 (lit< tt) (des_undone key) _ l (zeros_block 8) b n h

  pub des_cbc_encrypt_decrypt : cbc_encrypt (des_encrypt key) 8 (replicate 8 0) (cbc_decrypt (des_decrypt key) 8 (replicate 8 0) l) ≡ l
  des_cbc_encrypt_decrypt = cbc_encrypt_decrypt _ _ 8 (lit< tt) (des_redone key) _ l (zeros_block 8) b n h

-- ---- the DES fold and its way back: the keys may be any string

pub length_des_under : (keys s : List ℕ) → length s ≡ 8 → length (under_each des_encrypt 8 keys s) ≡ 8
length_des_under = good_under des_encrypt 8 (λ s. length s ≡ 8) (λ k b h. length_des_encrypt k b)

module _ (keys s : List ℕ) (g : Block 8 s) where
  pub des_under_block : Block 8 (under_each des_encrypt 8 keys s)
  des_under_block = good_under des_encrypt 8 (Block 8) (λ k b h. des_encrypt_block k b) keys s g

  pub des_back_block : Block 8 (under_each_back des_decrypt 8 keys s)
  des_back_block = good_back des_decrypt 8 (Block 8) (λ k b h. des_decrypt_block k b) keys s g

  pub des_back_under : under_each_back des_decrypt 8 keys (under_each des_encrypt 8 keys s) ≡ s
  des_back_under = back_under des_encrypt des_decrypt 8 (Block 8) (λ k b h. des_encrypt_block k b) (λ k b h. (des_undone k).undo b h) keys s g

  pub des_under_back : under_each des_encrypt 8 keys (under_each_back des_decrypt 8 keys s) ≡ s
  des_under_back = under_back des_decrypt des_encrypt 8 (Block 8) (λ k b h. des_decrypt_block k b) (λ k b h. (des_redone k).undo b h) keys s g

-- strings of keys whose bytes have the same halves give the same block: the lowest bits play no part
module _ (keys keys' s : List ℕ) (e : map (λ x. x / 2) keys ≡ map (λ x. x / 2) keys') where
  pub des_under_halves : under_each des_encrypt 8 keys s ≡ under_each des_encrypt 8 keys' s
  des_under_halves = under_alike (λ x. x / 2) des_encrypt 8 (λ k k' b h. des_encrypt_halves k k' h b) keys keys' s e

  pub des_back_halves : under_each_back des_decrypt 8 keys s ≡ under_each_back des_decrypt 8 keys' s
  des_back_halves = back_alike (λ x. x / 2) des_decrypt 8 (λ k k' b h. des_decrypt_halves k k' h b) keys keys' s e

-- ---- the AES fold, over n whole keys

pub aes_under_block : (n : ℕ) (keys s : List ℕ) → Block (n * 16) keys → Block 16 s → Block 16 (under_each aes_encrypt 16 keys s)
aes_under_block = good_under_whole aes_encrypt 16 (lit< tt) (Block 16) (λ k b h g. aes_encrypt_block k h b)

-- ---- AES OFB and CMAC

module _ (key : List ℕ) (k : length key ≡ 16) where
  pub length_aes_ofb : (iv l : List ℕ) → length iv ≡ 16 → length (ofb (aes_encrypt key) 16 iv l) ≡ length l
  length_aes_ofb = length_ofb _ 16 (λ b h. aes_encrypt_long key b k) (lit< tt)

  pub length_aes_input : (n : ℕ) (iv : List ℕ) → length iv ≡ 16 → length (ofb_input (aes_encrypt key) 16 n iv) ≡ 16
  length_aes_input = good_input _ 16 (λ s. length s ≡ 16) (λ b h. aes_encrypt_long key b k)

  pub length_aes_cmac : (m : List ℕ) → length (cmac (aes_encrypt key) 16 R128 m) ≡ 16
  length_aes_cmac = mac_block _ 16 R128 (lit< tt) (λ s. length s ≡ 16) (λ b. aes_encrypt_long key b k)

module _ (key : List ℕ) (k : Block 16 key) where
  module _ (iv l : List ℕ) (g : Block 16 iv) where
    pub aes_ofb_twice : ofb (aes_encrypt key) 16 iv (ofb (aes_encrypt key) 16 iv l) ≡ l
    aes_ofb_twice = ofb_twice _ 16 (λ b h. (aes_encrypt_block key k b).long) (lit< tt) iv l g.long

    pub aes_input_block : (n : ℕ) → Block 16 (ofb_input (aes_encrypt key) 16 n iv)
    aes_input_block n = good_input _ 16 (Block 16) (λ c h. aes_encrypt_block key k c) n iv g

    -- a second part after n whole blocks goes on at the boundary
    pub aes_ofb_parts : (n : ℕ) (m : List ℕ) → length l ≡ n * 16 → ofb (aes_encrypt key) 16 iv (l ++ m) ≡ ofb (aes_encrypt key) 16 iv l ++ ofb (aes_encrypt key) 16 (ofb_input (aes_encrypt key) 16 n iv) m
    aes_ofb_parts n m h = ofb_parts _ 16 (lit< tt) n iv l m h

    pub Bytes-aes-ofb : Bytes l → Bytes (ofb (aes_encrypt key) 16 iv l)
    Bytes-aes-ofb b = Bytes-ofb _ 16 (λ c h. aes_encrypt_block key k c) iv l g b
