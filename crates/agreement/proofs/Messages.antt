-- The messages of a transcript: what was made is read, and what was answered is accepted, where both ends hold the same. Assumes nothing.
use mathlib.Core.Path.{◌≡◌, ap, ◌∙◌}
use mathlib.Core.List.{List, []}
use Prim.Native.Nat.{ℕ, ◌<◌}
use native.Mathlib.Omega.{arith}
use mir.Syntax.{w8}
use mir.Val.{Fits}
use lib.ListN.{length, drop, get_or}
use Rattle.cipher.specs.Bytes.{Bytes}
use Rattle.cipher.proofs.ByteLists.{Block}
use Rattle.answer.specs.Outcome.{Outcome, Answer, acceptance, accepted, Meets}
use Rattle.answer.proofs.Refusals.{acceptance_zero}
use Rattle.frame.specs.Scheme.{sealing, opening, responding}
use Rattle.frame.proofs.Frames.{opens_again, frame_opens_again}
use Rattle.session.specs.Challenge.{making_1a, reading_1a, making_1b, checking_1b, making_2a, reading_2a, making_2b, checking_2b}
use Rattle.session.proofs.Exchanges as two
use Rattle.agreement.proofs.MessagePairs.{Message}

-- as the type of a `&[u8]` has it: each entry fits a byte
pub bytes : (s : List ℕ) → ((i : ℕ) → Fits w8 (get_or s i 0)) → Bytes s
bytes s h i = omega (arith, h i)

-- number and bytes of an acceptance
pub zero_of : (o : Outcome) (b : List ℕ) → o ≡ accepted 0 b → o.number ≡ 0
zero_of o b e = ap (λ (p : Outcome). p.number) e ∙ acceptance_zero 0 0 b

pub bytes_of : (o : Outcome) (b : List ℕ) → o ≡ accepted 0 b → o.bytes ≡ b
unfolding acceptance
bytes_of o b e = ap (λ (p : Outcome). p.bytes) e

-- ---- random blocks, in blocks of 16 bytes

module _ (s : ℕ) (k idm c3 x : List ℕ) (bk : Bytes k) (bi : Bytes idm) (b3 : Bytes c3) (bx : Bytes x) where
  -- random 1
  module _ (z : (making_1a s k idm x 16).number ≡ 0) where
    right_1 : two.Right s k idm x 16
    right_1 = two.makes_1a_only s k idm x bk bi bx 16 z

    read_1 : reading_1a s k idm (making_1a s k idm x 16).bytes 16 ≡ accepted 0 x
    read_1 = let g = right_1 in two.reads_1a s k idm g.ends x 16 16 g.block g.room_is g.room_is

    accepted_1 : (making_1b s k idm c3 (reading_1a s k idm (making_1a s k idm x 16).bytes 16).bytes 16).number ≡ 0
        → (checking_1b s k idm c3 x (making_1b s k idm c3 (reading_1a s k idm (making_1a s k idm x 16).bytes 16).bytes 16).bytes).number ≡ 0
    accepted_1 y =
        let g = right_1 in
        let f3 = (two.makes_1b_only s k idm x bk bi bx 16 c3 b3 (rw (bytes_of _ _ read_1) at y)).1 in
        let m = two.answers_1b s k idm g.ends c3 f3 x 16 16 16 g.block g.room_is g.room_is g.room_is in
        zero_of _ [] ((two.checks_1b s k idm g.ends c3 f3 x _ g.block).1 (bytes_of _ _ m))

  -- random 2
  module _ (z : (making_2a s k idm c3 x 16).number ≡ 0) where
    pub right_2 : two.Right s k idm x 16 × Block 4 c3
    right_2 = two.makes_2a_only s k idm x bk bi bx 16 c3 b3 z

    pub read_2 : reading_2a s k idm c3 (making_2a s k idm c3 x 16).bytes 16 ≡ accepted 0 x
    read_2 = let g = right_2.0 in two.reads_2a s k idm g.ends c3 right_2.1 x 16 16 g.block g.room_is g.room_is

    accepted_2 : (checking_2b s k idm x (making_2b s k idm (reading_2a s k idm c3 (making_2a s k idm c3 x 16).bytes 16).bytes 16).bytes).number ≡ 0
    accepted_2 =
        let g = right_2.0 in
        let m = two.answers_2b s k idm g.ends c3 right_2.1 x 16 16 16 g.block g.room_is g.room_is g.room_is in
        zero_of _ [] ((two.checks_2b s k idm g.ends x _ g.block).1 (bytes_of _ _ m))

-- two ends with the same keys
module _ (s : ℕ) (reader card idm c3 x : List ℕ) (bk : Bytes card) (bi : Bytes idm) (b3 : Bytes c3) (bx : Bytes x) (same : reader ≡ card) where
  pub reads_1 : (making_1a s reader idm x 16).number ≡ 0 → (reading_1a s card idm (making_1a s reader idm x 16).bytes 16).number ≡ 0
  reads_1 = rw same (λ z. zero_of _ x (read_1 s card idm c3 x bk bi b3 bx z))

  pub checks_1 : (making_1a s reader idm x 16).number ≡ 0 → (making_1b s card idm c3 (reading_1a s card idm (making_1a s reader idm x 16).bytes 16).bytes 16).number ≡ 0
      → (checking_1b s reader idm c3 x (making_1b s card idm c3 (reading_1a s card idm (making_1a s reader idm x 16).bytes 16).bytes 16).bytes).number ≡ 0
  checks_1 = rw same (λ z. accepted_1 s card idm c3 x bk bi b3 bx z)

  pub reads_2 : (making_2a s card idm c3 x 16).number ≡ 0 → (reading_2a s reader idm c3 (making_2a s card idm c3 x 16).bytes 16).number ≡ 0
  reads_2 = rw same (λ z. zero_of _ x (read_2 s card idm c3 x bk bi b3 bx z))

  pub checks_2 : (making_2a s card idm c3 x 16).number ≡ 0 → (making_2b s reader idm (reading_2a s reader idm c3 (making_2a s card idm c3 x 16).bytes 16).bytes 16).number ≡ 0
      → (checking_2b s card idm x (making_2b s reader idm (reading_2a s reader idm c3 (making_2a s card idm c3 x 16).bytes 16).bytes 16).bytes).number ≡ 0
  checks_2 = rw same (λ z _. accepted_2 s card idm c3 x bk bi b3 bx z)

  -- 1A, and 1B
  abbrev pub message_1 : Message
  message_1 =
      record {
        A = making_1a s reader idm x 16;
        R = λ d. reading_1a s card idm d 16;
        B = λ y. making_1b s card idm c3 y 16;
        C = λ v. checking_1b s reader idm c3 x v;
        reads = reads_1;
        checks = checks_1;
      }

  -- 2A, and 2B
  abbrev pub message_2 : Message
  message_2 =
      record {
        A = making_2a s card idm c3 x 16;
        R = λ d. reading_2a s reader idm c3 d 16;
        B = λ y. making_2b s reader idm y 16;
        C = λ v. checking_2b s card idm x v;
        reads = reads_2;
        checks = checks_2;
      }

-- an output of 16 bytes for the random 2 that is read
pub read_16 : (s : ℕ) (reader idm c3 x z w : List ℕ) (r : Answer) → length z ≡ 16 → Meets (reading_2a s reader idm c3 x (length z)) r z w → Meets (reading_2a s reader idm c3 x 16) r z w
read_16 s reader idm c3 x z w r l m = rw l at m

-- ---- a command and a response frame, in blocks of 256 bytes, under the same credentials

module _ (s code number : ℕ) (id reader card payload : List ℕ) (bi : Bytes id) (bc : Bytes card) (bp : Bytes payload) (ho : code < 256) (hn : number < 65536) (same : reader ≡ card) where
  pub opens_command : (sealing s reader code number id payload 256).number ≡ 0 → (opening s card code id (sealing s reader code number id payload 256).bytes 256).number ≡ 0
  opens_command = rw same (opens_again card id code bc bi ho number 256 payload hn bp s)

  pub opens_response : (responding s card code number id payload 256).number ≡ 0 → (opening s reader code id (drop 2 (responding s card code number id payload 256).bytes) 256).number ≡ 0
  opens_response = rw same (λ z. frame_opens_again s card id code number 256 payload z bc bi ho hn bp)

  abbrev pub command : Message
  command =
      record {
        A = sealing s reader code number id payload 256;
        R = λ d. opening s card code id d 256;
        B = λ y. responding s card code number id payload 256;
        C = λ v. opening s reader code id (drop 2 v) 256;
        reads = opens_command;
        checks = λ _ z. opens_response z;
      }
