-- What the steps of a transcript say: a message of one end, and the other end's answer to it. Assumes nothing.
use Rattle.std.specs.Prelude.{ℕ, List, [], ◌∷◌, ◌++◌, eqb}
use Rattle.answer.specs.Outcome.{Outcome, accepted, choose}
use Rattle.frame.specs.Scheme.{sealing, responding}
use Rattle.session.specs.Challenge.{making_1a, reading_1a, making_1b, making_2a, reading_2a, making_2b, deriving_session_keys}
use Rattle.session.specs.Derivation.{Derived}
use Rattle.agreement.specs.Play.{unless}

-- a message and its answer, one behind the other; the first refusal is the outcome
unfoldable pub pair : Outcome → Outcome → Outcome
pair a b = unless (a.number ∷ b.number ∷ []) (accepted 0 (a.bytes ++ b.bytes))

-- an end that has derived these keys for this scheme
abbrev pub holding : ℕ → List ℕ → Derived
holding scheme keys = record { number = 0; node = 0; scheme = scheme; bytes = keys }

-- 1A and 1B
unfoldable pub exchange1 : ℕ → List ℕ → List ℕ → List ℕ → List ℕ → List ℕ → Outcome
exchange1 scheme reader card idm c3 random1 =
    let sent = making_1a scheme reader idm random1 16 in
    pair sent (making_1b scheme card idm c3 (reading_1a scheme card idm sent.bytes 16).bytes 16)

-- the random 2 that the reader reads, and 2A and 2B
unfoldable pub random2_read : ℕ → List ℕ → List ℕ → List ℕ → List ℕ → List ℕ → List ℕ
random2_read scheme reader card idm c3 random2 = (reading_2a scheme reader idm c3 (making_2a scheme card idm c3 random2 16).bytes 16).bytes

unfoldable pub exchange2 : ℕ → List ℕ → List ℕ → List ℕ → List ℕ → List ℕ → Outcome
exchange2 scheme reader card idm c3 random2 =
    pair (making_2a scheme card idm c3 random2 16) (making_2b scheme reader idm (random2_read scheme reader card idm c3 random2) 16)

-- a command under the reader's credentials, and a response frame under the card's
unfoldable pub conversation : ℕ → ℕ → ℕ → List ℕ → List ℕ → List ℕ → List ℕ → Outcome
conversation scheme code number id reader card payload = pair (sealing scheme reader code number id payload 256) (responding scheme card code number id payload 256)

-- the credentials of an end that goes by this random 2
unfoldable pub credentials_of : ℕ → List ℕ → List ℕ → List ℕ → List ℕ
credentials_of scheme key random2 c3 = choose (eqb scheme 1) key ((deriving_session_keys random2 32).bytes ++ c3)
