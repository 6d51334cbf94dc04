use mathlib.Core.Path.{◌≡◌, refl, ap, ◌∙◌}
use native.Mathlib.Omega.{arith}
use borrow.Author.Rules.{rules}
use mathlib.Core.List.{List, ◌∷◌}
use lib.Dec.{lit≤}
use Prim.Native.Nat.{ℕ, ◌≤◌, ◌<◌}
use lib.ListN.{length, take, drop, replicate}
use Rattle.answer.proofs.Pieces.{reaches}
use Rattle.frame.proofs.AesSeals.{with_part}
use Rattle.session.specs.Record.{decode, context_of}
use Rattle.session.proofs.Encoding.{decode_encode, head_placed, parts_placed}
use Rattle.session.proofs.context.AuthenticatedContext.encode.Goals as goal

-- the numbers, ID and credentials came back as long as they were
past_numbers : (e : ℕ) (b n c l : List ℕ) → length n ≡ length (take 2 (drop 2 b)) → length c ≡ length (take 2 (drop 4 (with_part b 2 2 n))) → length l ≡ length (take 2 (drop 6 (with_part (with_part b 2 2 n) 4 2 c)))
    → e ≤ length b → e ≤ length (with_part (with_part (with_part b 2 2 n) 4 2 c) 6 2 l)
past_numbers e b n c l i k m h = reaches (with_part (with_part b 2 2 n) 4 2 c) l 6 2 e m (reaches (with_part b 2 2 n) c 4 2 e k (reaches b n 2 2 e i h))

past_credentials : (e : ℕ) (b id credentials : List ℕ) → length id ≡ length (take 6 (drop 8 b)) → length credentials ≡ length (take 36 (drop 14 (with_part b 8 6 id))) → e ≤ length b
    → e ≤ length (with_part (with_part b 8 6 id) 14 36 credentials)
past_credentials e b id credentials i k n = reaches (with_part b 8 6 id) credentials 14 36 e k (reaches b id 8 6 e i n)

pub slice_bounds-bytes-end-6 : goal.slice_bounds-bytes-end-6
slice_bounds-bytes-end-6 c =
    let b = 2 ∷ c.args.self.scheme ∷ drop 2 (replicate 180 0) in
    let n : 178 ≤ length b = lit≤ tt in
    let w = with_part (with_part (with_part b 2 2 c.copy_from_slice.new.self) 4 2 c.copy_from_slice-2.new.self) 6 2 c.copy_from_slice-3.new.self in
    past_credentials 178 w c.copy_from_slice-4.new.self c.copy_from_slice-5.new.self c.copy_from_slice-4.auto.self c.copy_from_slice-5.auto.self
    (past_numbers 178 b c.copy_from_slice.new.self c.copy_from_slice-2.new.self c.copy_from_slice-3.new.self c.copy_from_slice.auto.self c.copy_from_slice-2.auto.self c.copy_from_slice-3.auto.self n)

pub slice_bounds-bytes-end-7 : goal.slice_bounds-bytes-end-7
slice_bounds-bytes-end-7 c =
    let b = 2 ∷ c.args.self.scheme ∷ drop 2 (replicate 180 0) in
    let n : 180 ≤ length b = lit≤ tt in
    let w = with_part (with_part (with_part b 2 2 c.copy_from_slice.new.self) 4 2 c.copy_from_slice-2.new.self) 6 2 c.copy_from_slice-3.new.self in
    reaches (with_part (with_part w 8 6 c.copy_from_slice-4.new.self) 14 36 c.copy_from_slice-5.new.self) c.copy_from_slice-6.new.self 50 128 180 c.copy_from_slice-6.auto.self
    (past_credentials 180 w c.copy_from_slice-4.new.self c.copy_from_slice-5.new.self c.copy_from_slice-4.auto.self c.copy_from_slice-5.auto.self
    (past_numbers 180 b c.copy_from_slice.new.self c.copy_from_slice-2.new.self c.copy_from_slice-3.new.self c.copy_from_slice.auto.self c.copy_from_slice-2.auto.self c.copy_from_slice-3.auto.self n))

pub returns : goal.returns
unfolding context_of
returns c =
    let s = c.args.self in
    let h = head_placed s.scheme s.transaction_number s.ceiling s.node_count s.turned_away s.transaction_id s.credentials s.nodes (omega arith) (omega arith) (omega arith)
    _ _ c.copy_from_slice.new.self _ c.copy_from_slice-2.new.self _ c.copy_from_slice-3.new.self
    refl refl (c.copy_from_slice.ensures.after ∙ c.to_le_bytes.ensures) refl (c.copy_from_slice-2.ensures.after ∙ c.to_le_bytes-2.ensures) refl (c.copy_from_slice-3.ensures.after ∙ c.to_le_bytes-3.ensures) in
    let e = parts_placed s.scheme s.transaction_number s.ceiling s.node_count s.turned_away s.transaction_id s.credentials s.nodes (omega arith) (omega arith) (omega arith)
    _ _ c.copy_from_slice-4.new.self _ c.copy_from_slice-5.new.self _ c.copy_from_slice-6.new.self _ c.copy_from_slice-7.new.self
    refl h c.copy_from_slice-4.ensures.after refl c.copy_from_slice-5.ensures.after refl c.copy_from_slice-6.ensures.after refl (c.copy_from_slice-7.ensures.after ∙ c.to_le_bytes-4.ensures) in
    let n : s.transaction_number < 65536 = search rules in
    let m : s.ceiling < 65536 = search rules in
    let k : s.node_count < 65536 = search rules in
    let t : s.turned_away < 65536 = search rules in
    (e, ap decode e ∙ decode_encode s.scheme s.transaction_number s.ceiling s.node_count s.turned_away s.transaction_id s.credentials s.nodes (omega arith) (omega arith) (omega arith) n m k t)
