use mathlib.Core.Path.{◌≡◌, refl, sym, ap, ◌∙◌}
use mathlib.Core.Bool.{true, false}
use mathlib.Core.List.{List}
use Prim.Native.Nat.{ℕ, ◌+◌, ◌*◌}
use native.Mathlib.Omega.{arith}
use borrow.Author.Rules.{rules}
use borrow.Author.Tests.{ne_eqb, le-ltb, lt-ltb}
use lib.Dec.{eqb}
use lib.ListN.{get_or}
use Rattle.std.specs.Prelude.{Result, MatchResult, Err}
use Rattle.answer.specs.Tests.{either}
use Rattle.answer.specs.declared.refusal.Refusal.{Refusal}
use Rattle.answer.specs.declared.refusal.Refusal.TheVariants.{BadMarkOrLength}
use Rattle.session.specs.Record.{decode, is_session}
use Rattle.session.specs.declared.context.AuthenticatedContext.{AuthenticatedContext}
use Rattle.session.proofs.Encoding.{other_size, other_version, other_mark, by_count}
use Rattle.session.proofs.SessionSteps.{known_mark}
use Rattle.felica_secure.proofs.sessions.load.Goals as goal

-- a refusal, of bytes that are no session
no_session : (b : List ℕ) (e : Refusal) {r : Result AuthenticatedContext Refusal} → r ≡ Err e → false ≡ is_session b → e ≡ BadMarkOrLength
    → MatchResult r (λ s. (is_session b ≡ true) × (s ≡ decode b)) (λ f. (is_session b ≡ false) × (f ≡ BadMarkOrLength))
no_session b e q n h = rw q (sym n, h)

no_mark : (mark : ℕ) → (mark ≡ 1 → ⊥) → (mark ≡ 2 → ⊥) → either (eqb mark 1) (eqb mark 2) ≡ false
unfolding either
no_mark mark h g = rw (ne_eqb mark 1 h, ne_eqb mark 2 g)

pub returns-in_err-kept : goal.returns-in_err-kept
returns-in_err-kept c =
    let k = c.in_err-kept.ensures in
    no_session _ c.in_err-kept.field-0.0 (search rules) (other_size _ (search rules)) (search rules)

pub returns-then-other : goal.returns-then-other
returns-then-other c =
    let k = rw c.in_ok-kept.ensures.ok_part at c.as_array.ensures.cases in
    let v : get_or c.args.bytes.now 0 0 ≡ 2 → ⊥ = rw k.same at c.if-other.true in
    (sym (other_version _ k.long v), refl)

pub returns-in_err-try_from : goal.returns-in_err-try_from
returns-in_err-try_from c =
    let k = rw c.in_ok-kept.ensures.ok_part at c.as_array.ensures.cases in
    let m = rw k.same at c.in_err-try_from.ensures in
    no_session _ c.in_err-try_from.field-0.0 (search rules) (other_mark _ k.long (rw k.same at c.if-other.false) (no_mark _ m.1 m.2)) m.0

pub returns-then-from_le_bytes-gt64 : goal.returns-then-from_le_bytes-gt64
returns-then-from_le_bytes-gt64 c =
    let b = c.args.bytes.now in
    let k = rw c.in_ok-kept.ensures.ok_part at c.as_array.ensures.cases in
    let n : c.from_le_bytes.result ≡ get_or b 6 0 + get_or b 7 0 * 256 = rw k.same at c.from_le_bytes.ensures in
    (sym (by_count b k.long (rw k.same at c.if-other.false) (known_mark _ _ (rw k.same at c.in_ok-try_from.ensures)) _ n) ∙ le-ltb _ 65 (omega (arith, c.if-from_le_bytes-gt64.true)), refl)

pub returns : goal.returns
returns c =
    let b = c.args.bytes.now in
    let k = rw c.in_ok-kept.ensures.ok_part at c.as_array.ensures.cases in
    let n : c.from_le_bytes.result ≡ get_or b 6 0 + get_or b 7 0 * 256 = rw k.same at c.from_le_bytes.ensures in
    (sym (by_count b k.long (rw k.same at c.if-other.false) (known_mark _ _ (rw k.same at c.in_ok-try_from.ensures)) _ n) ∙ lt-ltb _ 65 (omega (arith, c.if-from_le_bytes-gt64.false)), c.decode.ensures ∙ ap decode k.same)
