use Rattle.std.proofs.Common.{refl, rules}
use Rattle.session.proofs.KeySearch.{length_chunks}
use Rattle.session.proofs.Searches.{unknown_algorithm_17, half_entry_17, too_many_1, search_passes, search_refused, search_accepted}
use Rattle.session.proofs.SessionSteps.{known_mark}
use Rattle.session.proofs.keys.search_key.Goals as goal

pub returns-in_err-scheme : goal.returns-in_err-scheme
returns-in_err-scheme c = search_refused _ _ _ _ _ (search rules) (unknown_algorithm_17 _ _ _ c.in_err-scheme.ensures)

pub returns-then-keys-ne0 : goal.returns-then-keys-ne0
returns-then-keys-ne0 c = search_refused _ _ _ _ _ refl (half_entry_17 _ _ c.if-keys-ne0.true)

pub returns-then-keys-gt128 : goal.returns-then-keys-gt128
returns-then-keys-gt128 c = search_refused _ _ _ _ _ refl (too_many_1 _ _ (known_mark _ _ c.in_ok-scheme.ensures) c.if-keys-ne0.false (rw (length_chunks _ _ c.from_keys-keys.ensures) at c.if-keys-gt128.true))

pub returns : goal.returns
returns c =
    search_accepted _ _ _ _ (rw (c.from_keys-keys.ensures, c.in_ok-scheme.ensures) at c.find_key.ensures)
    (search_passes _ _ (known_mark _ _ c.in_ok-scheme.ensures) c.if-keys-ne0.false (rw (length_chunks _ _ c.from_keys-keys.ensures) at c.if-keys-gt128.false))
