use Rattle.std.proofs.Common.{refl, sym, rules, ◌∙◌}
use Rattle.session.proofs.Gathering.{met_some, met_within, needed_found, lacks_other, lacks_key}
use Rattle.session.proofs.keys.ResolvedNodeKeys.require.Goals as goal

pub overflow_sub-key : goal.overflow_sub-key
overflow_sub-key c =
    let f = c.find_key-search.ensures in
    met_some _ _ _ _ (sym c.if-search.true ∙ f.0) f.1

pub bounds-self-search : goal.bounds-self-search
bounds-self-search c =
    let f = c.find_key-search.ensures in
    met_within _ _ _ _ (sym c.if-search.true ∙ f.0) f.1

pub returns-then-search : goal.returns-then-search
returns-then-search c =
    let f = c.find_key-search.ensures in
    needed_found _ _ _ _ (sym c.if-search.true ∙ f.0) f.1 _ c.key_length.ensures.0 _ refl (search rules)

pub returns-then-has : goal.returns-then-has
returns-then-has c = lacks_other _ _ _ _ c.other_scheme.ensures (sym c.find_key-search.ensures.0 ∙ c.if-search.false) _ c.has.ensures c.if-has.true

pub returns-else-has : goal.returns-else-has
returns-else-has c = lacks_key _ _ _ _ c.other_scheme.ensures (sym c.find_key-search.ensures.0 ∙ c.if-search.false) _ c.has.ensures c.if-has.false

pub offset_bounds-self-search : goal.offset_bounds-self-search
offset_bounds-self-search c =
    let f = c.find_key-search.ensures in
    let b = met_within _ _ _ _ (sym c.if-search.true ∙ f.0) f.1 in
    search rules
