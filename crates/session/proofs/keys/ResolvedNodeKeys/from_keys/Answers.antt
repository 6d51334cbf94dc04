use Rattle.std.proofs.Common.{◌∙◌, ap, map}
use Rattle.session.specs.Entries.{entry_of}
use Rattle.session.proofs.KeySearch.{chunks_entries}
use Rattle.session.proofs.keys.ResolvedNodeKeys.from_keys.Goals as goal

pub returns : goal.returns
returns c = ap (map entry_of) c.as_chunks.ensures.front ∙ chunks_entries c.args.keys.now
