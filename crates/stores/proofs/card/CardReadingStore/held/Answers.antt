use Rattle.std.proofs.Common.{rules}
use Rattle.stores.specs.CardLaw.{length_keys}
use Rattle.stores.proofs.card.CardReadingStore.held.Goals as goal

pub returns : goal.returns
returns c = search (rules, length_keys)
