use Rattle.std.proofs.Common.{rules}
use Rattle.stores.specs.PocketLaw.{length_rows}
use Rattle.stores.proofs.pocket.PocketReadingStore.held.Goals as goal

pub returns : goal.returns
returns c = search (rules, length_rows)
