use Rattle.std.proofs.Common.{rules}
use Rattle.layers.proofs.Viewing.{shown-nested}
use Rattle.layers.proofs.views.viewed_by.Goals as goal

pub returns-clause-nested : goal.returns-clause-nested
returns-clause-nested g c = search (rules, shown-nested)
