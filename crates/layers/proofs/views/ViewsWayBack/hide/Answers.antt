use Rattle.std.proofs.Common.{rules}
use Rattle.layers.proofs.Viewing.{hidden_last}
use Rattle.layers.proofs.views.ViewsWayBack.hide.Goals as goal

pub loop-last-preserved : goal.loop-last-preserved
loop-last-preserved c = search (rules, hidden_last)
