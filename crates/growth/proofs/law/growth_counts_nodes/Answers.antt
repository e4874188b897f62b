use Rattle.growth.proofs.Sizing.{nodes_counted}
use Rattle.growth.proofs.law.growth_counts_nodes.Goals as goal

pub returns : goal.returns
returns c = nodes_counted
