use Rattle.std.proofs.Common.{rules}
use Rattle.search.proofs.Scans.{down_found}
use Rattle.search.proofs.place.place_below.Goals as goal

pub returns-clause-placed : goal.returns-clause-placed
returns-clause-placed c = down_found c.args.entries.now c.args.offset c.args.candidate c.unwrap_or.result (search rules) (search rules) (search rules)
