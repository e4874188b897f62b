use Rattle.std.proofs.Common.{◌-◌, rules, arith}
use Rattle.std.proofs.lemmas.List.Edits.{map_over_more}
use Rattle.std.proofs.lemmas.Grind.{common_steps}
use Rattle.layers.proofs.Showing.{inverted-smaller}
use Rattle.layers.proofs.newest.InversionKeyMap.show.Goals as goal

pub loop-byte-preserved : goal.loop-byte-preserved
loop-byte-preserved c = search (rules, map_over_more (λ b. 255 - b))

pub returns-clause-reversed : goal.returns-clause-reversed
returns-clause-reversed c w other k o = grind (arith, common_steps, inverted-smaller c.args.key.now other)
