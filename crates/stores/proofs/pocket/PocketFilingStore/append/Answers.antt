use Rattle.std.proofs.Common.{arith, vec_items}
use Rattle.std.proofs.lemmas.Grind.{common_steps}
use Rattle.stores.specs.Pockets.{pocket_of}
use Rattle.stores.proofs.pocket.PocketFilingStore.append.Goals as goal

pub returns-in_err-check_append : goal.returns-in_err-check_append
returns-in_err-check_append c =
    let s = c.args.self.now in
    let h = c.in_err-check_append.ensures (pocket_of s.width (vec_items s.table.rows) s.count s.tally) in
    grind (arith, common_steps)
