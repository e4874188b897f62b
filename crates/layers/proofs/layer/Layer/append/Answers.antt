use Rattle.std.proofs.Common.{◌<◌, length, refl, arith, rules}
use Rattle.std.proofs.ByRecursion.{All-from_get_or}
use Rattle.std.proofs.lemmas.Grind.{common_steps}
use Rattle.layers.proofs.layer.Layer.append.Goals as goal

pub returns : goal.returns
returns g c =
    let key = c.args.key.now in
    let u = g.met.M.WayBack.undone c.args.self.now.map (length key) key (refl, All-from_get_or (λ b. b < 256) key 0 (λ i _. search (rules, c.type_inv.key i))) in
    grind (arith, common_steps)
