use Rattle.std.proofs.Common.{◌≡◌, ◌+◌, take, drop, arith}
use Rattle.std.specs.List.{insert}
use Rattle.std.proofs.lemmas.Grind.{common_steps}
use Rattle.std.proofs.lemmas.List.Edits.{length-insert}
use Rattle.std.proofs.lemmas.List.{length-drop, take_all}
use Rattle.growth.proofs.split.split_in.Goals as goal

pub returns-clause-right : goal.returns-clause-right
returns-clause-right c =
    let w = c.new-wide.result in
    let is = c.new-wide.ensures in
    let le = length-insert c.args.n.now.entries c.args.i c.args.e (omega (arith, c.requires.place, is.long)) in
    let lc = length-insert c.args.n.now.children (c.args.i + 1) c.args.link (omega (arith, c.requires.place, is.long)) in
    let re : take 3 (drop 5 w.entries) ≡ drop 5 w.entries = take_all 3 (drop 5 w.entries) (rw is.entries (omega (arith, length-drop 5 (insert c.args.n.now.entries c.args.i c.args.e)))) in
    let rc : take 4 (drop 5 w.links) ≡ drop 5 w.links = take_all 4 (drop 5 w.links) (rw is.links (omega (arith, length-drop 5 (insert c.args.n.now.children (c.args.i + 1) c.args.link)))) in
    grind (arith, common_steps)
