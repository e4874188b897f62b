use Rattle.std.proofs.Common.{rules, ◌≡◌, ◌-◌, take}
use Rattle.std.specs.Option.{option_copied, option_map, option_or}
use Rattle.std.specs.List.{slice_get}
use Rattle.nodes.specs.declared.node.Entry.{Entry}
use Rattle.search.proofs.Sides.{under_of}
use Rattle.search.proofs.neighbour.record_under.Goals as goal

pub returns : goal.returns
returns c =
    let m : c.or.result ≡ option_or (option_map (λ (e : Entry). e.number) (option_copied c.last.result)) c.args.before = search rules in
    let g : option_copied c.last.result ≡ slice_get (take c.args.place c.args.entries.now) (c.args.place - 1) = search rules in
    let u = under_of c.args.place c.args.before c.args.entries.now c.requires in cc
