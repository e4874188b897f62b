use Rattle.std.proofs.Common.{ap, sym, ◌∙◌, rules, tests}
use Rattle.std.proofs.lemmas.Iterator.{YieldsList-from_map, YieldsList-from_slice}
use Rattle.std.proofs.lemmas.Iterator.Adapters.{option_map_id}
use Rattle.std.proofs.lemmas.Iterator.Consumers.{min_from_yields_List}
use Rattle.std.specs.Option.{unwrap_or}
use Rattle.nodes.specs.declared.node.Entry.{Entry}
use Rattle.plans.proofs.Stepping.{least_picked}
use Rattle.plans.proofs.step.least_of.Goals as goal

pub returns : goal.returns
returns c =
    let m = sym (option_map_id c.min.result) ∙ min_from_yields_List c.map.result c.min.result c.min.ensures.ran (YieldsList-from_map _ (λ (e : Entry). e.partial.offset) (YieldsList-from_slice c.args.entries.now cc) c.map.ensures.closure (λ x r q k. search (rules, tests))) in
    c.unwrap_or.ensures ∙ (ap (λ z. unwrap_or z 0) m ∙ least_picked c.args.entries.now)
