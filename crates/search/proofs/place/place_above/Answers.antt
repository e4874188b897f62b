use Rattle.std.proofs.Common.{rules, ◌≡◌, ◌+◌, ◌∙◌, ap, length}
use borrow.Author.Tests.{tests}
use Rattle.std.proofs.lemmas.Iterator.{YieldsList-from_slice}
use Rattle.std.proofs.lemmas.Iterator.Search.{position_from_yields_List}
use Rattle.std.specs.Option.{option_map_or}
use Rattle.search.proofs.Scans.{offset_upto, up_found}
use Rattle.search.proofs.place.place_above.Goals as goal

pub returns : goal.returns
returns c =
    let found = position_from_yields_List (offset_upto c.args.offset) _ _ c.position.result c.position.ensures.ran (YieldsList-from_slice _ c.iter.ensures.rest) (λ x b q k. search (rules, tests)) in
    let m : c.map_or.result ≡ option_map_or (λ n. c.args.candidate + 1 + n) c.position.result (length c.args.entries.now) = search rules in
    m ∙ ap (λ r. option_map_or (λ n. c.args.candidate + 1 + n) r (length c.args.entries.now)) found ∙ up_found c.args.entries.now c.args.offset c.args.candidate c.requires
