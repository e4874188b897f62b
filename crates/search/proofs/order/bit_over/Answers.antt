use Rattle.std.proofs.Common.{◌≡◌, ◌/◌, ◌%◌, ◌^◌, ◌∙◌, ap, arith}
use Rattle.keys.proofs.Places.{lowest_bit}
use Rattle.search.proofs.Turns.{none_over}
use Rattle.search.proofs.order.bit_over.Goals as goal

pub returns : goal.returns
returns c =
    let e : c.unwrap_or.result ≡ c.args.number / 2 ^ c.args.below = grind (arith, none_over) in
    lowest_bit _ ∙ ap (λ x. x % 2) e
