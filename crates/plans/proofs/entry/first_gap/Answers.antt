use Rattle.std.proofs.Common.{◌≡◌, None, ◌∙◌}
use Rattle.std.specs.Option.{MatchOption}
use Rattle.keys.specs.Comparing.{offset_of}
use Rattle.plans.proofs.Stepping.{gap_told}
use Rattle.plans.proofs.entry.first_gap.Goals as goal

pub returns : goal.returns
returns c =
    let told : MatchOption c.compare.result (c.and_then.result ≡ None) (λ x. c.and_then.result ≡ offset_of x) = c.and_then.ensures in
    c.unwrap_or.ensures ∙ gap_told c.args.key.now c.args.other.now c.compare.result c.and_then.result c.requires c.compare.ensures told
