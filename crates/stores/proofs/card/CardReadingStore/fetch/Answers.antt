use Rattle.std.proofs.Common.{arith, rules, vec_items}
use Rattle.std.proofs.lemmas.Grind.{common_steps}
use Rattle.stores.specs.CardLaw.{getD_keys, length_keys}
use Rattle.stores.specs.Cards.{card_of}
use Rattle.stores.proofs.card.CardReadingStore.fetch.Goals as goal

pub returns-in_err-check_fetch-clause-fetched : goal.returns-in_err-check_fetch-clause-fetched
returns-in_err-check_fetch-clause-fetched c =
    let s = c.args.self.now in
    let h = c.in_err-check_fetch.ensures (card_of s.width (vec_items s.bytes) s.count s.tally) in
    grind (arith, common_steps, length_keys)

pub returns-clause-fetched : goal.returns-clause-fetched
returns-clause-fetched c = search (rules, length_keys, getD_keys)
