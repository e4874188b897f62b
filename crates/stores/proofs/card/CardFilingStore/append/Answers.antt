use Rattle.std.proofs.Common.{◌≡◌, ◌+◌, ◌*◌, ◌≤◌, length, vec_items, arith, rules}
use Rattle.std.proofs.lemmas.Grind.{common_steps}
use Rattle.stores.specs.CardLaw.{ends_within, length_keys}
use Rattle.stores.specs.Cards.{card_of}
use Rattle.stores.proofs.Filing.{card_put}
use Rattle.stores.proofs.card.CardFilingStore.append.Goals as goal

pub returns-in_err-check_append-clause-appended : goal.returns-in_err-check_append-clause-appended
returns-in_err-check_append-clause-appended c =
    let s = c.args.self.now in
    let h = c.in_err-check_append.ensures (card_of s.width (vec_items s.bytes) s.count s.tally) in
    grind (arith, common_steps, length_keys)

pub returns-clause-appended : goal.returns-clause-appended
returns-clause-appended c =
    let s = c.args.self.now in
    let key = c.args.key.now in
    let h : s.count * s.width + s.width ≤ length (vec_items s.bytes) = ends_within s.width (length (vec_items s.bytes)) (s.count + 1) s.count (omega arith) (omega arith) in
    let l : length key ≡ s.width = omega arith in
    (l, search (rules, length_keys), search (rules, length_keys), card_put s.width (vec_items s.bytes) key _ s.count l h (grind (arith, common_steps)) s.tally)
