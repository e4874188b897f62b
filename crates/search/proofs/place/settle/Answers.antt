use Rattle.std.proofs.Common.{◌≡◌, suc, ◌-◌, ◌∙◌, arith}
use Rattle.std.proofs.lemmas.Grind.{common_steps}
use Rattle.search.specs.Parts.{parts_of}
use Rattle.search.specs.Placing.{upward}
use Rattle.search.proofs.Bounds.{upward_upto}
use Rattle.search.proofs.Scans.{up_in_front}
use Rattle.search.proofs.place.settle.Goals as goal

pub returns-in-Greater : goal.returns-in-Greater
returns-in-Greater c =
    let p = parts_of c.args.entries.now in
    let d = c.in-Greater.offset in
    let high = c.args.high in
    let from = suc c.args.candidate in
    let up : c.place_above.result ≡ upward p d (high - from) from = c.place_above.ensures ∙ up_in_front c.args.entries.now d c.args.candidate high (omega arith) (omega arith) in
    let upto = upward_upto p d (high - from) from in
    record {
      placed = rw c.in-Greater.is (grind (arith, common_steps));
      within = grind (arith, common_steps);
      offset = λ m each u. rw c.in-Greater.is at u;
    }
