use Rattle.std.proofs.Common.{◌≡◌, ◌+◌, ◌-◌, ◌++◌, length, get_or, take, drop, replicate, sym, ap, ◌∙◌, arith}
use Rattle.std.proofs.lemmas.List.{get_or_read}
use Rattle.growth.proofs.Shifting.{fill_end, fill_step, part_back, part_front, part_long}
use Rattle.growth.proofs.shift.copy_part.Goals as goal
use Rattle.growth.proofs.shift.copy_part.Goals.{then-k-n, else-k-n}

pub loop-k-preserved : goal.loop-k-preserved
loop-k-preserved g c =
    let m = length c.args.out.now in
    let goal = take c.args.n (drop c.args.from c.args.src.now) ++ replicate (m - c.args.n) c.args.pad in
    let long : length goal ≡ m = part_long c.args.src.now c.args.from c.args.n m c.args.pad c.requires.within c.requires.room in
    let is : c.if-k-n.place ≡ get_or goal c.loop-k.k c.args.pad =
    elim c.if-k-n.branch [
      | then-k-n w ↦ w.place-is ∙ (get_or_read c.args.src.now _ w.index-src-from.result (omega (arith, w.if-k-n.true, c.requires.within)) w.index-src-from.is c.args.pad ∙ ap (λ j. get_or c.args.src.now j c.args.pad) (omega (arith, w.if-k-n.true)) ∙ sym (part_front c.args.src.now c.args.from c.args.n m c.args.pad c.requires.within c.loop-k.k c.args.pad w.if-k-n.true))
      | else-k-n w ↦ w.place-is ∙ sym (part_back c.args.src.now c.args.from c.args.n m c.args.pad c.requires.within c.loop-k.k c.args.pad w.if-k-n.false c.loop-k-test.true)
    ] in
    fill_step c.loop-k.out goal c.loop-k.k c.if-k-n.place c.args.pad (omega arith) (omega arith) c.loop-k.invariant is

pub returns : goal.returns
returns g c =
    let n = part_long c.args.src.now c.args.from c.args.n (length c.args.out.now) c.args.pad c.requires.within c.requires.room in
    fill_end c.loop-k.out (take c.args.n (drop c.args.from c.args.src.now) ++ replicate (length c.args.out.now - c.args.n) c.args.pad) c.loop-k.k (omega arith) (omega arith) c.loop-k.invariant
