use Rattle.std.proofs.Common.{◌≡◌, ◌+◌, ◌≤◌, length, arith}
use Rattle.parts.proofs.Joining.{pair_written}
use Rattle.parts.proofs.pair.PairPart.write.Goals as goal

pub returns : goal.returns
returns g c =
    let a = g.A.Part in let b = g.B.Part in
    let le : a.size + b.size ≤ 32 = omega (arith, c.width-w.ensures, c.width.ensures) in
    let l : length c.args.buffer.now ≡ a.size + b.size = omega (arith, c.width-w.ensures, c.width.ensures) in
    let n : length c.split_at_mut-front.result.1.now ≡ b.size = omega (arith, c.width-w.ensures, c.split_at_mut-front.ensures.back_len) in
    pair_written a.size b.size _ _ _ _ _ _ c.write-2.result le l (b.lawful.ranked c.args.self.now.second) n c.in_ok-write.ensures.2 c.write-2.ensures
