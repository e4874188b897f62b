use Rattle.parts.proofs.Ordering.{written_in_order}
use Rattle.parts.proofs.part.write_key.Goals as goal

pub returns-clause-law : goal.returns-clause-law
returns-clause-law g c =
    let p = g.P.Part in
    written_in_order p.size p.rank p.less p.lawful c.args.part.now c.args.buffer.now c.write.new.buffer c.write.result c.write.ensures
