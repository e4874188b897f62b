use Rattle.descent.proofs.Filling.{add_past, add-put}
use Rattle.descent.proofs.walk.put_record.Goals as goal

pub returns-then-count-list : goal.returns-then-count-list
returns-then-count-list c = add-put c.args.list.now c.args.so_far c.args.number c.if-count-list.true

pub returns-else-count-list : goal.returns-else-count-list
returns-else-count-list c = add_past c.args.list.now c.args.so_far c.args.number c.if-count-list.false
