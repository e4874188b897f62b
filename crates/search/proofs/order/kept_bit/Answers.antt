use Rattle.std.proofs.Common.{◌-◌, sym, ◌∙◌, arith}
use Rattle.search.proofs.Turns.{kept_at}
use Rattle.search.proofs.order.kept_bit.Goals as goal

pub returns-in_default : goal.returns-in_default
returns-in_default c = c.bit_over.ensures ∙ sym (kept_at c.args.partial.length c.args.partial.bits (c.args.place - c.args.partial.offset) (c.args.partial.length - (c.args.place - c.from.result)) (omega arith) (omega arith))
