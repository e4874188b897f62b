use Rattle.std.proofs.Common.{rules, sym, ap, ◌∙◌, arith}
use Rattle.keys.specs.Bits.{bits}
use Rattle.search.specs.declared.order.Order.TheVariants.{Open}
use Rattle.search.proofs.Turns.{turn_end, turn_greater, turn_less, turn_on}
use Rattle.search.proofs.order.against_kept.Goals as goal

pub returns-in-Less : goal.returns-in-Less
returns-in-Less c = sym (c.loop-place.invariant ∙
    turn_less (bits c.args.key.now) _ _ _ _ _ _ c.bit.ensures.value c.kept_bit.ensures (omega arith) (omega arith) (search rules))

pub returns-in-Greater : goal.returns-in-Greater
returns-in-Greater c = sym (c.loop-place.invariant ∙
    turn_greater (bits c.args.key.now) _ _ _ _ _ _ c.bit.ensures.value c.kept_bit.ensures (omega arith) (omega arith) (search rules))

pub loop-place-preserved : goal.loop-place-preserved
loop-place-preserved c = c.loop-place.invariant ∙
    turn_on (bits c.args.key.now) _ _ _ _ _ _ c.bit.ensures.value c.kept_bit.ensures (omega arith) (omega arith) (search rules)

pub returns : goal.returns
returns c = ap Open (omega arith) ∙ sym (c.loop-place.invariant ∙ turn_end (bits c.args.key.now) c.args.partial.offset c.args.partial.length c.args.partial.bits c.loop-place.place (omega arith))
