use Rattle.std.proofs.Common.{◌∙◌, arith}
use Rattle.keys.proofs.Lexical.{tells_equal, tells_greater, tells_less}
use Rattle.keys.proofs.comparison.compare.Goals as goal

pub returns-in_default : goal.returns-in_default
returns-in_default c = tells_equal _ _ c.type_inv.key c.type_inv.other (omega arith, omega arith, omega arith) c.in_default.ensures.equal

pub returns-then-x-y : goal.returns-then-x-y
returns-then-x-y c =
    tells_greater _ _ c.type_inv.key c.type_inv.other (omega arith, omega arith, omega arith) c.in-Some.i c.in-Some.ensures.parts _ (c.from.ensures ∙ c.leading_zeros.ensures) c.if-x-y.true

pub returns-else-x-y : goal.returns-else-x-y
returns-else-x-y c =
    tells_less _ _ c.type_inv.key c.type_inv.other (omega arith, omega arith, omega arith) c.in-Some.i c.in-Some.ensures.parts _ (c.from.ensures ∙ c.leading_zeros.ensures)
    (omega (arith, c.in-Some.ensures.parts.differ))
