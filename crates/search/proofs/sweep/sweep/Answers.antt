use Rattle.std.proofs.Common.{◌<◌, ◌≤◌, ◌∷◌, length, sym, ◌∙◌, subst, arith}
use Rattle.keys.specs.Bits.{bits}
use Rattle.search.specs.Parts.{parts_of}
use Rattle.search.proofs.Bounds.{Within, swept_within}
use Rattle.search.proofs.Reach.{Upto, step_upto}
use Rattle.search.proofs.Turns.{sweep_end, sweep_greater, sweep_open, sweep_stop}
use Rattle.search.proofs.sweep.sweep.Goals as goal
use Rattle.search.proofs.sweep.sweep.Goals.{in-Greater, in-Open}

pub overflow_cast-nearest : goal.overflow_cast-nearest
overflow_cast-nearest c =
    let p = parts_of c.args.entries.now in
    let i = c.loop-i.i in
    let h : c.in-Greater.known ≤ 65535 =
    subst (Upto 65535) (sym c.in-Greater.ensures) (step_upto c.args.key.now 65535 (omega (arith, c.requires)) c.loop-i.order (p.offset i) (p.lead i ∷ p.rest i) c.loop-i.invariant.1) in
    omega arith

pub returns-in-Less : goal.returns-in-Less
returns-in-Less c =
    let s = bits c.args.key.now in
    let p = parts_of c.args.entries.now in
    let n = length c.args.entries.now in
    let lt : c.loop-i.i < n = omega arith in
    let e = sym (c.loop-i.invariant.0 ∙ sweep_stop s p n c.loop-i.i c.loop-i.low c.loop-i.nearest c.loop-i.order lt c.in-Less.field-0 (sym c.in-Less.ensures)) in
    let w = subst (Within n) (sym e) (swept_within s p n c.args.offset) in
    record { found = e; within = (w.ends, w.upto) }

pub loop-i-preserved : goal.loop-i-preserved
loop-i-preserved c =
    let s = bits c.args.key.now in
    let p = parts_of c.args.entries.now in
    let n = length c.args.entries.now in
    let i = c.loop-i.i in
    let lt : i < n = omega arith in
    let upto = step_upto c.args.key.now 65535 (omega (arith, c.requires)) c.loop-i.order (p.offset i) (p.lead i ∷ p.rest i) c.loop-i.invariant.1 in
    elim c.match-order.branch [
      | in-Greater w ↦
          let e = sweep_greater s p n i c.loop-i.low c.loop-i.nearest c.loop-i.order lt w.in-Greater.known (sym w.in-Greater.ensures) in
          (cc, subst (Upto 65535) (cc) upto)
      | in-Open w ↦
          let e = sweep_open s p n i c.loop-i.low c.loop-i.nearest c.loop-i.order lt w.in-Open.field-0 (sym w.in-Open.ensures) in
          (cc, subst (Upto 65535) (cc) upto)
    ]

pub returns : goal.returns
returns c =
    let s = bits c.args.key.now in
    let p = parts_of c.args.entries.now in
    let n = length c.args.entries.now in
    let e = sym (c.loop-i.invariant.0 ∙ sweep_end s p n c.loop-i.i c.loop-i.low c.loop-i.nearest c.loop-i.order (omega arith)) in
    let w = subst (Within n) (sym e) (swept_within s p n c.args.offset) in
    record { found = e; within = (w.ends, w.upto) }
