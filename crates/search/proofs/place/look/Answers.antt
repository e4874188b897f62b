use Rattle.std.proofs.Common.{◌≡◌, ℕ, ◌*◌, ◌≤◌, List, length, sym, ap, ◌∙◌, subst, arith}
use Rattle.keys.specs.Bits.{bits}
use Rattle.keys.specs.Digits.{Above, Digits}
use Rattle.nodes.specs.declared.node.Entry.{Entry}
use Rattle.search.specs.NodeLaw.{LeadsRight, StepInNode, StepsUpto}
use Rattle.search.specs.Parts.{TrueNode, parts_of}
use Rattle.search.specs.Placing.{looked, step_after}
use Rattle.search.specs.declared.place.Step.{Step}
use Rattle.search.specs.declared.place.Step.TheVariants.{Ask, Known}
use Rattle.search.proofs.Bounds.{looked_within}
use Rattle.search.proofs.NodeRight.{look_right}
use Rattle.search.proofs.Reach.{looked_upto}
use Rattle.search.proofs.Turns.{looks_asks, looks_known}
use Rattle.search.proofs.place.look.Goals as goal

-- a step that is the look's is all that the contract says
known : (es : List Entry) (key : List ℕ) (o : ℕ) (r : Step) → length key ≤ 32 → r ≡ looked (bits key) (parts_of es) (length es) o → record {
  step : r ≡ looked (bits key) (parts_of es) (length es) o;
  within : StepInNode (length es) r;
  offset : o ≤ 8 * length key → StepsUpto (8 * length key) r;
  law : (n : ℕ) (k : ℕ → Digits) → TrueNode (length es) k (parts_of es) → Above (bits key) (k 0) o → LeadsRight n (length es) k (parts_of es) (bits key) r;
}
known es key o r l e = record {
  step = e;
  within = subst (StepInNode (length es)) (sym e) (looked_within (bits key) (parts_of es) (length es) o);
  offset = λ u. subst (StepsUpto (8 * length key)) (sym e) (looked_upto key (8 * length key) (omega arith) (parts_of es) (length es) o u);
  law = λ n k t a. subst (LeadsRight n (length es) k (parts_of es) (bits key)) (sym e) (look_right n (length es) o k (parts_of es) (bits key) t a);
}

pub returns-then-found : goal.returns-then-found
returns-then-found c =
    let s = bits c.args.key.now in
    let p = parts_of c.args.entries.now in
    let w = c.sweep-found.result in
    known c.args.entries.now c.args.key.now c.args.offset (Ask w.high c.candidate.result) c.requires
    (ap (Ask w.high) c.candidate.ensures.chosen ∙ (looks_asks s p w c.if-found.true ∙ ap (step_after s p) c.sweep-found.ensures.found))

pub returns : goal.returns
returns c =
    let s = bits c.args.key.now in
    let p = parts_of c.args.entries.now in
    let w = c.sweep-found.result in
    known c.args.entries.now c.args.key.now c.args.offset (Known w.low w.offset) c.requires
    (looks_known s p w c.if-found.false ∙ ap (step_after s p) c.sweep-found.ensures.found)
