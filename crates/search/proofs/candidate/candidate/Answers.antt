use Rattle.std.proofs.Common.{◌≡◌, ◌+◌, ◌-◌, ◌<◌, ◌≤◌, length, get_or, take, drop, rules, sym, ap, ◌∙◌, arith}
use Rattle.std.proofs.lemmas.List.{get_or-drop, get_or-take, length-drop, length-take-le}
use Rattle.keys.specs.Bits.{bits}
use Rattle.nodes.specs.Trees.{no_entry}
use Rattle.nodes.specs.declared.node.Entry.{Entry}
use Rattle.search.specs.Parts.{parts_of}
use Rattle.search.specs.Placing.{candidate, candidate_of}
use Rattle.search.proofs.Bounds.{candidate_before}
use Rattle.search.proofs.Turns.{candidate_passed, candidate_skipped, candidate_taken}
use Rattle.search.proofs.candidate.candidate.Goals as goal
use Rattle.search.proofs.candidate.candidate.Goals.{else-is_looked_at, then-is_looked_at+else-bit-ge-LEAD, then-is_looked_at+then-bit-ge-LEAD}

pub loop-i-preserved : goal.loop-i-preserved
loop-i-preserved c =
    let s = bits c.args.key.now in
    let es = c.args.entries.now in
    let p = parts_of es in
    let f = c.args.low + 1 in
    let k = f + c.loop-i.i in
    let many : length (take (c.args.high - f) (drop f es)) ≡ c.args.high - f = length-take-le (c.args.high - f) (drop f es) (omega (arith, length-drop f es)) in
    let h : k < c.args.high = omega (arith, many) in
    let is : get_or (take (c.args.high - f) (drop f es)) c.loop-i.i no_entry ≡ get_or es k no_entry =
    get_or-take (c.args.high - f) (drop f es) c.loop-i.i no_entry (omega arith) ∙ get_or-drop f es c.loop-i.i no_entry in
    let own = ap (λ (e : Entry). s e.partial.offset) is in
    let next : f + (c.loop-i.i + 1) ≡ k + 1 = omega arith in
    elim c.if-is_looked_at.branch [
      | then-is_looked_at+then-bit-ge-LEAD w ↦
          let lead : 1 ≤ s (get_or (take (c.args.high - f) (drop f es)) c.loop-i.i no_entry).partial.offset = search rules in
          rw (w.chosen-is, w.passed-is, next)
          (c.loop-i.invariant ∙ candidate_taken s p c.args.high k c.loop-i.chosen c.loop-i.passed h (rw is at (sym w.if-is_looked_at.ensures)) (omega (arith, lead, own)))
      | then-is_looked_at+else-bit-ge-LEAD w ↦
          let below : s (get_or (take (c.args.high - f) (drop f es)) c.loop-i.i no_entry).partial.offset < 1 = search rules in
          rw (w.chosen-is, w.passed-is, next, is)
          (c.loop-i.invariant ∙ candidate_passed s p c.args.high k c.loop-i.chosen c.loop-i.passed h (rw is at (sym w.if-is_looked_at.ensures)) (omega (arith, below, own)))
      | else-is_looked_at w ↦
          rw (w.chosen-is, w.passed-is, next) (c.loop-i.invariant ∙ candidate_skipped s p c.args.high k c.loop-i.chosen c.loop-i.passed h (rw is at (sym w.if-is_looked_at.ensures)))
    ]

pub returns : goal.returns
returns c =
    let s = bits c.args.key.now in
    let es = c.args.entries.now in
    let p = parts_of es in
    let f = c.args.low + 1 in
    let k = f + c.loop-i.i in
    let many : length (take (c.args.high - f) (drop f es)) ≡ c.args.high - f = length-take-le (c.args.high - f) (drop f es) (omega (arith, length-drop f es)) in
    let z : c.args.high - k ≡ 0 = omega (arith, many) in
    let e : c.loop-i.chosen ≡ candidate_of s p c.args.low c.args.high = sym (c.loop-i.invariant ∙ ap (λ t. candidate s p t k c.loop-i.chosen c.loop-i.passed) z) in
    record { chosen = e; within = rw e (candidate_before s p c.args.low c.args.high (omega arith)) }
