use Rattle.std.proofs.Common.{◌≡◌, ℕ, ◌<◌, Result, length, get_or, replicate, sym, ap, ◌∙◌, rules, tests, arith}
use Rattle.std.proofs.lemmas.List.{length-take-le}
use Rattle.std.specs.Result.{is_ok}
use Rattle.nodes.specs.Faith.{made}
use Rattle.nodes.specs.Trees.{no_entry}
use Rattle.nodes.specs.declared.node.Entry.{Entry}
use Rattle.plans.proofs.Stepping.{entry-made, gap_made, nexted_kept, nexted_lost, nexted_new, nexted_past}
use Rattle.plans.proofs.step.following.Goals as goal
use Rattle.plans.proofs.step.following.Goals.{In-Some}
use Rattle.plans.proofs.step.following.Given as given
use Rattle.plans.specs.Steps.{Nexted}
use Rattle.search.specs.TreeLaw.{view_of}
use Rattle.store.proofs.Fetching.{fetch_refused, fetched_err, fetched_ok, passed_up}
use Rattle.store.specs.declared.reading.Missing.{Missing}

-- the entry that is there
there : (g : given.Over) (c : In-Some g) → (c.args.i < length c.args.entries.now) × (c.in-Some.field-0.now ≡ get_or c.args.entries.now c.args.i no_entry)
there g c = (search rules, search rules)

pub returns-in_default : goal.returns-in_default
returns-in_default g c =
    nexted_past c.args.shape.partial (g.S.ReadingStore.meaning c.args.store.now) c.args.up.number c.args.up.offset c.args.i c.args.entries.now no_entry (g.S.ReadingStore.lawful c.args.store.now).wraps (search rules)

pub returns-then-entry-up : goal.returns-then-entry-up
returns-then-entry-up g c =
    let at = there g (goal.at.returns-then-entry-up g c).In-Some in
    nexted_kept c.args.shape.partial (g.S.ReadingStore.meaning c.args.store.now) c.args.up.number c.args.up.offset c.args.i c.args.entries.now c.in-Some.field-0.now (g.S.ReadingStore.lawful c.args.store.now).wraps at.0 at.1 c.if-entry-up.true

pub returns-in_err-map_err : goal.returns-in_err-map_err
returns-in_err-map_err g c =
    let at = there g (goal.at.returns-in_err-map_err g c).In-Some in
    let m = g.S.ReadingStore.meaning c.args.store.now in
    let law = g.S.ReadingStore.lawful c.args.store.now in
    let e = c.in-Some.field-0.now in
    let f = fetched_err _ _ _ _ c.fetch.result _ _ (sym c.map_err.ensures.variant ∙ ap is_ok c.in_err-map_err.was) c.fetch.ensures in
    let fits = length-take-le (length c.args.key.now) (replicate {A = ℕ} 32 0) (omega (arith, c.requires.wide, law.widest)) ∙ c.requires.wide in
    let missing : c.in_err-map_err.field-0.0 ≡ record { number = e.number } = search (rules, tests) in
    passed_up (λ (z : Result Entry Missing). Nexted c.args.shape.partial m c.args.up.number c.args.up.offset c.args.i c.args.entries.now z (g.S.ReadingStore.meaning c.fetch.new.self)) c.from_residual.result (record { number = e.number }) (rw missing at c.from_residual.ensures.1)
    (nexted_lost c.args.shape.partial m c.args.up.number c.args.up.offset c.args.i c.args.entries.now e (g.S.ReadingStore.meaning c.fetch.new.self)
    law.wraps at.0 at.1 c.if-entry-up.false (fetch_refused m e.number _ f.refusal fits f.ground) (ap g.S.ReadingStore.meaning f.unchanged))

pub returns : goal.returns
returns g c =
    let at = there g (goal.at.returns g c).In-Some in
    let m = g.S.ReadingStore.meaning c.args.store.now in
    let e = c.in-Some.field-0.now in
    let f = fetched_ok _ _ _ _ c.fetch.result _ _ (sym c.map_err.ensures.variant ∙ ap is_ok c.in_ok-map_err.was) c.fetch.ensures in
    let other = c.fetch.new.buffer in
    let gap = gap_made m c.args.up.number e.number c.first_gap-offset.result c.args.key.now other c.requires.its f.key c.requires.wide c.first_gap-offset.ensures in
    let p = entry-made c.args.shape.partial m e.number c.first_gap-offset.result other c.entry_at.result f.key (omega (arith, c.fetch.auto.buffer, f.room)) c.entry_at.ensures in
    nexted_new c.args.shape.partial m c.args.up.number c.args.up.offset c.args.i c.args.entries.now e c.entry_at.result (g.S.ReadingStore.meaning c.fetch.new.self)
    at.0 at.1 c.if-entry-up.false f.held f.reads (p ∙ ap (λ (z : ℕ). made (view_of c.args.shape.partial m) e.number z) gap)
