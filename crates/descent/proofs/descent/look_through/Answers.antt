use Rattle.std.proofs.Common.{refl, sym, subst, ap, ◌∙◌}
use Rattle.std.specs.Result.{is_ok, result_ok}
use Rattle.descent.proofs.Looking.{told, untold}
use Rattle.descent.proofs.descent.look_through.Goals as goal
use Rattle.keys.specs.Comparing.{Compared}
use Rattle.store.proofs.Fetching.{fetch_refused, fetched_err, fetched_ok}

pub returns-in_ok-comparison-in-Ask-clause-to : goal.returns-in_ok-comparison-in-Ask-clause-to
returns-in_ok-comparison-in-Ask-clause-to g c =
    let f = fetched_ok _ _ _ _ c.fetch.result _ _ (sym c.map_err.ensures.variant ∙ ap is_ok c.in_ok-map_err-in-Ask.was) c.fetch.ensures in
    let some = c.ok_or.ensures.ok_part ∙ ap result_ok c.in_ok-comparison-in-Ask.was in
    let same = subst (Compared c.args.key.now c.fetch.new.buffer) some c.compare.ensures in
    (told (g.S.ReadingStore.meaning c.args.store.now) (g.S.ReadingStore.meaning c.fetch.new.self) c.args.key.now c.args.entries.now c.args.offset c.in-Ask.high c.in-Ask.candidate _ c.fetch.new.buffer c.in_ok-comparison-in-Ask.comparison c.settle.result
    c.in-Ask.ensures.step refl f.held f.reads f.key same.value c.settle.ensures.placed).to

pub returns-in_err-map_err-in-Ask-clause-reads : goal.returns-in_err-map_err-in-Ask-clause-reads
returns-in_err-map_err-in-Ask-clause-reads g c =
    let m = g.S.ReadingStore.meaning c.args.store.now in
    let f = fetched_err _ _ _ _ c.fetch.result _ _ (sym c.map_err.ensures.variant ∙ ap is_ok c.in_err-map_err-in-Ask.was) c.fetch.ensures in
    ap g.S.ReadingStore.meaning f.unchanged
    ∙ untold m c.args.key.now c.args.entries.now c.args.offset c.in-Ask.high c.in-Ask.candidate _ (g.S.ReadingStore.lawful c.args.store.now).wraps c.in-Ask.ensures.step refl (fetch_refused m _ _ f.refusal c.requires.room f.ground)
