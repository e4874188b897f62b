use Rattle.std.proofs.Common.{◌≡◌, ℕ, ◌+◌, ◌*◌, ◌^◌, ◌↔◌, List, ◌++◌, replicate, ap, ◌∙◌, subst, arith}
use mathlib.Core.Logic.Iff
use Rattle.std.proofs.lemmas.Result.{IfOk-at_ok}
use Rattle.keys.specs.Bytes.{Smaller, big_endian}
use Rattle.parts.specs.Days.{day_rank}
use Rattle.parts.specs.PartLaws.{day_ranked, pair_back}
use Rattle.parts.specs.Tariffs.{Before, TariffOrder, tariff_bytes}
use Rattle.parts.specs.declared.class.Class.{Class}
use Rattle.parts.specs.declared.day.Day.{Day}
use Rattle.parts.specs.declared.minute.Minute.{Minute}
use Rattle.parts.specs.declared.pair.Pair.{Pair}
use Rattle.parts.proofs.Joining.{joined, written_done}
use Rattle.parts.proofs.tariff.tariff_key.Goals as goal

abbrev trio : Class → Day → Minute → Pair Class (Pair Day Minute)
trio c d m = record { first = c; second = record { first = d; second = m } }

three : (c : Class) (d : Day) (m : Minute) → big_endian 7 (c.number * 256 ^ 6 + (day_rank d.number * 256 ^ 2 + m.number)) ≡ tariff_bytes c d m
three c d m =
    let k = day_ranked d.number d.fits in
    joined 1 6 c.number (day_rank d.number * 256 ^ 2 + m.number) (omega (arith, m.fits))
    ∙ ap (λ z. big_endian 1 c.number ++ z) (joined 4 2 (day_rank d.number) m.number (omega (arith, m.fits)))

trio_same : (c c' : Class) (d d' : Day) (m m' : Minute) → ((c ≡ c') × (d ≡ d') × (m ≡ m')) ↔ (trio c d m ≡ trio c' d' m')
trio_same c c' d d' m m' = (
  λ e. pair_back (trio c d m) (trio c' d' m') e.0 (pair_back (record { first = d; second = m }) (record { first = d'; second = m' }) e.1 e.2),
  λ e. (ap (λ z. z.first) e, ap (λ z. z.second.first) e, ap (λ z. z.second.second) e),
)

pub returns : goal.returns
returns c =
    let key = c.write_key.new.buffer in
    let t = c.tariff.result in
    let law = IfOk-at_ok _ c.unwrap.ensures c.write_key.ensures.law in
    let bytes : (z : Pair Class (Pair Day Minute)) → List ℕ = λ z. tariff_bytes z.first z.second.first z.second.second in
    let order : TariffOrder t.first t.second.first t.second.second key = record {
      below = λ c' d' m'. subst (λ k. Before t.first t.second.first t.second.second c' d' m' ↔ Smaller key k) (three c' d' m') (law.below (trio c' d' m'));
      above = λ c' d' m'. subst (λ k. Before c' d' m' t.first t.second.first t.second.second ↔ Smaller k key) (three c' d' m') (law.above (trio c' d' m'));
      equal = λ c' d' m'. Iff.trans (trio_same t.first c' t.second.first d' t.second.second m') (subst (λ k. (t ≡ trio c' d' m') ↔ (key ≡ k)) (three c' d' m') (law.equal (trio c' d' m')));
    } in
    record {
      bytes =
          written_done 7 _ (replicate 7 0) key c.write_key.result c.unwrap.result c.unwrap.ensures c.write_key.ensures.written
          ∙ three t.first t.second.first t.second.second
          ∙ ap bytes c.tariff.ensures;
      order = subst (λ (z : Pair Class (Pair Day Minute)). TariffOrder z.first z.second.first z.second.second key) c.tariff.ensures order;
    }
