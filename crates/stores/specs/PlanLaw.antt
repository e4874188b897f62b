-- The plan is a lawful store: the proof that its ghost member `lawful` gives.
use Rattle.std.specs.Prelude.{◌≡◌, ℕ, ◌*◌, ◌^◌, ◌<◌, ◌≤◌, [], map, length, slice_index_or, refl}
use Rattle.std.proofs.Common.{arith}
use Rattle.std.specs.List.{range_with_len}
use Rattle.std.proofs.lemmas.List.FromFn.{length-map-range_with_len, get_or-map-range_with_len}
use Rattle.std.proofs.ByRecursion.{All-from_get_or}
use Rattle.keys.specs.Bytes.{Key}
use Rattle.store.specs.Meaning.{Lawful}
use Rattle.stores.specs.Plans.{plan_key, plan_of}

pub length_plan : (n : ℕ) → length (map plan_key (range_with_len 0 n)) ≡ n
length_plan n = length-map-range_with_len plan_key 0 n

pub getD_plan : (n r : ℕ) → r < n → slice_index_or (map plan_key (range_with_len 0 n)) r [] ≡ plan_key r
getD_plan n r h = get_or-map-range_with_len plan_key 0 n r r [] h (omega arith)

key_plan : (r : ℕ) → Key 3 (plan_key r)
key_plan r = (refl, (omega arith, (omega arith, (omega arith, tt))))

pub plan_lawful : (c t : ℕ) → c ≤ 255 → t < 2 ^ 32 → Lawful (plan_of c t)
plan_lawful c t h w =
    record {
      narrowest = omega arith;
      widest = omega arith;
      each = All-from_get_or (Key 3) (map plan_key (range_with_len 0 (24 * c))) [] (λ r l.
          rw (getD_plan (24 * c) r (omega (arith, length_plan (24 * c)))) (key_plan r));
      room = omega (arith, length_plan (24 * c));
      most = omega arith;
      wraps = w;
    }
