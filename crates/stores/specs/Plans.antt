-- The plan: computed records, 24 for each class, one an hour.
use Rattle.std.specs.Prelude.{ℕ, ◌*◌, ◌/◌, ◌%◌, List, ◌++◌, map}
use Rattle.std.specs.List.{range_with_len}
use Rattle.keys.specs.Bytes.{big_endian}
use Rattle.store.specs.Meaning.{Meaning}

-- record r: class r div 24 in one byte, minute (r mod 24) × 60 in two
abbrev pub plan_key : ℕ → List ℕ
plan_key r = big_endian 1 (r / 24) ++ big_endian 2 (r % 24 * 60)

-- a plan of so many classes after so many reads: it is full
abbrev pub plan_of : (classes tally : ℕ) → Meaning
plan_of c t = record { width = 3; keys = map plan_key (range_with_len 0 (24 * c)); capacity = 24 * c; tally = t }
