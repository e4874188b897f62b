-- The tariff key.
use Rattle.std.specs.Prelude.{◌≡◌, ℕ, ◌<◌, ◌⊎◌, ◌↔◌, List, ◌++◌, ◌<ℤ◌}
use Rattle.keys.specs.Bytes.{Smaller, big_endian}
use Rattle.parts.specs.Days.{day_rank}
use Rattle.parts.specs.declared.class.Class.{Class}
use Rattle.parts.specs.declared.day.Day.{Day}
use Rattle.parts.specs.declared.minute.Minute.{Minute}

-- the class in 1 byte, the day's rank in 4, the minute in 2
abbrev pub tariff_bytes : Class → Day → Minute → List ℕ
tariff_bytes c d m = big_endian 1 c.number ++ (big_endian 4 (day_rank d.number) ++ big_endian 2 m.number)

-- by class, then by day, then by minute
abbrev pub Before : Class → Day → Minute → Class → Day → Minute → Type 0
Before c d m c' d' m' = (c.number < c'.number) ⊎ ((c ≡ c') × ((d.number <ℤ d'.number) ⊎ ((d ≡ d') × (m.number < m'.number))))

-- The law: against every class, day and minute the key stands as they do. The smaller key is that of the smaller class, or on
-- the same class the earlier day, or on the same day the earlier minute; equal keys are those of the same three.
pub record TariffOrder (c : Class) (d : Day) (m : Minute) (key : List ℕ) : Type 0 where
  pub below : (c' : Class) (d' : Day) (m' : Minute) → Before c d m c' d' m' ↔ Smaller key (tariff_bytes c' d' m')
  pub above : (c' : Class) (d' : Day) (m' : Minute) → Before c' d' m' c d m ↔ Smaller (tariff_bytes c' d' m') key
  pub equal : (c' : Class) (d' : Day) (m' : Minute) → ((c ≡ c') × (d ≡ d') × (m ≡ m')) ↔ (key ≡ tariff_bytes c' d' m')
