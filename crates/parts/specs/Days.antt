-- The rank of a day.
use Rattle.std.specs.Prelude.{◌≡◌, ℕ, ◌+◌, ◌-◌, ◌^◌, ℤ, pos, negsuc}

-- day + 2^31
abbrev pub day_rank : ℤ → ℕ
day_rank (pos n) = n + 2 ^ 31
day_rank (negsuc n) = 2 ^ 31 - 1 - n

-- the first day, the day before day 0, day 0, the day after it, and the last day
pub record DayCorners : Type 0 where
  pub first : day_rank (negsuc 2147483647) ≡ 0
  pub before : day_rank (negsuc 0) ≡ 2147483647
  pub zeroth : day_rank (pos 0) ≡ 2147483648
  pub after : day_rank (pos 1) ≡ 2147483649
  pub last : day_rank (pos 2147483647) ≡ 4294967295
