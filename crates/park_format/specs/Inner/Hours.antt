-- The most hours of a month, if it is one.
-- Assumes nothing.
use Rattle.std.specs.Prelude.{ℕ, cond, Option, None, Some}
use Rattle.park_format.specs.Limits.{months}
use Rattle.park_format.specs.Rules.{most_hours, zero_or_above}

abbrev pub hours_of : ℕ → Option ℕ
hours_of month = cond (zero_or_above months month) None (Some (most_hours month))
