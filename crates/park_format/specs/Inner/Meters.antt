-- The meters of a mark, each by its name.
-- Assumes nothing.
use Rattle.std.specs.Prelude.{ℕ, Bool}
use Rattle.park_format.specs.Rules.{measures_reactive, measures_generated, measures_night, measures_produced}
use Rattle.park_format.specs.declared.meter.Meter.{Meter}
use Rattle.park_format.specs.declared.meter.Meter.TheVariants.{Reactive, Generated, Night, Produced}

abbrev pub measures : Meter → ℕ → Bool
measures Reactive mark = measures_reactive mark
measures Generated mark = measures_generated mark
measures Night mark = measures_night mark
measures Produced mark = measures_produced mark
