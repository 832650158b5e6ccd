-- What one line carries at each of its ends (01, steps 1, 3 and 5): its reactive flow, and its losses, the flow times D. And the active energy of
-- lines and of generators (01, step 2; 02, R-5).
-- Assumes nothing.
use Rattle.std.specs.Prelude.{ℕ, ◌*◌, List}
use Rattle.park_format.specs.Rules.{measures_reactive}
use Rattle.park_format.specs.declared.generator.Generator.{Generator}
use Rattle.park_format.specs.declared.line.Line.{Line}
use Rattle.park_charge.specs.Flow.{inflow, outflow}
use Rattle.park_sums.specs.Sums.{sum_by}

-- step 1: an input's reactive flow
abbrev pub flow_in : Line → ℕ
flow_in l = inflow (measures_reactive l.meters) l.active l.reactive

-- step 3: a transit's reactive flow, by the tangent of the site that it leaves
abbrev pub flow_out : ℕ → Line → ℕ
flow_out tg l = outflow tg (measures_reactive l.meters) l.active l.reactive

-- step 5: a line's losses at each of its ends
abbrev pub loss_in : Line → ℕ
loss_in l = flow_in l * l.eerp

abbrev pub loss_out : ℕ → Line → ℕ
loss_out tg l = flow_out tg l * l.eerp

-- step 2: active consumption, and active generation, of lines
abbrev pub consumed : List Line → ℕ
consumed lines = sum_by (λ (l : Line). l.active) lines

abbrev pub produced : List Line → ℕ
produced lines = sum_by (λ (l : Line). l.produced) lines

-- and what generators give together
abbrev pub outputs : List Generator → ℕ
outputs generators = sum_by (λ (g : Generator). g.output) generators
