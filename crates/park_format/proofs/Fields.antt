-- The records' fields by their positions, as the readers take them.
-- Assumes nothing.
use Prim.Native.Nat.{ℕ, ◌+◌}
use native.Mathlib.Nat.{add_assoc}
use mathlib.Core.Path.{◌≡◌, refl}
use mathlib.Core.Bool.{Bool, true, false, cond}
use mathlib.Core.List.{List, [], ◌∷◌}
use lib.Dec.{eqb}
use lib.ListN.{get_or}
use Rattle.park_format.specs.Format.{number_at, fields_at}
use Rattle.park_format.specs.Park.{generator_at, header_of, line_at, site_at}

-- a field that only versions after the first have
later_field : (w : ℕ) (b : Bool) (file : List ℕ) (at : ℕ) → get_or (fields_at (cond b [] (w ∷ [])) file at) 0 0 ≡ cond b 0 (number_at w file at)
unfolding fields_at
later_field w true file at = refl
later_field w false file at = refl

pub header_of_lem : (file : List ℕ) → header_of file ≡ record { mark = number_at 3 file 0; version = number_at 2 file 3; month = number_at 1 file 5; sites = number_at 1 file 6; lines = number_at 1 file 7; price = number_at 4 file 8; hours = number_at 2 file 12; generators = cond (eqb (number_at 2 file 3) 1) 0 (number_at 1 file 14) }
unfolding header_of fields_at
header_of_lem file = simp later_field

pub site_at_lem : (file : List ℕ) (at : ℕ) → site_at file at ≡ record { power = number_at 4 file at; flag = number_at 1 file (at + 4); compensation = number_at 2 file (at + 5); motors = number_at 2 file (at + 7); discount = number_at 2 file (at + 9) }
unfolding site_at fields_at
site_at_lem file at = simp add_assoc

pub line_at_lem : (version : ℕ) (file : List ℕ) (at : ℕ) → line_at version file at ≡ record { from = number_at 1 file at; to = number_at 1 file (at + 1); meters = number_at 1 file (at + 2); eerp = number_at 2 file (at + 3); active = number_at 4 file (at + 5); reactive = number_at 4 file (at + 9); generated = number_at 4 file (at + 13); night = number_at 4 file (at + 17); produced = cond (eqb version 1) 0 (number_at 4 file (at + 21)) }
unfolding line_at fields_at
line_at_lem version file at = simp (add_assoc, later_field)

pub generator_at_lem : (file : List ℕ) (at : ℕ) → generator_at file at ≡ record { site = number_at 1 file at; output = number_at 4 file (at + 1) }
unfolding generator_at fields_at
generator_at_lem file at = refl
