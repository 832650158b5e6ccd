-- The limits of the fields (01, "Where each thing is checked"), and what sums and products of such fields come to at most.
-- Assumes nothing.
use Rattle.std.specs.Prelude.{ℕ, ◌+◌, ◌*◌, ◌/◌, cond, eqb}

-- 3
abbrev pub latest_version : ℕ
latest_version = 2

-- 4
abbrev pub months : ℕ
months = 12

-- 5
abbrev pub most_sites : ℕ
most_sites = 16

-- 6
abbrev pub most_lines : ℕ
most_lines = 64

-- 7: kopecks per MWh
abbrev pub most_price : ℕ
most_price = 2000000

-- 8: no month has more hours
abbrev pub longest_month : ℕ
longest_month = 745

-- 25
abbrev pub most_generators : ℕ
most_generators = 32

-- 10: kW
abbrev pub most_power : ℕ
most_power = 1000000

-- 11: the highest flag; in version 1 it tells of devices alone
abbrev pub most_flag : ℕ → ℕ
most_flag version = cond (eqb version 1) 1 3

-- 12: kVAr, and kW
abbrev pub most_installed : ℕ
most_installed = 20000

-- 13: thousandths
abbrev pub most_discount : ℕ
most_discount = 1000

-- 15: the mark with all its meters, of which version 1 has three and version 2 four
abbrev pub most_mark : ℕ → ℕ
most_mark version = cond (eqb version 1) 7 15

-- 16: ten-thousandths of kW/kVAr
abbrev pub most_eerp : ℕ
most_eerp = 5000

-- 17 and 27: kWh, and kVArh
abbrev pub most_reading : ℕ
most_reading = 10000000

-- a reading, added over all lines
abbrev pub most_readings : ℕ
most_readings = most_reading * most_lines

-- the output of all generators
abbrev pub most_outputs : ℕ
most_outputs = most_reading * most_generators

-- a reading times D, of one line, and added over all lines
abbrev pub most_loss : ℕ
most_loss = most_reading * most_eerp

abbrev pub most_losses : ℕ
most_losses = most_loss * most_lines

-- what a sum of losses has while another line is added to it: inputs and transits of both walks stay below
abbrev pub most_net : ℕ
most_net = 3 * most_losses

-- step 2: WP0, with what generators add, is at most this
abbrev pub most_active : ℕ
most_active = 2 * most_net

-- D, added over all lines
abbrev pub most_eerps : ℕ
most_eerps = most_eerp * most_lines

-- step 6: the generation computed from Q, P and t
abbrev pub most_computed : ℕ
most_computed = (10 * most_installed + 3 * most_installed) * longest_month

-- steps 8 and 9: a charge for losses, and both charges
abbrev pub most_charge : ℕ
most_charge = most_losses * most_price / 10000000

abbrev pub most_charges : ℕ
most_charges = 2 * most_charge

-- step 10: the factor at a tangent of 2,000, in millionths, and the surcharge
abbrev pub most_factor : ℕ
most_factor = 1750 * 1750

abbrev pub most_surcharge : ℕ
most_surcharge = 4 * most_charge
