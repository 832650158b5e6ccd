-- Park Alder, byte by byte, and the starred cases (01, "Park Alder, and its neighbours"; tg as 02, R-4, has it), as entries of one list, with
-- what is printed for Alder, for Alder with WQ 40,000 on line 2 and for one file that is refused, site 2 of Alder with WQ 40,000 on line 2 under
-- the former limit of tg and by the operators' table, two parks in which no meter tells what a site sends on, and four parks that show what the
-- condition of the loss balance is for; parks of version 2, with and without generators, accepted and refused (02, R-5); and sites on both sides of
-- each limit of what is due, with the former bills of five, and parks that show what the last condition of the balance is for (02, R-7); and power
-- stations beside the same sites without the mark, and the flags that are refused (02, R-8). `holds` says of each entry whether it is so; `Says` is
-- what it then means. `all_cases` of CaseTest is the proof of `AllCases`.
-- Assumes nothing.
use Rattle.std.specs.Prelude.{ℕ, ◌+◌, ◌*◌, ◌≤◌, ◌≡◌, Bool, true, false, cond, not, ◌&&◌, ◌||◌, List, [], ◌∷◌, ◌++◌, eqb, leb, nat_eq, length, ℤ, pos, negsuc, ◌+ℤ◌}
use Prim.Native.String.{String}
use Rattle.std.specs.Cmp.Lexicographic.{pointwise}
use Rattle.std.specs.Ordering.{int_eq}
use Rattle.std.proofs.Math.Option.{Option, none, some}
use Rattle.park_format.specs.Park.{park_of}
use Rattle.park_format.specs.Rules.{IsAccepted, is_station, measures_reactive, refusal}
use Rattle.park_format.specs.Stations.{without_marks}
use Rattle.park_format.specs.Accepted.{Every}
use Rattle.park_format.specs.declared.line.Line.{Line}
use Rattle.park_charge.specs.Flow.{estimated_out, tangent}
use Rattle.park_charge.specs.Charge.{consumption_due, generation_due, loss_charge, reason, surcharge}
use Rattle.park_charge.specs.Former.{former_reason}
use Rattle.park_charge.specs.ByTable.{surcharge_by_table}
use Rattle.park_sums.specs.Sums.{all_of, EachSite, over_sites}
use Rattle.park_bill.specs.Bill.{active_net, bill, bill_numbers, site_record, touching, words}
use Rattle.park_bill.specs.ByReason.{bill_by_reason}
use Rattle.park_bill.specs.ByTable.{bill_by_table}
use Rattle.park_bill.specs.Former.{former_bill}
use Rattle.park_bill.specs.Reply.{bills_of, in_list, in_reply, list_after, reply_numbers, site_outcome}
use Rattle.park_bill.specs.Stations.{bill_without_stations}
use Rattle.park_bill.specs.Balance.{added, AllConsumptionDue, AllZero, Balance, ChargesWithin, Measured, network_energy, with_numbers}
use Rattle.park_text.specs.Answer.{answer_to}
use Rattle.park_text.specs.Ascii.{ascii}
use Rattle.park_text.specs.Instances.{AcceptedLaws, RefusedLaws, SiteLaws}
use Rattle.park_text.specs.Parks.{alder, alder_back, alder_cut, alder_high, alder_refused, alder_second, alder_stations, alder_unmetered, four_flags, head_second, limits, limits_second, limits_stations, mixed_second, one_flag, one_limit, one_line, own_back, own_none, own_on, own_short, unfed_second}

-- number j of site k, as bill_site replies it, and that number added over the sites
abbrev pub numbers : List ℕ → ℕ → ℕ → ℕ
numbers file k j = in_reply (site_outcome file k) j

abbrev pub total : List ℕ → ℕ → ℕ
total file j = added (park_of file) (numbers file) j

pub data Case : Type 0 where
  -- a file and its bytes
  file_case : List ℕ → List ℕ → Case
  -- a file, the numbers of all its sites, the settled energy and the energy at the network
  whole_bill : List ℕ → List ℕ → ℕ → ℕ → Case
  -- a file and what is printed for it
  printed : List ℕ → String → Case
  -- a file, a site, and its numbers with the former limit of tg
  former_case : List ℕ → ℕ → List ℕ → Case
  -- a file, a site, and its numbers by step 7 as it was
  by_reason_case : List ℕ → ℕ → List ℕ → Case
  -- a file that is accepted, a site, whether it is a station, and its numbers without the mark
  station_case : List ℕ → ℕ → Bool → List ℕ → Case
  -- a file, a site, and its numbers as they were before there were stations
  former_station_case : List ℕ → ℕ → List ℕ → Case
  -- a file, a site, and its numbers with the surcharge by the operators' table
  by_table_case : List ℕ → ℕ → List ℕ → Case
  -- a file and its refusal: number and place
  refused_case : List ℕ → ℕ → ℕ → Case
  -- a file that is accepted, a site, and its WP0
  active_case : List ℕ → ℕ → ℕ → Case
  -- WQ0, WP0 and tg
  tangent_case : ℕ → ℕ → ℕ → Case
  -- tg, WP and the flow of a transit without a meter
  estimate_case : ℕ → ℕ → ℕ → Case
  -- tg, Pc and P2, by the formula and by the operators' table
  surcharge_case : ℕ → ℕ → ℕ → Case
  -- settled × T and Pc
  charge_case : ℕ → ℕ → Case
  -- consumption, generation and the reason, at a power of 16
  reason_case : ℕ → ℕ → ℕ → Case
  -- power, consumption and generation; whether the consumption charge is due, and the charge for generation; the reason
  due_case : ℕ → ℕ → ℕ → Bool → Bool → ℕ → Case
  -- a file that is accepted; its energy at the network, whether it meets the condition, whether settled losses are in balance, and
  -- whether no site is cut; if it meets the condition, it has the whole balance of replies and list, and of each reply among the others
  balance_case : List ℕ → ℤ → Bool → Bool → Bool → Case
  -- a file that is accepted, meets the condition of the balance and has no cut; whether all its consumption charges are due, whether all its
  -- reasons are 0, and whether its charges are within half a kopeck a site, which they are by the balance if the first is so
  charges_case : List ℕ → Bool → Bool → Bool → Case

-- the bills of the seven sites at the limits of what is due: for generation alone, for consumption alone, for both, for neither, below 16 kW, and
-- with metered generation for generation alone and for consumption alone
abbrev pub limit_bills : List ℕ
limit_bills =
    999 ∷ 999 ∷ 668331 ∷ 0 ∷ 10000 ∷ 0 ∷ 33450 ∷ 0 ∷ 3345 ∷ 30105 ∷ 0
    ∷ 1000 ∷ 1000 ∷ 669000 ∷ 0 ∷ 9999 ∷ 33450 ∷ 0 ∷ 18816 ∷ 3345 ∷ 48921 ∷ 0
    ∷ 1000 ∷ 1000 ∷ 669000 ∷ 0 ∷ 10000 ∷ 33450 ∷ 33450 ∷ 18816 ∷ 6690 ∷ 79026 ∷ 0
    ∷ 999 ∷ 999 ∷ 668331 ∷ 0 ∷ 9999 ∷ 0 ∷ 0 ∷ 0 ∷ 0 ∷ 0 ∷ 2
    ∷ 1000 ∷ 1000 ∷ 669000 ∷ 0 ∷ 10000 ∷ 0 ∷ 0 ∷ 0 ∷ 0 ∷ 0 ∷ 1
    ∷ 0 ∷ 0 ∷ 0 ∷ 0 ∷ 10000 ∷ 0 ∷ 33450 ∷ 0 ∷ 3345 ∷ 30105 ∷ 0
    ∷ 1000 ∷ 1000 ∷ 669000 ∷ 0 ∷ 9990 ∷ 33450 ∷ 0 ∷ 18816 ∷ 3345 ∷ 48921 ∷ 0
    ∷ []

-- and of the same seven sites as stations: for generation alone there is no money, and the reason is 0
abbrev pub station_bills : List ℕ
station_bills =
    999 ∷ 999 ∷ 668331 ∷ 0 ∷ 10000 ∷ 0 ∷ 0 ∷ 0 ∷ 0 ∷ 0 ∷ 0
    ∷ 1000 ∷ 1000 ∷ 669000 ∷ 0 ∷ 9999 ∷ 33450 ∷ 0 ∷ 0 ∷ 3345 ∷ 30105 ∷ 0
    ∷ 1000 ∷ 1000 ∷ 669000 ∷ 0 ∷ 10000 ∷ 33450 ∷ 0 ∷ 0 ∷ 3345 ∷ 30105 ∷ 0
    ∷ 999 ∷ 999 ∷ 668331 ∷ 0 ∷ 9999 ∷ 0 ∷ 0 ∷ 0 ∷ 0 ∷ 0 ∷ 2
    ∷ 1000 ∷ 1000 ∷ 669000 ∷ 0 ∷ 10000 ∷ 0 ∷ 0 ∷ 0 ∷ 0 ∷ 0 ∷ 1
    ∷ 0 ∷ 0 ∷ 0 ∷ 0 ∷ 10000 ∷ 0 ∷ 0 ∷ 0 ∷ 0 ∷ 0 ∷ 0
    ∷ 1000 ∷ 1000 ∷ 669000 ∷ 0 ∷ 9990 ∷ 33450 ∷ 0 ∷ 0 ∷ 3345 ∷ 30105 ∷ 0
    ∷ []

-- Alder's bytes, 01's cases (with the two parks and the former bill, a WP0 of 0 with and without WQ0, and tg at each of its limits), three
-- answers, the four parks, version 2, what is due, and stations
abbrev pub cases : List Case
cases =
    file_case alder (80 ∷ 82 ∷ 75 ∷ 1 ∷ 0 ∷ 4 ∷ 2 ∷ 3 ∷ 32 ∷ 161 ∷ 7 ∷ 0 ∷ 200 ∷ 0 ∷ 144 ∷ 1 ∷ 0 ∷ 0 ∷ 1 ∷ 50 ∷ 0 ∷ 0 ∷ 0 ∷ 0 ∷ 0 ∷ 100 ∷ 0 ∷ 0 ∷ 0 ∷ 0 ∷ 0 ∷ 0 ∷ 0 ∷ 0 ∷ 100 ∷ 0 ∷ 0 ∷ 1 ∷ 1 ∷ 157 ∷ 2 ∷ 64 ∷ 156 ∷ 0 ∷ 0 ∷ 48 ∷ 117 ∷ 0 ∷ 0 ∷ 0 ∷ 0 ∷ 0 ∷ 0 ∷ 0 ∷ 0 ∷ 0 ∷ 0 ∷ 1 ∷ 2 ∷ 1 ∷ 188 ∷ 2 ∷ 16 ∷ 39 ∷ 0 ∷ 0 ∷ 160 ∷ 15 ∷ 0 ∷ 0 ∷ 0 ∷ 0 ∷ 0 ∷ 0 ∷ 0 ∷ 0 ∷ 0 ∷ 0 ∷ 0 ∷ 2 ∷ 0 ∷ 157 ∷ 2 ∷ 136 ∷ 19 ∷ 0 ∷ 0 ∷ 0 ∷ 0 ∷ 0 ∷ 0 ∷ 0 ∷ 0 ∷ 0 ∷ 0 ∷ 0 ∷ 0 ∷ 0 ∷ 0 ∷ [])
    ∷ whole_bill alder (26000 ∷ 867 ∷ 17270000 ∷ 0 ∷ 100000 ∷ 863500 ∷ 334500 ∷ 328725 ∷ 0 ∷ 1526725 ∷ 0 ∷ 8000 ∷ 533 ∷ 5476000 ∷ 0 ∷ 0 ∷ 273800 ∷ 0 ∷ 21928 ∷ 27380 ∷ 268348 ∷ 0 ∷ []) 22746000 22746000
    ∷ whole_bill alder_cut (0 ∷ 0 ∷ 0 ∷ 7930000 ∷ 100000 ∷ 0 ∷ 334500 ∷ 0 ∷ 0 ∷ 334500 ∷ 0 ∷ 44000 ∷ 2933 ∷ 30676000 ∷ 0 ∷ 0 ∷ 1533800 ∷ 0 ∷ 4697263 ∷ 153380 ∷ 6077683 ∷ 0 ∷ []) 30676000 22746000
    ∷ whole_bill alder_high (22000 ∷ 99999 ∷ 14470000 ∷ 0 ∷ 100000 ∷ 723500 ∷ 334500 ∷ 2215719 ∷ 0 ∷ 3273719 ∷ 0 ∷ 12000 ∷ 800 ∷ 8276000 ∷ 0 ∷ 0 ∷ 413800 ∷ 0 ∷ 125175 ∷ 41380 ∷ 497595 ∷ 0 ∷ []) 22746000 22746000
    ∷ whole_bill alder_unmetered (22500 ∷ 750 ∷ 14820000 ∷ 0 ∷ 100000 ∷ 741000 ∷ 334500 ∷ 185250 ∷ 0 ∷ 1260750 ∷ 0 ∷ 12000 ∷ 800 ∷ 8276000 ∷ 0 ∷ 0 ∷ 413800 ∷ 0 ∷ 125175 ∷ 41380 ∷ 497595 ∷ 0 ∷ []) 23096000 22746000
    ∷ by_table_case alder_cut 2 (44000 ∷ 2933 ∷ 30676000 ∷ 0 ∷ 0 ∷ 1533800 ∷ 0 ∷ 4697263 ∷ 153380 ∷ 6077683 ∷ 0 ∷ [])
    ∷ former_case alder_cut 2 (44000 ∷ 2000 ∷ 30676000 ∷ 0 ∷ 0 ∷ 1533800 ∷ 0 ∷ 4697263 ∷ 153380 ∷ 6077683 ∷ 0 ∷ [])
    ∷ tangent_case 1 2000 1
    ∷ tangent_case 0 0 800
    ∷ tangent_case 700 0 800
    ∷ tangent_case 5000 2000 2500
    ∷ tangent_case 99998 1000 99998
    ∷ tangent_case 199997 2000 99999
    ∷ tangent_case 99999 1000 99999
    ∷ tangent_case 100000 1000 99999
    ∷ tangent_case 640000000 1 99999
    ∷ estimate_case 1 499 0
    ∷ estimate_case 1 500 1
    ∷ estimate_case 799 10000 7990
    ∷ estimate_case 801 10000 8000
    ∷ estimate_case 99999 10000 8000
    ∷ surcharge_case 250 1000000 0
    ∷ surcharge_case 251 1000000 1
    ∷ surcharge_case 1999 1000000 3059001
    ∷ surcharge_case 2000 1000000 3062500
    ∷ surcharge_case 2001 1000000 3062500
    ∷ surcharge_case 99999 1000000 3062500
    ∷ surcharge_case 2000 640000000000 1960000000000
    ∷ surcharge_case 99999 640000000000 1960000000000
    ∷ charge_case 4999999 0
    ∷ charge_case 5000000 1
    ∷ reason_case 999 9999 2
    ∷ reason_case 1000 0 0
    ∷ printed alder "site,consumption,tg,settled,cut,generation,pc,pg,p2,p3,total,reason\n1,26000,867,17270000,0,100000,863500,334500,328725,0,1526725,0\n2,8000,533,5476000,0,0,273800,0,21928,27380,268348,0\n"
    ∷ printed alder_cut "site,consumption,tg,settled,cut,generation,pc,pg,p2,p3,total,reason\n1,0,0,0,7930000,100000,0,334500,0,0,334500,0\n2,44000,2933,30676000,0,0,1533800,0,4697263,153380,6077683,0\n"
    ∷ printed alder_refused "refused,13,2\n"
    ∷ balance_case alder (pos 22746000) true true true
    ∷ balance_case alder_cut (pos 22746000) true true false
    ∷ balance_case alder_unmetered (pos 22746000) false false true
    ∷ balance_case alder_back (negsuc 37477253999) true true false
    ∷ file_case mixed_second (80 ∷ 82 ∷ 75 ∷ 2 ∷ 0 ∷ 12 ∷ 1 ∷ 1 ∷ 3 ∷ 2 ∷ 1 ∷ 0 ∷ 2 ∷ 1 ∷ 2 ∷ 1 ∷ 2 ∷ 3 ∷ 0 ∷ 1 ∷ 3 ∷ 4 ∷ 5 ∷ 6 ∷ 7 ∷ 2 ∷ 0 ∷ 1 ∷ 15 ∷ 9 ∷ 8 ∷ 10 ∷ 11 ∷ 12 ∷ 0 ∷ 13 ∷ 14 ∷ 15 ∷ 0 ∷ 16 ∷ 17 ∷ 18 ∷ 0 ∷ 19 ∷ 18 ∷ 17 ∷ 0 ∷ 20 ∷ 21 ∷ 20 ∷ 0 ∷ 1 ∷ 22 ∷ 23 ∷ 24 ∷ 0 ∷ 1 ∷ 25 ∷ 26 ∷ 27 ∷ 0 ∷ [])
    ∷ whole_bill alder_second (26000 ∷ 867 ∷ 17270000 ∷ 0 ∷ 100000 ∷ 863500 ∷ 334500 ∷ 328725 ∷ 0 ∷ 1526725 ∷ 0 ∷ 8000 ∷ 533 ∷ 5476000 ∷ 0 ∷ 0 ∷ 273800 ∷ 0 ∷ 21928 ∷ 27380 ∷ 268348 ∷ 0 ∷ []) 22746000 22746000
    ∷ whole_bill own_on (23804 ∷ 732 ∷ 15732800 ∷ 0 ∷ 100000 ∷ 786640 ∷ 334500 ∷ 182755 ∷ 0 ∷ 1303895 ∷ 0 ∷ 10400 ∷ 693 ∷ 7156000 ∷ 0 ∷ 32000 ∷ 357800 ∷ 110400 ∷ 70218 ∷ 46820 ∷ 491598 ∷ 0 ∷ []) 22888800 22746000
    ∷ whole_bill own_back (23804 ∷ 732 ∷ 15732800 ∷ 0 ∷ 100000 ∷ 786640 ∷ 334500 ∷ 182755 ∷ 0 ∷ 1303895 ∷ 0 ∷ 8000 ∷ 615 ∷ 5476000 ∷ 0 ∷ 32000 ∷ 273800 ∷ 109600 ∷ 36477 ∷ 38340 ∷ 381537 ∷ 0 ∷ []) 21208800 21208800
    ∷ whole_bill own_none (23600 ∷ 867 ∷ 15590000 ∷ 0 ∷ 100000 ∷ 779500 ∷ 334500 ∷ 296747 ∷ 0 ∷ 1410747 ∷ 0 ∷ 10400 ∷ 578 ∷ 7156000 ∷ 0 ∷ 32000 ∷ 357800 ∷ 110400 ∷ 38494 ∷ 46820 ∷ 459874 ∷ 0 ∷ []) 22746000 22746000
    ∷ balance_case own_back (pos 21208800) true true true
    ∷ active_case own_on 1 35500
    ∷ active_case own_on 2 15000
    ∷ active_case own_none 1 30000
    ∷ active_case own_none 2 18000
    -- the inputs' generation is above their consumption: cut at 0 once, with the output
    ∷ active_case (one_line 2 1 8 1000 5000 ((1 ∷ 4500 ∷ []) ∷ [])) 1 500
    ∷ active_case (one_line 2 1 8 1000 5000 ((1 ∷ 4001 ∷ []) ∷ [])) 1 1
    ∷ active_case (one_line 2 1 8 1000 5000 ((1 ∷ 3999 ∷ []) ∷ [])) 1 0
    ∷ active_case (one_line 2 1 8 1000 5000 ((1 ∷ 0 ∷ []) ∷ [])) 1 0
    ∷ active_case (one_line 2 1 8 1000 5000 []) 1 1000
    ∷ active_case (one_line 2 1 8 0 10000000 ((1 ∷ 10000000 ∷ []) ∷ [])) 1 0
    -- site 1 sends on more than it takes in
    ∷ active_case own_short 1 500
    ∷ active_case own_short 2 2600
    -- every reading with its meter
    ∷ whole_bill mixed_second (986637 ∷ 349 ∷ 2029512309 ∷ 0 ∷ 11187390 ∷ 13405132 ∷ 15199961 ∷ 131384 ∷ 14846043 ∷ 13890434 ∷ 0 ∷ []) 2029512309 2029512309
    -- 14 bytes, and with hours above the month's; the number of generators, and the length
    ∷ refused_case (head_second 200 0) 9 0
    ∷ refused_case (head_second 209 2) 8 0
    ∷ refused_case (head_second 200 0 ++ (32 ∷ [])) 9 0
    ∷ refused_case (head_second 200 0 ++ (33 ∷ [])) 25 0
    ∷ refused_case (head_second 209 2 ++ (33 ∷ [])) 8 0
    ∷ refused_case (one_line 3 1 0 0 0 []) 3 0
    -- marks, by version
    ∷ refused_case (one_line 1 1 8 0 0 []) 15 1
    ∷ refused_case (one_line 2 1 4 0 0 []) 15 1
    ∷ refused_case (one_line 2 1 12 0 0 []) 15 1
    ∷ refused_case (one_line 2 1 13 0 0 []) 15 1
    ∷ refused_case (one_line 2 1 16 0 0 []) 15 1
    -- active generation, and generators
    ∷ refused_case (one_line 2 1 8 0 10000001 []) 17 1
    ∷ refused_case (one_line 2 1 7 0 1 []) 18 1
    ∷ refused_case (one_line 2 1 16 0 0 ((0 ∷ 0 ∷ []) ∷ [])) 15 1
    ∷ refused_case (one_line 2 1 8 0 0 ((0 ∷ 0 ∷ []) ∷ [])) 26 1
    ∷ refused_case (one_line 2 1 8 0 0 ((1 ∷ 10000000 ∷ []) ∷ (2 ∷ 10000001 ∷ []) ∷ [])) 26 2
    ∷ refused_case (one_line 2 0 8 0 0 ((1 ∷ 0 ∷ []) ∷ [])) 26 1
    ∷ refused_case (one_line 2 1 8 0 0 ((1 ∷ 10000001 ∷ []) ∷ (2 ∷ 0 ∷ []) ∷ [])) 27 1
    ∷ refused_case (unfed_second []) 19 2
    ∷ refused_case (unfed_second ((2 ∷ 0 ∷ []) ∷ [])) 26 1
    ∷ refused_case (unfed_second ((1 ∷ 10000001 ∷ []) ∷ [])) 27 1
    -- what is due, on both sides of each limit, in both versions and in months before April, in April and after it, with the former bills of five
    -- sites: one charge is due, the other, both, and none for either reason
    ∷ due_case 16 999 9999 false false 2
    ∷ due_case 16 999 10000 false true 0
    ∷ due_case 16 1000 9999 true false 0
    ∷ due_case 16 1000 10000 true true 0
    ∷ due_case 16 0 10000 false true 0
    ∷ due_case 16 1000 0 true false 0
    ∷ due_case 15 1000 10000 false false 1
    ∷ due_case 15 0 0 false false 1
    ∷ whole_bill (limits 3) limit_bills 4012662 4012662
    ∷ whole_bill (limits 4) limit_bills 4012662 4012662
    ∷ whole_bill (limits_second 1) limit_bills 4012662 4012662
    ∷ whole_bill (limits_second 12) limit_bills 4012662 4012662
    ∷ by_reason_case (limits 3) 1 (999 ∷ 999 ∷ 668331 ∷ 0 ∷ 10000 ∷ 33417 ∷ 33450 ∷ 18747 ∷ 6687 ∷ 78927 ∷ 0 ∷ [])
    ∷ by_reason_case (limits 3) 2 (1000 ∷ 1000 ∷ 669000 ∷ 0 ∷ 9999 ∷ 33450 ∷ 33447 ∷ 18816 ∷ 6690 ∷ 79023 ∷ 0 ∷ [])
    ∷ by_reason_case (limits 3) 3 (1000 ∷ 1000 ∷ 669000 ∷ 0 ∷ 10000 ∷ 33450 ∷ 33450 ∷ 18816 ∷ 6690 ∷ 79026 ∷ 0 ∷ [])
    ∷ by_reason_case (limits 3) 4 (999 ∷ 999 ∷ 668331 ∷ 0 ∷ 9999 ∷ 0 ∷ 0 ∷ 0 ∷ 0 ∷ 0 ∷ 2 ∷ [])
    ∷ by_reason_case (limits 3) 5 (1000 ∷ 1000 ∷ 669000 ∷ 0 ∷ 10000 ∷ 0 ∷ 0 ∷ 0 ∷ 0 ∷ 0 ∷ 1 ∷ [])
    -- without a cut: where Pc is not due, the charges need not be within half a kopeck a site, though every reason is 0; in the first park they are
    -- not, in the second, where consumption is 0, they are, in the third it is just half a kopeck, and in the fourth 11 twentieths
    ∷ charges_case (one_limit 16 1000 0 669 999) false true false
    ∷ charges_case (one_limit 16 1000 0 669 0) false true true
    ∷ charges_case (one_limit 16 1000 0 1 10) false true true
    ∷ charges_case (one_limit 16 1000 0 1 11) false true false
    ∷ charges_case (one_limit 16 0 3333 669 1000) true true true
    ∷ charges_case (one_limit 16 1000 0 669 1000) true true true
    ∷ charges_case alder true true true
    ∷ charges_case alder_second true true true
    ∷ charges_case (one_limit 15 1000 0 669 1000) false false false
    ∷ charges_case (one_limit 16 0 3333 669 0) false false true
    ∷ charges_case (limits 4) false false false
    -- stations: the seven sites, the four flags, and one that is cut
    ∷ whole_bill (limits_stations 4) station_bills 4012662 4012662
    ∷ whole_bill four_flags (2000 ∷ 2000 ∷ 1338000 ∷ 0 ∷ 0 ∷ 66900 ∷ 0 ∷ 204881 ∷ 6690 ∷ 265091 ∷ 0 ∷ 2000 ∷ 2000 ∷ 1338000 ∷ 0 ∷ 10000 ∷ 66900 ∷ 33450 ∷ 204881 ∷ 10035 ∷ 295196 ∷ 0 ∷ 2000 ∷ 2000 ∷ 1338000 ∷ 0 ∷ 0 ∷ 66900 ∷ 0 ∷ 0 ∷ 6690 ∷ 60210 ∷ 0 ∷ 2000 ∷ 1000 ∷ 1338000 ∷ 0 ∷ 10000 ∷ 66900 ∷ 0 ∷ 0 ∷ 6690 ∷ 60210 ∷ 0 ∷ []) 5352000 5352000
    ∷ whole_bill alder_stations (0 ∷ 0 ∷ 0 ∷ 7930000 ∷ 100000 ∷ 0 ∷ 0 ∷ 0 ∷ 0 ∷ 0 ∷ 0 ∷ 44000 ∷ 2933 ∷ 30676000 ∷ 0 ∷ 0 ∷ 1533800 ∷ 0 ∷ 0 ∷ 153380 ∷ 1380420 ∷ 0 ∷ []) 30676000 22746000
    ∷ balance_case alder_stations (pos 22746000) true true false
    ∷ charges_case four_flags true true true
    ∷ charges_case (limits_stations 4) false false false
    -- and what their sites have without the mark
    ∷ station_case (limits_stations 4) 1 true (999 ∷ 999 ∷ 668331 ∷ 0 ∷ 10000 ∷ 0 ∷ 33450 ∷ 0 ∷ 3345 ∷ 30105 ∷ 0 ∷ [])
    ∷ station_case (limits_stations 4) 3 true (1000 ∷ 1000 ∷ 669000 ∷ 0 ∷ 10000 ∷ 33450 ∷ 33450 ∷ 18816 ∷ 6690 ∷ 79026 ∷ 0 ∷ [])
    ∷ station_case (limits_stations 4) 4 true (999 ∷ 999 ∷ 668331 ∷ 0 ∷ 9999 ∷ 0 ∷ 0 ∷ 0 ∷ 0 ∷ 0 ∷ 2 ∷ [])
    ∷ station_case (limits_stations 4) 5 true (1000 ∷ 1000 ∷ 669000 ∷ 0 ∷ 10000 ∷ 0 ∷ 0 ∷ 0 ∷ 0 ∷ 0 ∷ 1 ∷ [])
    ∷ station_case four_flags 1 false (2000 ∷ 2000 ∷ 1338000 ∷ 0 ∷ 0 ∷ 66900 ∷ 0 ∷ 204881 ∷ 6690 ∷ 265091 ∷ 0 ∷ [])
    ∷ station_case four_flags 2 false (2000 ∷ 2000 ∷ 1338000 ∷ 0 ∷ 10000 ∷ 66900 ∷ 33450 ∷ 204881 ∷ 10035 ∷ 295196 ∷ 0 ∷ [])
    ∷ station_case four_flags 3 true (2000 ∷ 2000 ∷ 1338000 ∷ 0 ∷ 0 ∷ 66900 ∷ 0 ∷ 204881 ∷ 6690 ∷ 265091 ∷ 0 ∷ [])
    ∷ station_case four_flags 4 true (2000 ∷ 1000 ∷ 1338000 ∷ 0 ∷ 10000 ∷ 66900 ∷ 33450 ∷ 37631 ∷ 10035 ∷ 127946 ∷ 0 ∷ [])
    ∷ station_case alder_stations 2 true (44000 ∷ 2933 ∷ 30676000 ∷ 0 ∷ 0 ∷ 1533800 ∷ 0 ∷ 4697263 ∷ 153380 ∷ 6077683 ∷ 0 ∷ [])
    ∷ station_case (limits 4) 3 false (1000 ∷ 1000 ∷ 669000 ∷ 0 ∷ 10000 ∷ 33450 ∷ 33450 ∷ 18816 ∷ 6690 ∷ 79026 ∷ 0 ∷ [])
    -- what they had before there were stations, when a flag of 2 said devices; by the operators' table, and with the former limit of tg
    ∷ former_station_case four_flags 3 (2000 ∷ 2000 ∷ 1338000 ∷ 0 ∷ 10000 ∷ 66900 ∷ 33450 ∷ 204881 ∷ 10035 ∷ 295196 ∷ 0 ∷ [])
    ∷ former_station_case four_flags 4 (2000 ∷ 1000 ∷ 1338000 ∷ 0 ∷ 10000 ∷ 66900 ∷ 33450 ∷ 37631 ∷ 10035 ∷ 127946 ∷ 0 ∷ [])
    ∷ by_table_case alder_stations 2 (44000 ∷ 2933 ∷ 30676000 ∷ 0 ∷ 0 ∷ 1533800 ∷ 0 ∷ 0 ∷ 153380 ∷ 1380420 ∷ 0 ∷ [])
    ∷ former_case alder_stations 2 (44000 ∷ 2000 ∷ 30676000 ∷ 0 ∷ 0 ∷ 1533800 ∷ 0 ∷ 0 ∷ 153380 ∷ 1380420 ∷ 0 ∷ [])
    -- flags, by version; Q, P and a generator where the flag has no 1, and where it has
    ∷ refused_case (one_flag 1 2 0 0 []) 11 1
    ∷ refused_case (one_flag 1 3 0 0 []) 11 1
    ∷ refused_case (one_flag 1 2 1 0 []) 11 1
    ∷ refused_case (one_flag 2 4 0 0 (0 ∷ [])) 11 1
    ∷ refused_case (one_flag 2 255 0 0 (0 ∷ [])) 11 1
    ∷ refused_case (one_flag 2 2 1 0 (0 ∷ [])) 12 1
    ∷ refused_case (one_flag 2 2 0 1 (0 ∷ [])) 12 1
    ∷ refused_case (one_flag 2 0 1 0 (0 ∷ [])) 12 1
    ∷ refused_case (one_flag 2 3 20001 0 (0 ∷ [])) 12 1
    ∷ active_case (one_flag 2 3 20000 20000 (0 ∷ [])) 1 1000
    ∷ refused_case (one_line 2 2 8 0 0 ((1 ∷ 0 ∷ []) ∷ [])) 26 1
    ∷ active_case (one_line 2 3 8 1000 5000 ((1 ∷ 4500 ∷ []) ∷ [])) 1 500
    ∷ []

abbrev pub same : List ℕ → List ℕ → Bool
same xs ys = pointwise nat_eq xs ys

abbrev pub accepts : Option (ℕ × ℕ) → Bool
accepts none = true
accepts (some r) = false

abbrev pub refuses : ℕ → ℕ → Option (ℕ × ℕ) → Bool
refuses number place none = false
refuses number place (some r) = eqb r.0 number && eqb r.1 place

abbrev pub equal : ℤ → ℤ → Bool
equal y z = int_eq y z

abbrev pub agree : Bool → Bool → Bool
agree true b = b
agree false b = not b

-- a line between two sites has a meter of reactive consumption
abbrev pub measured_line : Line → Bool
measured_line l = eqb l.from 0 || (eqb l.to 0 || measures_reactive l.meters)

-- 0 if the consumption charge of site k is due, else 1
abbrev pub undue_at : List ℕ → ℕ → ℕ
undue_at file k = cond (consumption_due (site_record (park_of file) k).power (numbers file k 1)) 0 1

-- the charges of Pc are within half a kopeck a site
abbrev pub charges_within : List ℕ → Bool
charges_within file =
    let h = (park_of file).header in
    leb (2 * (10000000 * total file 6)) (2 * (total file 3 * h.price) + 10000000 * h.sites)
    && leb (2 * (total file 3 * h.price)) (2 * (10000000 * total file 6) + 10000000 * h.sites)

unfoldable pub holds : Case → Bool
holds (whole_bill file list settled network) =
    accepts (refusal file)
    && (same (bills_of (park_of file) (park_of file).header.sites) list
    && (eqb (total file 3) settled && equal (network_energy (park_of file)) (pos network)))
holds (file_case file bytes) = same file bytes
holds (printed file text) = same (answer_to file) (ascii text)
holds (former_case file k list) = same (words (former_bill (park_of file) k)) list
holds (by_reason_case file k list) = same (words (bill_by_reason (park_of file) k)) list
holds (station_case file k station list) =
    let p = park_of file in
    accepts (refusal file) && (agree station (is_station (site_record p k)) && same (words (bill (without_marks p) k)) list)
holds (former_station_case file k list) = same (words (bill_without_stations (park_of file) k)) list
holds (by_table_case file k list) = same (words (bill_by_table (park_of file) k)) list
holds (refused_case file number place) = refuses number place (refusal file)
holds (active_case file k wp) = accepts (refusal file) && eqb (active_net (touching k (park_of file))) wp
holds (tangent_case wq wp tg) = eqb (tangent wp wq) tg
holds (estimate_case tg wp out) = eqb (estimated_out tg wp) out
holds (surcharge_case tg pc p2) = eqb (surcharge pc tg) p2 && eqb (surcharge_by_table pc tg) p2
holds (charge_case product pc) = eqb (loss_charge product 1) pc
holds (reason_case c g r) = eqb (reason 16 c g) r
holds (due_case power c g pc pg r) =
    agree pc (consumption_due power c) && (agree pg (generation_due power g) && eqb (reason power c g) r)
holds (balance_case file energy measured balanced uncut) =
    accepts (refusal file)
    && (equal (network_energy (park_of file)) energy
    && (agree measured (all_of measured_line (park_of file).lines)
    && (agree balanced (equal (pos (total file 3)) (network_energy (park_of file) +ℤ pos (total file 4)))
    && agree uncut (eqb (total file 4) 0))))
holds (charges_case file due without_reason within) =
    accepts (refusal file)
    && (all_of measured_line (park_of file).lines
    && (eqb (total file 4) 0
    && (agree due (eqb (over_sites (undue_at file) (park_of file).header.sites) 0)
    && (agree without_reason (eqb (total file 11) 0) && agree within (charges_within file)))))

-- that something is so, or that it is not
abbrev pub Whether : Bool → Type 0 → Type 0
Whether true A = A
Whether false A = A → ⊥

-- what an entry means
abbrev pub Says : Case → Type 0
Says (whole_bill file list settled network) =
    IsAccepted file
    × ((bills_of (park_of file) (park_of file).header.sites ≡ list)
    × ((total file 3 ≡ settled) × (network_energy (park_of file) ≡ pos network)))
Says (file_case file bytes) = file ≡ bytes
Says (printed file text) = answer_to file ≡ ascii text
Says (former_case file k list) = (words (former_bill (park_of file) k) ≡ list) × SiteLaws (park_of file) k
Says (by_reason_case file k list) = (words (bill_by_reason (park_of file) k) ≡ list) × SiteLaws (park_of file) k
Says (station_case file k station list) =
    let p = park_of file in
    IsAccepted file
    × ((is_station (site_record p k) ≡ station) × ((words (bill (without_marks p) k) ≡ list) × AcceptedLaws file k))
Says (former_station_case file k list) = (words (bill_without_stations (park_of file) k) ≡ list) × SiteLaws (park_of file) k
Says (by_table_case file k list) = (words (bill_by_table (park_of file) k) ≡ list) × SiteLaws (park_of file) k
Says (refused_case file number place) =
    (refusal file ≡ some (number, place)) × RefusedLaws file (some (number, place))
Says (active_case file k wp) =
    IsAccepted file × ((active_net (touching k (park_of file)) ≡ wp) × AcceptedLaws file k)
Says (tangent_case wq wp tg) = tangent wp wq ≡ tg
Says (estimate_case tg wp out) = estimated_out tg wp ≡ out
Says (surcharge_case tg pc p2) = (surcharge pc tg ≡ p2) × (surcharge_by_table pc tg ≡ p2)
Says (charge_case product pc) = loss_charge product 1 ≡ pc
Says (reason_case c g r) = reason 16 c g ≡ r
Says (due_case power c g pc pg r) =
    (consumption_due power c ≡ pc)
    × ((generation_due power g ≡ pg) × ((reason power c g ≡ r) × (reason power c g ≡ former_reason power c g)))
Says (balance_case file energy measured balanced uncut) =
    IsAccepted file
    × ((network_energy (park_of file) ≡ energy)
    × (Whether measured (Measured (park_of file))
    × (Whether balanced (pos (total file 3) ≡ network_energy (park_of file) +ℤ pos (total file 4))
    × (Whether uncut (AllZero (park_of file) (numbers file) 4)
    × (Measured (park_of file)
    → Balance (park_of file) (numbers file)
    × (((before : List ℕ) → bill_numbers * (park_of file).header.sites ≤ length before → Balance (park_of file) (in_list (list_after file before)))
    × ((site : ℕ) (bills : ℕ → ℕ → ℕ)
    → EachSite (λ (k : ℕ). (j : ℕ) → bills k j ≡ with_numbers file site (reply_numbers (site_outcome file site)) k j) (park_of file).header.sites
    → Balance (park_of file) bills)))))))
Says (charges_case file due without_reason within) =
    IsAccepted file
    × (Measured (park_of file)
    × (AllZero (park_of file) (numbers file) 4
    × (Whether due (AllConsumptionDue (park_of file) (numbers file))
    × (Whether without_reason (AllZero (park_of file) (numbers file) 11)
    × (Whether within (ChargesWithin (park_of file) (numbers file))
    × (AllConsumptionDue (park_of file) (numbers file) → ChargesWithin (park_of file) (numbers file)))))))

abbrev pub AllCases : Type 0
AllCases = Every Says cases
