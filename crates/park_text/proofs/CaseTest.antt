-- The starred cases: one computed test over the list, and what it means of each entry.
-- Assumes nothing.
use Prim.Native.Nat.{ℕ}
use mathlib.Core.Path.{◌≡◌, refl, sym, ap, ap₂, ◌∙◌}
use mathlib.Core.Bool.{Bool, true, false, cond, ◌||◌, true≢false}
use mathlib.Core.List.{List, [], ◌∷◌}
use mathlib.Core.Option.{Option, none, some}
use lib.Dec.{eqb}
use lib.IntN.{pos}
use borrow.Author.Tests.{eqb-true, eq-eqb, le-leb, leb-true, ne_eqb}
use Rattle.std.specs.Cmp.Derive.{both_true}
use Rattle.std.specs.Cmp.Lexicographic.{bytes_decides}
use Rattle.std.proofs.lemmas.Bool.Decides.{Decides-int_eq}
use Rattle.park_format.proofs.Tests.{and_both}
use Rattle.park_format.specs.Park.{generator_at, generator_of, header_of, line_at, line_of, list_of, park_of, select, site_at, site_of}
use Rattle.park_format.specs.Format.{fields_at, number_at, header_size, line_size}
use Rattle.park_format.specs.Made.{bytes_for, bytes_of, file_of, joined}
use Rattle.park_format.specs.Rules.{each, file_rules, first_broken, generator_rules, header_rules, input_rules, line_rules, measures_reactive, most_hours, refusal, rules_with, site_rules}
use Rattle.park_format.specs.Accepted.{Every}
use Rattle.park_format.specs.declared.line.Line.{Line}
use Rattle.park_charge.specs.Rounding.{rounded}
use Rattle.park_charge.specs.Flow.{estimated_out, inflow, outflow, tangent}
use Rattle.park_charge.specs.Losses.{above_zero, cut}
use Rattle.park_charge.specs.Former.{former_reason, former_surcharge, former_tangent}
use Rattle.park_charge.specs.Generation.{computed_generation}
use Rattle.park_charge.specs.Charge.{computed_charge, consumption_due, discount, factor_at, generation_due, loss_charge, reason, surcharge, surcharge_factor}
use Rattle.park_charge.specs.ByTable.{factor_by_table, surcharge_by_table}
use Rattle.park_sums.specs.Sums.{all_of, over_sites, sum_by, EachSite}
use Rattle.park_bill.specs.Balance.{AllConsumptionDue, ChargesWithin, MeasuredBetween}
use Rattle.park_bill.specs.Bill.{consumption_at, generation_charge, generation_of, site_record, tangent_of, weighted_at}
use Rattle.park_format.specs.Call.{refusal_with}
use Rattle.park_bill.specs.Reply.{bills_of, call_refusal}
use Rattle.park_text.specs.Answer.{answer_to}
use Rattle.park_text.specs.Ascii.{ascii}
use Rattle.park_text.specs.Text.{bill_text, decimal, digits_within, fields_text, names_text, refusal_text, site_text, sites_text}
use Rattle.park_text.specs.Cases.{accepts, agree, AllCases, Case, cases, charges_within, holds, measured_line, numbers, refuses, Says, undue_at, Whether}
use Rattle.park_text.specs.Cases.Case.{active_case, balance_case, by_reason_case, by_table_case, charge_case, charges_case, due_case, estimate_case, file_case, former_case, former_station_case, printed, reason_case, refused_case, station_case, surcharge_case, tangent_case, whole_bill}
use Rattle.park_charge.proofs.Former.{same_reason}
use Rattle.park_text.proofs.Instances.{accepted_laws, refused_laws, site_laws}
use Rattle.park_bill.proofs.Outcomes.{loss_balance, site_in_balance}
use Rattle.park_bill.proofs.Balances.{over_cong, over_none, over_zero}

-- the test
all_hold : all_of holds cases ≡ true
unfolding holds bytes_for bytes_of file_of joined fields_at number_at header_of generator_at generator_of line_at line_of list_of park_of select site_at site_of each file_rules first_broken generator_rules header_rules header_size input_rules line_rules line_size most_hours refusal rules_with site_rules rounded inflow estimated_out outflow tangent above_zero cut computed_generation former_tangent former_surcharge computed_charge consumption_due discount generation_due loss_charge reason former_reason factor_at surcharge surcharge_factor factor_by_table surcharge_by_table all_of sum_by consumption_at generation_charge generation_of tangent_of weighted_at bills_of call_refusal refusal_with over_sites answer_to decimal digits_within bill_text names_text sites_text site_text fields_text refusal_text
all_hold = refl

-- what each part of the test means
accepts_is : (o : Option (ℕ × ℕ)) → accepts o ≡ true → o ≡ none
accepts_is none e = refl
accepts_is (some r) e = absurd (true≢false (sym e))

refuses_is : (number place : ℕ) (o : Option (ℕ × ℕ)) → refuses number place o ≡ true → o ≡ some (number, place)
refuses_is number place none e = absurd (true≢false (sym e))
refuses_is number place (some r) e =
    let h = and_both (eqb r.0 number) (eqb r.1 place) e in
    ap₂ (λ (n p : ℕ). some (n, p)) (eqb-true r.0 number h.0) (eqb-true r.1 place h.1)

-- a Boolean that agrees with what is told says whether it is so
whether : (told test : Bool) {A : Type 0} → (test ≡ true → A) → (A → test ≡ true) → agree told test ≡ true → Whether told A
whether true test so test_of e = so e
whether false true so test_of e = absurd (true≢false (sym e))
whether false false so test_of e = λ a. true≢false (sym (test_of a))

agrees : (told test : Bool) → agree told test ≡ true → test ≡ told
agrees true test e = e
agrees false false e = refl
agrees false true e = absurd (true≢false (sym e))

-- a line's test, by its three parts
parts : (f t m : Bool) → (f || (t || m)) ≡ true → f ≡ false → t ≡ false → m ≡ true
parts f t m e p q = cc

parts_true : (f t m : Bool) → (f ≡ false → t ≡ false → m ≡ true) → (f || (t || m)) ≡ true
parts_true true t m h = refl
parts_true false true m h = refl
parts_true false false m h = h refl refl

metered : (l : Line) → measured_line l ≡ true → MeasuredBetween l
metered l e f t = parts (eqb l.from 0) (eqb l.to 0) (measures_reactive l.meters) e (ne_eqb l.from 0 f) (ne_eqb l.to 0 t)

line_test : (l : Line) → MeasuredBetween l → measured_line l ≡ true
line_test l m =
    parts_true (eqb l.from 0) (eqb l.to 0) (measures_reactive l.meters)
    (λ f t. m (λ e. true≢false (sym (eq-eqb l.from 0 e) ∙ f)) (λ e. true≢false (sym (eq-eqb l.to 0 e) ∙ t)))

measured_is : (lines : List Line) → all_of measured_line lines ≡ true → Every MeasuredBetween lines
unfolding all_of
measured_is [] e = tt
measured_is (l ∷ lines) e =
    let h = and_both (measured_line l) (all_of measured_line lines) e in
    (metered l h.0, measured_is lines h.1)

is_measured : (lines : List Line) → Every MeasuredBetween lines → all_of measured_line lines ≡ true
unfolding all_of
is_measured [] m = refl
is_measured (l ∷ lines) m = both_true (line_test l m.0) (is_measured lines m.1)

uncut_is : (f : ℕ → ℕ) (n : ℕ) → eqb (over_sites f n) 0 ≡ true → EachSite (λ (k : ℕ). f k ≡ 0) n
uncut_is f n e = over_zero f n (eqb-true _ 0 e)

is_uncut : (f : ℕ → ℕ) (n : ℕ) → EachSite (λ (k : ℕ). f k ≡ 0) n → eqb (over_sites f n) 0 ≡ true
is_uncut f n uncut = eq-eqb _ 0 (over_cong f (λ (k : ℕ). 0) n uncut ∙ over_none n)

-- every consumption charge is due
all_due_is : (file : List ℕ) → eqb (over_sites (undue_at file) (park_of file).header.sites) 0 ≡ true → AllConsumptionDue (park_of file) (numbers file)
all_due_is file e k l h = by (consumption_due (site_record (park_of file) k).power (numbers file k 1)) (uncut_is (undue_at file) _ e k l h)
  where
    by : (due : Bool) → ◌≡◌ {A = ℕ} (cond due 0 1) 0 → due ≡ true
    by true q = refl
    by false q = cc

is_all_due : (file : List ℕ) → AllConsumptionDue (park_of file) (numbers file) → eqb (over_sites (undue_at file) (park_of file).header.sites) 0 ≡ true
is_all_due file due = is_uncut (undue_at file) _ (λ k l h. ap (λ (d : Bool). cond d 0 1) (due k l h))

-- the charges are within half a kopeck a site
within_is : (file : List ℕ) → charges_within file ≡ true → ChargesWithin (park_of file) (numbers file)
within_is file e =
    let h = and_both _ _ e in
    (leb-true _ _ h.0, leb-true _ _ h.1)

is_within : (file : List ℕ) → ChargesWithin (park_of file) (numbers file) → charges_within file ≡ true
is_within file w = both_true (le-leb _ _ w.0) (le-leb _ _ w.1)

-- an entry that holds says what it means
entry : (c : Case) → holds c ≡ true → Says c
unfolding holds
entry (whole_bill file list settled network) e =
    let a = and_both _ _ e in
    let b = and_both _ _ a.1 in
    let c = and_both _ _ b.1 in
    (accepts_is (refusal file) a.0, ((bytes_decides _ list).0 b.0, (eqb-true _ settled c.0, (Decides-int_eq _ (pos network)).0 c.1)))
entry (file_case file bytes) e = (bytes_decides file bytes).0 e
entry (printed file text) e = (bytes_decides _ (ascii text)).0 e
entry (former_case file k list) e = ((bytes_decides _ list).0 e, site_laws (park_of file) k)
entry (by_reason_case file k list) e = ((bytes_decides _ list).0 e, site_laws (park_of file) k)
entry (station_case file k station list) e =
    let a = and_both _ _ e in
    let b = and_both _ _ a.1 in
    let accepted = accepts_is (refusal file) a.0 in
    (accepted, (agrees station _ b.0, ((bytes_decides _ list).0 b.1, accepted_laws file accepted k)))
entry (former_station_case file k list) e = ((bytes_decides _ list).0 e, site_laws (park_of file) k)
entry (by_table_case file k list) e = ((bytes_decides _ list).0 e, site_laws (park_of file) k)
entry (refused_case file number place) e =
    let is = refuses_is number place (refusal file) e in
    (is, refused_laws file is)
entry (active_case file k wp) e =
    let a = and_both _ _ e in
    let accepted = accepts_is (refusal file) a.0 in
    (accepted, (eqb-true _ wp a.1, accepted_laws file accepted k))
entry (tangent_case wq wp tg) e = eqb-true _ tg e
entry (estimate_case tg wp out) e = eqb-true _ out e
entry (surcharge_case tg pc p2) e =
    let a = and_both _ _ e in
    (eqb-true _ p2 a.0, eqb-true _ p2 a.1)
entry (charge_case product pc) e = eqb-true _ pc e
entry (reason_case c g r) e = eqb-true _ r e
entry (due_case power c g pc pg r) e =
    let a = and_both _ _ e in
    let b = and_both _ _ a.1 in
    (agrees pc _ a.0, (agrees pg _ b.0, (eqb-true _ r b.1, same_reason power c g)))
entry (balance_case file energy measured balanced uncut) e =
    let a = and_both _ _ e in
    let b = and_both _ _ a.1 in
    let c = and_both _ _ b.1 in
    let d = and_both _ _ c.1 in (
      accepts_is (refusal file) a.0,
      (
        (Decides-int_eq _ energy).0 b.0,
        (
          whether measured _ (measured_is (park_of file).lines) (is_measured (park_of file).lines) c.0,
          (
            whether balanced _ (Decides-int_eq _ _).0 (Decides-int_eq _ _).1 d.0,
            (
              whether uncut _ (uncut_is (λ (k : ℕ). numbers file k 4) _) (is_uncut (λ (k : ℕ). numbers file k 4) _) d.1,
              λ m. (
                loss_balance.1 file (accepts_is (refusal file) a.0) m,
                (
                  λ before long. loss_balance.0 file before (accepts_is (refusal file) a.0) m long,
                  λ site bills same. (site_in_balance file site refl (accepts_is (refusal file) a.0) m).1 bills same,
                ),
              ),
            ),
          ),
        ),
      ),
    )
entry (charges_case file due without_reason within) e =
    let a = and_both _ _ e in
    let b = and_both _ _ a.1 in
    let c = and_both _ _ b.1 in
    let d = and_both _ _ c.1 in
    let f = and_both _ _ d.1 in (
      accepts_is (refusal file) a.0,
      (
        measured_is (park_of file).lines b.0,
        (
          uncut_is (λ (k : ℕ). numbers file k 4) _ c.0,
          (
            whether due _ (all_due_is file) (is_all_due file) d.0,
            (
              whether without_reason _ (uncut_is (λ (k : ℕ). numbers file k 11) _) (is_uncut (λ (k : ℕ). numbers file k 11) _) f.0,
              (
                whether within _ (within_is file) (is_within file) f.1,
                λ all_due. (loss_balance.1 file (accepts_is (refusal file) a.0) (measured_is (park_of file).lines b.0)).charges (uncut_is (λ (k : ℕ). numbers file k 4) _ c.0) all_due,
              ),
            ),
          ),
        ),
      ),
    )

entries : (cs : List Case) → all_of holds cs ≡ true → Every Says cs
unfolding all_of
entries [] e = tt
entries (c ∷ cs) e = let h = and_both (holds c) (all_of holds cs) e in (entry c h.0, entries cs h.1)

-- 01's cases are so
pub all_cases : AllCases
all_cases = entries cases all_hold
