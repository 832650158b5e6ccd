-- A refusal's number is not 0, so that the number returned tells whether a bill holds a site's numbers; these are in balance.
-- Assumes nothing.
use Prim.Native.Nat.{ℕ}
use native.Mathlib.Omega.{arith}
use mathlib.Core.Logic.{◌⊎◌, inl, inr}
use mathlib.Core.Path.{◌≡◌, refl, sym, ap, ap₂, subst, ◌∙◌}
use mathlib.Core.Bool.{Bool, cond}
use mathlib.Core.List.{List, []}
use borrow.Author.Tests.{ne_eqb}
use Rattle.park_bill.specs.Balance.{SiteInBalance}
use Rattle.park_bill.specs.Reply.{reply_numbers, site_outcome}
use Rattle.park_bill.specs.declared.bill.Bill.{Bill}
use Rattle.park_bill.proofs.Billed.{never_zero}
use Rattle.park_bill.proofs.Outcomes.{site_in_balance}
use Rattle.park_c.specs.Outcome.{number_of, numbers_after, returned}

returned_is : (file : List ℕ) (site : ℕ) (before : List ℕ) (reply : (ℕ × ℕ) ⊎ Bill) → reply ≡ site_outcome file site → returned (number_of reply) (numbers_after reply before) ≡ reply_numbers reply
returned_is file site before (inl r) e =
    let above = (never_zero file r).0 site (sym e) in
    ap (λ (b : Bool). cond b before []) (ne_eqb r.0 0 (λ z. omega arith))
returned_is file site before (inr b) e = refl

-- of a call that returns and leaves what is defined
pub returned_in_balance : (file : List ℕ) (site : ℕ) (before : List ℕ) {number : ℕ} {after : List ℕ} → number ≡ number_of (site_outcome file site) → after ≡ numbers_after (site_outcome file site) before → SiteInBalance file site (returned number after)
returned_in_balance file site before told written =
    let reply = site_outcome file site in
    subst (SiteInBalance file site) (sym (ap₂ returned told written ∙ returned_is file site before reply refl)) (site_in_balance file site refl)
