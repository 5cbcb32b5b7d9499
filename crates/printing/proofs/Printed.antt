-- How printed texts follow one another.
use Rattle.std.proofs.Common.{◌≡◌, ℕ, List, [], ◌++◌, length, sym, refl, ap, ◌∙◌, subst, arith}
use Rattle.printing.specs.Laid.{laid, end_of}
use Rattle.printing.specs.Pages.{Printed}
use Rattle.printing.specs.declared.page.Page.{Page}
use Rattle.printing.proofs.Laying.{length_laid, laid_nothing, laid_joined, end_joined}

-- what was laid over a page's output and ends in its place is printed there
pub printed : (text : List ℕ) (before after : Page) → after.output.ghost_name ≡ before.output.ghost_name → after.output.now ≡ laid before.at text before.output.now → after.at ≡ end_of before.at text (length before.output.now) → Printed text before after
printed text before after same o p =
    let out = before.output.now in
    record {
      lender = same;
      output = o;
      place = p;
      goes_on = λ more. ap (λ e. laid e more after.output.now) p ∙ ap (laid (end_of before.at text (length out)) more) o ∙ laid_joined before.at text more out;
      ends_on = λ more.
          ap (λ e. end_of e more (length after.output.now)) p
          ∙ ap (end_of (end_of before.at text (length out)) more) (ap length o ∙ length_laid before.at text out)
          ∙ end_joined before.at text more (length out);
    }

-- no text is printed anywhere
pub printed_none : (page : Page) → Printed [] page page
unfolding end_of
printed_none page = printed [] page page refl (sym (laid_nothing page.at page.output.now)) (omega arith)

-- the same text, said in another way
pub printed_as : {s t : List ℕ} {before after : Page} → s ≡ t → Printed s before after → Printed t before after
printed_as {before = before} {after = after} e p = subst (λ (text : List ℕ). Printed text before after) e p

-- a text that is printed behind another is printed with it
pub printed_more : {s t : List ℕ} {before between after : Page} → Printed s before between → Printed t between after → Printed (s ++ t) before after
printed_more {s = s} {t = t} {before = before} {after = after} p q =
    printed (s ++ t) before after (q.lender ∙ p.lender) (q.output ∙ p.goes_on t) (q.place ∙ p.ends_on t)
