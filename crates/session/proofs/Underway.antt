-- A text that is printed piece by piece, and how long it becomes.
use Rattle.std.proofs.Common.{◌≡◌, ℕ, ◌+◌, ◌≤◌, List, [], ◌++◌, length, sym, refl, ap, ◌∙◌, append_assoc, append-nil, arith, length-append}
use Rattle.printing.proofs.Printed.{printed_none, printed_as, printed_more}
use Rattle.printing.specs.Pages.{Printed}
use Rattle.printing.specs.declared.page.Page.{Page}

-- of the whole text all but the rest is printed. Under a premise it is short enough to leave so much of a total
pub record Underway (Small : Type 0) (whole rest : List ℕ) (before after : Page) (left total : ℕ) : Type 0 where
  pub done : List ℕ
  pub split : whole ≡ done ++ rest
  pub so_far : Printed done before after
  pub short : Small → length done + left ≤ total

-- the whole text is printed, and under a premise it is within a total
pub record Finished (Small : Type 0) (whole : List ℕ) (before after : Page) (total : ℕ) : Type 0 where
  pub all : Printed whole before after
  pub short : Small → length whole ≤ total

-- nothing is printed yet
pub underway_none : (Small : Type 0) (whole : List ℕ) (page : Page) (total : ℕ) → Underway Small whole whole page page total total
underway_none Small whole page total =
    record { done = []; split = refl; so_far = printed_none page; short = λ s. omega arith }

-- a piece more is printed
pub underway_more : {Small : Type 0} {left left' total : ℕ} {whole rest : List ℕ} {before between after : Page} (piece more : List ℕ) → Underway Small whole rest before between left total → rest ≡ piece ++ more → Printed piece between after → (Small → length piece + left' ≤ left) → Underway Small whole more before after left' total
underway_more piece more u e p few =
    record {
      done = u.done ++ piece;
      split = u.split ∙ ap (λ r. u.done ++ r) e ∙ sym (append_assoc u.done piece more);
      so_far = printed_more u.so_far p;
      short = λ s. let a = u.short s in let b = few s in simp length-append (omega arith);
    }

-- no text is left: the whole is printed
pub underway_all : {Small : Type 0} {left total : ℕ} {whole rest : List ℕ} {before after : Page} → Underway Small whole rest before after left total → rest ≡ [] → Finished Small whole before after total
underway_all u e =
    let same = u.split ∙ ap (λ r. u.done ++ r) e ∙ append-nil u.done in
    record { all = printed_as (sym same) u.so_far; short = λ s. omega (arith, u.short s, ap length same) }

-- the rest is printed in one piece
pub underway_last : {Small : Type 0} {left total : ℕ} {whole rest : List ℕ} {before between after : Page} (piece : List ℕ) → Underway Small whole rest before between left total → rest ≡ piece → Printed piece between after → (Small → length piece ≤ left) → Finished Small whole before after total
underway_last piece u e p few =
    underway_all (underway_more {left' = 0} piece [] u (e ∙ sym (append-nil piece)) p (λ s. omega (arith, few s))) refl
