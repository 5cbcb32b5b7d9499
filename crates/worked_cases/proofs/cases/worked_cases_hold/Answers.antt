use Rattle.std.proofs.Common.{◌≡◌, ℕ, cond, ltb, List, length, get_or, Ok, Err, refl, ap, arith, length-drop, length-take}
use Rattle.common.specs.declared.refusal.Refusal.TheVariants.{NoSuchPlace}
use Rattle.rules.specs.Maps.{at, put, each, everywhere}
use Rattle.session.specs.Scripts.{lines_text, script_text}
use Rattle.std.specs.Fmt.{digits}
use Rattle.stores.specs.Parts.{part}
use Rattle.stores.specs.Registers.{halved, paired}
use Rattle.text.specs.Lines.{lines}
use Rattle.text.specs.Tokens.{token_at}
use Rattle.text.specs.Verdicts.{reached}
use Rattle.worked_cases.proofs.cases.worked_cases_hold.Goals as goal
use Rattle.worked_cases.specs.Cases.{NarrowWindow, Goes, two_tasks, stolen_stripe, spent_clock, leading_zero}

two_tasks_go : Goes two_tasks
unfolding at put each everywhere lines_text script_text lines token_at reached digits
two_tasks_go = refl

stripe_is_stolen : Goes stolen_stripe
unfolding at put each everywhere lines_text script_text lines token_at reached digits
stripe_is_stolen = refl

clock_is_spent : Goes spent_clock
unfolding at put each everywhere lines_text script_text lines token_at reached digits
clock_is_spent = refl

leading_zero_faults : Goes leading_zero
unfolding at put each everywhere lines_text script_text lines token_at reached digits
leading_zero_faults = refl

window_is_narrow : (ws : List ℕ) → length ws ≡ 8 → NarrowWindow ws
unfolding part
window_is_narrow ws eight =
    let two : length (part 6 4 ws) ≡ 2 = simp (length-take, length-drop) (omega arith) in
    record { size = two; beyond = ap (λ n. cond (ltb 2 n) (Ok (get_or (part 6 4 ws) 2 0)) (Err NoSuchPlace)) two }

pub returns : goal.returns
unfolding halved paired
returns c = record {
  two_tasks_go = two_tasks_go;
  stripe_is_stolen = stripe_is_stolen;
  clock_is_spent = clock_is_spent;
  leading_zero_faults = leading_zero_faults;
  window_is_narrow = window_is_narrow;
  registers_hold_halves = refl;
  halves_make_the_word = refl;
}
