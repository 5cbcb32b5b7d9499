-- A set-up is known by its four numbers.
use Rattle.std.proofs.Common.{◌≡◌, ℕ, ◌≤◌, Bool, true, false, Ok, Err, Result, sym, refl, ap, ◌∙◌, arith}
use native.Mathlib.Bridge.{le_prop}
use Rattle.std.proofs.lemmas.Bool.Decides.{nat_tests}
use mathlib.Core.Bool.{Bool-set}
use mathlib.Core.HLevel.{is_prop→PathP}
use Rattle.common.specs.declared.refusal.Refusal.{Refusal}
use Rattle.layout.specs.Limits.{thread_count, stripe_count, shift_width, clock_limit}
use Rattle.layout.specs.SetUps.{numbers, numbers_of, set_up_or_refusal}
use Rattle.layout.specs.declared.set_up.SetUp.{SetUp}
use Rattle.session.specs.SetUps.{threaded, striped, shifted, limited, set_up_of}

-- set-ups with the same numbers are one
pub same_set_up : (u v : SetUp) → numbers u ≡ numbers v → u ≡ v
same_set_up u v e = λ i. record {
  threads = (e i).threads;
  stripes = (e i).stripes;
  shift = (e i).shift;
  limit = (e i).limit;
  some = is_prop→PathP (λ k. 1 ≤ (e k).threads) (λ k. le_prop) u.some v.some i;
  eight = is_prop→PathP (λ k. (e k).threads ≤ 8) (λ k. le_prop) u.eight v.eight i;
  powers = is_prop→PathP (λ k. stripe_count (e k).stripes ≡ true) (λ k. Bool-set (stripe_count (e k).stripes) true) u.powers v.powers i;
  narrow = is_prop→PathP (λ k. (e k).shift ≤ 8) (λ k. le_prop) u.narrow v.narrow i;
  ticks = is_prop→PathP (λ k. 1 ≤ (e k).limit) (λ k. le_prop) u.ticks v.ticks i;
  fits = is_prop→PathP (λ k. (e k).limit ≤ 2147483647) (λ k. le_prop) u.fits v.fits i;
}

-- so are answers with the same numbers
pub same_answer : (r s : Result SetUp Refusal) → numbers_of r ≡ numbers_of s → r ≡ s
same_answer (Ok u) (Ok v) e = ap Ok (same_set_up u v (cc))
same_answer (Ok u) (Err f) e = let z : ◌≡◌ {A = ℕ} 0 1 = cc in absurd (omega arith)
same_answer (Err d) (Ok v) e = let z : ◌≡◌ {A = ℕ} 0 1 = cc in absurd (omega arith)
same_answer (Err d) (Err f) e = cc

-- the set-up of four numbers has these numbers, or there is none for the same reason
numbers_limited : (t s h l : ℕ) (a : thread_count t ≡ true) (b : stripe_count s ≡ true) (d : shift_width h ≡ true) (ok : Bool) (e : clock_limit l ≡ ok) → numbers_of (limited t s h l a b d ok e) ≡ set_up_or_refusal t s h l
numbers_limited t s h l a b d true e = grind (arith, nat_tests)
numbers_limited t s h l a b d false e = grind (arith, nat_tests)

numbers_shifted : (t s h l : ℕ) (a : thread_count t ≡ true) (b : stripe_count s ≡ true) (ok : Bool) (e : shift_width h ≡ ok) → numbers_of (shifted t s h l a b ok e) ≡ set_up_or_refusal t s h l
numbers_shifted t s h l a b true e = numbers_limited t s h l a b e (clock_limit l) refl
numbers_shifted t s h l a b false e = grind (arith, nat_tests)

numbers_striped : (t s h l : ℕ) (a : thread_count t ≡ true) (ok : Bool) (e : stripe_count s ≡ ok) → numbers_of (striped t s h l a ok e) ≡ set_up_or_refusal t s h l
numbers_striped t s h l a true e = numbers_shifted t s h l a e (shift_width h) refl
numbers_striped t s h l a false e = grind (arith, nat_tests)

numbers_threaded : (t s h l : ℕ) (ok : Bool) (e : thread_count t ≡ ok) → numbers_of (threaded t s h l ok e) ≡ set_up_or_refusal t s h l
numbers_threaded t s h l true e = numbers_striped t s h l e (stripe_count s) refl
numbers_threaded t s h l false e = grind (arith, nat_tests)

-- whatever has the numbers of the set-up of four numbers is that set-up
pub is_set_up_of : (t s h l : ℕ) (r : Result SetUp Refusal) → numbers_of r ≡ set_up_or_refusal t s h l → r ≡ set_up_of t s h l
is_set_up_of t s h l r e = same_answer r (set_up_of t s h l) (e ∙ sym (numbers_threaded t s h l (thread_count t) refl))
