-- How many words a thread has to drain before and after a drain.
use Rattle.std.proofs.Common.{◌≡◌, ℕ, suc, ◌+◌, ◌-◌, ◌<◌, ◌≤◌, Bool, true, false, cond, eqb, List, [], length, set, Some, None, Ok, Err, Option, Result, refl, ap, ◌∙◌, inl, inr, arith}
use Rattle.common.specs.declared.refusal.Refusal.{Refusal}
use Rattle.common.specs.declared.refusal.Refusal.TheVariants.{NoSuchThread, WrongState}
use Rattle.layout.specs.declared.entries.WriteEntry.{WriteEntry}
use Rattle.rules.specs.Admission.{admitted, admission, is_thread}
use Rattle.rules.specs.Drain.{drain, drain_admitted, drain_next, drain_sealed, release, settle}
use Rattle.rules.specs.Maps.{Map, at, put}
use Rattle.rules.specs.Outcomes.{Outcome, refuse}
use Rattle.rules.specs.States.{World, Thread, enter, thread_of, with_phase}
use Rattle.rules.specs.declared.answer.Answer.TheVariants.{Left, Refused}
use Rattle.rules.specs.declared.kind.Kind.TheVariants.{Drain}
use Rattle.rules.specs.declared.phase.Phase.{Phase}
use Rattle.rules.specs.declared.phase.Phase.TheVariants.{Idle, Running, Sealed, Lost}
use Rattle.std.proofs.lemmas.Option.{slice_get_cases, slice_get_within}
use Rattle.std.proofs.lemmas.Bool.{cond-true, eq-eqb, ne_eqb}
use Rattle.std.specs.List.{slice_get}
use Rattle.tickets.specs.Drains.{drain_all, drains, left_in, left_of, words_left}

at_put_same : {A : Type 0} (m : Map A) (n : ℕ) (x : A) → at (put m n x) n ≡ x
unfolding at put
at_put_same m n x = cond-true (eqb n n) x (m.fun n) (eq-eqb n n refl)

-- a list that has no element at a place ends before it
none_past : {A : Type 0} (xs : List A) (i : ℕ) → slice_get xs i ≡ None → length xs ≤ i
none_past xs i e = elim (slice_get_cases xs i).1 as (λ _. length xs ≤ i) [ inl p ↦ absurd (cc) | inr p ↦ p.0 ]

-- what a drain tells, and the words left before and after it, by its answer
pub record Counted (before after : ℕ) (o : Outcome) : Type 0 where
  pub told : o.told ≡ []
  pub last : o.answer ≡ Left 0 → before ≤ 1
  pub more : (k : ℕ) → o.answer ≡ Left k → 0 < k → (before ≡ suc k) × (after ≡ k)
  pub refused : (r : Refusal) → o.answer ≡ Refused r → before ≡ 0

refused_counted : (w : World) (n : ℕ) (r : Refusal) → Counted 0 (words_left w n) (refuse w r)
refused_counted w n r = record {
  told = refl;
  last = λ e. omega arith;
  more = λ k e h. absurd (cc);
  refused = λ q e. refl;
}

module _ (w : World) (n ticket drained : ℕ) (inside : is_thread w.engine.set_up n ≡ true) where
  abbrev log : List WriteEntry
  log = (thread_of w.engine n).writes

  -- the thread with one word more drained
  abbrev still : Thread
  still = with_phase (thread_of w.engine n) (Sealed ticket (drained + 1))

  -- the words that a thread of this set-up has to drain
  abbrev left_by : Thread → ℕ
  left_by t = left_of t (cond (is_thread w.engine.set_up n) (admission Drain t.phase) (Err NoSuchThread))

  left_still : (ws : List ℕ) →
      words_left (record { engine = enter w.engine n (Sealed ticket (drained + 1)); words = ws }) n ≡
      length log - (drained + 1)
  unfolding words_left
  left_still ws =
      ap left_by (at_put_same w.engine.threads n still) ∙
      ap (λ (b : Bool). left_of still (cond b (Ok tt) (Err NoSuchThread))) inside

  left_settled : (ws : List ℕ) → eqb (length log - (drained + 1)) 0 ≡ false →
      words_left (record { engine = settle w.engine n ticket (drained + 1) (length log - (drained + 1)); words = ws }) n ≡
      length log - (drained + 1)
  left_settled ws more =
      ap (λ (b : Bool). words_left (record { engine = cond b (release w.engine n (Some ticket)) (enter w.engine n (Sealed ticket (drained + 1))); words = ws }) n) more
      ∙ left_still ws

  next_counted : (o : Option WriteEntry) → slice_get log drained ≡ o →
      Counted (length log - drained) (words_left (drain_next w n ticket drained (length log) o).after n)
      (drain_next w n ticket drained (length log) o)
  next_counted None e =
      let end = none_past log drained e in record {
        told = refl;
        last = λ p. omega (arith, end);
        more = λ k p h. let z : 0 ≡ k = cc in absurd (omega arith);
        refused = λ r p. absurd (cc);
      }
  next_counted (Some x) e =
      let room = slice_get_within log drained x e in record {
        told = refl;
        last = λ p. let z : length log - (drained + 1) ≡ 0 = cc in omega (arith, room);
        more = λ k p h.
            let z : length log - (drained + 1) ≡ k = cc in (
              omega (arith, room),
              left_settled (set w.words x.address x.word) (ne_eqb (length log - (drained + 1)) 0 (λ q. omega arith)) ∙ z,
            );
        refused = λ r p. absurd (cc);
      }

-- in the state of a sealed thread a word is drained; no other state lets a drain in
sealed_counted : (w : World) (n : ℕ) → is_thread w.engine.set_up n ≡ true → (p : Phase) →
    Counted (left_in (length (thread_of w.engine n).writes) p) (words_left (drain_sealed w n p).after n) (drain_sealed w n p)
sealed_counted w n inside Idle = refused_counted w n WrongState
sealed_counted w n inside Running = refused_counted w n WrongState
sealed_counted w n inside (Sealed ticket drained) =
    next_counted w n ticket drained inside (slice_get (thread_of w.engine n).writes drained) refl
sealed_counted w n inside (Lost l) = refused_counted w n WrongState

-- who is let in is a thread of the set-up
let_in_inside : (b : Bool) (r : Result (Unit {0}) Refusal) (x : Unit {0}) → cond b r (Err NoSuchThread) ≡ Ok x → b ≡ true
let_in_inside true r x e = refl
let_in_inside false r x e = absurd (cc)

pub counted : (w : World) (n : ℕ) → Counted (words_left w n) (words_left (drain w n).after n) (drain w n)
unfolding words_left
counted w n = go (admitted w.engine Drain n) refl
  where
    go : (r : Result (Unit {0}) Refusal) → admitted w.engine Drain n ≡ r →
        Counted (left_of (thread_of w.engine n) r) (words_left (drain_admitted w n r).after n) (drain_admitted w n r)
    go (Err r) e = refused_counted w n r
    go (Ok x) e =
        sealed_counted w n
        (let_in_inside (is_thread w.engine.set_up n) (admission Drain (thread_of w.engine n).phase) x e)
        (thread_of w.engine n).phase

-- with one word left, or none, one drain is all
pub all_by_one : (w : World) (n : ℕ) → words_left w n ≤ 1 → drain_all w n ≡ drain w n
unfolding drain_all drains
all_by_one w n h =
    let none : words_left w n - 1 ≡ 0 = omega arith in
    ap (λ (k : ℕ). drains k w n) none

-- with more, the others are drained after the first
pub all_by_more : (w : World) (n k : ℕ) → (drain w n).answer ≡ Left k → 0 < k →
    drain_all w n ≡ drain_all (drain w n).after n
unfolding drain_all drains
all_by_more w n k e h =
    let both = (counted w n).more k e h in
    let one : words_left w n - 1 ≡ suc (words_left (drain w n).after n - 1) = omega (arith, both.0, both.1) in
    ap (λ (j : ℕ). drains j w n) one
