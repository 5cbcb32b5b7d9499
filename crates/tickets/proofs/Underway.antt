-- Drains on their way to the end, as the loop over them sees them.
use Rattle.std.proofs.Common.{◌≡◌, ℕ, ◌<◌, ◌≤◌, List, sym, ap, ◌∙◌, subst, arith}
use Rattle.common.specs.declared.refusal.Refusal.{Refusal}
use Rattle.contention.specs.Events.{Event, after_events}
use Rattle.memory.specs.Memories.{Did, world}
use Rattle.memory.specs.declared.memory.Memory.{Memory}
use Rattle.rules.specs.Drain.{drain}
use Rattle.rules.specs.Outcomes.{Outcome}
use Rattle.rules.specs.States.{World}
use Rattle.rules.specs.declared.answer.Answer.{Answer}
use Rattle.rules.specs.declared.answer.Answer.TheVariants.{Left, Refused}
use Rattle.stores.specs.Homes.{Home}
use Rattle.tickets.proofs.Drains.{all_by_more, all_by_one, counted}
use Rattle.tickets.specs.Drains.{drain_all, words_left}

module _ {S P : Type 0} (words : S → List ℕ) (home : S → Home) (moved : P → Event → P) where
  -- what is due from now on is what was due at the start; drains tell nothing, and the words stay where they lie
  pub record Underway (start now : Memory S P) (n : ℕ) : Type 0 where
    pub due : drain_all (world words now) n ≡ drain_all (world words start) n
    pub untold : now.policy ≡ start.policy
    pub lender : home now.words ≡ home start.words

  -- the next drain, by what it answers
  module _ (start now after : Memory S P) (n : ℕ) (u : Underway start now n) where
    -- words are left, fewer than before
    pub goes_on : (k : ℕ) → 0 < k → Did words home moved now after (Left k) (drain (world words now) n) →
        Underway start after n × (words_left (world words after) n < words_left (world words now) n)
    goes_on k h d =
        let both = (counted (world words now) n).more k (sym d.answered) h in
        let same : words_left (world words after) n ≡ words_left (drain (world words now) n).after n =
        ap (λ (w : World). words_left w n) d.left in (
          record {
            due =
                ap (λ (w : World). drain_all w n) d.left
                ∙ sym (all_by_more (world words now) n k (sym d.answered) h)
                ∙ u.due;
            untold = d.told ∙ ap (after_events moved now.policy) (counted (world words now) n).told ∙ u.untold;
            lender = d.lender ∙ u.lender;
          },
          omega (arith, both.0, both.1),
        )

    -- one word or none was left, so that this drain was the last
    ends : (a : Answer) → words_left (world words now) n ≤ 1 →
        Did words home moved now after a (drain (world words now) n) →
        Did words home moved start after a (drain_all (world words start) n)
    ends a h d =
        let e = sym (all_by_one (world words now) n h) ∙ u.due in record {
          answered = d.answered ∙ ap (λ (o : Outcome). o.answer) e;
          left = d.left ∙ ap (λ (o : Outcome). o.after) e;
          told =
              d.told
              ∙ ap (λ (p : P). after_events moved p (drain (world words now) n).told) u.untold
              ∙ ap (λ (o : Outcome). after_events moved start.policy o.told) e;
          lender = d.lender ∙ u.lender;
        }

    pub ends_empty : (k : ℕ) → k ≡ 0 → Did words home moved now after (Left k) (drain (world words now) n) →
        Did words home moved start after (Left 0) (drain_all (world words start) n)
    ends_empty k e d =
        let d0 = subst (λ (j : ℕ). Did words home moved now after (Left j) (drain (world words now) n)) e d in
        ends (Left 0) ((counted (world words now) n).last (sym d0.answered)) d0

    pub ends_refused : (r : Refusal) → Did words home moved now after (Refused r) (drain (world words now) n) →
        Did words home moved start after (Refused r) (drain_all (world words start) n)
    ends_refused r d =
        let none = (counted (world words now) n).refused r (sym d.answered) in
        ends (Refused r) (omega (arith, none)) d
