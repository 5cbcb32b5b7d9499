-- From the invariant to the law.
use Rattle.std.proofs.Common.{◌≡◌, ℕ, ◌<◌, true, ◌⊎◌, List, [], length, get_or, drop, Some, None, Option, sym, refl, ap, ◌∙◌, inl, inr, arith}
use Rattle.history.proofs.Holders.{free_not_draining, sealed_or_free}
use Rattle.history.proofs.Invariant.{Draining, Fits, SealedFits, Spent, front, hold_in, hold_of, left_in, left_of}
use Rattle.history.proofs.KeyedEntries.{has_dropped, never_has}
use Rattle.history.proofs.Phases.{sealed_fits}
use Rattle.history.proofs.Plan.{FitsHolds}
use Rattle.history.proofs.PutIn.{address_of, has_address, none_undrained, one_undrained, put_in_length}
use Rattle.history.proofs.SerialRuns.{serial_length}
use Rattle.history.specs.Law.{updater}
use Rattle.history.specs.Record.{History}
use Rattle.history.specs.Serial.{all_not_drained, drain_count, not_drained, put_in, serial_run}
use Rattle.layout.specs.SetUps.{stripe_of}
use Rattle.layout.specs.declared.entries.WriteEntry.{WriteEntry}
use Rattle.rules.specs.Conflicts.{owner_of}
use Rattle.rules.specs.States.{World, thread_of}
use Rattle.rules.specs.declared.phase.Phase.{Phase}
use Rattle.rules.specs.declared.phase.Phase.TheVariants.{Sealed}
use Rattle.std.proofs.lemmas.List.{ext_get_or}
use Rattle.std.proofs.lemmas.Bool.{both_ways}

-- one transaction has one number
one_number : (o : Option ℕ) (k p : ℕ) → o ≡ Some k → o ≡ Some p → k ≡ p
one_number o k p e i = cc

module _ (ws : List ℕ) (base : ℕ) (w : World) (h : History) (f : Fits ws base w h) where
  -- what a sealed thread has left to drain is what its updater has not drained
  left_undrained : (n k d : ℕ) (e : (thread_of w.engine n).phase ≡ Sealed k d) →
      drop d (thread_of w.engine n).writes ≡ not_drained (updater h.updaters (sealed_fits (f.seats n) k d e).place)
  left_undrained n k d e =
      let x = sealed_fits (f.seats n) k d e in
      ap (λ (i : ℕ). drop i (thread_of w.engine n).writes) x.drains
      ∙ ap (λ (es : List WriteEntry). drop (drain_count (h.present n).work.calls) es) x.log
      ∙ ap not_drained (sym x.same)

  -- the owner of the stripe of an address
  abbrev owner_at : ℕ → ℕ
  owner_at a = owner_of w.engine (stripe_of w.engine.set_up a)

  -- an updater that has to drain to an address is the owner's of its stripe
  drains_own : (a k : ℕ) → k < length h.updaters → has_address a (not_drained (updater h.updaters k)) ≡ true →
      (x : Draining w.engine h k) × (owner_at a ≡ x.thread)
  drains_own a k l e = go (f.spent k l)
    where
      owned : (x : Draining w.engine h k) → owner_at a ≡ x.thread
      owned x =
          let s = sealed_fits (f.seats x.thread) x.ticket x.drained x.sealed in
          let p : k ≡ s.place = one_number (h.present x.thread).work.number k s.place x.numbered s.numbered in
          s.owns_log a (has_dropped address_of a x.drained (thread_of w.engine x.thread).writes
          (ap (has_address a) (left_undrained x.thread x.ticket x.drained x.sealed
          ∙ ap (λ (i : ℕ). not_drained (updater h.updaters i)) (sym p)) ∙ e))

      go : Spent w.engine h k → (x : Draining w.engine h k) × (owner_at a ≡ x.thread)
      go (inl n) = absurd (both_ways (has_address a []) refl (ap (has_address a) (sym n) ∙ e))
      go (inr x) = (x, owned x)

  -- at this address the undrained entries of all updaters come to those of the stripe's holder
  abbrev HolderDrains : ℕ → Type 0
  HolderDrains a =
      get_or (put_in w.words (all_not_drained h.updaters)) a 0
      ≡ get_or (put_in w.words (left_in (front w.engine (stripe_of w.engine.set_up a)))) a 0

  -- at an address of a stripe that a sealed thread holds, its undrained entries alone count
  held_word : (a k d : ℕ) → a < length w.words → (thread_of w.engine (owner_at a)).phase ≡ Sealed k d → HolderDrains a
  held_word a k d l e =
      one_undrained w.words h.updaters x.place a l
      (λ i m n. never_has address_of a (not_drained (updater h.updaters i)) (λ t. n (same_place i (drains_own a i m t)))) x.so_far
      ∙ ap (λ (es : List WriteEntry). get_or (put_in w.words es) a 0)
      (sym (ap (λ (p : Phase). left_of (hold_in (thread_of w.engine (owner_at a)).writes p)) e ∙ left_undrained (owner_at a) k d e))
    where
      x : SealedFits w.engine.set_up h.updaters base (owner_of w.engine) (owner_at a) k d (thread_of w.engine (owner_at a))
          (h.present (owner_at a)).work (h.present (owner_at a)).fall
      x = sealed_fits (f.seats (owner_at a)) k d e

      same_place : (i : ℕ) → (y : Draining w.engine h i) × (owner_at a ≡ y.thread) → i ≡ x.place
      same_place i y =
          one_number (h.present (owner_at a)).work.number i x.place
          (ap (λ (n : ℕ). (h.present n).work.number) y.1 ∙ y.0.numbered) x.numbered

  -- at an address of any other stripe nothing is left to drain
  free_word : (a : ℕ) → hold_of (thread_of w.engine (owner_at a)) ≡ None → HolderDrains a
  free_word a free =
      none_undrained w.words h.updaters a
      (λ i m. never_has address_of a (not_drained (updater h.updaters i)) (λ t. nowhere i (drains_own a i m t)))
      ∙ ap (λ o. get_or (put_in w.words (left_of o)) a 0) (sym free)
    where
      nowhere : (i : ℕ) → (y : Draining w.engine h i) × (owner_at a ≡ y.thread) → ⊥
      nowhere i y = free_not_draining y.0 free (sym y.1)

  -- so it is at each address
  undrained_word : (a : ℕ) → a < length w.words → HolderDrains a
  undrained_word a l = go (sealed_or_free (thread_of w.engine (owner_at a)))
    where
      go : ((k : ℕ) × (d : ℕ) × ((thread_of w.engine (owner_at a)).phase ≡ Sealed k d))
          ⊎ (hold_of (thread_of w.engine (owner_at a)) ≡ None) → HolderDrains a
      go (inl x) = held_word a x.0 x.1 l x.2
      go (inr free) = free_word a free

  -- the stored words with all undrained ones put in are the serial run's
  undrained_words : put_in w.words (all_not_drained h.updaters) ≡ serial_run ws h.updaters
  undrained_words =
      ext_get_or 0 (put_in w.words (all_not_drained h.updaters)) (serial_run ws h.updaters)
      (put ∙ f.sized ∙ sym (serial_length ws h.updaters))
      (λ a l. let i : a < length w.words = omega (arith, put) in undrained_word a i ∙ sym (f.words a i))
    where
      put : length (put_in w.words (all_not_drained h.updaters)) ≡ length w.words
      put = put_in_length w.words (all_not_drained h.updaters)

-- what fits a history keeps the law
pub fits_holds : FitsHolds
fits_holds ws base w h f = record {
  updaters_serialize = record {
    loads = f.loads;
    words = ap (λ (now : List ℕ). put_in now (all_not_drained h.updaters)) f.stored ∙ undrained_words ws base w h f;
  };
  points_exist = record { latest = λ n. (f.seats n).point; earlier = f.past_points };
  leaders_are_spared = record { latest = λ n. (f.seats n).spared; earlier = f.past_spared };
}
