-- Updaters that grow: what was said of the earlier ones stays true.
use Rattle.std.proofs.Common.{◌≡◌, ℕ, ◌<◌, ◌≤◌, true, false, ◌⊎◌, List, [], length, Some, None, Option, sym, refl, ap, ◌∙◌, subst, inl, inr, arith}
use Rattle.common.specs.declared.loss.Loss.{Loss}
use Rattle.common.specs.declared.loss.Loss.TheVariants.{Beaten, Invalid, ClockSpent, Stolen}
use Rattle.history.proofs.Invariant.{Overtaken, stores_in}
use Rattle.history.specs.Law.{updater, words_at, LoadsAt, Point, StoredByOther, Excused, Spared}
use Rattle.history.specs.Record.{Work, Fall, Transaction, no_work}
use Rattle.history.specs.Serial.{kept, loaded_on}
use Rattle.layout.specs.Lookups.{has_key}
use Rattle.layout.specs.SetUps.{stripe_of}
use Rattle.layout.specs.declared.entries.WriteEntry.{WriteEntry}
use Rattle.layout.specs.declared.set_up.SetUp.{SetUp}
use Rattle.std.proofs.ByRecursion.{All-weaker}
use Rattle.std.proofs.lemmas.List.{get_or_past}
use Rattle.std.proofs.lemmas.Bool.{cases_lt, both_ways}
use Rattle.std.specs.List.{AllByRecursion}

-- the second list has the updaters of the first, with their threads and stores, at the same moments
pub record Grows (ws : List ℕ) (us vs : List Work) : Type 0 where
  pub longer : length us ≤ length vs
  pub threads : (k : ℕ) → k < length us → (updater vs k).thread ≡ (updater us k).thread
  pub stores : (k : ℕ) → k < length us → kept (updater vs k).calls ≡ kept (updater us k).calls
  pub words : (m : ℕ) → m ≤ length us → words_at ws vs m ≡ words_at ws us m

-- the same list
pub grows_none : (ws : List ℕ) (us : List Work) → Grows ws us us
grows_none ws us = record { longer = omega arith; threads = λ k l. refl; stores = λ k l. refl; words = λ m l. refl }

-- an updater that stored something is one of the list
stored_below : (u : SetUp) (us : List Work) (n s k : ℕ) → StoredByOther u us n s k → k < length us
stored_below u us n s k x = go (cases_lt k (length us))
  where
    go : (k < length us) ⊎ (length us ≤ k) → k < length us
    go (inl l) = l
    go (inr l) =
        let none : updater us k ≡ no_work 0 0 = get_or_past us k (no_work 0 0) l in
        let key : has_key (λ (e : WriteEntry). stripe_of u e.address) s [] ≡ true =
        subst (λ (w : Work). has_key (λ e. stripe_of u e.address) s (kept w.calls) ≡ true) none x.stored in
        absurd (both_ways false refl key)

module _ {ws : List ℕ} {us vs : List Work} (g : Grows ws us vs) where
  -- a moment of the first list is one of the second, with the same words
  pub loads_grow : (m : ℕ) (w : Work) → m ≤ length us → LoadsAt ws us m w → LoadsAt ws vs m w
  loads_grow m w l e = ap (λ xs. loaded_on xs w.calls) (g.words m l) ∙ e

  -- so a transaction has its point still
  pub point_grows : (w : Work) → Point ws us w → Point ws vs w
  point_grows w p = record {
    moment = p.moment;
    since_begin = p.since_begin;
    by_last_load = p.by_last_load;
    so_far = omega (arith, g.longer, p.so_far);
    loads = loads_grow p.moment w p.so_far p.loads;
  }

  -- an updater of the first list stored in the same stripes
  pub stores_same : (u : SetUp) (s k : ℕ) → k < length us → stores_in u s (updater vs k) ≡ stores_in u s (updater us k)
  stores_same u s k l = ap (has_key (λ e. stripe_of u e.address) s) (g.stores k l)

  -- an updater that stored in a stripe did so still
  stored_grows : (u : SetUp) (n s k : ℕ) → k < length us → StoredByOther u us n s k → StoredByOther u vs n s k
  stored_grows u n s k l x = record {
    other = λ e. x.other (sym (g.threads k l) ∙ e);
    stored = stores_same u s k l ∙ x.stored;
  }

  -- a stripe that was overtaken is so still
  pub overtaken_grows : (u : SetUp) (n m s : ℕ) → Overtaken u us n m s → Overtaken u vs n m s
  overtaken_grows u n m s x =
      (x.0, x.1, omega (arith, g.longer, x.2), stored_grows u n s x.0 x.2 x.3)

  -- a loss that was excused is so still
  excused_grows : (u : SetUp) (w : Work) (m : ℕ) (l : Loss) → Excused u us w m l → Excused u vs w m l
  excused_grows u w m (Beaten h) x = x
  excused_grows u w m (Invalid s) x =
      (x.0, x.1, x.2, stored_grows u w.thread s x.0 (stored_below u us w.thread s x.0 x.3) x.3)
  excused_grows u w m ClockSpent x = x
  excused_grows u w m (Stolen h) x = x

  -- a leader that was spared is so still
  pub spared_grows : (u : SetUp) (w : Work) (f : Option Fall) → Spared u us w f → Spared u vs w f
  spared_grows u w None x = x
  spared_grows u w (Some f) x = λ e. excused_grows u w f.moment f.cause (x e)

  -- the same of every transaction of a list: its point
  pub points_grow : (ts : List Transaction) → AllByRecursion (λ t. Point ws us t.work) ts → AllByRecursion (λ t. Point ws vs t.work) ts
  points_grow ts x = All-weaker (λ t. Point ws us t.work) (λ t. Point ws vs t.work) (λ t p. point_grows t.work p) ts x

  -- and that a leader was spared
  pub all_spared_grow : (u : SetUp) (ts : List Transaction) →
      AllByRecursion (λ t. Spared u us t.work t.fall) ts → AllByRecursion (λ t. Spared u vs t.work t.fall) ts
  all_spared_grow u ts x =
      All-weaker (λ t. Spared u us t.work t.fall) (λ t. Spared u vs t.work t.fall)
      (λ t p. spared_grows u t.work t.fall p) ts x

-- a transaction with the begin, the last load and the loads of another has its point
pub point_alike : {ws : List ℕ} {us : List Work} (w v : Work) → v.begun ≡ w.begun → v.loaded_at ≡ w.loaded_at →
    ((m : ℕ) → LoadsAt ws us m w → LoadsAt ws us m v) → Point ws us w → Point ws us v
point_alike w v b l loads p = record {
  moment = p.moment;
  since_begin = omega (arith, b, p.since_begin);
  by_last_load = omega (arith, l, p.by_last_load);
  so_far = p.so_far;
  loads = loads p.moment p.loads;
}
