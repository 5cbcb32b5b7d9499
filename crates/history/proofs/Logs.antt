-- Write logs: they have what the transaction's stores kept, each address once.
use Rattle.std.proofs.Common.{◌≡◌, ℕ, Bool, true, false, cond, eqb, ◌⊎◌, List, [], ◌∷◌, ◌++◌, is_some, Some, Option, sym, refl, ap, ◌∙◌, inl, inr}
use Rattle.history.proofs.Invariant.{OwnsLog}
use Rattle.history.proofs.KeyedEntries.{Once, finds_pushed, finds_replaced, found_has, never_has, once_pushed, once_replaced}
use Rattle.history.proofs.PutIn.{address_of, has_address}
use Rattle.history.specs.Serial.{Use, use_of, reads, writes, drains, no_use, keep, kept, log_entry, log_use, write_log}
use Rattle.layout.specs.Lookups.{first_with, has_key, replaced}
use Rattle.layout.specs.SetUps.{stripe_of}
use Rattle.layout.specs.declared.entries.WriteEntry.{WriteEntry}
use Rattle.layout.specs.declared.set_up.SetUp.{SetUp}
use Rattle.rules.specs.declared.call.Call.{Call}
use Rattle.std.proofs.lemmas.Bool.{both_ways, eq-eqb, eqb-true, or_cases, or_left, or_right}

-- a logged entry is found at its address, and the others as before
finds_logged : (a : ℕ) (e : WriteEntry) (es : List WriteEntry) →
    first_with address_of a (log_entry e es) ≡ cond (eqb e.address a) (Some e) (first_with address_of a es)
finds_logged a e es = go (has_address e.address es) refl
  where
    go : (b : Bool) → has_address e.address es ≡ b →
        first_with address_of a (cond b (replaced address_of e es) (es ++ e ∷ []))
        ≡ cond (eqb e.address a) (Some e) (first_with address_of a es)
    go true h = finds_replaced address_of a e es h
    go false h = finds_pushed address_of a e es h

-- what the write log finds for an address is the latest kept word
pub log_finds_kept : (cs : List Call) (a : ℕ) → first_with address_of a (write_log cs) ≡ first_with address_of a (kept cs)
log_finds_kept [] a = refl
log_finds_kept (c ∷ cs) a = go (use_of c) (log_finds_kept cs a)
  where
    go : (x : Use) → first_with address_of a (write_log cs) ≡ first_with address_of a (kept cs) →
        first_with address_of a (log_use x (write_log cs)) ≡ first_with address_of a (keep x (kept cs))
    go (reads b) e = e
    go (writes y) e =
        finds_logged a y (write_log cs) ∙ ap (λ (o : Option WriteEntry). cond (eqb y.address a) (Some y) o) e
    go drains e = e
    go no_use e = e

-- the write log has the addresses of the kept words
log_has_kept : (cs : List Call) (a : ℕ) → has_address a (write_log cs) ≡ has_address a (kept cs)
log_has_kept cs a =
    sym (found_has address_of a (write_log cs))
    ∙ ap (λ (o : Option WriteEntry). is_some o) (log_finds_kept cs a)
    ∙ found_has address_of a (kept cs)

-- a write log has each address once
pub log_once : (cs : List Call) → Once address_of (write_log cs)
log_once [] = tt
log_once (c ∷ cs) = go (use_of c) (log_once cs)
  where
    logged : (e : WriteEntry) (b : Bool) → has_address e.address (write_log cs) ≡ b → Once address_of (write_log cs) →
        Once address_of (cond b (replaced address_of e (write_log cs)) (write_log cs ++ e ∷ []))
    logged e true h o = once_replaced address_of e (write_log cs) o
    logged e false h o = once_pushed address_of e (write_log cs) h o

    go : (x : Use) → Once address_of (write_log cs) → Once address_of (log_use x (write_log cs))
    go (reads a) o = o
    go (writes e) o = logged e (has_address e.address (write_log cs)) refl o
    go drains o = o
    go no_use o = o

-- a stripe in which there are entries has an address of one
entry_in_stripe : (u : SetUp) (s : ℕ) (es : List WriteEntry) → has_key (λ e. stripe_of u e.address) s es ≡ true →
    (a : ℕ) × (has_address a es ≡ true) × (stripe_of u a ≡ s)
entry_in_stripe u s [] h = absurd (both_ways false refl h)
entry_in_stripe u s (e ∷ es) h =
    go (or_cases (eqb (stripe_of u e.address) s) (has_key (λ x. stripe_of u x.address) s es) h) (λ x. entry_in_stripe u s es x)
  where
    go : (eqb (stripe_of u e.address) s ≡ true) ⊎ (has_key (λ x. stripe_of u x.address) s es ≡ true) →
        (has_key (λ x. stripe_of u x.address) s es ≡ true → (a : ℕ) × (has_address a es ≡ true) × (stripe_of u a ≡ s)) →
        (a : ℕ) × (has_address a (e ∷ es) ≡ true) × (stripe_of u a ≡ s)
    go (inl p) later = (
      e.address,
      or_left (eqb e.address e.address) (has_address e.address es) (eq-eqb e.address e.address refl),
      eqb-true (stripe_of u e.address) s p,
    )
    go (inr p) later =
        let r = later p in
        (r.0, or_right (eqb e.address r.0) (has_address r.0 es) r.1, r.2)

-- a stripe in which a transaction stored has an address of its write log
pub stored_logged : (u : SetUp) (s : ℕ) (cs : List Call) → has_key (λ e. stripe_of u e.address) s (kept cs) ≡ true →
    (a : ℕ) × (has_address a (write_log cs) ≡ true) × (stripe_of u a ≡ s)
stored_logged u s cs h =
    let r = entry_in_stripe u s (kept cs) h in
    (r.0, log_has_kept cs r.0 ∙ r.1, r.2)

-- a write log whose stripes are a thread's own has no address of another stripe
pub misses_unowned : (u : SetUp) (owner : ℕ → ℕ) (n : ℕ) (es : List WriteEntry) (a : ℕ) → OwnsLog u owner n es →
    (owner (stripe_of u a) ≡ n → ⊥) → has_address a es ≡ false
misses_unowned u owner n es a owns d = never_has address_of a es (λ e. d (owns a e))

-- nor did its transaction store in one
pub unowned_unstored : (u : SetUp) (owner : ℕ → ℕ) (n s : ℕ) (cs : List Call) → OwnsLog u owner n (write_log cs) →
    (owner s ≡ n → ⊥) → has_key (λ e. stripe_of u e.address) s (kept cs) ≡ false
unowned_unstored u owner n s cs owns d = never_has (λ (e : WriteEntry). stripe_of u e.address) s (kept cs) never
  where
    never : has_key (λ (e : WriteEntry). stripe_of u e.address) s (kept cs) ≡ true → ⊥
    never e = let x = stored_logged u s cs e in d (ap owner (sym x.2) ∙ owns x.0 x.1)
