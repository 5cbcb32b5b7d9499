-- The engine's arrays as the tables of the rules: reading and writing one place, and moving all.
use Rattle.std.proofs.Common.{◌≡◌, ℕ, zero, suc, ◌<◌, ◌≤◌, false, cond, eqb, ◌⊎◌, List, ◌∷◌, map, length, get_or, set, replicate, Option, unwrap_or, sym, refl, ap, ◌∙◌, inl, inr, arith, get_or-set_other, get_or-set_same}
use lib.ListN
use Rattle.memory.specs.Views.{listed, stripe_table, stripe_view, thread_table, thread_view}
use Rattle.memory.specs.declared.stripes.Stripe.{Stripe as StripeCell}
use Rattle.memory.specs.declared.threads.Thread.{Thread as ThreadCell}
use Rattle.rules.specs.Drain.{freed}
use Rattle.rules.specs.Maps.{at, put, each, everywhere}
use Rattle.rules.specs.NewEngine.{new_stripe, new_thread}
use Rattle.rules.specs.States.{Stripe}
use Rattle.std.proofs.lemmas.List.{get_or-map, map-set, length-map}
use Rattle.std.proofs.lemmas.Bool.{eq-eqb, ne_eqb, cases_eq}

-- reading a listed table
pub at_listed : {A : Type 0} (d : A) (xs : List A) (n : ℕ) → at (listed d xs) n ≡ get_or xs n d
unfolding at listed
at_listed d xs n = refl

put_at : {A : Type 0} (d : A) (xs : List A) (n : ℕ) (x : A) →
    n < length xs →
    (k : ℕ) → (k ≡ n) ⊎ (k ≡ n → ⊥) → get_or (set xs n x) k d ≡ cond (eqb k n) x (get_or xs k d)
put_at d xs n x h k (inl e) = rw (e, eq-eqb n n refl) (get_or-set_same xs n x d h)
put_at d xs n x h k (inr ne) = rw (ne_eqb k n ne) (get_or-set_other xs n k x d ne)

-- writing one place of a listed table
put_listed : {A : Type 0} (d : A) (xs : List A) (n : ℕ) (x : A) →
    n < length xs → listed d (set xs n x) ≡ put (listed d xs) n x
unfolding put listed
put_listed d xs n x h = λ i. record { fun = λ k. put_at d xs n x h k (cases_eq k n) i }

pub at_stripes : (xs : List StripeCell) (i : ℕ) (d : StripeCell) →
    i < length xs → at (stripe_table xs) i ≡ stripe_view (get_or xs i d)
unfolding stripe_table
at_stripes xs i d h = at_listed new_stripe (map stripe_view xs) i ∙ get_or-map stripe_view xs i d new_stripe h

pub put_stripes : (xs : List StripeCell) (i : ℕ) (x : StripeCell) →
    i < length xs → stripe_table (set xs i x) ≡ put (stripe_table xs) i (stripe_view x)
unfolding stripe_table
put_stripes xs i x h =
    ap (listed new_stripe) (map-set stripe_view xs i x) ∙
    put_listed new_stripe (map stripe_view xs) i (stripe_view x) (simp length-map h)

-- thread n stands at place i, one below its number
pub at_threads : (ts : List ThreadCell) (i n : ℕ) (d : ThreadCell) →
    n ≡ suc i → i < length ts → at (thread_table ts) n ≡ thread_view (get_or ts i d)
unfolding thread_table
at_threads ts i n d e h =
    ap (at (thread_table ts)) e ∙
    at_listed new_thread (new_thread ∷ map thread_view ts) (suc i) ∙
    get_or-map thread_view ts i d new_thread h

pub put_threads : (ts : List ThreadCell) (i n : ℕ) (t : ThreadCell) →
    n ≡ suc i → i < length ts → thread_table (set ts i t) ≡ put (thread_table ts) n (thread_view t)
unfolding thread_table
put_threads ts i n t e h =
    rw (e, map-set thread_view ts i t)
    (put_listed new_thread (new_thread ∷ map thread_view ts) (suc i) (thread_view t) (simp length-map (omega arith)))

getD_each : {A : Type 0} (f : A → A) (d : A) → f d ≡ d → (xs : List A) (k : ℕ) → get_or (map f xs) k d ≡ f (get_or xs k d)
getD_each f d e xs k = ap (get_or (map f xs) k) (sym e) ∙ ListN.get_or-map f xs k d

-- moving every place of a listed table, where what stands behind its end stays
each_listed : {A : Type 0} (f : A → A) (d : A) → f d ≡ d → (xs : List A) → listed d (map f xs) ≡ each f (listed d xs)
unfolding each listed
each_listed f d e xs = λ i. record { fun = λ k. getD_each f d e xs k i }

-- all stripes moved in their places, where a stripe that is not there stays
pub move_stripes : (f : Stripe → Stripe) (xs ys : List StripeCell) →
    f new_stripe ≡ new_stripe →
    map stripe_view ys ≡ map f (map stripe_view xs) → stripe_table ys ≡ each f (stripe_table xs)
unfolding stripe_table
move_stripes f xs ys none same = ap (listed new_stripe) same ∙ each_listed f new_stripe none (map stripe_view xs)

-- a stripe without owner is no stripe of a thread
pub freed_none : (n : ℕ) (v : Option ℕ) → 1 ≤ n → freed n v new_stripe ≡ new_stripe
freed_none n v some =
    let apart : eqb 0 n ≡ false = ne_eqb 0 n (λ e. omega arith) in
    ap (λ b. cond b (record { version = unwrap_or v 0; owner = 0 }) new_stripe) apart

map_replicate : {A B : Type 0} (f : A → B) (k : ℕ) (x : A) → map f (replicate k x) ≡ replicate k (f x)
map_replicate f zero x = refl
map_replicate f (suc k) x = ap (λ xs. f x ∷ xs) (map_replicate f k x)

flat : {A : Type 0} (d : A) (k n : ℕ) → get_or (replicate k d) n d ≡ d
flat d zero n = refl
flat d (suc k) zero = refl
flat d (suc k) (suc n) = flat d k n

-- a table that lists one value over and over has it everywhere
listed_flat : {A : Type 0} (d : A) (k : ℕ) → listed d (replicate k d) ≡ everywhere d
unfolding listed everywhere
listed_flat d k = λ i. record { fun = λ n. flat d k n i }

pub new_stripes : (k : ℕ) (x : StripeCell) → stripe_view x ≡ new_stripe → stripe_table (replicate k x) ≡ everywhere new_stripe
unfolding stripe_table
new_stripes k x e =
    ap (listed new_stripe) (map_replicate stripe_view k x ∙ ap (replicate k) e) ∙ listed_flat new_stripe k

pub new_threads : (k : ℕ) (t : ThreadCell) → thread_view t ≡ new_thread → thread_table (replicate k t) ≡ everywhere new_thread
unfolding thread_table
new_threads k t e =
    ap (λ ts. listed new_thread (new_thread ∷ ts)) (map_replicate thread_view k t ∙ ap (replicate k) e) ∙
    listed_flat new_thread (suc k)
