-- A walk over all stripes that moves each in its place.
use Rattle.std.proofs.Common.{◌≡◌, ℕ, ◌+◌, ◌<◌, ◌≤◌, List, ◌++◌, map, length, get_or, take, drop, set, sym, ap, ◌∙◌, append-nil, arith, length-set}
use Rattle.memory.proofs.Tables.{move_stripes}
use Rattle.memory.specs.Views.{stripe_view, stripe_table}
use Rattle.memory.specs.declared.stripes.Stripe.{Stripe as StripeCell}
use Rattle.rules.specs.Maps.{each}
use Rattle.rules.specs.NewEngine.{new_stripe}
use Rattle.rules.specs.States.{Stripe}
use Rattle.std.proofs.lemmas.List.Edits.{map_over_more}
use Rattle.std.proofs.lemmas.List.{length-map, map-set, get_or-map, take_all, drop_all}

-- the stripes that the walk has passed are moved, the others are as they were
pub record Swept (f : Stripe → Stripe) (first all : List StripeCell) (i : ℕ) : Type 0 where
  pub places : length all ≡ 64
  pub moved : map stripe_view all ≡ map f (take i (map stripe_view first)) ++ drop i (map stripe_view first)

module _ (f : Stripe → Stripe) (first all : List StripeCell) (i : ℕ) (count : length first ≡ 64) where
  pub swept_more : (x y : StripeCell) →
      i < 64 →
      stripe_view y ≡ f (stripe_view (get_or all i x)) → Swept f first all i → Swept f first (set all i y) (i + 1)
  swept_more x y h e s =
      let here : i < length all = omega (arith, s.places) in
      let there : i < length (map stripe_view first) = simp length-map (omega arith) in
      record {
        places = simp length-set s.places;
        moved =
            map-set stripe_view all i y ∙
            ap (set (map stripe_view all) i) e ∙
            map_over_more f (map stripe_view first) (map stripe_view all) i (stripe_view (get_or all i x)) there s.moved
            (sym (get_or-map stripe_view all i x (stripe_view (get_or all i x)) here));
      }

  pub swept_all : 64 ≤ i → f new_stripe ≡ new_stripe → Swept f first all i → stripe_table all ≡ each f (stripe_table first)
  swept_all h none s =
      let past : length (map stripe_view first) ≤ i = simp length-map (omega arith) in
      move_stripes f first all none
      (s.moved ∙ rw (take_all i (map stripe_view first) past, drop_all i (map stripe_view first) past) (append-nil _))
