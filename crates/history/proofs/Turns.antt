-- A list of calls underway: what was answered, and what is left of it.
use Rattle.std.proofs.Common.{◌≡◌, ℕ, ◌+◌, ◌<◌, ◌≤◌, List, [], ◌∷◌, ◌++◌, map, length, get_or, take, drop, set, sym, ap, ◌∙◌, append_assoc, append-nil, arith, drop-set-lt}
use Rattle.contention.specs.Events.{Event, after_events}
use Rattle.history.specs.Record.{Line}
use Rattle.history.specs.Runs.{line_of}
use Rattle.history.specs.Turns.{Run, begun_by, run_from, turn_of, calls_of}
use Rattle.history.specs.declared.turn.Turn.{Turn}
use Rattle.rules.specs.Calls.{perform}
use Rattle.rules.specs.Outcomes.{Table}
use Rattle.rules.specs.States.{World}
use Rattle.std.proofs.lemmas.List.{drop_more, drop_all, take_all, take_more_set}

module _ {P : Type 0} (table : P → Table) (moved : P → Event → P) where
  -- the first i of these turns are answered as the whole run answers them, and the others are left to make from here
  pub record Underway (first : List Turn) (whole : Run P) (now : List Turn) (i : ℕ) (w : World) (p : P) : Type 0 where
    pub shown : map turn_of whole.lines ≡ take i now ++ map turn_of (run_from table moved w p (calls_of (drop i first))).lines
    pub rest : drop i now ≡ drop i first
    pub world : whole.world ≡ (run_from table moved w p (calls_of (drop i first))).world
    pub policy : whole.policy ≡ (run_from table moved w p (calls_of (drop i first))).policy

  module _ (first : List Turn) (whole : Run P) (now : List Turn) (i : ℕ) (w w' : World) (p p' : P) (d x y : Turn) where
    -- one more turn: it is answered by the rules, and the rest is made from what it leaves
    pub underway_more :
        i < length now →
        length now ≡ length first →
        x ≡ get_or now i d →
        y ≡ turn_of (line_of (table p) x.call (perform (table p) w x.call)) →
        w' ≡ (perform (table p) w x.call).after →
        p' ≡ after_events moved p (perform (table p) w x.call).told →
        Underway first whole now i w p → Underway first whole (set now i y) (i + 1) w' p'
    underway_more h long at answered left told u = record {
      shown = u.shown ∙ ap (λ r. take i now ++ map turn_of r.lines) goes_on ∙ regrouped;
      rest = drop-set-lt (i + 1) now i y (omega arith) ∙ behind;
      world = u.world ∙ ap (λ r. r.world) goes_on;
      policy = u.policy ∙ ap (λ r. r.policy) goes_on;
    }
      where
        next : Line
        next = line_of (table p) x.call (perform (table p) w x.call)

        here : get_or now i d ∷ drop (i + 1) now ≡ get_or first i d ∷ drop (i + 1) first
        here = sym (drop_more now i d h) ∙ u.rest ∙ drop_more first i d (omega arith)

        behind : drop (i + 1) now ≡ drop (i + 1) first
        behind = let e = here in cc

        same : get_or first i d ≡ x
        same = let e = here in cc

        opened : drop i first ≡ x ∷ drop (i + 1) first
        opened = drop_more first i d (omega arith) ∙ ap (λ z. z ∷ drop (i + 1) first) same

        goes_on : run_from table moved w p (calls_of (drop i first))
            ≡ begun_by next (run_from table moved w' p' (calls_of (drop (i + 1) first)))
        goes_on =
            ap (λ ts. run_from table moved w p (calls_of ts)) opened ∙
            ap (λ v. begun_by next
            (run_from table moved v (after_events moved p (perform (table p) w x.call).told) (calls_of (drop (i + 1) first))))
            (sym left) ∙
            ap (λ q. begun_by next (run_from table moved w' q (calls_of (drop (i + 1) first)))) (sym told)

        regrouped : take i now ++ (turn_of next ∷ map turn_of (run_from table moved w' p' (calls_of (drop (i + 1) first))).lines) ≡
            take (i + 1) (set now i y) ++ map turn_of (run_from table moved w' p' (calls_of (drop (i + 1) first))).lines
        regrouped =
            ap (λ t. take i now ++ (t ∷ map turn_of (run_from table moved w' p' (calls_of (drop (i + 1) first))).lines)) (sym answered) ∙
            sym (append_assoc (take i now) (y ∷ []) (map turn_of (run_from table moved w' p' (calls_of (drop (i + 1) first))).lines)) ∙
            ap (λ ts. ts ++ map turn_of (run_from table moved w' p' (calls_of (drop (i + 1) first))).lines) (sym (take_more_set now i y h))

  -- all turns are made
  pub underway_all : (first : List Turn) (whole : Run P) (now : List Turn) (i : ℕ) (w : World) (p : P) →
      length first ≤ i → length now ≡ length first → Underway first whole now i w p →
      (now ≡ map turn_of whole.lines) × (w ≡ whole.world) × (p ≡ whole.policy)
  underway_all first whole now i w p h long u =
      let none : drop i first ≡ [] = drop_all i first h in
      let over : run_from table moved w p (calls_of (drop i first)) ≡ record { lines = []; world = w; policy = p } =
      ap (λ ts. run_from table moved w p (calls_of ts)) none in (
        sym (u.shown ∙ ap (λ r. take i now ++ map turn_of r.lines) over ∙ append-nil (take i now) ∙ take_all i now (omega arith)),
        sym (u.world ∙ ap (λ r. r.world) over),
        sym (u.policy ∙ ap (λ r. r.policy) over),
      )
