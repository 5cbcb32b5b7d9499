-- A verdict says what the grammar says.
use Rattle.std.proofs.Common.{◌≡◌, ℕ, suc, ◌+◌, Bool, true, false, cond, List, [], ◌∷◌, ◌++◌, length, take, drop, Some, None, Ok, Err, Option, Result, sym, refl, ap, ◌∙◌, subst, add-one, arith, take-append-drop}
use Rattle.std.proofs.lemmas.Bool.{false≢true}
use Rattle.text.proofs.Accepted.{form_ends}
use Rattle.text.proofs.Completions.{form_from_end}
use Rattle.text.proofs.Roads.{after, after_append, after_none, Ends, Road, road}
use Rattle.text.specs.Grammar.{Form, Begins, Whole, Fault, astray, short, Judged}
use Rattle.text.specs.Lines.{Line}
use Rattle.text.specs.Verdicts.{is_over, reached, text_verdict}
use Rattle.text.specs.declared.place.Depth.TheVariants.{Outer, Inner}
use Rattle.text.specs.declared.place.Place.{Place}
use Rattle.text.specs.declared.place.Place.TheVariants.{Start, Opened, InName, InNumber, Complete, Spaced, Done}
use Rattle.text.specs.declared.text_fault.TextFault.{TextFault}

-- from each place a form can be completed
way_out : (p : Place) → (bs : List ℕ) × Ends (Some p) bs
way_out Start = (40 ∷ 97 ∷ 41 ∷ [], refl)
way_out (Opened Outer) = (97 ∷ 41 ∷ [], refl)
way_out (Opened Inner) = (97 ∷ 41 ∷ 41 ∷ [], refl)
way_out (InName Outer) = (41 ∷ [], refl)
way_out (InName Inner) = (41 ∷ 41 ∷ [], refl)
way_out (InNumber Outer) = (41 ∷ [], refl)
way_out (InNumber Inner) = (41 ∷ 41 ∷ [], refl)
way_out (Complete Outer) = (41 ∷ [], refl)
way_out (Complete Inner) = (41 ∷ 41 ∷ [], refl)
way_out (Spaced Outer) = (48 ∷ 41 ∷ [], refl)
way_out (Spaced Inner) = (48 ∷ 41 ∷ 41 ∷ [], refl)
way_out Done = ([], refl)

-- bytes that lead somewhere begin a form
begins : (bs : List ℕ) (p : Place) → after (Some Start) bs ≡ Some p → Begins bs
begins bs p h =
    let out = way_out p in (
      out.0,
      form_from_end (bs ++ out.0)
          (after_append (Some Start) bs out.0 ∙ ap (λ (o : Option Place). after o out.0) h ∙ out.1),
    )

-- bytes that lead nowhere begin none
begins_none : (bs : List ℕ) → after (Some Start) bs ≡ None → Begins bs → ⊥
begins_none bs h f =
    let lost : after (Some Start) (bs ++ f.0) ≡ None =
    after_append (Some Start) bs f.0 ∙ ap (λ (o : Option Place). after o f.0) h ∙ after_none f.0 in
    let found = form_ends (bs ++ f.0) f.1 in
    cc

-- a form begins a form at each of its bytes
begun : (k : ℕ) (bs : List ℕ) → Form bs → Begins (take k bs)
begun k bs f = (drop k bs, subst Form (sym (take-append-drop k bs)) f)

-- only at the end is a form done
over_done : (p : Place) (e : Bool) → is_over p e ≡ true → (p ≡ Done) × (e ≡ true)
over_done Done e h = (refl, h)
over_done Start e h = absurd (false≢true h)
over_done (Opened d) e h = absurd (false≢true h)
over_done (InName d) e h = absurd (false≢true h)
over_done (InNumber d) e h = absurd (false≢true h)
over_done (Complete d) e h = absurd (false≢true h)
over_done (Spaced d) e h = absurd (false≢true h)

module _ (l : Line) where
  -- a byte leads nowhere
  strayed : (f : TextFault) → Road Start 1 l.bytes (Err f) → Judged l (Err f)
  strayed f r =
      let never = begins_none (take (suc r.0) l.bytes) r.4 in
      let fault : Fault l (r.0 + 1) =
      astray r.0 r.2 (begins _ r.3.0 r.3.1) (rw add-one never) in
      record {
        accepted = ((λ e. absurd (false≢true e)), λ w. absurd (never (begun (suc r.0) l.bytes w.0)));
        refused = λ g e. let same : f.column ≡ g.column = cc in subst (Fault l) (omega (arith, r.1)) fault;
      }

  -- all bytes lead somewhere
  led : (p : Place) (t : Bool) → after (Some Start) l.bytes ≡ Some p → is_over p l.ended ≡ t →
      Judged l (cond t (Ok tt) (Err (record { column = length l.bytes + 1 })))
  led p true h e =
      let over = over_done p l.ended e in
      record {
        accepted = ((λ _. (form_from_end l.bytes (h ∙ ap (λ (q : Place). Some q) over.0), over.1)), λ _. refl);
        refused = λ f ok. absurd (cc);
      }
  led p false h e =
      let lacks : Whole l → ⊥ =
      λ w.
      let end = form_ends l.bytes w.0 in
      let same : p ≡ Done = cc in
      false≢true (sym e ∙ ap (λ (q : Place). is_over q l.ended) same ∙ w.1) in
      record {
        accepted = ((λ no_Ok. absurd (false≢true no_Ok)), λ w. absurd (lacks w));
        refused = λ f err.
            let same : length l.bytes + 1 ≡ f.column = cc in
            subst (Fault l) same (short (begins l.bytes p h) lacks);
      }

  pub judged : Judged l (text_verdict l)
  judged = go (reached Start 1 l.bytes) (road Start 1 l.bytes)
    where
      go : (r : Result Place TextFault) → Road Start 1 l.bytes r → Judged l (elim r [
        | Err f ↦ Err f
        | Ok p ↦ cond (is_over p l.ended) (Ok tt) (Err (record { column = length l.bytes + 1 }))
      ])
      go (Err f) r = strayed f r
      go (Ok p) r = led p (is_over p l.ended) r refl
