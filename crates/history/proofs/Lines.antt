-- A thread's latest transaction after a line.
use Rattle.std.proofs.Common.{◌≡◌, ℕ, Bool, length, Some, None, Option, refl, ap, ◌∙◌}
use Rattle.common.specs.declared.loss.Loss.{Loss}
use Rattle.history.specs.Record.{History, Line, Transaction, Fall, caller, deed, acted, watched, fallen, first_fall, or_else, told_loss, leads, after_line}
use Rattle.layout.specs.declared.set_up.SetUp.{SetUp}
use Rattle.std.proofs.lemmas.Bool.{eq-eqb, ne_eqb}

-- whether the thread leads at the start of the line's call
abbrev pub leads_at : SetUp → Line → ℕ → Bool
leads_at u l n = leads l.table n u.threads

-- the transaction of a thread that does not make the call
pub present_other : (u : SetUp) (h : History) (l : Line) (n : ℕ) → (n ≡ caller l.call → ⊥) →
    (after_line u h l).present n ≡ fallen (length h.updaters) (watched (leads_at u l n) (h.present n)) (l.losses n)
present_other u h l n d = rw (ne_eqb n (caller l.call) d) refl

-- the transaction of the thread that makes the call
pub present_caller : (u : SetUp) (h : History) (l : Line) (n : ℕ) → n ≡ caller l.call →
    (after_line u h l).present n
    ≡ fallen (length h.updaters)
    (acted l.call (length h.updaters) (watched (leads_at u l n) (h.present n)) (deed l.call l.answer))
    (or_else (told_loss l.answer) (l.losses n))
present_caller u h l n e = rw (eq-eqb n (caller l.call) e) refl

-- which has acted, if no loss is told or kept
pub present_unlost : (u : SetUp) (h : History) (l : Line) → told_loss l.answer ≡ None → l.losses (caller l.call) ≡ None →
    (after_line u h l).present (caller l.call)
    ≡ acted l.call (length h.updaters) (watched (leads_at u l (caller l.call)) (h.present (caller l.call)))
    (deed l.call l.answer)
present_unlost u h l told kept =
    present_caller u h l (caller l.call) refl
    ∙ ap (λ (o : Option Loss). fallen (length h.updaters)
    (acted l.call (length h.updaters) (watched (leads_at u l (caller l.call)) (h.present (caller l.call)))
    (deed l.call l.answer)) o)
    (ap (λ (o : Option Loss). or_else o (l.losses (caller l.call))) told ∙ kept)

-- a loss that is on record already changes nothing
pub fallen_before : (m : ℕ) (t : Transaction) (o : Option Loss) (f : Fall) → t.fall ≡ Some f → fallen m t o ≡ t
fallen_before m t None f e = refl
fallen_before m t (Some l) f e = rw e refl

-- a fall changes nothing of the work
pub fallen_work : (m : ℕ) (t : Transaction) (o : Option Loss) → (fallen m t o).work ≡ t.work
fallen_work m t None = refl
fallen_work m t (Some l) = go t.fall
  where
    go : (f : Option Fall) → (first_fall l m t f).work ≡ t.work
    go (Some f) = refl
    go None = refl

-- the work of a transaction whose thread does not make the call is as it was
pub work_other : (u : SetUp) (h : History) (l : Line) (n : ℕ) → (n ≡ caller l.call → ⊥) →
    ((after_line u h l).present n).work ≡ (h.present n).work
work_other u h l n d =
    ap (λ (y : Transaction). y.work) (present_other u h l n d)
    ∙ fallen_work (length h.updaters) (watched (leads_at u l n) (h.present n)) (l.losses n)
