-- The threads up to a number, as the engine's array has them.
use Rattle.std.proofs.Common.{◌≡◌, ℕ, zero, suc, ◌≤◌, Bool, ◌&&◌, List, ◌∷◌, map, length, get_or, take, sym, refl, ap, ◌∙◌, arith, add-one}
use Rattle.memory.proofs.Tables.{at_listed}
use Rattle.memory.specs.Views.{engine_view, thread_table, thread_view, listed}
use Rattle.memory.specs.declared.engine.Engine.{Engine}
use Rattle.memory.specs.declared.threads.Thread.{Thread as ThreadCell}
use Rattle.rules.specs.Admission.{is_idle}
use Rattle.rules.specs.Maps.{at}
use Rattle.rules.specs.NewEngine.{new_thread}
use Rattle.rules.specs.Roll.{idle_to}
use Rattle.rules.specs.States.{State, Thread, thread_of}
use Rattle.std.proofs.Math.Bool.{and_comm}
use Rattle.std.proofs.lemmas.List.{length-map, take-map}
use Rattle.std.proofs.lemmas.List.Folds.{list_all-map, list_all_more}
use Rattle.std.specs.List.{list_all}

-- whether the thread has no transaction
abbrev is_free : Thread → Bool
is_free t = is_idle t.phase

-- the first threads of a list are idle as the rules say it of a table, from the highest number down
idle_up_to : (st : State) (ts : List Thread) (n : ℕ) →
    st.threads ≡ listed new_thread (new_thread ∷ ts) → n ≤ length ts → list_all is_free (take n ts) ≡ idle_to st n
idle_up_to st ts zero e h = refl
idle_up_to st ts (suc n) e h =
    let top : thread_of st (suc n) ≡ get_or ts n new_thread =
    ap (λ m. at m (suc n)) e ∙ at_listed new_thread (new_thread ∷ ts) (suc n) in
    let more : list_all is_free (take (suc n) ts) ≡ (list_all is_free (take n ts) && is_free (get_or ts n new_thread)) =
    rw add-one at (list_all_more is_free ts n new_thread (omega arith)) in
    more ∙ and_comm (list_all is_free (take n ts)) (is_free (get_or ts n new_thread)) ∙
    rw (idle_up_to st ts n e (omega arith), top) refl

-- whether a thread of the array is idle
abbrev pub is_idle_cell : ThreadCell → Bool
is_idle_cell t = is_idle t.phase

pub idle_threads : (e : Engine) (n : ℕ) →
    n ≤ length e.threads.all → list_all is_idle_cell (take n e.threads.all) ≡ idle_to (engine_view e) n
unfolding thread_table
idle_threads e n h =
    sym (list_all-map is_free thread_view (take n e.threads.all)) ∙
    ap (list_all is_free) (sym (take-map thread_view n e.threads.all)) ∙
    idle_up_to (engine_view e) (map thread_view e.threads.all) n refl (simp length-map h)
