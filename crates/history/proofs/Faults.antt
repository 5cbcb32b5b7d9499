-- Why each faulty record breaks the law, and why the record with no fault keeps it.
use Rattle.std.proofs.Common.{◌≡◌, ℕ, zero, suc, ◌<◌, ◌≤◌, Bool, true, false, not, ◌&&◌, ◌||◌, eqb, List, refl, arith, lit<}
use Rattle.history.specs.Faults.{Lawful, Unlawful, first_words, one_ahead, both_made_two, half_drained, lost_update, torn_read, unchecked_loads, leader_beaten, leader_invalid, leader_stolen_from, given_up_word}
use Rattle.history.specs.Law.{LoadsAt, Point, Spared, updater}
use Rattle.history.specs.Record.{History, Line, Work, history, leads}
use Rattle.history.specs.Serial.{loaded_on}
use Rattle.layout.specs.declared.set_up.SetUp.{SetUp}

abbrev run : List Line → SetUp → History
run ls u = history u first_words ls

-- the second word is to be 2, and is 1
pub half_drained_is_unlawful : Unlawful half_drained
half_drained_is_unlawful u l = let e = l.updaters_serialize.words in cc

-- after thread 1, the second updater loads 2, and was answered 1
pub lost_update_is_unlawful : Unlawful lost_update
lost_update_is_unlawful u l = let e = l.updaters_serialize.loads 1 (lit< tt) in cc

-- at neither moment thread 2 loads what it was answered
torn_at_each : (u : SetUp) (m : ℕ) → m ≤ 1 →
    LoadsAt first_words (run torn_read u).updaters m ((run torn_read u).present 2).work → ⊥
torn_at_each u zero h e = cc
torn_at_each u (suc zero) h e = cc
torn_at_each u (suc (suc m)) h e = omega arith

pub torn_read_is_unlawful : Unlawful torn_read
torn_read_is_unlawful u l =
    let p = l.points_exist.latest 2 in torn_at_each u p.moment p.by_last_load p.loads

unchecked_at_each : (u : SetUp) (m : ℕ) → m ≤ 1 →
    LoadsAt first_words (run unchecked_loads u).updaters m ((run unchecked_loads u).present 2).work → ⊥
unchecked_at_each u zero h e = cc
unchecked_at_each u (suc zero) h e = cc
unchecked_at_each u (suc (suc m)) h e = omega arith

pub unchecked_loads_is_unlawful : Unlawful unchecked_loads
unchecked_loads_is_unlawful u l =
    let p = l.points_exist.latest 2 in unchecked_at_each u p.moment p.by_last_load p.loads

one_or_another : (b : Bool) → (b || (true && not b)) ≡ true
one_or_another true = refl
one_or_another false = refl

-- thread 1 leads, however many threads there are
one_leads : (m : ℕ) → leads one_ahead 1 m ≡ true
one_leads zero = refl
one_leads (suc m) = rw (one_or_another (eqb (suc m) 1), one_leads m) refl

pub leader_beaten_is_unlawful : Unlawful leader_beaten
leader_beaten_is_unlawful u l = l.leaders_are_spared.latest 1 (rw (one_leads u.threads) refl)

-- no updater is numbered below 0
pub leader_invalid_is_unlawful : Unlawful leader_invalid
leader_invalid_is_unlawful u l =
    let excuse = l.leaders_are_spared.latest 1 (rw (one_leads u.threads) refl) in omega (arith, excuse.2)

pub leader_stolen_from_is_unlawful : Unlawful leader_stolen_from
leader_stolen_from_is_unlawful u l = l.leaders_are_spared.latest 1 (rw (one_leads u.threads) refl)

-- the first word is to be 2, and is 3
pub given_up_word_is_unlawful : Unlawful given_up_word
given_up_word_is_unlawful u l = let e = l.updaters_serialize.words in cc

-- a work that loads what it was answered at the first moment has its point there, if it began then
at_first : (us : List Work) (w : Work) → w.begun ≡ 0 → loaded_on first_words w.calls ≡ w.loaded →
    Point first_words us w
at_first us w b e =
    record { moment = 0; since_begin = omega arith; by_last_load = omega arith; so_far = omega arith; loads = e }

one_updater_loads : (u : SetUp) (k : ℕ) → k < 1 →
    LoadsAt first_words (run both_made_two u).updaters k (updater (run both_made_two u).updaters k)
one_updater_loads u zero h = refl
one_updater_loads u (suc k) h = absurd (omega arith)

-- of thread 1, and of the others, none of which has begun
points : (u : SetUp) (n : ℕ) (b : Bool) → eqb n 1 ≡ b →
    Point first_words (run both_made_two u).updaters ((run both_made_two u).present n).work
points u n true e = rw e (at_first _ _ refl refl)
points u n false e = rw e (at_first _ _ refl refl)

spared : (u : SetUp) (n : ℕ) (b : Bool) → eqb n 1 ≡ b →
    Spared u (run both_made_two u).updaters ((run both_made_two u).present n).work ((run both_made_two u).present n).fall
spared u n true e = rw e tt
spared u n false e = rw e tt

pub both_made_two_is_lawful : Lawful both_made_two
both_made_two_is_lawful u = record {
  updaters_serialize = record { loads = one_updater_loads u; words = refl };
  points_exist = record { latest = λ n. points u n (eqb n 1) refl; earlier = (at_first _ _ refl refl, tt) };
  leaders_are_spared = record { latest = λ n. spared u n (eqb n 1) refl; earlier = (tt, tt) };
}
